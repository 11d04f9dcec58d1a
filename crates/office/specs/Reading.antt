-- What is read of an input, and how much of it. Assumes nothing: these are definitions.
--
--   ReadsMore ..            one read of at most `room` bytes put some behind the old ones; or the reader is at its end
--   ReadsUpTo ..            reading went on until there were `limit` bytes, or to the reader's end
--   CountsRest ..           a reader was read to its end, and n is how many bytes came, of which so many before
--   unread bs               what is left unread of an hour's bytes: what stands behind the head where the head is refused by its
--                           limits, else nothing
--   HourSaid bs r front     what came of the bytes bs: all of them, or why they are refused
--   CameOf ..               what came of the bytes bs, and what is left of them
--   HourCame ..             the same of an hour, where the bytes of the reader are known
use Rattle.std.specs.Prelude.{◌≡◌, ℕ, ◌+◌, ◌-◌, ◌<◌, ◌≤◌, Bool, IsTrue, cond, List, [], ◌++◌, length, take, drop, Some, None, Option, IfSome, is_some}
use Rattle.std.specs.Io.KnownBytes.{Consumes, IsAtEnd}
use Rattle.hour.specs.Bytes.{limits_fault, refusal_of}
use Rattle.hour.specs.declared.refusals.Refusal.{Refusal}
use Rattle.office.specs.declared.reading.Came.{Came}

pub record ReadsMore (known left : Option (List ℕ)) (room : ℕ) (ended : Bool) (old new : List ℕ) : Type 0 where
  pub more : List ℕ
  pub put : new ≡ old ++ more
  pub taken : Consumes known left more
  pub within : length more ≤ room
  pub at_end : IsTrue ended → IsAtEnd left

pub record ReadsUpTo (known left : Option (List ℕ)) (limit : ℕ) (old new : List ℕ) : Type 0 where
  pub more : List ℕ
  pub put : new ≡ old ++ more
  pub taken : Consumes known left more
  pub within : length more ≤ limit - length old
  pub whole : length new < limit → IsAtEnd left

pub record CountsRest (known left : Option (List ℕ)) (before n : ℕ) : Type 0 where
  pub rest : List ℕ
  pub taken : Consumes known left rest
  pub count : n ≡ before + length rest
  pub at_end : IsAtEnd left

abbrev pub unread : List ℕ → List ℕ
unread bs = cond (is_some (limits_fault (take 7 bs))) (drop 7 bs) []

abbrev pub HourSaid : List ℕ → Option Refusal → List ℕ → Type 0
HourSaid bs None front = front ≡ bs
HourSaid bs (Some refusal) front = refusal_of bs ≡ Some refusal

-- the first seven bytes are kept in any case
pub record CameOf (bs : List ℕ) (left : Option (List ℕ)) (front : List ℕ) (refusal : Option Refusal) : Type 0 where
  pub left_is : left ≡ Some (unread bs)
  pub head : take 7 front ≡ take 7 bs
  pub said : HourSaid bs refusal front

abbrev pub HourCame : Option (List ℕ) → Option (List ℕ) → Came → Type 0
HourCame known left came = IfSome known (λ bs. CameOf bs left came.bytes.items came.refusal)
