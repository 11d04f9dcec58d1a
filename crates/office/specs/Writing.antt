-- What is written. Assumes nothing: these are definitions.
--
--   taken r                    whether an answer says that a text was taken whole
--   TakesSome old new r text   a write took a front of the text as long as it answers, and else nothing
--   Wrote old new text whole   what a writer holds grew by a front of the text, and by all of it where `whole` says so
use Rattle.std.specs.Prelude.{◌≡◌, ℕ, Bool, IsTrue, false, List, take, Option, Some, None, Result, Ok, Err}
use Rattle.std.specs.Io.{StartsWith}
use Rattle.std.specs.Io.KnownBytes.{Appends, Keeps}

abbrev pub taken : {E : Type 0} → Result Bool E → Bool
taken (Ok whole) = whole
taken (Err error) = false

abbrev pub TakesSome : {E : Type 0} → Option (List ℕ) → Option (List ℕ) → Result (Option ℕ) E → List ℕ → Type 0
TakesSome old new (Ok (Some n)) text = Appends old new (take n text)
TakesSome old new (Ok None) text = Keeps old new
TakesSome old new (Err error) text = Keeps old new

pub record Wrote (old new : Option (List ℕ)) (text : List ℕ) (whole : Bool) : Type 0 where
  pub front : List ℕ
  pub put : Appends old new front
  pub of_text : StartsWith text front
  pub all : IsTrue whole → front ≡ text
