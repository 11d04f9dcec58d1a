-- What came of an hour, from what was read of it. Assumes nothing.
use Rattle.std.proofs.Common.{◌≡◌, ℕ, ◌<◌, ◌≤◌, cond, is_some, List, [], ◌++◌, length, take, drop, Some, None, Option, IfSome, refl, sym, ap, ◌∙◌, subst, ⊎_elim, append_assoc, append-nil, arith}
use Rattle.std.proofs.lemmas.List.{length-append, length-take-le, take-append-drop, take_all, drop_all}
use Rattle.std.proofs.Math.Seq.{take-append_seam, drop-append_seam}
use Rattle.std.proofs.lemmas.Bool.{cases_lt}
use Rattle.std.proofs.KnownBytes.{Consumes-trans}
use Rattle.std.specs.Io.KnownBytes.{Consumes, IsAtEnd}
use Rattle.hour.proofs.Fronts.{front_tells}
use Rattle.hour.specs.Bytes.{limits_fault, refusal_of}
use Rattle.hour.specs.First.{◌else◌}
use Rattle.hour.specs.Rules.{longest_hour}
use Rattle.hour.specs.declared.refusals.Refusal.{Refusal}
use Rattle.hour.specs.declared.refusals.Refusal.TheVariants.{Length}
use Rattle.office.specs.Reading.{ReadsUpTo, CountsRest, CameOf, unread}

-- what was read of an empty vector on is all that it holds
pub consumed : (known left : Option (List ℕ)) (limit : ℕ) (front : List ℕ) → ReadsUpTo known left limit [] front → Consumes known left front
consumed known left limit front read = subst (Consumes known left) (sym read.put) read.taken

refused_whole : (bs : List ℕ) (r : Refusal) → limits_fault bs ≡ Some r → refusal_of bs ≡ Some r
refused_whole bs r fault = else_whole _ _ r (else_whole _ _ r fault)
  where
    else_whole : (o p : Option Refusal) (r : Refusal) → o ≡ Some r → (o else p) ≡ Some r
    else_whole o p r some = ap (λ (q : Option Refusal). q else p) some

-- where the head is refused, what stands behind it is left
unread_refused : (bs : List ℕ) (r : Refusal) → limits_fault (take 7 bs) ≡ Some r → unread bs ≡ drop 7 bs
unread_refused bs r fault = ap (λ (o : Option Refusal). cond (is_some o) (drop 7 bs) []) fault

unread_sound : (bs : List ℕ) → limits_fault (take 7 bs) ≡ None → unread bs ≡ []
unread_sound bs none = ap (λ (o : Option Refusal). cond (is_some o) (drop 7 bs) []) none

-- a head of seven bytes, with what stands behind it
take_head : (head rest : List ℕ) → length head ≡ 7 → take 7 (head ++ rest) ≡ head
take_head head rest long = subst (λ (n : ℕ). take n (head ++ rest) ≡ head) long (take-append_seam head rest)

drop_head : (head rest : List ℕ) → length head ≡ 7 → drop 7 (head ++ rest) ≡ rest
drop_head head rest long = subst (λ (n : ℕ). drop n (head ++ rest) ≡ rest) long (drop-append_seam head rest)

-- the head is refused, and nothing more was read
pub came_refused :
    (known left : Option (List ℕ)) (front : List ℕ) (r : Refusal) → ReadsUpTo known left 7 [] front →
    limits_fault front ≡ Some r → IfSome known (λ bs. CameOf bs left front (Some r))
came_refused None left front r read fault = tt
came_refused (Some bs) None front r read fault = absurd (consumed (Some bs) None 7 front read)
came_refused (Some bs) (Some rest) front r read fault =
    let all : bs ≡ front ++ rest = consumed (Some bs) (Some rest) 7 front read in
    let few : length front ≤ 7 = omega (arith, ap length read.put, read.within) in
    subst (λ (xs : List ℕ). CameOf xs (Some rest) front (Some r)) (sym all)
    (⊎_elim (short few) (full few) (cases_lt (length front) 7))
  where
    -- fewer bytes than a head came, so nothing is left
    short : length front ≤ 7 → length front < 7 → CameOf (front ++ rest) (Some rest) front (Some r)
    short few less =
        let end : rest ≡ [] = read.whole less in
        let same : front ++ rest ≡ front = ap (λ (xs : List ℕ). front ++ xs) end ∙ append-nil front in
        let head : take 7 front ≡ front = take_all 7 front few in
        subst (λ (xs : List ℕ). CameOf xs (Some rest) front (Some r)) (sym same)
        record {
          left_is = ap Some (end ∙ sym (unread_refused front r (ap limits_fault head ∙ fault) ∙ drop_all 7 front few));
          head = refl;
          said = refused_whole front r fault;
        }

    full : length front ≤ 7 → 7 ≤ length front → CameOf (front ++ rest) (Some rest) front (Some r)
    full few enough =
        let seven : length front ≡ 7 = omega arith in
        let head : take 7 (front ++ rest) ≡ front = take_head front rest seven in
        record {
          left_is = ap Some (sym (unread_refused (front ++ rest) r (ap limits_fault head ∙ fault) ∙ drop_head front rest seven));
          head = take_all 7 front few ∙ sym head;
          said = (front_tells front rest enough).0 r fault;
        }

-- a head that was read, and what was read behind it
pub both_reads :
    (known mid left : Option (List ℕ)) (limit limit' : ℕ) (head front : List ℕ) → ReadsUpTo known mid limit [] head →
    ReadsUpTo mid left limit' head front → Consumes known left front
both_reads known mid left limit limit' head front first second =
    subst (Consumes known left) (sym second.put)
    (Consumes-trans known mid left head second.more (consumed known mid limit head first) second.taken)

pub head_long :
    (known left : Option (List ℕ)) (head : List ℕ) → ReadsUpTo known left 7 [] head → 7 ≤ length head → length head ≡ 7
head_long known left head read enough = omega (arith, ap length read.put, read.within)

pub head_kept :
    (mid left : Option (List ℕ)) (limit : ℕ) (head front : List ℕ) → ReadsUpTo mid left limit head front → length head ≡ 7 →
    take 7 front ≡ head
head_kept mid left limit head front second seven = ap (take 7) second.put ∙ take_head head second.more seven

-- the limits are kept, and all has come
pub came_whole :
    (known left : Option (List ℕ)) (front : List ℕ) → Consumes known left front → IsAtEnd left →
    limits_fault (take 7 front) ≡ None → IfSome known (λ bs. CameOf bs left front None)
came_whole None left front taken end none = tt
came_whole (Some bs) None front taken end none = absurd taken
came_whole (Some bs) (Some rest) front taken end none =
    let all : bs ≡ front = taken ∙ ap (λ (xs : List ℕ). front ++ xs) end ∙ append-nil front in
    subst (λ (xs : List ℕ). CameOf xs (Some rest) front None) (sym all)
    record { left_is = ap Some (end ∙ sym (unread_sound front none)); head = refl; said = refl }

-- the limits are kept, and more came than the longest hour has
pub came_long :
    (known mid left : Option (List ℕ)) (front : List ℕ) (came : ℕ) → Consumes known mid front →
    CountsRest mid left (length front) came → 7 ≤ length front → longest_hour < length front →
    limits_fault (take 7 front) ≡ None → IfSome known (λ bs. CameOf bs left front (Some (Length came)))
came_long None mid left front came taken counted long longer none = tt
came_long (Some bs) None left front came taken counted long longer none = absurd taken
came_long (Some bs) (Some rest) None front came taken counted long longer none = absurd counted.taken
came_long (Some bs) (Some rest) (Some end) front came taken counted long longer none =
    let head = take 7 front in
    let behind = drop 7 front ++ rest in
    let seven : length head ≡ 7 = length-take-le 7 front long in
    let whole : front ++ rest ≡ head ++ behind =
    ap (λ (xs : List ℕ). xs ++ rest) (sym (take-append-drop 7 front)) ∙ append_assoc head (drop 7 front) rest
    in
    let same : take 7 (front ++ rest) ≡ head = ap (take 7) whole ∙ take_head head behind seven in
    let P = λ (xs : List ℕ). refusal_of xs ≡ Some (Length (length xs)) in
    let refused : P (front ++ rest) =
    subst P (sym whole)
    ((front_tells head behind (omega arith)).1 none
    (omega (arith, ap length whole, length-append front rest, longer)))
    in
    let all : rest ≡ counted.rest = counted.taken ∙ ap (λ (xs : List ℕ). counted.rest ++ xs) counted.at_end ∙ append-nil counted.rest in
    let number : length (front ++ rest) ≡ came = omega (arith, length-append front rest, ap length all, counted.count) in
    subst (λ (xs : List ℕ). CameOf xs (Some end) front (Some (Length came))) (sym taken)
    record {
      left_is = ap Some (counted.at_end ∙ sym (unread_sound (front ++ rest) (ap limits_fault same ∙ none)));
      head = sym same;
      said = refused ∙ ap (λ (n : ℕ). Some (Length n)) number;
    }
