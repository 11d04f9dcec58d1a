-- What is said of a text of which a front came. Assumes nothing.
use Rattle.std.proofs.Common.{◌≡◌, ℕ, ◌+◌, ◌<◌, ◌≤◌, List, [], ◌++◌, length, take, drop, Some, None, Option, IfSome, sym, ap, ap₂, ◌∙◌, subst, ⊎_elim, append-nil, arith}
use Rattle.std.proofs.lemmas.Bool.{cases_lt}
use Rattle.std.proofs.lemmas.List.{length-take, take-append-drop, take_all, drop_all}
use Rattle.std.proofs.Math.Seq.{take-append_seam, drop-append_seam}
use Rattle.checker.proofs.Cut.{front_reported}
use Rattle.checker.specs.Form.{longest_text}
use Rattle.checker.specs.Telling.{Reports}
use Rattle.checker.specs.declared.reports.Report.{Report}
use Rattle.hour.specs.declared.refusals.Refusal.{Refusal}
use Rattle.office.proofs.HourCame.{consumed}
use Rattle.office.specs.Checking.{TextLeft, check_hint, CheckOf}
use Rattle.office.specs.Reading.{ReadsUpTo, CameOf, HourSaid}
use Rattle.office.specs.declared.hints.Hint.{Hint}

-- what reading up to a limit takes, and what it leaves
split_at :
    (ts front rest : List ℕ) (limit : ℕ) → ts ≡ front ++ rest → length front ≤ limit → (length front < limit → rest ≡ []) →
    (front ≡ take limit ts) × (rest ≡ drop limit ts)
split_at ts front rest limit all within whole =
    subst (λ (xs : List ℕ). (front ≡ take limit xs) × (rest ≡ drop limit xs)) (sym all)
    (⊎_elim
    (λ (short : length front < limit).
    let same : front ++ rest ≡ front = ap (λ (xs : List ℕ). front ++ xs) (whole short) ∙ append-nil front in
    subst (λ (xs : List ℕ). (front ≡ take limit xs) × (rest ≡ drop limit xs)) (sym same)
    (sym (take_all limit front within), whole short ∙ sym (drop_all limit front within)))
    (λ (full : limit ≤ length front).
    let long : length front ≡ limit = omega arith in
    subst (λ (n : ℕ). (front ≡ take n (front ++ rest)) × (rest ≡ drop n (front ++ rest))) long
    (sym (take-append_seam front rest), sym (drop-append_seam front rest)))
    (cases_lt (length front) limit))

pub text_came :
    (known left : Option (List ℕ)) (front : List ℕ) → ReadsUpTo known left (longest_text + 1) [] front →
    IfSome known (λ ts. TextLeft ts left front)
text_came None left front read = tt
text_came (Some ts) None front read = absurd (consumed (Some ts) None (longest_text + 1) front read)
text_came (Some ts) (Some rest) front read =
    let parts = split_at ts front rest (longest_text + 1) (consumed (Some ts) (Some rest) (longest_text + 1) front read)
    (omega (arith, ap length read.put, read.within)) read.whole in
    record { front_is = parts.0; left_is = ap Some parts.1 }

-- what is reported of the front is reported of the whole
whole_reported :
    (bs ts : List ℕ) (r : Report) → Reports bs (take (longest_text + 1) ts) r → Reports bs ts r
whole_reported bs ts r reported =
    let front = take (longest_text + 1) ts in
    let rest = drop (longest_text + 1) ts in
    ⊎_elim
    (λ (long : longest_text < length front).
    subst (λ (xs : List ℕ). Reports bs xs r) (take-append-drop (longest_text + 1) ts)
    ((front_reported bs front rest r long).1 reported))
    (λ (short : length front ≤ longest_text).
    let few : length ts ≤ longest_text + 1 = omega (arith, length-take (longest_text + 1) ts) in
    subst (λ (xs : List ℕ). Reports bs xs r) (take_all (longest_text + 1) ts few) reported)
    (cases_lt longest_text (length front))

-- what is reported of all bytes of an hour
pub whole_hour :
    (refusal : Option Refusal) (bytes text : List ℕ) (r : Report) → refusal ≡ None → Reports bytes text r →
    (bs : List ℕ) → HourSaid bs refusal bytes → Reports bs text r
whole_hour refusal bytes text r none reported bs said =
    let same : bytes ≡ bs = subst (λ (o : Option Refusal). HourSaid bs o bytes) none said in
    subst (λ (xs : List ℕ). Reports xs text r) same reported

pub checked_of :
    (hour hour_left text text_left : Option (List ℕ)) (bytes front : List ℕ) (refusal : Option Refusal) (report : Report)
    (hint : Option Hint) → IfSome hour (λ bs. CameOf bs hour_left bytes refusal) →
    IfSome text (λ ts. TextLeft ts text_left front) → ((bs : List ℕ) → HourSaid bs refusal bytes → Reports bs front report) →
    hint ≡ check_hint report (take 7 bytes) front →
    IfSome hour (λ bs. IfSome text (λ ts. CheckOf bs ts hour_left text_left report hint))
checked_of None hour_left text text_left bytes front refusal report hint came read reported looks = tt
checked_of (Some bs) hour_left None text_left bytes front refusal report hint came read reported looks = tt
checked_of (Some bs) hour_left (Some ts) text_left bytes front refusal report hint came read reported looks =
    record {
      reported =
          whole_reported bs ts report
          (subst (λ (xs : List ℕ). Reports bs xs report) read.front_is (reported bs came.said));
      hint_is = looks ∙ ap₂ (check_hint report) came.head read.front_is;
      hour_left_is = came.left_is;
      text_left_is = read.left_is;
    }
