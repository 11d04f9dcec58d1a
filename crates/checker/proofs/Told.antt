-- What is said of a text, and that it is the only thing said. Assumes nothing.
use Rattle.std.proofs.Common.{◌≡◌, ℕ, ◌<◌, false, List, is_some, Some, None, Ok, Err, Option, Result, sym, refl, ap, ◌∙◌, inl, inr, arith}
use Rattle.std.proofs.lemmas.Bool.{cases_lt}
use Rattle.hour.proofs.Kept.{plain_said}
use Rattle.hour.specs.Bytes.{market_of, refusal_of}
use Rattle.hour.specs.Market.{Market, Outcome, Proper, Plain, Feasible}
use Rattle.hour.specs.declared.refusals.Refusal.{Refusal}
use Rattle.network.specs.Prices.{Lowest}
use Rattle.checker.specs.declared.reports.Report.{Report}
use Rattle.checker.specs.declared.reports.Wrong.{Wrong}
use Rattle.checker.specs.declared.verdict.Broken.{Broken}
use Rattle.checker.specs.declared.reports.Report.TheVariants as reports
use Rattle.checker.specs.Acceptance.{broken_of}
use Rattle.checker.specs.Marks.{unmarked, Marks}
use Rattle.checker.specs.Follows.{counts_in, outcome_said, wrong_in}
use Rattle.checker.specs.Form.{Saying, text_at}
use Rattle.checker.specs.Holding.{FirstLower}
use Rattle.checker.specs.Promises.{OneReport}
use Rattle.checker.specs.Telling.{LowerSaid, AcceptedWith, JudgedAs, ReadAs, ReportedAs}
use Rattle.checker.proofs.Answered.{first_lower, lowest}
use Rattle.checker.proofs.Breaches.{feasible_from_none, settled_from_none}
use Rattle.checker.proofs.Rules.{proper_seen}

-- marks say whether the prices of a result that breaks no rule are the lowest
module _
    (m : Market) (o : Outcome) (ps old new : List ℕ) (proper : Proper m) (plain : Plain m)
    (none : broken_of m o ps ≡ None) (marks : Marks m o ps old new)
  where
    lower_said : (lower : Option ℕ) → lower ≡ unmarked m new → LowerSaid m o ps lower
    lower_said None is =
        lowest m o ps old new proper plain (feasible_from_none m o ps none) (settled_from_none m o ps none) marks (sym is)
    lower_said (Some z) is =
        first_lower m o ps old new proper plain (feasible_from_none m o ps none) (settled_from_none m o ps none) marks z (sym is)

    accepted_lower : (lower : Option ℕ) → lower ≡ unmarked m new → AcceptedWith m o ps (reports.Accepted lower)
    accepted_lower lower is = record { lower = lower; report = refl; said = lower_said lower is }

pub accepted_with :
    (bs : List ℕ) (o : Outcome) (ps old new : List ℕ) → is_some (refusal_of bs) ≡ false →
    broken_of (market_of bs) o ps ≡ None → Marks (market_of bs) o ps old new → (lower : Option ℕ) →
    lower ≡ unmarked (market_of bs) new → AcceptedWith (market_of bs) o ps (reports.Accepted lower)
accepted_with bs o ps old new free none marks =
    accepted_lower (market_of bs) o ps old new (proper_seen bs free) (plain_said bs) none marks

-- Idea: of a text only one case of a report is asked for, and of two zones only one is the first that could be lower.
module _ (m : Market) (o : Outcome) (ps : List ℕ) (f : Feasible m o) where
  none_earlier : (z w : ℕ) → FirstLower m o ps z → FirstLower m o ps w → w < z → ⊥
  none_earlier z w first other earlier =
      let could = other.could in
      omega (arith, first.before w earlier o could.prices f could.settled, could.lower)

  one_zone : (z w : ℕ) → FirstLower m o ps z → FirstLower m o ps w → z ≡ w
  one_zone z w first other =
      elim (cases_lt z w) [
        | inl earlier ↦ absurd (none_earlier w z other first earlier)
        | inr rest ↦
            elim (cases_lt w z) [
              | inl earlier ↦ absurd (none_earlier z w first other earlier)
              | inr more ↦ omega arith
            ]
      ]

  not_lowest : (z : ℕ) → FirstLower m o ps z → Lowest m ps → ⊥
  not_lowest z first low =
      let could = first.could in
      omega (arith, low.below o could.prices f could.settled z first.among, could.lower)

  one_lower : (a b : Option ℕ) → LowerSaid m o ps a → LowerSaid m o ps b → a ≡ b
  one_lower None None low same = refl
  one_lower None (Some z) low first = absurd (not_lowest z first low)
  one_lower (Some z) None first low = absurd (not_lowest z first low)
  one_lower (Some z) (Some w) first other = ap Some (one_zone z w first other)

  one_accepted : (r s : Report) → AcceptedWith m o ps r → AcceptedWith m o ps s → r ≡ s
  one_accepted r s a b =
      a.report ∙ (ap reports.Accepted (one_lower a.lower b.lower a.said b.said) ∙ sym b.report)

one_judged :
    (m : Market) (o : Outcome) (ps : List ℕ) (broken : Option Broken) → broken_of m o ps ≡ broken →
    (wrong : Option Wrong) (r s : Report) → JudgedAs m o ps broken wrong r → JudgedAs m o ps broken wrong s → r ≡ s
one_judged m o ps (Some b) is wrong r s a c = a ∙ sym c
one_judged m o ps None none (Some w) r s a c = a ∙ sym c
one_judged m o ps None none None r s a c = one_accepted m o ps (feasible_from_none m o ps none) r s a c

one_read : (m : Market) (read : Result Saying ℕ) (r s : Report) → ReadAs m read r → ReadAs m read s → r ≡ s
one_read m (Err line) r s a b = a ∙ sym b
one_read m (Ok t) r s a b =
    let o = outcome_said t in
    one_judged m o t.zones.prices (broken_of m o t.zones.prices) refl (wrong_in m o t.zones.prices t) r s a b

one_reported :
    (refusal : Option Refusal) (m : Market) (read : Result Saying ℕ) (r s : Report) →
    ReportedAs refusal m read r → ReportedAs refusal m read s → r ≡ s
one_reported (Some refusal) m read r s a b = a ∙ sym b
one_reported None m read r s a b = one_read m read r s a b

pub one_report : OneReport
one_report bs text r s a b =
    one_reported (refusal_of bs) (market_of bs) (text_at (counts_in (market_of bs)) text) r s a b
