-- What there is against a result, and what its absence says. Assumes nothing.
use Rattle.std.proofs.Common.{◌≡◌, ℕ, List, Some, None, Ok, Option, Result, sym, refl, ◌∙◌, ap₂}
use Rattle.hour.specs.Bytes.{market_of}
use Rattle.hour.specs.Market.{Outcome}
use Rattle.hour.specs.declared.refusals.Refusal.{Refusal}
use Rattle.checker.specs.declared.verdict.Broken.{Broken}
use Rattle.checker.specs.declared.verdict.Objection.{Objection}
use Rattle.checker.specs.Acceptance.{refusal_to_check, broken_of, objection_to, unless, verdict_of, Stands, Exactly}
use Rattle.checker.proofs.Breaches.{feasible_from_none, settled_from_none, none_broken}

-- an answer is there where nothing is refused and nothing broken
pub unobjected :
    {A : Type 0} (x y : A) (refusal : Option Refusal) (broken : Option Broken) →
    unless (objection_to refusal broken) x ≡ Ok y → (refusal ≡ None) × (broken ≡ None) × (x ≡ y)
unobjected x y None None e = (refl, refl, cc)
unobjected x y None (Some broken) e = absurd (cc)
unobjected x y (Some refusal) broken e = absurd (cc)

module _ (bs : List ℕ) (o : Outcome) (ps : List ℕ) where
  pub stands_from : refusal_to_check bs o ps ≡ None → broken_of (market_of bs) o ps ≡ None → Stands bs o ps
  stands_from taken none =
      record {
        taken = taken;
        feasible = feasible_from_none (market_of bs) o ps none;
        settled = settled_from_none (market_of bs) o ps none;
      }

  pub stands_accepted : Stands bs o ps → verdict_of bs o ps ≡ Ok tt
  stands_accepted s =
      ap₂ (λ (refusal : Option Refusal) (b : Option Broken). unless (objection_to refusal b) tt) s.taken
      (none_broken (market_of bs) o ps s.feasible s.settled)

  pub accepted_stands : verdict_of bs o ps ≡ Ok tt → Stands bs o ps
  accepted_stands accepted =
      let none = unobjected tt tt (refusal_to_check bs o ps) (broken_of (market_of bs) o ps) accepted in
      stands_from none.0 none.1

  pub accepted_exactly :
      (r : Result (Unit {0}) Objection) → r ≡ verdict_of bs o ps → Exactly (r ≡ Ok tt) (Stands bs o ps)
  accepted_exactly r is = (λ e. accepted_stands (sym is ∙ e), λ s. is ∙ stands_accepted s)
