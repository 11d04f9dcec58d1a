-- The first zone that pays: it pays, and none before it does. Assumes nothing.
use Rattle.std.proofs.Common.{◌≡◌, ℕ, zero, suc, ◌<◌, Bool, true, false, is_some, Some, None, Option, sym, refl, ap, ◌∙◌, subst, arith}
use Rattle.std.proofs.lemmas.Bool.{both_ways}
use Rattle.hour.specs.First.{when, ◌else◌, first}
use Rattle.hour.specs.Market.{Market}
use Rattle.hour.proofs.First.{first_none, when_none}
use Rattle.paths.specs.Plan.{Plan, pays, first_paying}

pub record Found (n : ℕ) (b : ℕ → Bool) (v : ℕ) : Type 0 where
  pub below : v < n
  pub holds : b v ≡ true
  pub before : (u : ℕ) → u < v → b u ≡ false

abbrev held : Option ℕ → ℕ
held None = 0
held (Some v) = v

when_some : (t : Bool) (u v : ℕ) → when t u ≡ Some v → (t ≡ true) × (u ≡ v)
when_some true u v e = (refl, ap held e)
when_some false u v e = absurd (both_ways true (ap is_some (sym e)) refl)

-- Idea: if it is among the first n it is found there; else none of them holds, and it is n itself.
pub first_some : (n : ℕ) (b : ℕ → Bool) (v : ℕ) → first n (λ u. when (b u) u) ≡ Some v → Found n b v
first_some zero b v e = absurd (both_ways true (ap is_some (sym e)) refl)
first_some (suc n) b v e = go (first n (λ u. when (b u) u)) refl (first_some n b v)
  where
    go :
        (r : Option ℕ) → first n (λ u. when (b u) u) ≡ r →
        (first n (λ u. when (b u) u) ≡ Some v → Found n b v) → Found (suc n) b v
    go None none earlier =
        let here = when_some (b n) n v (sym (ap (λ r. r else when (b n) n) none) ∙ e) in
        record {
          below = omega (arith, here.1);
          holds = subst (λ u. b u ≡ true) here.1 here.0;
          before = λ u h. when_none (b u) u (first_none (λ u. when (b u) u) n none u (omega (arith, here.1)));
        }
    go (Some u) some earlier =
        let found = earlier (some ∙ sym (ap (λ r. r else when (b n) n) some) ∙ e) in
        record { below = omega (arith, found.below); holds = found.holds; before = found.before }

pub first_pays : (m : Market) (t : Plan) (v : ℕ) → first_paying m t ≡ Some v → Found m.zones (pays t) v
first_pays m t v = first_some m.zones (pays t) v

-- somebody pays
pub some_pays :
    (m : Market) (t : Plan) → is_some (first_paying m t) ≡ true → (v : ℕ) × (first_paying m t ≡ Some v)
some_pays m t some = go (first_paying m t) refl
  where
    go : (r : Option ℕ) → first_paying m t ≡ r → (v : ℕ) × (first_paying m t ≡ Some v)
    go None e = absurd (both_ways false refl (ap is_some (sym e) ∙ some))
    go (Some v) e = (v, e)
