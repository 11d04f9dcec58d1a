-- Where two lists of prices settle an outcome, so do the lower, the higher and the middle of the two. Assumes nothing.
use Rattle.std.proofs.Common.{◌≡◌, ℕ, ◌+◌, ◌/◌, ◌≤◌, min, max, List, sym, refl, ◌∙◌, ap₂, inl, inr, arith, le-ltb}
use Rattle.std.proofs.lemmas.Bool.{cases_lt}
use Rattle.std.proofs.lemmas.List.FromFn.{get_or-map-range_with_len}
use Rattle.hour.specs.Listed.{listed}
use Rattle.hour.specs.Market.{Market, Outcome, Proper, Feasible, Settled, at}
use Rattle.network.specs.Network.{price}
use Rattle.network.specs.Promises.{Lattice}
use Rattle.network.specs.Ways.{start, finish, step_cost, step_gain}
use Rattle.network.proofs.Market.{price_zone}
use Rattle.network.proofs.Rest.{resting, settled_at_rest}

price_outside : (m : Market) (ps : List ℕ) (n : ℕ) → m.zones ≤ n → price m ps n ≡ 0
price_outside m ps n h = rw (le-ltb n m.zones h)

-- Two lists are made one by φ, zone by zone; the hub's price stays 0, as φ makes 0 of two prices of 0.
module _ (m : Market) (ps qs : List ℕ) (φ : ℕ → ℕ → ℕ) (none : φ 0 0 ≡ 0) where
  abbrev each_zone : List ℕ
  each_zone = listed m.zones (λ z. φ (at ps z) (at qs z))

  price_each : (n : ℕ) → price m each_zone n ≡ φ (price m ps n) (price m qs n)
  price_each n =
      elim (cases_lt n m.zones) [
        | inl h ↦
            price_zone m each_zone n h
            ∙ get_or-map-range_with_len (λ z. φ (at ps z) (at qs z)) 0 m.zones n n 0 h (omega arith)
            ∙ sym (ap₂ φ (price_zone m ps n h) (price_zone m qs n h))
        | inr h ↦
            price_outside m each_zone n h
            ∙ sym (ap₂ φ (price_outside m ps n h) (price_outside m qs n h) ∙ none)
      ]

  -- an order that holds of both prices holds of what is made of them
  abbrev KeepsOrder : Type 0
  KeepsOrder =
      (a b c d gain cost : ℕ) → a + gain ≤ c + cost → b + gain ≤ d + cost → φ a b + gain ≤ φ c d + cost

  -- Idea: prices settle where no free step can raise one, and this is an order of the prices at the step's ends.
  settled_each :
      KeepsOrder → (o : Outcome) → Proper m → Feasible m o → Settled m o ps → Settled m o qs → Settled m o each_zone
  settled_each keeps o proper f s t =
      settled_at_rest m o each_zone proper f (λ step free.
      omega (
        arith,
        price_each (start m step),
        price_each (finish m step),
        keeps _ _ _ _ (step_gain m step) (step_cost m step)
            (resting m o ps proper s step free)
            (resting m o qs proper t step free),
      ))

pub lattice : Lattice
lattice m o ps qs proper f s t =
    record {
      lower = settled_each m ps qs min refl (λ a b c d gain cost p q. omega arith) o proper f s t;
      upper = settled_each m ps qs max refl (λ a b c d gain cost p q. omega arith) o proper f s t;
      middle =
          settled_each m ps qs (λ a b. (a + b) / 2) refl (λ a b c d gain cost p q. omega arith) o proper f s t;
    }
