-- What arcs carry, weighed where they end, with the weighed supplies, is what they carry weighed where they begin. Assumes
-- nothing.
use Rattle.std.proofs.Common.{◌≡◌, ℕ, ◌+◌, ◌*◌, ◌<◌, List, ap, ◌∙◌, zero-mul, mul-add, arith}
use Rattle.hour.specs.Market.{Market, Outcome, Proper, Feasible, at}
use Rattle.hour.specs.Total.{total}
use Rattle.hour.proofs.Total.{total_same, total_add, total_more}
use Rattle.network.specs.Network.{hub, tail, head, weighed, inflow, outflow, price}
use Rattle.network.proofs.Weighed.{weighed_by_node}
use Rattle.network.specs.Prices.{supplied}
use Rattle.network.proofs.Market.{price_zone, price_hub, tail_below, head_below, balanced_arcs}

-- the supplies, weighed where they are
abbrev pub supply_by : Market → (ℕ → ℕ) → ℕ
supply_by m φ = total m.zones (λ z. φ z * at m.supplies z)

-- Idea: sum the flows by node; at a zone as much comes in, with the supply, as goes out, and the hub weighs nothing.
pub level_by :
    (m : Market) (o : Outcome) (φ : ℕ → ℕ) → Proper m → Feasible m o → φ (hub m) ≡ 0 →
    weighed m (λ i. φ (head m i)) o + supply_by m φ ≡ weighed m (λ i. φ (tail m i)) o
level_by m o φ p f hub_none =
    let at_hub : (n : ℕ) → φ (hub m) * n ≡ 0 = λ n. ap (λ w. w * n) hub_none ∙ zero-mul n in
    omega (
      arith,
      weighed_by_node m o (hub m + 1) (head m) φ (head_below m p),
      weighed_by_node m o (hub m + 1) (tail m) φ (tail_below m p),
      total_more m.zones (λ z. φ z * inflow m o z),
      total_more m.zones (λ z. φ z * outflow m o z),
      at_hub (inflow m o (hub m)),
      at_hub (outflow m o (hub m)),
      total_add m.zones (λ z. φ z * inflow m o z) (λ z. φ z * at m.supplies z),
      total_same m.zones (λ z. φ z * inflow m o z + φ z * at m.supplies z) (λ z. φ z * outflow m o z) at_zone,
    )
  where
    at_zone : (z : ℕ) → z < m.zones → φ z * inflow m o z + φ z * at m.supplies z ≡ φ z * outflow m o z
    at_zone z h =
        omega (
          arith,
          mul-add (φ z) (inflow m o z) (at m.supplies z),
          ap (λ n. φ z * n) (balanced_arcs m o f z h),
        )

pub level :
    (m : Market) (o : Outcome) (ps : List ℕ) → Proper m → Feasible m o →
    weighed m (λ i. price m ps (head m i)) o + supplied m ps ≡ weighed m (λ i. price m ps (tail m i)) o
level m o ps p f =
    let at_prices : supply_by m (price m ps) ≡ supplied m ps =
    total_same m.zones _ _ (λ z h. ap (λ q. q * at m.supplies z) (price_zone m ps z h)) in
    omega (arith, level_by m o (price m ps) p f (price_hub m ps), at_prices)
