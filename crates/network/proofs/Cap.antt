-- Lowest prices are at or below the dearest bid. Assumes nothing.
use Rattle.std.proofs.Common.{◌≡◌, ℕ, zero, suc, ◌-◌, ◌*◌, ◌≤◌, ◌⊎◌, min, List, [], ◌∷◌, map, refl, inl, inr, arith}
use Rattle.std.proofs.Math.Nat.{mul-le-mul_right}
use Rattle.hour.specs.Market.{Market, Outcome, Proper, Feasible, Settled, Plain, at, bid, line, terms}
use Rattle.hour.proofs.Total.{total_le}
use Rattle.network.specs.Network.{Among, unit_cost, unit_value}
use Rattle.network.specs.Prices.{PricesTo, supplied}
use Rattle.network.specs.Promises.{LowestCapped}
use Rattle.hour.specs.declared.items.Item.{Item}
use Rattle.hour.specs.declared.items.Item.TheVariants.{Buy, Sell, Line}
use Rattle.network.proofs.Sum.{sum_le}
use Rattle.network.proofs.Dual.{dual}
use Rattle.network.proofs.Market.{limit_is}

-- no number of a list above c
abbrev pub capped : ℕ → List ℕ → List ℕ
capped c ps = map (λ p. min p c) ps

pub at_capped : (c : ℕ) (ps : List ℕ) (z : ℕ) → at (capped c ps) z ≡ min (at ps z) c
at_capped c [] z = omega arith
at_capped c (p ∷ ps) zero = refl
at_capped c (p ∷ ps) (suc z) = at_capped c ps z

-- Idea for proper markets: capped at c, no item could gain more and no supply is worth more. So all that could be gained at the
-- capped prices is no more than at ps, which is what the outcome is worth; and so these settle it too.
-- Idea for plain markets, where each zone that is named need not be one: what a unit costs and brings at the capped prices is what
-- it costs and brings at ps, capped; and an order of two capped numbers is that of the numbers.
module _ (m : Market) (c : ℕ) (ps : List ℕ) (prices : PricesTo m c) where
  gains_capped :
      (i : Item) → Among m i →
      (unit_value m (capped c ps) i - unit_cost m (capped c ps) i) * (terms m (capped c ps) i).limit
      ≤ (unit_value m ps i - unit_cost m ps i) * (terms m ps i).limit
  gains_capped (Buy k) h =
      mul-le-mul_right (bid m.buys k).amount (omega (arith, prices.buys k h, at_capped c ps (bid m.buys k).zone))
  gains_capped (Sell k) h = mul-le-mul_right (bid m.sells k).amount (omega (arith, at_capped c ps (bid m.sells k).zone))
  gains_capped (Line k) h =
      mul-le-mul_right (line m.lines k).capacity
      (omega (arith, at_capped c ps (line m.lines k).from, at_capped c ps (line m.lines k).to))

  supplied_capped : supplied m (capped c ps) ≤ supplied m ps
  supplied_capped = total_le m.zones _ _ (λ z h. mul-le-mul_right (at m.supplies z) (omega (arith, at_capped c ps z)))

  settled_proper : (o : Outcome) → Proper m → Feasible m o → Settled m o ps → Settled m o (capped c ps)
  settled_proper o proper f s =
      (dual m o (capped c ps) proper f).settles
      (omega (
        arith,
        (dual m o ps proper f).settled s,
        (dual m o (capped c ps) proper f).within,
        sum_le m _ _ gains_capped,
        supplied_capped,
      ))

  cost_capped : Plain m → (i : Item) → Among m i → unit_cost m (capped c ps) i ≡ min (unit_cost m ps i) c
  cost_capped plain (Buy k) h = at_capped c ps (bid m.buys k).zone
  cost_capped plain (Sell k) h = omega (arith, prices.sells k h)
  cost_capped plain (Line k) h = omega (arith, plain.costless k h, at_capped c ps (line m.lines k).from)

  value_capped : (i : Item) → Among m i → unit_value m (capped c ps) i ≡ min (unit_value m ps i) c
  value_capped (Buy k) h = omega (arith, prices.buys k h)
  value_capped (Sell k) h = at_capped c ps (bid m.sells k).zone
  value_capped (Line k) h = at_capped c ps (line m.lines k).to

  settled_plain : (o : Outcome) → Plain m → Settled m o ps → Settled m o (capped c ps)
  settled_plain o plain s =
      record {
        content = λ i h.
            let cost = cost_capped plain i h in
            let value = value_capped i h in
            record {
              whole = λ l. omega (arith, (s.content i h).whole (omega arith), limit_is m ps i, limit_is m (capped c ps) i);
              none = λ l. (s.content i h).none (omega arith);
            };
      }

  pub settled_capped : (o : Outcome) → Proper m ⊎ Plain m → Feasible m o → Settled m o ps → Settled m o (capped c ps)
  settled_capped o (inl proper) f s = settled_proper o proper f s
  settled_capped o (inr plain) f s = settled_plain o plain s

-- Idea: capped at c, the prices settle the same outcome, and the lowest are at or below these.
pub lowest_capped : LowestCapped
lowest_capped m c ps kind low prices z h =
    omega (
      arith,
      low.below low.outcome (capped c ps) low.feasible
          (settled_capped m c ps prices low.outcome kind low.feasible low.settled) z h,
      at_capped c ps z,
    )
