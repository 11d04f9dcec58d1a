-- Prices below nothing, set to nothing, settle the same where the market has a free start. Assumes nothing.
use Rattle.std.proofs.Common.{◌≡◌, ℕ, ◌+◌, ◌-◌, ◌*◌, ◌<◌, ◌≤◌, cond, nat_lt, List, ap, inl, inr, add-mul, mul-le-mul_left, arith, lt-ltb, le-ltb}
use Rattle.std.proofs.Math.Nat.{mul-le-mul_right}
use Rattle.std.proofs.lemmas.Bool.{cases_lt}
use Rattle.std.proofs.lemmas.List.FromFn.{get_or-map-range_with_len}
use Rattle.hour.specs.Market.{Market, Outcome, Proper, Feasible, Settled, at, bid, line, terms}
use Rattle.network.specs.Network.{Among, hub, tail, head, carried, sum, weighed, unit_cost, unit_value}
use Rattle.network.specs.Prices.{surplus}
use Rattle.network.specs.Floor.{FreeStart, SettledFrom, terms_from, floored}
use Rattle.network.specs.Promises.{Floor}
use Rattle.hour.specs.declared.items.Item.{Item}
use Rattle.hour.specs.declared.items.Item.TheVariants.{Buy, Sell, Line}
use Rattle.network.proofs.Sum.{sum_add, sum_same, sum_le}
use Rattle.network.proofs.Weighed.{weighed_add, weighed_same}
use Rattle.network.proofs.Level.{supply_by, level_by}
use Rattle.network.proofs.Content.{content_brings}
use Rattle.network.proofs.Dual.{over_worth, dual}

-- where a unit's surplus falls from b to a, by at least what t is above h, the whole limit u loses at least what y units would
falls : (a b t h u y : ℕ) → a + (t - h) ≤ b → y ≤ u → a * u + t * y ≤ b * u + h * y
falls a b t h u y less within =
    let above : t ≤ h + (t - h) = omega arith in
    omega (
      arith,
      mul-le-mul_right u less,
      add-mul a (t - h) u,
      mul-le-mul_right y above,
      add-mul h (t - h) y,
      mul-le-mul_left (t - h) within,
    )

-- and where there are no units, it only must not rise
stays : (a b t h u y : ℕ) → a ≤ b → y ≡ 0 → a * u + t * y ≤ b * u + h * y
stays a b t h u y le none =
    omega (arith, mul-le-mul_right u le, ap (λ n. t * n) none, ap (λ n. h * n) none)

module _ (m : Market) (qs : List ℕ) (s : ℕ) (proper : Proper m) where
  abbrev ps : List ℕ
  ps = floored m qs s

  -- how far a node's price is below nothing; the hub's is not
  abbrev short : ℕ → ℕ
  short n = cond (nat_lt n m.zones) (s - at qs n) 0

  short_zone : (z : ℕ) → z < m.zones → short z ≡ s - at qs z
  short_zone z h = rw (lt-ltb z m.zones h)

  short_hub : short (hub m) ≡ 0
  short_hub = rw (le-ltb m.zones m.zones (omega arith))

  at_floored : (z : ℕ) → z < m.zones → at ps z ≡ at qs z - s
  at_floored z h = get_or-map-range_with_len (λ v. at qs v - s) 0 m.zones z z 0 h (omega arith)

  -- what a unit brings and costs at the prices, and what it does where these are set to nothing
  value_short :
      (i : Item) → Among m i → (terms_from m qs s i).value + short (head m i) ≡ unit_value m ps i + s
  value_short (Buy k) h = omega (arith, short_hub)
  value_short (Sell k) h = omega (arith, short_zone _ (proper.sells k h), at_floored _ (proper.sells k h))
  value_short (Line k) h = omega (arith, short_zone _ (proper.to k h), at_floored _ (proper.to k h))

  cost_short :
      (i : Item) → Among m i → (terms_from m qs s i).cost + short (tail m i) ≡ unit_cost m ps i + s
  cost_short (Buy k) h = omega (arith, short_zone _ (proper.buys k h), at_floored _ (proper.buys k h))
  cost_short (Sell k) h = omega (arith, short_hub)
  cost_short (Line k) h = omega (arith, short_zone _ (proper.from k h), at_floored _ (proper.from k h))

  -- what an item could gain at most, at the prices and where they are set to nothing
  abbrev gains_from : Item → ℕ
  gains_from i = ((terms_from m qs s i).value - (terms_from m qs s i).cost) * (terms_from m qs s i).limit

  abbrev gains : Item → ℕ
  gains i = (unit_value m ps i - unit_cost m ps i) * (terms m ps i).limit

  -- Idea: an item that carries something in the free start could gain less by that much where the prices are set to nothing.
  gains_less :
      (f : FreeStart m) (i : Item) → Among m i →
      gains i + short (tail m i) * carried f.start i ≤ gains_from i + short (head m i) * carried f.start i
  gains_less f (Buy k) h =
      let zone = (bid m.buys k).zone in
      falls _ _ (short zone) (short (hub m)) _ _
      (omega (arith, short_zone zone (proper.buys k h), at_floored zone (proper.buys k h), short_hub))
      (f.feasible.buys k h)
  gains_less f (Sell k) h =
      let zone = (bid m.sells k).zone in
      stays _ _ (short (hub m)) (short zone) _ _ (omega (arith, at_floored zone (proper.sells k h))) (f.sold k h)
  gains_less f (Line k) h =
      let from = (line m.lines k).from in
      let to = (line m.lines k).to in
      let at_from = at_floored from (proper.from k h) in
      let at_to = at_floored to (proper.to k h) in
      elim (cases_lt 0 (at f.start.flow k)) [
        | inl some ↦
            falls _ _ (short from) (short to) _ _
            (omega (
              arith,
              f.flow k h some,
              at_from,
              at_to,
              short_zone from (proper.from k h),
              short_zone to (proper.to k h),
            ))
            (f.feasible.lines k h)
        | inr none ↦ stays _ _ (short from) (short to) _ _ (omega (arith, at_from, at_to)) (omega arith)
      ]

  surplus_less : FreeStart m → surplus m ps + supply_by m short ≤ sum m gains_from
  surplus_less f =
      let tails : Item → ℕ = λ i. short (tail m i) * carried f.start i in
      let heads : Item → ℕ = λ i. short (head m i) * carried f.start i in
      omega (
        arith,
        sum_le m (λ i. gains i + tails i) (λ i. gains_from i + heads i) (gains_less f),
        sum_add m gains tails,
        sum_add m gains_from heads,
        level_by m f.start short proper f.feasible short_hub,
      )

  module _ (o : Outcome) (f : Feasible m o) (settled : SettledFrom m o qs s) where
    -- what the outcome brings and costs where the prices are set to nothing: the supplies are then worth more by as much as
    -- what they are short of
    brought : weighed m (unit_value m ps) o + supply_by m short ≡ weighed m (unit_cost m ps) o + sum m gains_from
    brought =
        let value : Item → ℕ = λ i. (terms_from m qs s i).value in
        let cost : Item → ℕ = λ i. (terms_from m qs s i).cost in
        let heads : Item → ℕ = λ i. short (head m i) in
        let tails : Item → ℕ = λ i. short (tail m i) in
        let each : Item → ℕ = λ i. s in
        omega (
          arith,
          sum_same m (λ i. value i * carried o i) (λ i. cost i * carried o i + gains_from i)
              (λ i h. content_brings _ _ (settled.content i h)),
          sum_add m (λ i. cost i * carried o i) gains_from,
          weighed_same m (λ i. value i + heads i) (λ i. unit_value m ps i + s) o value_short,
          weighed_same m (λ i. cost i + tails i) (λ i. unit_cost m ps i + s) o cost_short,
          weighed_add m value heads o,
          weighed_add m cost tails o,
          weighed_add m (unit_value m ps) each o,
          weighed_add m (unit_cost m ps) each o,
          level_by m o short proper f short_hub,
        )

    -- Idea: so the outcome is worth at least what all items could gain, with the supplies; it is never worth more.
    pub settled_floored : FreeStart m → Settled m o ps
    settled_floored free =
        (dual m o ps proper f).settles
        (omega (arith, (dual m o ps proper f).within, over_worth m o ps proper f, brought, surplus_less free))

pub floor : Floor
floor m o qs s proper free f settled = settled_floored m qs s proper o f settled free
