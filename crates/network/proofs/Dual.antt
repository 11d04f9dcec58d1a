-- What an outcome is worth is no more than what all items could gain at any prices, and as much exactly at prices that
-- settle it. Assumes nothing.
use Rattle.std.proofs.Common.{◌≡◌, ℕ, ◌+◌, ◌-◌, ◌*◌, ◌≤◌, List, arith}
use Rattle.hour.specs.Market.{Market, Outcome, Proper, Feasible, Settled, worth, costs, terms}
use Rattle.network.specs.Network.{Among, tail, head, cost, gain, carried, sum, weighed, price}
use Rattle.network.specs.Network.{unit_cost, unit_value}
use Rattle.network.specs.Prices.{surplus, supplied}
use Rattle.network.specs.Promises.{Dual}
use Rattle.hour.specs.declared.items.Item.{Item}
use Rattle.network.proofs.Sum.{sum_add, sum_same, sum_le, sum_tight}
use Rattle.network.proofs.Weighed.{weighed_add, weighed_same}
use Rattle.network.proofs.Market.{within_terms, unit_arc, worth_gained, costs_spent}
use Rattle.network.proofs.Level.{level}
use Rattle.network.proofs.Content.{brings_le, content_brings, brings_content}

module _ (m : Market) (o : Outcome) (ps : List ℕ) (proper : Proper m) (f : Feasible m o) where
  -- what an item's amount brings at the prices, and what it costs with the most that the item could gain
  abbrev brought : Item → ℕ
  brought i = unit_value m ps i * carried o i

  abbrev most : Item → ℕ
  most i = unit_cost m ps i * carried o i + (unit_value m ps i - unit_cost m ps i) * (terms m ps i).limit

  -- Idea: summed up, the prices at the heads, with the supplies at theirs, cancel those at the tails, as every zone is in balance.
  pub over_worth :
      weighed m (unit_value m ps) o + costs m o + supplied m ps
      ≡ weighed m (unit_cost m ps) o + worth m.buys o.bought
  over_worth =
      let heads : Item → ℕ = λ i. price m ps (head m i) in
      let tails : Item → ℕ = λ i. price m ps (tail m i) in
      omega (
        arith,
        weighed_same m (unit_value m ps) (λ i. gain m i + heads i) o (λ i h. (unit_arc m ps proper i h).1),
        weighed_same m (unit_cost m ps) (λ i. cost m i + tails i) o (λ i h. (unit_arc m ps proper i h).0),
        weighed_add m (gain m) heads o,
        weighed_add m (cost m) tails o,
        level m o ps proper f,
        worth_gained m o,
        costs_spent m o,
      )

  most_in_all : sum m most ≡ weighed m (unit_cost m ps) o + surplus m ps
  most_in_all =
      sum_add m (λ i. unit_cost m ps i * carried o i) (λ i. (unit_value m ps i - unit_cost m ps i) * (terms m ps i).limit)

  brought_le : (i : Item) → Among m i → brought i ≤ most i
  brought_le i h = brings_le (terms m ps i) (carried o i) (within_terms m o ps f i h)

  dual_settled : Settled m o ps → worth m.buys o.bought ≡ costs m o + surplus m ps + supplied m ps
  dual_settled s =
      omega (
        arith,
        sum_same m brought most (λ i h. content_brings _ _ (s.content i h)),
        most_in_all,
        over_worth,
      )

  -- Idea: where no more could be gained in all, no item could gain more.
  dual_settles : worth m.buys o.bought ≡ costs m o + surplus m ps + supplied m ps → Settled m o ps
  dual_settles even =
      let sums : sum m most ≤ sum m brought = omega (arith, most_in_all, over_worth) in
      record {
        content = λ i h.
            brings_content _ _ (within_terms m o ps f i h) (sum_tight m brought most brought_le sums i h);
      }

  dual_within : worth m.buys o.bought ≤ costs m o + surplus m ps + supplied m ps
  dual_within = omega (arith, sum_le m brought most brought_le, most_in_all, over_worth)

pub dual : Dual
dual m o ps proper f =
    record {
      within = dual_within m o ps proper f;
      settled = dual_settled m o ps proper f;
      settles = dual_settles m o ps proper f;
    }
