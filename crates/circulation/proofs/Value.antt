-- The value of an outcome: a push that pays raises it, and it has a top. Assumes nothing.
use Rattle.std.proofs.Common.{ℕ, ◌+◌, ◌*◌, ◌<◌, ◌≤◌, List, mul-le-mul_left, arith}
use Rattle.hour.specs.Market.{Market, Outcome, Feasible}
use Rattle.network.specs.Network.{capacity, cost, gain, gained, spent, weighed, sum}
use Rattle.network.specs.Ways.{way_cost, way_gain}
use Rattle.network.specs.Promises.{PushDone}
use Rattle.hour.specs.declared.items.Item.{Item}
use Rattle.network.specs.declared.arcs.Step.{Step}
use Rattle.network.proofs.Market.{within, worth_gained, costs_spent}
use Rattle.network.proofs.Sum.{sum_le}
use Rattle.circulation.specs.Promises.{all_gain, all_cost, value, top}

weighed_le :
    (m : Market) (w : Item → ℕ) (o : Outcome) → Feasible m o → weighed m w o ≤ sum m (λ i. w i * capacity m i)
weighed_le m w o f = sum_le m _ _ (λ i h. mul-le-mul_left (w i) (within m o f i h))

pub spent_le : (m : Market) (o : Outcome) → Feasible m o → spent m o ≤ all_cost m
spent_le m o = weighed_le m (cost m) o

pub gained_le : (m : Market) (o : Outcome) → Feasible m o → gained m o ≤ all_gain m
gained_le m o = weighed_le m (gain m) o

pub value_top : (m : Market) (o : Outcome) → Feasible m o → value m o ≤ top m
value_top m o f = omega (arith, gained_le m o f)

-- Idea: what is gained rises by more than what is spent, and what is spent stays below what all sells cost.
pub value_push :
    (m : Market) (o p : Outcome) (ss : List Step) (d : ℕ) → Feasible m o → PushDone m o p ss d → 0 < d →
    way_cost m ss < way_gain m ss → value m o + 1 ≤ value m p
value_push m o p ss d f done some gains =
    omega (
      arith,
      done.rises some gains,
      spent_le m o f,
      spent_le m p done.feasible,
      worth_gained m o,
      worth_gained m p,
      costs_spent m o,
      costs_spent m p,
    )
