-- What a run promises, of plain markets all but OneRun. Assumes nothing.
--
--   all_gain, all_cost  what all buys gain if they carry all that they can; what all sells cost then
--   value m o           what the outcome o is worth, and what all sells together cost: never below 0, and a push raises it
--   top m               the value that no outcome can pass
--   StepsSound m o p n  n pushes lead from the outcome o to p; p can be carried out, and its value has risen by n or more
--   PushByPush          a run is so many pushes, each along a closed way that pays; each leaves an outcome that can be carried
--                       out
--   RunSettles          at the end of a run the labels are the lowest prices, and they settle the outcome
--   SameRun             two counts, ends and sets of tables are the same
--   OneRun              a run from an outcome has one count, one end and one set of tables
--   Ended m o           a run from the outcome o, with its count, end and tables: of no more pushes than the value can rise
--   RunEnds             from every outcome that can be carried out there is a run, of no more pushes than the value can rise
--   LabelsFall          labels never rise from one search to the next
--   Cleared m           an outcome that can be carried out, and prices that settle it, one for each zone, the lowest that
--                       settle anything
--   Always              every proper and plain market has an outcome that can be carried out and prices that settle it, the
--                       lowest that settle anything
--   ClearedByLists m    an outcome that can be carried out, and prices that settle it, one for each zone, in the words by lists
--   AlwaysByLists       every market that is proper and plain has them
use Rattle.std.specs.Prelude.{◌≡◌, ℕ, ◌+◌, ◌-◌, ◌*◌, ◌<◌, ◌≤◌, List, length}
use Rattle.hour.specs.Market.{Market, Outcome, Proper, Plain, Feasible, Settled, at}
use Rattle.network.specs.Network.{capacity, cost, gain, gained, spent, sum}
use Rattle.network.specs.Prices.{LowestOf, Lowest}
use Rattle.network.specs.ByLists.{FeasibleByLists, ProperByLists, SettledByLists}
use Rattle.paths.specs.Plan.{Plan, Planned}
use Rattle.paths.specs.Promises.{prices_of}
use Rattle.circulation.specs.Sweep.{swept}
use Rattle.circulation.specs.Run.{Run, Pushes}

abbrev pub all_gain : Market → ℕ
all_gain m = sum m (λ i. gain m i * capacity m i)

abbrev pub all_cost : Market → ℕ
all_cost m = sum m (λ i. cost m i * capacity m i)

abbrev pub value : Market → Outcome → ℕ
value m o = gained m o + (all_cost m - spent m o)

abbrev pub top : Market → ℕ
top m = all_gain m + all_cost m

pub record StepsSound (m : Market) (o p : Outcome) (n : ℕ) : Type 0 where
  pub pushes : Pushes m n o p
  pub feasible : Feasible m p
  pub rises : value m o + n ≤ value m p

abbrev pub PushByPush : Type 0
PushByPush =
    (m : Market) (o p : Outcome) (n : ℕ) (t : Plan) → Proper m → Plain m → Feasible m o → Run m o n p t → StepsSound m o p n

abbrev pub RunSettles : Type 0
RunSettles =
    (m : Market) (o p : Outcome) (n : ℕ) (t : Plan) → Proper m → Plain m → Feasible m o → Run m o n p t →
    LowestOf m p (prices_of t) × Lowest m (prices_of t)

pub record SameRun (n j : ℕ) (p q : Outcome) (s t : Plan) : Type 0 where
  pub count : n ≡ j
  pub end : p ≡ q
  pub tables : s ≡ t

abbrev pub OneRun : Type 0
OneRun =
    (m : Market) (o p q : Outcome) (n j : ℕ) (s t : Plan) → Proper m → Run m o n p s → Run m o j q t → SameRun n j p q s t

pub record Ended (m : Market) (o : Outcome) : Type 0 where
  pub count : ℕ
  pub end : Outcome
  pub tables : Plan
  pub run : Run m o count end tables
  pub few : value m o + count ≤ top m

abbrev pub RunEnds : Type 0
RunEnds = (m : Market) (o : Outcome) → Proper m → Plain m → Feasible m o → Ended m o

abbrev pub LabelsFall : Type 0
LabelsFall =
    (m : Market) (o : Outcome) (s t : Plan) → Proper m → Plain m → Feasible m o → Planned m o s →
    Planned m (swept m s m.zones o).outcome t → (v : ℕ) → v < m.zones → at t.worth v ≤ at s.worth v

pub record Cleared (m : Market) : Type 0 where
  pub outcome : Outcome
  pub prices : List ℕ
  pub feasible : Feasible m outcome
  pub settled : Settled m outcome prices
  pub lowest : Lowest m prices
  pub one_each : length prices ≡ m.zones

abbrev pub Always : Type 0
Always = (m : Market) → Proper m → Plain m → Cleared m

pub record ClearedByLists (m : Market) : Type 0 where
  pub outcome : Outcome
  pub prices : List ℕ
  pub feasible : FeasibleByLists m outcome
  pub settled : SettledByLists m outcome prices
  pub one_each : length prices ≡ m.zones

abbrev pub AlwaysByLists : Type 0
AlwaysByLists = (m : Market) → ProperByLists m → Plain m → ClearedByLists m
