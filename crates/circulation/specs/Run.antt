-- Sweep after sweep, until no zone pays. Assumes nothing: these are definitions.
--
--   Runs m k o n p t   k sweeps and n pushes lead from the outcome o to p, where no zone pays by the tables t
--   Run m o n p t      so many pushes do, in some number of sweeps
--   Pays m o ss d      d fits along the closed way ss, which leaves no node twice and gains more than it costs
--   Pushes m n o p     n such pushes, one after the other, lead from o to p
use Rattle.std.specs.Prelude.{◌≡◌, ℕ, zero, suc, ◌+◌, ◌<◌, true, List, is_some, None}
use Rattle.std.specs.List.{AllByRecursion}
use Rattle.hour.specs.Market.{Market, Outcome}
use Rattle.network.specs.Ways.{Links, Once, Fits, way_cost, way_gain, pushed}
use Rattle.network.specs.declared.arcs.Step.{Step}
use Rattle.paths.specs.Plan.{Plan, Planned, first_paying}
use Rattle.circulation.specs.Sweep.{swept}

abbrev pub Runs : Market → ℕ → Outcome → ℕ → Outcome → Plan → Type 0
Runs m zero o n p t = Planned m o t × (first_paying m t ≡ None) × (n ≡ 0) × (p ≡ o)
Runs m (suc k) o n p t =
    (s : Plan) × Planned m o s × (is_some (first_paying m s) ≡ true)
    × ((j : ℕ) × (n ≡ (swept m s m.zones o).pushes + j) × Runs m k (swept m s m.zones o).outcome j p t)

abbrev pub Run : Market → Outcome → ℕ → Outcome → Plan → Type 0
Run m o n p t = (k : ℕ) × Runs m k o n p t

pub record Pays (m : Market) (o : Outcome) (ss : List Step) (d : ℕ) : Type 0 where
  pub node : ℕ
  pub closed : Links m node ss node
  pub once : Once m ss
  pub some : 0 < d
  pub fits : AllByRecursion (Fits m o d) ss
  pub gains : way_cost m ss < way_gain m ss

abbrev pub Pushes : Market → ℕ → Outcome → Outcome → Type 0
Pushes m zero o p = o ≡ p
Pushes m (suc n) o p = (ss : List Step) × (d : ℕ) × Pays m o ss d × Pushes m n (pushed o ss d) p
