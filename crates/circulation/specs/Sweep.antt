-- One sweep: each zone that pays pushes once along its way. Assumes nothing: these are definitions.
--
--   bottleneck m o ss     how much fits along all steps of the way ss
--   Tally, tally o n      an outcome, and how many pushes led to it
--   pushed_full m ss y    as much as fits was pushed along the way ss, and counted
--   asked m t v y         zone v is asked: if it pays by the tables t, and something still fits along its closed way, that much
--                         is pushed along it, and counted
--   swept m t n o         the zones 0, 1, .., n - 1 were asked, one after the other, beginning with the outcome o
use Rattle.std.specs.Prelude.{ℕ, zero, suc, ◌+◌, min, cond, ◌&&◌, List, [], ◌∷◌, nat_lt}
use Rattle.hour.specs.Market.{Market, Outcome}
use Rattle.network.specs.Ways.{room, pushed}
use Rattle.network.specs.declared.arcs.Step.{Step}
use Rattle.paths.specs.Plan.{Plan, pays, closed_way}

abbrev pub bottleneck : Market → Outcome → List Step → ℕ
bottleneck m o [] = 0
bottleneck m o (s ∷ []) = room m o s
bottleneck m o (s ∷ r ∷ rs) = min (room m o s) (bottleneck m o (r ∷ rs))

pub record Tally : Type 0 where
  pub outcome : Outcome
  pub pushes : ℕ

abbrev pub tally : Outcome → ℕ → Tally
tally o n = record { outcome = o; pushes = n }

abbrev pub pushed_full : Market → List Step → Tally → Tally
pushed_full m ss y =
    record { outcome = pushed y.outcome ss (bottleneck m y.outcome ss); pushes = y.pushes + 1 }

abbrev pub asked : Market → Plan → ℕ → Tally → Tally
asked m t v y =
    cond
    (pays t v && nat_lt 0 (bottleneck m y.outcome (closed_way m t v)))
    (pushed_full m (closed_way m t v) y)
    y

abbrev pub swept : Market → Plan → ℕ → Outcome → Tally
swept m t zero o = tally o 0
swept m t (suc v) o = asked m t v (swept m t v o)
