use Rattle.std.proofs.Common.{ℕ, ◌<◌, List}
use Rattle.prices.specs.Laid.{Laid}
use Rattle.prices.proofs.lay.lay.Given as goal

abbrev pub invariant-loop-k : goal.invariant-loop-k
invariant-loop-k g l = (k : ℕ) → k < l.k → (r : List ℕ) × goal.F-post g l.row k r × Laid l.table k r
