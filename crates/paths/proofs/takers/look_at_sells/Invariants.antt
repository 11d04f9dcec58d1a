use Rattle.std.proofs.Common.{◌+◌}
use Rattle.paths.specs.Search.{Looked}
use Rattle.paths.proofs.takers.look_at_sells.Given as goal

abbrev pub invariant-loop-k : goal.invariant-loop-k
invariant-loop-k l = Looked l.given.tables l.given.amounts (l.buys + l.k) l.ways
