use Rattle.paths.specs.Search.{Looked}
use Rattle.paths.proofs.takers.look_at_buys.Given as goal

abbrev pub invariant-loop-k : goal.invariant-loop-k
invariant-loop-k l = Looked l.given.tables l.given.amounts l.k l.ways
