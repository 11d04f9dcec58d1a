use Rattle.paths.proofs.Rounds.{Rising}
use Rattle.paths.proofs.relax.round.Given as goal

abbrev pub invariant-loop-k : goal.invariant-loop-k
invariant-loop-k l = Rising l.given.tables l.given.amounts l.initial.ways l.from_last l.lines l.k l.rose l.ways
