use Rattle.ledger.specs.Written.{Rows}
use Rattle.ledger.proofs.cleared.Cleared.write_rows.Given as goal

abbrev pub invariant-loop-k : goal.invariant-loop-k
invariant-loop-k l = Rows l.self l.sort l.k l.rows l.sum
