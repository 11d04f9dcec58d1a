use Rattle.office.proofs.ReadOn.{Counted}
use Rattle.office.proofs.reading.count_rest.Given as goal

abbrev pub invariant-loop : goal.invariant-loop
invariant-loop g l = Counted (g.R.Read.remaining l.initial.reader) (g.R.Read.remaining l.reader) l.before l.came
