use Rattle.office.proofs.ReadOn.{Sofar}
use Rattle.office.proofs.reading.read_up_to.Given as goal

abbrev pub invariant-loop : goal.invariant-loop
invariant-loop g l =
    Sofar (g.R.Read.remaining l.initial.reader) (g.R.Read.remaining l.reader) l.limit l.initial.bytes.items l.bytes.items
