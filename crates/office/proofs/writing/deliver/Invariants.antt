use Rattle.office.proofs.WrittenOn.{Sofar}
use Rattle.office.proofs.writing.deliver.Given as goal

abbrev pub invariant-loop : goal.invariant-loop
invariant-loop g l = Sofar (g.W.Write.contents l.initial.writer) (g.W.Write.contents l.writer) l.text l.rest
