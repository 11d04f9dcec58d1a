-- The statement is a theorem of proofs/Cut.antt.
use Rattle.checker.proofs.Cut.{front_reported}
use Rattle.checker.proofs.promises.front_reported_holds.Goals as goal

pub returns : goal.returns
returns c = front_reported
