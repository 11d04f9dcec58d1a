-- The statement is a theorem of proofs/Cut.antt.
use Rattle.checker.proofs.Cut.{no_longer}
use Rattle.checker.proofs.promises.no_longer_holds.Goals as goal

pub returns : goal.returns
returns c = no_longer
