-- The statement is a theorem of proofs/Cut.antt.
use Rattle.network.proofs.Cut.{cut}
use Rattle.network.proofs.promises.cut_holds.Goals as goal

pub returns : goal.returns
returns c = cut
