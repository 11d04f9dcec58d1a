-- The statement is a theorem of proofs/Dual.antt.
use Rattle.network.proofs.Dual.{dual}
use Rattle.network.proofs.promises.dual_holds.Goals as goal

pub returns : goal.returns
returns c = dual
