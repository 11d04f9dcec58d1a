-- The statement is a theorem of proofs/Ways.antt.
use Rattle.network.proofs.Ways.{push}
use Rattle.network.proofs.promises.push_holds.Goals as goal

pub returns : goal.returns
returns c = push
