-- The statement is a theorem of proofs/Floor.antt.
use Rattle.network.proofs.Floor.{floor}
use Rattle.network.proofs.promises.floor_holds.Goals as goal

pub returns : goal.returns
returns c = floor
