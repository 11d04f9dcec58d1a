-- The statement is a theorem of proofs/Hours.antt.
use Rattle.network.proofs.Hours.{worked_hours}
use Rattle.network.proofs.promises.worked_hours_hold.Goals as goal

pub returns : goal.returns
returns c = worked_hours
