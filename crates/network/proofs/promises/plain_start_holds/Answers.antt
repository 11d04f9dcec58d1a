-- The statement is a theorem of proofs/Plain.antt.
use Rattle.network.proofs.Plain.{plain_start}
use Rattle.network.proofs.promises.plain_start_holds.Goals as goal

pub returns : goal.returns
returns c = plain_start
