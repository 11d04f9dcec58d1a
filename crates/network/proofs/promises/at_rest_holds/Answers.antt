-- The statement is a theorem of proofs/Rest.antt.
use Rattle.network.proofs.Rest.{at_rest}
use Rattle.network.proofs.promises.at_rest_holds.Goals as goal

pub returns : goal.returns
returns c = at_rest
