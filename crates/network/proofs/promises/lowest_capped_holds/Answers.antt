-- The statement is a theorem of proofs/Cap.antt.
use Rattle.network.proofs.Cap.{lowest_capped}
use Rattle.network.proofs.promises.lowest_capped_holds.Goals as goal

pub returns : goal.returns
returns c = lowest_capped
