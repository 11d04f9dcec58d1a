-- The statement is a theorem of proofs/Promised.antt.
use Rattle.prices.proofs.Promised.{one_found}
use Rattle.prices.proofs.promises.one_found_holds.Goals as goal

pub returns : goal.returns
returns c = one_found
