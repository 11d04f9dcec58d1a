-- The statement is a theorem of proofs/Promised.antt.
use Rattle.prices.proofs.Promised.{found_promised}
use Rattle.prices.proofs.promises.found_promised_holds.Goals as goal

pub returns : goal.returns
returns c = found_promised
