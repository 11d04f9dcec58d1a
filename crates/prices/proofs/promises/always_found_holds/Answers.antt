-- The statement is a theorem of proofs/Promised.antt.
use Rattle.prices.proofs.Promised.{always_found}
use Rattle.prices.proofs.promises.always_found_holds.Goals as goal

pub returns : goal.returns
returns c = always_found
