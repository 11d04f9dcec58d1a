-- The statement is a theorem of proofs/Prices.antt.
use Rattle.network.proofs.Prices.{even}
use Rattle.network.proofs.promises.even_holds.Goals as goal

pub returns : goal.returns
returns c = even
