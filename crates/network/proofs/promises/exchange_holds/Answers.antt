-- The statement is a theorem of proofs/Prices.antt.
use Rattle.network.proofs.Prices.{exchange}
use Rattle.network.proofs.promises.exchange_holds.Goals as goal

pub returns : goal.returns
returns c = exchange
