-- The statement is a theorem of proofs/Prices.antt.
use Rattle.network.proofs.Prices.{money_bounded}
use Rattle.network.proofs.promises.money_bounded_holds.Goals as goal

pub returns : goal.returns
returns c = money_bounded
