-- The statement is a theorem of proofs/Prices.antt.
use Rattle.network.proofs.Prices.{one_lowest}
use Rattle.network.proofs.promises.one_lowest_holds.Goals as goal

pub returns : goal.returns
returns c = one_lowest
