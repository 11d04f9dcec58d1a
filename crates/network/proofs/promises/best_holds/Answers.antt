-- The statement is a theorem of proofs/Prices.antt.
use Rattle.network.proofs.Prices.{best}
use Rattle.network.proofs.promises.best_holds.Goals as goal

pub returns : goal.returns
returns c = best
