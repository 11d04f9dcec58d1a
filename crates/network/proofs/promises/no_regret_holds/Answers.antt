-- The statement is a theorem of proofs/Prices.antt.
use Rattle.network.proofs.Prices.{no_regret}
use Rattle.network.proofs.promises.no_regret_holds.Goals as goal

pub returns : goal.returns
returns c = no_regret
