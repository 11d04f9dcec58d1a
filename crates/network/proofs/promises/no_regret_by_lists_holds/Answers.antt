-- The statement is a theorem of proofs/ByLists.antt.
use Rattle.network.proofs.ByLists.{no_regret_by_lists}
use Rattle.network.proofs.promises.no_regret_by_lists_holds.Goals as goal

pub returns : goal.returns
returns c = no_regret_by_lists
