-- The statement is a theorem of proofs/ByLists.antt.
use Rattle.network.proofs.ByLists.{best_by_lists}
use Rattle.network.proofs.promises.best_by_lists_holds.Goals as goal

pub returns : goal.returns
returns c = best_by_lists
