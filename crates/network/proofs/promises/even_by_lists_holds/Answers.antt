-- The statement is a theorem of proofs/ByLists.antt.
use Rattle.network.proofs.ByLists.{even_by_lists}
use Rattle.network.proofs.promises.even_by_lists_holds.Goals as goal

pub returns : goal.returns
returns c = even_by_lists
