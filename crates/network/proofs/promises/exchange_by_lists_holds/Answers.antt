-- The statement is a theorem of proofs/ByLists.antt.
use Rattle.network.proofs.ByLists.{exchange_by_lists}
use Rattle.network.proofs.promises.exchange_by_lists_holds.Goals as goal

pub returns : goal.returns
returns c = exchange_by_lists
