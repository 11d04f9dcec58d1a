-- The statement is a theorem of proofs/ByLists.antt.
use Rattle.network.proofs.ByLists.{sums_by_lists}
use Rattle.network.proofs.promises.sums_by_lists_hold.Goals as goal

pub returns : goal.returns
returns c = sums_by_lists
