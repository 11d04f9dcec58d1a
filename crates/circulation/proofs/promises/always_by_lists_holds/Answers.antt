-- The statement is a theorem of proofs/Always.antt.
use Rattle.circulation.proofs.Always.{always_by_lists}
use Rattle.circulation.proofs.promises.always_by_lists_holds.Goals as goal

pub returns : goal.returns
returns c = always_by_lists
