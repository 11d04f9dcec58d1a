-- The statement is a theorem of proofs/Always.antt.
use Rattle.circulation.proofs.Always.{always}
use Rattle.circulation.proofs.promises.always_holds.Goals as goal

pub returns : goal.returns
returns c = always
