-- The statement is a theorem of proofs/OneAnswer.antt.
use Rattle.ledger.proofs.OneAnswer.{always_cleared}
use Rattle.ledger.proofs.promises.always_cleared_holds.Goals as goal

pub returns : goal.returns
returns c = always_cleared
