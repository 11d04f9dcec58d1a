-- The statement is a theorem of proofs/Saying.antt.
use Rattle.ledger.proofs.Saying.{text_says}
use Rattle.ledger.proofs.promises.text_says_holds.Goals as goal

pub returns : goal.returns
returns c = text_says
