-- The statement is a theorem of proofs/OneAnswer.antt.
use Rattle.ledger.proofs.OneAnswer.{one_text}
use Rattle.ledger.proofs.promises.one_text_holds.Goals as goal

pub returns : goal.returns
returns c = one_text
