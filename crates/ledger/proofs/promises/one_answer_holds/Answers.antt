-- The statement is a theorem of proofs/OneAnswer.antt.
use Rattle.ledger.proofs.OneAnswer.{one_answer}
use Rattle.ledger.proofs.promises.one_answer_holds.Goals as goal

pub returns : goal.returns
returns c = one_answer
