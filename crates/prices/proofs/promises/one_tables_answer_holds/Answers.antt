-- The statement is a theorem of proofs/OneAnswer.antt.
use Rattle.prices.proofs.OneAnswer.{one_tables_answer}
use Rattle.prices.proofs.promises.one_tables_answer_holds.Goals as goal

pub returns : goal.returns
returns c = one_tables_answer
