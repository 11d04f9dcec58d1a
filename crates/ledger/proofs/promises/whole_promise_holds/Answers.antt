-- The statement is a theorem of proofs/OneAnswer.antt.
use Rattle.ledger.proofs.OneAnswer.{whole_promise}
use Rattle.ledger.proofs.promises.whole_promise_holds.Goals as goal

pub returns : goal.returns
returns c = whole_promise
