-- The statement is a theorem of proofs/Even.antt.
use Rattle.ledger.proofs.Even.{ledger_even}
use Rattle.ledger.proofs.promises.ledger_even_holds.Goals as goal

pub returns : goal.returns
returns c = ledger_even
