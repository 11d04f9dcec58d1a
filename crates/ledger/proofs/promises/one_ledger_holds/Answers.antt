-- The statement is a theorem of proofs/OneLedger.antt.
use Rattle.ledger.proofs.OneLedger.{one_ledger}
use Rattle.ledger.proofs.promises.one_ledger_holds.Goals as goal

pub returns : goal.returns
returns c = one_ledger
