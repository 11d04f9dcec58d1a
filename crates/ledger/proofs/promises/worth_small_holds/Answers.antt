-- The statement is a theorem of proofs/Limits.antt.
use Rattle.ledger.proofs.Limits.{worth_small}
use Rattle.ledger.proofs.promises.worth_small_holds.Goals as goal

pub returns : goal.returns
returns c = worth_small
