-- The statement is a theorem of proofs/Limits.antt.
use Rattle.ledger.proofs.Limits.{sums_small}
use Rattle.ledger.proofs.promises.sums_small_holds.Goals as goal

pub returns : goal.returns
returns c = sums_small
