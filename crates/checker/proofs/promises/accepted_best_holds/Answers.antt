-- The statement is a theorem of proofs/Publishing.antt.
use Rattle.checker.proofs.Publishing.{accepted_best}
use Rattle.checker.proofs.promises.accepted_best_holds.Goals as goal

pub returns : goal.returns
returns c = accepted_best
