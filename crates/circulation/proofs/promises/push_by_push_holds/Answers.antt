-- The statement is a theorem of proofs/Runs.antt.
use Rattle.circulation.proofs.Runs.{push_by_push}
use Rattle.circulation.proofs.promises.push_by_push_holds.Goals as goal

pub returns : goal.returns
returns c = push_by_push
