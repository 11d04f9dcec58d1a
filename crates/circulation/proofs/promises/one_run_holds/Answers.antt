-- The statement is a theorem of proofs/Runs.antt.
use Rattle.circulation.proofs.Runs.{one_run}
use Rattle.circulation.proofs.promises.one_run_holds.Goals as goal

pub returns : goal.returns
returns c = one_run
