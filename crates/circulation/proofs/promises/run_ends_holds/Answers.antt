-- The statement is a theorem of proofs/Runs.antt.
use Rattle.circulation.proofs.Runs.{run_ends}
use Rattle.circulation.proofs.promises.run_ends_holds.Goals as goal

pub returns : goal.returns
returns c = run_ends
