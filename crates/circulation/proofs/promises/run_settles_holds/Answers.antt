-- The statement is a theorem of proofs/Runs.antt.
use Rattle.circulation.proofs.Runs.{run_settles}
use Rattle.circulation.proofs.promises.run_settles_holds.Goals as goal

pub returns : goal.returns
returns c = run_settles
