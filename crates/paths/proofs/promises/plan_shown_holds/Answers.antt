-- The statement is a theorem of proofs/Shown.antt.
use Rattle.paths.proofs.Shown.{plan_shown}
use Rattle.paths.proofs.promises.plan_shown_holds.Goals as goal

pub returns : goal.returns
returns c = plan_shown
