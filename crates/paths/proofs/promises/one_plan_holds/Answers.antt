-- The statement is a theorem of proofs/OnePlan.antt.
use Rattle.paths.proofs.OnePlan.{one_plan}
use Rattle.paths.proofs.promises.one_plan_holds.Goals as goal

pub returns : goal.returns
returns c = one_plan
