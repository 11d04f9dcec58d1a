-- The statement is a theorem of proofs/SomePlan.antt.
use Rattle.paths.proofs.SomePlan.{some_plan}
use Rattle.paths.proofs.promises.some_plan_holds.Goals as goal

pub returns : goal.returns
returns c = some_plan
