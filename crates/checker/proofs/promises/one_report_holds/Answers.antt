-- The statement is a theorem of proofs/Told.antt.
use Rattle.checker.proofs.Told.{one_report}
use Rattle.checker.proofs.promises.one_report_holds.Goals as goal

pub returns : goal.returns
returns c = one_report
