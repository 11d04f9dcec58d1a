use Rattle.std.proofs.Common.{rules}
use Rattle.office.proofs.Checked.{checked_of}
use Rattle.office.proofs.checking.report_from.Goals as goal

pub returns-clause-said : goal.returns-clause-said
returns-clause-said g c =
    let reported = rw c.as_slice.ensures.value at c.in_ok-report.ensures in
    checked_of _ _ _ _ _ _ _ _ _ c.in-Ok.ensures.came c.in-Ok-read_text.ensures.came reported (search rules)
