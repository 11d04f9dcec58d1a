use Rattle.std.proofs.lemmas.Result.{IfOk-weaker}
use Rattle.office.proofs.Checked.{whole_hour}
use Rattle.office.proofs.checking.report_of.Goals as goal

pub returns-in-None : goal.returns-in-None
returns-in-None c =
    let reported = rw c.as_slice.ensures.value at c.report_on.ensures in
    IfOk-weaker c.report_on.result _ _
    (λ r. whole_hour c.args.came.now.refusal c.args.came.now.bytes.items c.args.text.now r c.in-None.is) reported
