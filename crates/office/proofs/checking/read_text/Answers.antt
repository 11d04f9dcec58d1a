use Rattle.office.proofs.Checked.{text_came}
use Rattle.office.proofs.checking.read_text.Goals as goal

pub returns-clause-came : goal.returns-clause-came
returns-clause-came g c =
    let read = rw c.new-front.ensures.items at c.in_ok-read_up_to.ensures in
    text_came _ _ _ read
