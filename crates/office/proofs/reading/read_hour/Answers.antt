use Rattle.std.proofs.Common.{◌≡◌, ap, ◌∙◌, rules, arith, None}
use Rattle.hour.specs.Bytes.{limits_fault}
use Rattle.office.proofs.HourCame.{came_refused, came_whole, came_long, both_reads, head_kept, head_long}
use Rattle.office.proofs.reading.read_hour.Goals as goal

pub returns-in-Err-clause-came : goal.returns-in-Err-clause-came
returns-in-Err-clause-came g c = came_refused _ _ _ _ (search rules) (search rules)

pub returns-then-len-le-LONGEST_HOUR-clause-came : goal.returns-then-len-le-LONGEST_HOUR-clause-came
returns-then-len-le-LONGEST_HOUR-clause-came g c =
    let first = rw c.new-bytes.ensures.items at c.in_ok-read_up_to.ensures in
    let second = c.in_ok-read_up_to-2.ensures in
    let head = head_kept _ _ _ _ _ second (head_long _ _ _ first (omega arith)) in
    let sound : limits_fault c.read_up_to.new.bytes.items ≡ None = search rules in
    came_whole _ _ _ (both_reads _ _ _ _ _ _ _ first second) (second.whole (omega arith)) (ap limits_fault head ∙ sound)

pub returns-clause-came : goal.returns-clause-came
returns-clause-came g c =
    let first = rw c.new-bytes.ensures.items at c.in_ok-read_up_to.ensures in
    let second = c.in_ok-read_up_to-2.ensures in
    let seven = head_long _ _ _ first (omega arith) in
    let head = head_kept _ _ _ _ _ second seven in
    let sound : limits_fault c.read_up_to.new.bytes.items ≡ None = search rules in
    came_long _ _ _ _ _ (both_reads _ _ _ _ _ _ _ first second) (search rules) (omega arith) (omega arith)
    (ap limits_fault head ∙ sound)
