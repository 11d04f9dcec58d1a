use Rattle.std.proofs.Common.{◌≡◌, length, Some, rules}
use Rattle.checker.specs.Form.{worth_at, prices_seen, table_seen}
use Rattle.checker.proofs.Steps.{text_read, ended_more}
use Rattle.checker.proofs.form.read_text.Goals as goal

pub returns-then-not-is_empty : goal.returns-then-not-is_empty
returns-then-not-is_empty c =
    let row = c.in_ok-worth in
    let worth : Some ((row.worth, row.pushes), row.rest.now) ≡ worth_at c.args.bytes.now = search rules in
    let more : length c.in_ok-lines.lines.rest.now ≡ 0 → ⊥ = search rules in
    rw c.first_line.ensures
    (text_read c.args.n c.args.bytes.now _
    (prices_seen c.in_ok-zones.zones) (table_seen c.in_ok-buys.buys)
    (table_seen c.in_ok-sells.sells) (table_seen c.in_ok-lines.lines) _
    worth c.in_ok-zones.ensures c.in_ok-buys.ensures
    c.in_ok-sells.ensures c.in_ok-lines.ensures (ended_more _ _ _ more))
