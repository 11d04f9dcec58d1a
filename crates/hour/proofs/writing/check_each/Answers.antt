use Rattle.std.proofs.Common.{◌≡◌, ℕ, length, get_or, Some, rules}
use Rattle.std.proofs.lemmas.List.{get_or_read}
use Rattle.hour.proofs.First.{first_some}
use Rattle.hour.proofs.writing.check_each.Goals as goal

pub returns-in_err-check : goal.returns-in_err-check
returns-in_err-check g c =
    let e = g.E.Entry in
    let list = c.args.list.now in
    let fault = λ (k : ℕ). e.fault c.args.zones (e.place c.args.bids k) (get_or list k e.absent) in
    let item = get_or_read list c.loop-k.k _ c.loop-k-test.true c.index-list-k.is e.absent in
    let here : fault c.loop-k.k ≡ Some c.in_err-check.field-0.0 = search rules in
    let found = first_some fault c.loop-k.k (length list) _ c.loop-k-test.true c.loop-k.invariant here in
    search rules
