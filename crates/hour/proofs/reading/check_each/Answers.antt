use Rattle.std.proofs.Common.{◌≡◌, ℕ, Some, rules}
use Rattle.hour.proofs.First.{first_some}
use Rattle.hour.proofs.reading.check_each.Goals as goal

pub returns-in_err-check : goal.returns-in_err-check
returns-in_err-check g c =
    let e = g.E.Entry in
    let fault = λ (k : ℕ). e.fault c.args.zones (e.place c.args.bids k) (e.said c.args.bytes.now (e.place c.args.bids k)) in
    let here : fault c.loop-k.k ≡ Some c.in_err-check.field-0.0 = search rules in
    let found = first_some fault c.loop-k.k c.args.count _ c.loop-k-test.true c.loop-k.invariant here in
    search rules
