use Rattle.std.proofs.Common.{◌≡◌, get_or, None}
use Rattle.hour.specs.First.{first}
use Rattle.hour.proofs.writing.check_each.Given as goal

abbrev pub invariant-loop-k : goal.invariant-loop-k
invariant-loop-k g l =
    let e = g.E.Entry in
    first l.k (λ k. e.fault l.zones (e.place l.bids k) (get_or l.list k e.absent)) ≡ None
