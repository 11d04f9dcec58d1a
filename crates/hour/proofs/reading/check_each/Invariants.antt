use Rattle.std.proofs.Common.{◌≡◌, None}
use Rattle.hour.specs.First.{first}
use Rattle.hour.proofs.reading.check_each.Given as goal

abbrev pub invariant-loop-k : goal.invariant-loop-k
invariant-loop-k g l =
    let e = g.E.Entry in
    first l.k (λ k. e.fault l.zones (e.place l.bids k) (e.said l.bytes (e.place l.bids k))) ≡ None
