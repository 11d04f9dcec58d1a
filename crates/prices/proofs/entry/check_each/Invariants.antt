use Rattle.std.proofs.Common.{◌≡◌, None}
use Rattle.hour.specs.First.{first}
use Rattle.network.specs.Tables.{nth_row}
use Rattle.prices.proofs.entry.check_each.Given as goal

abbrev pub invariant-loop-k : goal.invariant-loop-k
invariant-loop-k g l =
    first l.k (λ k. g.E.Entry.fault l.zones (g.E.Entry.place l.bids k) (nth_row g.E.Row.made l.table k)) ≡ None
