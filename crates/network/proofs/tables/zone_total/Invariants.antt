-- The sum is that of the first k items, each below 2 ^ 64.
use Rattle.std.proofs.Common.{◌≡◌, ◌-◌, ◌*◌, ◌^◌, ◌≤◌}
use Rattle.network.specs.Tables.{column_no}
use Rattle.network.proofs.Rows.{tagged_to}
use Rattle.network.proofs.tables.zone_total.Given as goal

abbrev pub invariant-loop-k : goal.invariant-loop-k
invariant-loop-k l =
    (l.sum ≡ tagged_to l.table l.amounts (column_no l.column) l.zone l.k) × (l.sum ≤ (2 ^ 64 - 1) * l.k)
