-- The sum is the worth of the first k bids, and fits.
use Rattle.std.proofs.Common.{◌≡◌, ◌^◌, ◌<◌}
use Rattle.network.specs.Tables.{bids_in}
use Rattle.network.proofs.Rows.{worth_to}
use Rattle.network.proofs.tables.bids_worth.Given as goal

abbrev pub invariant-loop-k : goal.invariant-loop-k
invariant-loop-k l = (l.sum ≡ worth_to (bids_in l.bids) l.amounts l.k) × (l.sum < 2 ^ 128)
