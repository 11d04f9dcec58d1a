use Rattle.paths.specs.Keys.{left}
use Rattle.paths.specs.Search.{Settling, KeepsBids, top}
use Rattle.paths.specs.Ways.{worths, fars}
use Rattle.paths.proofs.relax.settle.Given as goal

abbrev pub invariant-loop-from_last : goal.invariant-loop-from_last
invariant-loop-from_last l = Settling l.given.tables l.given.amounts l.ways × KeepsBids l.initial.ways l.ways

abbrev pub decreases-loop-from_last : goal.decreases-loop-from_last
decreases-loop-from_last l = left l.given.tables.zones top (worths l.ways) (fars l.ways)
