use Rattle.std.proofs.Common.{◌≡◌, ◌≢◌, None}
use Rattle.hour.specs.First.{when, first}
use Rattle.network.specs.Given.{market_given, outcome_given}
use Rattle.paths.specs.Plan.{onward}
use Rattle.paths.specs.Ways.{way_at, worths, fars}
use Rattle.paths.proofs.Exits.{Leaving}
use Rattle.paths.proofs.search.ways_out.Given as goal

abbrev pub invariant-zones : goal.invariant-zones
invariant-zones l = Leaving (market_given l.given.tables) (outcome_given l.given.amounts) l.fn.ways l.v l.ways

abbrev pub invariant-loop-l : goal.invariant-loop-l
invariant-loop-l l =
    let m = market_given l.given.tables in
    let o = outcome_given l.given.amounts in record {
      before : Leaving m o l.fn.ways l.v l.ways;
      away : (way_at l.ways l.v).far ≢ 0;
      none : first l.l (λ j. when (onward m o (worths l.ways) (fars l.ways) l.v j) j) ≡ None;
    }
