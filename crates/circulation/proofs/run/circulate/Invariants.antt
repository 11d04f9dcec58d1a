use Rattle.std.proofs.Common.{◌-◌}
use Rattle.network.specs.Tables.{outcome_in}
use Rattle.network.specs.Given.{market_given}
use Rattle.circulation.specs.Promises.{StepsSound, value, top}
use Rattle.circulation.proofs.Runs.{RunsOn}
use Rattle.circulation.proofs.run.circulate.Given as goal

abbrev pub invariant-loop-t : goal.invariant-loop-t
invariant-loop-t l =
    RunsOn (market_given l.t) (outcome_in l.initial.bought l.initial.sold l.initial.flow)
    l.pushes (outcome_in l.bought l.sold l.flow)
    × StepsSound (market_given l.t) (outcome_in l.initial.bought l.initial.sold l.initial.flow)
    (outcome_in l.bought l.sold l.flow) l.pushes

abbrev pub decreases-loop-t : goal.decreases-loop-t
decreases-loop-t l =
    top (market_given l.t) - value (market_given l.t) (outcome_in l.bought l.sold l.flow)
