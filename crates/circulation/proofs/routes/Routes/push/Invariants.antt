use Rattle.network.specs.Given.{market_given}
use Rattle.network.specs.Tables.{outcome_in}
use Rattle.paths.specs.Plan.{closed_way}
use Rattle.circulation.specs.Routes.{routed, steps_left}
use Rattle.circulation.proofs.Walked.{Walks}
use Rattle.circulation.proofs.routes.Routes.push.Given as goal

abbrev pub invariant-loop-step : goal.invariant-loop-step
invariant-loop-step l =
    Walks (market_given l.self.tables) l.d (outcome_in l.fn.bought l.fn.sold l.fn.flow)
    (routed closed_way l.self l.zone)
    (outcome_in l.bought l.sold l.flow) (steps_left l.step-iterator)
