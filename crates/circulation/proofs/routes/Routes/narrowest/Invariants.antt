use Rattle.network.specs.Given.{market_given, outcome_given}
use Rattle.paths.specs.Plan.{closed_way}
use Rattle.circulation.specs.Routes.{routed, steps_left}
use Rattle.circulation.proofs.Bottleneck.{Narrows}
use Rattle.circulation.proofs.routes.Routes.narrowest.Given as goal

abbrev pub invariant-loop-step : goal.invariant-loop-step
invariant-loop-step l =
    Narrows (market_given l.self.tables) (outcome_given l.o) (routed closed_way l.self l.zone) l.least
    (steps_left l.step-iterator)
