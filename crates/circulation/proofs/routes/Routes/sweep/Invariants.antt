use Rattle.std.proofs.Common.{◌≡◌, ◌≤◌}
use Rattle.network.specs.Tables.{outcome_in}
use Rattle.circulation.specs.Routes.{routed}
use Rattle.circulation.specs.Sweep.{swept, tally}
use Rattle.circulation.proofs.routes.Routes.sweep.Given as goal

abbrev pub invariant-loop-zone : goal.invariant-loop-zone
invariant-loop-zone l =
    (routed swept l.self l.zone (outcome_in l.initial.bought l.initial.sold l.initial.flow)
    ≡ tally (outcome_in l.bought l.sold l.flow) l.pushes)
    × (l.pushes ≤ l.zone)
