use Rattle.std.proofs.Common.{◌≡◌, ◌∷◌}
use Rattle.paths.specs.Plan.{closed_way}
use Rattle.circulation.specs.Routes.{routed, steps_left}
use Rattle.circulation.proofs.Bottleneck.{narrows_start}
use Rattle.circulation.proofs.routes.Routes.narrowest.Goals as goal

pub loop-step-init : goal.loop-step-init
loop-step-init c =
    let steps = routed closed_way c.args.self c.args.zone in
    let first : steps ≡ c.step_in.result ∷ steps_left c.into_iter-step-iterator.result = cc in
    narrows_start _ _ _ _ _ _ first c.room_for-least.ensures
