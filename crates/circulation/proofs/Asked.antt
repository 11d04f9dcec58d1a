-- A zone that is asked, on tables: when its closed way can be walked. Assumes nothing.
use Rattle.std.proofs.Common.{◌≡◌, ℕ, ◌<◌, true}
use mathlib.Core.Path.{subst⁻¹}
use Rattle.std.specs.List.{AllByRecursion}
use Rattle.hour.specs.Market.{Market, Outcome, Proper, Plain}
use Rattle.network.specs.Ways.{Fits}
use Rattle.paths.proofs.WaysOut.{pays_off}
use Rattle.paths.specs.Plan.{Plan, Planned, pays, closed_way}
use Rattle.circulation.specs.Pushable.{Ready}
use Rattle.circulation.specs.Sweep.{bottleneck}
use Rattle.circulation.proofs.Bottleneck.{bottleneck_fits, free_among}

pub ready_pays :
    (m : Market) (o : Outcome) (t : Plan) → Proper m → Plain m → Planned m o t → (v : ℕ) → v < m.zones → pays t v ≡ true →
    Ready m t v
ready_pays m o t proper plain planned v below paid =
    let off = pays_off m o t proper plain planned v below paid in
    record { among = free_among m o (closed_way m t v) off.free; once = off.once }

pub ready_fits :
    (m : Market) (o : Outcome) (t : Plan) (v d : ℕ) → Ready m t v → d ≡ bottleneck m o (closed_way m t v) →
    AllByRecursion (Fits m o d) (closed_way m t v)
ready_fits m o t v d ready is =
    subst⁻¹ (λ x. AllByRecursion (Fits m o x) (closed_way m t v)) is (bottleneck_fits m o (closed_way m t v) ready.among)
