-- A sweep zone by zone: what asking one zone does. Assumes nothing.
use Rattle.std.proofs.Common.{◌≡◌, ℕ, ◌<◌, true, false, ◌&&◌, ltb}
use Rattle.std.proofs.lemmas.Bool.{and_from, and_left, and_parts, cond-true, cond-false, cond_both, lt-ltb, ltb-true}
use Rattle.hour.specs.Market.{Market}
use Rattle.paths.specs.Plan.{Plan, pays, closed_way}
use Rattle.circulation.specs.Sweep.{bottleneck, Tally, pushed_full, asked}

module _ (m : Market) (t : Plan) (v : ℕ) (y : Tally) where
  -- how much fits along the zone's way now
  abbrev pub fitting : ℕ
  fitting = bottleneck m y.outcome (closed_way m t v)

  pub asked_unpaid : pays t v ≡ false → asked m t v y ≡ y
  asked_unpaid unpaid =
      cond-false _ (pushed_full m (closed_way m t v) y) y (and_left (pays t v) (ltb 0 fitting) unpaid)

  pub asked_pushes : pays t v ≡ true → 0 < fitting → asked m t v y ≡ pushed_full m (closed_way m t v) y
  asked_pushes paid some =
      cond-true _ (pushed_full m (closed_way m t v) y) y
      (and_from (pays t v) (ltb 0 fitting) paid (lt-ltb 0 fitting some))

  -- what holds before, and after a push that pays, holds after the zone was asked
  pub asked_keeps :
      (P : Tally → Type 0) → P y →
      (pays t v ≡ true → 0 < fitting → P (pushed_full m (closed_way m t v) y)) → P (asked m t v y)
  asked_keeps P before push =
      cond_both (pays t v && ltb 0 fitting) (pushed_full m (closed_way m t v) y) y P
      (λ on. let parts = and_parts (pays t v) (ltb 0 fitting) on in
      push parts.0 (ltb-true 0 fitting parts.1))
      (λ off. before)
