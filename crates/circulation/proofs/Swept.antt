-- A sweep: each zone that pays pushes, and the first of them always does. Assumes nothing.
use Rattle.std.proofs.Common.{◌≡◌, ℕ, zero, suc, ◌<◌, ◌≤◌, true, false, is_some, Some, refl, ap, ◌∙◌, inl, inr, arith}
use Rattle.std.proofs.lemmas.Bool.{cases_eq}
use Rattle.hour.specs.Market.{Market, Outcome, Proper, Plain, Feasible}
use Rattle.network.specs.Network.{hub}
use Rattle.paths.specs.Plan.{Plan, Planned, pays, closed_way, way_out, first_paying}
use Rattle.paths.specs.Promises.{PaysOff}
use Rattle.paths.proofs.WaysOut.{pays_off}
use Rattle.circulation.specs.Sweep.{bottleneck, Tally, asked, swept}
use Rattle.circulation.specs.Run.{Pays}
use Rattle.circulation.specs.Promises.{StepsSound}
use Rattle.circulation.proofs.Bottleneck.{bottleneck_fits, bottleneck_some, free_among}
use Rattle.circulation.proofs.Pushed.{sound_none, sound_more}
use Rattle.circulation.proofs.Sweeping.{fitting, asked_unpaid, asked_pushes, asked_keeps}
use Rattle.circulation.proofs.Paying.{first_pays, some_pays}

-- a way that paid when the tables were made pays in whatever outcome it has room
pub pays_now :
    (m : Market) (o q : Outcome) (t : Plan) (v : ℕ) → PaysOff m o t v → 0 < bottleneck m q (closed_way m t v) →
    Pays m q (closed_way m t v) (bottleneck m q (closed_way m t v))
pays_now m o q t v off some =
    record {
      node = hub m;
      closed = off.links;
      once = off.once;
      some = some;
      fits = bottleneck_fits m q (closed_way m t v) (free_among m o (closed_way m t v) off.free);
      gains = off.gains;
    }

-- zones that do not pay change nothing
pub swept_none :
    (m : Market) (o : Outcome) (t : Plan) (n : ℕ) → ((v : ℕ) → v < n → pays t v ≡ false) →
    swept m t n o ≡ record { outcome = o; pushes = 0 }
swept_none m o t zero none = refl
swept_none m o t (suc n) none =
    asked_unpaid m t n (swept m t n o) (none n (omega arith)) ∙ swept_none m o t n (λ v h. none v (omega arith))

pub pushes_grow :
    (m : Market) (o : Outcome) (t : Plan) (k n : ℕ) → k ≤ n → (swept m t k o).pushes ≤ (swept m t n o).pushes
pushes_grow m o t k zero h =
    let none : k ≡ 0 = omega arith in
    omega (arith, ap (λ j. (swept m t j o).pushes) none)
pushes_grow m o t k (suc n) h =
    elim (cases_eq k (suc n)) [
      | inl e ↦ omega (arith, ap (λ j. (swept m t j o).pushes) e)
      | inr ne ↦ omega (arith, pushes_grow m o t k n (omega arith), grows (swept m t n o))
    ]
  where
    grows : (y : Tally) → y.pushes ≤ (asked m t n y).pushes
    grows y = asked_keeps m t n y (λ z. y.pushes ≤ z.pushes) (omega arith) (λ paid some. omega arith)

module _ (m : Market) (o : Outcome) (t : Plan) (proper : Proper m) (plain : Plain m) (planned : Planned m o t) where
  -- Idea: a zone that pays pushes along a way that is closed and gains, whatever was pushed before; others do nothing.
  pub asked_sound :
      (v : ℕ) → v < m.zones → (y : Tally) → StepsSound m o y.outcome y.pushes →
      StepsSound m o (asked m t v y).outcome (asked m t v y).pushes
  asked_sound v h y sound =
      asked_keeps m t v y (λ z. StepsSound m o z.outcome z.pushes) sound
      (λ paid some. sound_more m o y.outcome y.pushes (closed_way m t v) (fitting m t v y) sound
      (pays_now m o y.outcome t v (pays_off m o t proper plain planned v h paid) some))

  pub swept_sound :
      Feasible m o → (n : ℕ) → n ≤ m.zones → StepsSound m o (swept m t n o).outcome (swept m t n o).pushes
  swept_sound f zero h = sound_none m o f
  swept_sound f (suc n) h = asked_sound n (omega arith) (swept m t n o) (swept_sound f n (omega arith))

  -- a zone whose way is free, asked of the outcome that the tables are of, pushes
  asked_first :
      (v : ℕ) → v < m.zones → pays t v ≡ true → (y : Tally) → y ≡ record { outcome = o; pushes = 0 } →
      (asked m t v y).pushes ≡ 1
  asked_first v h paid y e =
      let start : Tally = record { outcome = o; pushes = 0 } in
      let some = bottleneck_some m o _ (way_out m t _ v) (pays_off m o t proper plain planned v h paid).free in
      ap (λ z. (asked m t v z).pushes) e ∙ ap (λ z. z.pushes) (asked_pushes m t v start paid some)

  -- Idea: the zones before the first that pays change nothing, so its way is still free; later zones only add pushes.
  pub first_pushes : (v : ℕ) → first_paying m t ≡ Some v → 0 < (swept m t m.zones o).pushes
  first_pushes v e =
      let found = first_pays m t v e in
      let before = swept_none m o t v found.before in
      let one = asked_first v found.below found.holds (swept m t v o) before in
      omega (arith, one, pushes_grow m o t (suc v) m.zones found.below)

  pub some_pushes : is_some (first_paying m t) ≡ true → 0 < (swept m t m.zones o).pushes
  some_pushes some =
      let (v, e) = some_pays m t some in
      first_pushes v e
