-- Labels never rise from one search to the next. Assumes nothing.
use Rattle.std.proofs.Common.{◌≡◌, ℕ, zero, suc, ◌+◌, ◌-◌, ◌<◌, ◌≤◌, true, ltb, ◌≢◌, ◌⊎◌, List, [], ◌∷◌, sym, ap, ◌∙◌, subst, inl, inr, arith}
use Rattle.std.specs.List.{AllByRecursion}
use Rattle.std.proofs.ByRecursion.{All-weaker}
use Rattle.std.proofs.lemmas.Bool.{and_parts, cases_lt, ltb-true}
use Rattle.hour.specs.Market.{Market, Outcome, Proper, Plain, at}
use Rattle.network.specs.Network.{hub, carried}
use Rattle.network.specs.Ways.{start, finish, step_cost, step_gain, room, Free, Links, moved, pushed}
use Rattle.hour.specs.declared.items.Item.TheVariants.{Line}
use Rattle.network.specs.declared.arcs.Step.{Step}
use Rattle.network.specs.declared.arcs.Step.TheVariants.{Forward, Backward}
use Rattle.network.proofs.Plain.{line_cost}
use Rattle.network.proofs.Ways.{carries}
use Rattle.paths.specs.Bids.{item_no, taking, taker, own}
use Rattle.paths.specs.Labels.{Leads, Along}
use Rattle.paths.specs.Plan.{Plan, Planned, pays, closed_way, way_out}
use Rattle.paths.specs.Promises.{PaysOff}
use Rattle.paths.proofs.WaysOut.{way_shown, pays_off}
use Rattle.paths.proofs.Bids.{bid_numbered, taking_goes, worth_some, taker_found}
use Rattle.circulation.specs.Sweep.{Tally, asked, swept}
use Rattle.circulation.specs.Promises.{LabelsFall}
use Rattle.circulation.proofs.Sweeping.{fitting, asked_keeps}
use Rattle.circulation.proofs.Calm.{label, label_zone, label_hub, Calm, Held, back, calm_back, calm_free, held_way}

-- Idea: a push takes room along its own step and makes room only the way back.
pub room_back :
    (m : Market) (o : Outcome) (d : ℕ) (s x : Step) → 0 < room m (moved o s d) x → (0 < room m o x) ⊎ (x ≡ back s)
room_back m o d (Forward i) (Forward j) some =
    elim (carries o i (carried o i + d) j) [
      | inl (e, is) ↦ inl (omega (arith, ap (carried o) e, is))
      | inr same ↦ inl (omega (arith, same))
    ]
room_back m o d (Forward i) (Backward j) some =
    elim (carries o i (carried o i + d) j)
    [ inl (e, is) ↦ inr (ap Backward (sym e)) | inr same ↦ inl (omega (arith, same)) ]
room_back m o d (Backward i) (Forward j) some =
    elim (carries o i (carried o i - d) j)
    [ inl (e, is) ↦ inr (ap Forward (sym e)) | inr same ↦ inl (omega (arith, same)) ]
room_back m o d (Backward i) (Backward j) some =
    elim (carries o i (carried o i - d) j) [
      | inl (e, is) ↦ inl (omega (arith, ap (carried o) e, is))
      | inr same ↦ inl (omega (arith, same))
    ]

-- what holds of all free steps, and of the way back along each step of a push, holds of all that are free afterwards
pub free_pushed :
    (m : Market) (P : Step → Type 0) (d : ℕ) (ss : List Step) (o : Outcome) → ((x : Step) → Free m o x → P x) →
    AllByRecursion (λ s. P (back s)) ss → (x : Step) → Free m (pushed o ss d) x → P x
free_pushed m P d [] o before all = before
free_pushed m P d (s ∷ ss) o before all = free_pushed m P d ss (moved o s d) one all.1
  where
    one : (x : Step) → Free m (moved o s d) x → P x
    one x free =
        elim (room_back m o d s x free.room) [
          | inl some ↦ before x (record { among = free.among; room = some })
          | inr e ↦ subst P (sym e) all.0
        ]

way_begins :
    (m : Market) (t : Plan) (k v a b c : ℕ) → Links m a (way_out m t k v) c → Links m b (way_out m t k v) c → a ≡ b
way_begins m t zero v a b c one other = sym one.0 ∙ other.0
way_begins m t (suc k) v a b c one other = sym one.0 ∙ other.0

module _ (m : Market) (o : Outcome) (t : Plan) (proper : Proper m) (plain : Plain m) (planned : Planned m o t) where
  -- Idea: the way from a zone is worth its label, so no step of it loses any; and the giver asks for less than that.
  pub closed_held :
      (v : ℕ) → 0 < at t.worth v → PaysOff m o t v → AllByRecursion (Held m t) (closed_way m t v)
  closed_held v some off =
      let way = way_shown m o t proper plain planned v off.zone some in
      let ws = way_out m t (at t.far v) v in
      let ends = way_begins m t (at t.far v) v _ v (hub m) off.links.1 way.links in
      let at_v = ap (label m t) ends ∙ label_zone m t v off.zone in
      let at_hub = label_hub m t in
      let begins = ap (label m t) off.links.0 in
      let apart = All-weaker _ (λ s. start m s ≢ hub m) (λ s ne e. ne (e ∙ sym off.links.0)) ws off.once.0 in
      let calm = All-weaker (Free m o) (Calm m t) (calm_free m o t proper plain planned) ws way.free in
      let rest =
      held_way m t v ws (hub m) way.links apart calm
      (omega (arith, way.worth, label_zone m t v off.zone, at_hub)) in
      (omega (arith, off.gains, way.worth, at_v, at_hub, begins), rest)

  calm_asked :
      (v : ℕ) → v < m.zones → (y : Tally) → ((x : Step) → Free m y.outcome x → Calm m t x) →
      (x : Step) → Free m (asked m t v y).outcome x → Calm m t x
  calm_asked v h y before =
      asked_keeps m t v y (λ z. (x : Step) → Free m z.outcome x → Calm m t x) before (λ paid fits. after paid)
    where
      after :
          pays t v ≡ true → (x : Step) → Free m (pushed y.outcome (closed_way m t v) (fitting m t v y)) x →
          Calm m t x
      after paid =
          let asks = ltb-true _ _ (and_parts (ltb 0 (at t.ask v)) _ paid).1 in
          let some : 0 < at t.worth v = omega (arith, asks) in
          let held = closed_held v some (pays_off m o t proper plain planned v h paid) in
          free_pushed m (Calm m t) (fitting m t v y) (closed_way m t v) y.outcome before
          (All-weaker (Held m t) (λ s. Calm m t (back s)) (calm_back m t) (closed_way m t v) held)

  pub calm_swept :
      (n : ℕ) → n ≤ m.zones → (x : Step) → Free m (swept m t n o).outcome x → Calm m t x
  calm_swept zero h = calm_free m o t proper plain planned
  calm_swept (suc n) h =
      calm_asked n (omega arith) (swept m t n o) (calm_swept n (omega arith))

-- Idea: no free step raises the old labels, so no way through free steps is worth more than they say.
module _ (m : Market) (p : Outcome) (t : Plan) (proper : Proper m) (plain : Plain m) (calm : (x : Step) → Free m p x → Calm m t x) where
  hub_bound :
      (s : Step) (z : ℕ) → z < m.zones → Free m p s → start m s ≡ z → finish m s ≡ hub m →
      suc (step_gain m s) ≤ at t.worth z + step_cost m s
  hub_bound s z h free from to =
      omega (
        arith,
        calm s free (λ e. omega (arith, e)),
        ap (label m t) from,
        ap (label m t) to,
        label_zone m t z h,
        label_hub m t,
      )

  line_bound :
      (s : Step) (v w : ℕ) → v < m.zones → w < m.zones → Leads m p v w s →
      at t.worth w + step_gain m s ≤ at t.worth v + step_cost m s
  line_bound s v w h k leads =
      omega (
        arith,
        calm s leads.free (λ e. omega (arith, e, leads.from)),
        ap (label m t) leads.from,
        ap (label m t) leads.to,
        label_zone m t v h,
        label_zone m t w k,
      )

  -- the zone's taker is a bid with a free step to the hub
  own_bound : (z : ℕ) → z < m.zones → own m p z ≤ at t.worth z
  own_bound z h =
      elim (cases_lt 0 (own m p z)) [
        | inl some ↦
            let (k, taken) = worth_some m (taker m p z) some in
            let found = taker_found m p z k taken in
            let goes = taking_goes m (item_no m k) (bid_numbered m k found.below).bid in
            let step = hub_bound (taking (item_no m k)) z h found.free (goes.from ∙ found.zone) goes.to in
            omega (arith, found.worth, goes.gains, goes.costs)
        | inr none ↦ omega arith
      ]

  pub along_bound : (k v c : ℕ) → v < m.zones → Along m p k v c → c ≤ at t.worth v
  along_bound zero v c h own = omega (arith, own, own_bound v h)
  along_bound (suc k) v c h (l, w, inl leads, rest) =
      let below : w < m.zones = omega (arith, proper.to l leads.free.among, leads.to) in
      omega (arith, line_bound (Forward (Line l)) v w h below leads, along_bound k w c below rest, line_cost m plain l)
  along_bound (suc k) v c h (l, w, inr leads, rest) =
      let below : w < m.zones = omega (arith, proper.from l leads.free.among, leads.to) in
      omega (arith, line_bound (Backward (Line l)) v w h below leads, along_bound k w c below rest)

pub labels_fall : LabelsFall
labels_fall m o s t proper plain f planned after v h =
    let calm = calm_swept m o s proper plain planned m.zones (omega arith) in
    elim (cases_lt 0 (at t.worth v)) [
      | inl some ↦
          along_bound m (swept m s m.zones o).outcome s proper plain calm (at t.far v) v (at t.worth v) h
          (after.labels.way v h some)
      | inr none ↦ omega arith
    ]
