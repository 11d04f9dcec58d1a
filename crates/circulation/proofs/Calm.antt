-- Labels as what nodes are worth: no free step out of a zone raises one, along a best way none falls. Assumes nothing.
use Rattle.std.proofs.Common.{◌≡◌, ℕ, ◌+◌, ◌<◌, ◌≤◌, cond, ltb, ◌≢◌, List, [], ◌∷◌, ap, inl, inr, arith}
use Rattle.std.specs.List.{AllByRecursion}
use Rattle.std.proofs.lemmas.Bool.{lt-ltb, le-ltb, cases_lt}
use Rattle.hour.specs.Market.{Market, Outcome, Proper, Plain, at}
use Rattle.network.specs.Network.{hub}
use Rattle.network.specs.Ways.{start, finish, step_cost, step_gain, Free, Links, way_cost, way_gain}
use Rattle.network.specs.declared.arcs.Step.{Step}
use Rattle.network.specs.declared.arcs.Step.TheVariants.{Forward, Backward}
use Rattle.paths.specs.Plan.{Plan, Planned}
use Rattle.paths.proofs.Steps.{free_kinds}

-- a zone's label, and 1 for the hub: one more than what the way from there is worth
abbrev pub label : Market → Plan → ℕ → ℕ
label m t n = cond (ltb n m.zones) (at t.worth n) 1

pub label_zone : (m : Market) (t : Plan) (z : ℕ) → z < m.zones → label m t z ≡ at t.worth z
label_zone m t z h = rw (lt-ltb z m.zones h)

pub label_hub : (m : Market) (t : Plan) → label m t (hub m) ≡ 1
label_hub m t = rw (le-ltb m.zones m.zones (omega arith))

-- a step out of a zone raises no label; a step lowers none
abbrev pub Calm : Market → Plan → Step → Type 0
Calm m t s = start m s ≢ hub m → label m t (finish m s) + step_gain m s ≤ label m t (start m s) + step_cost m s

abbrev pub Held : Market → Plan → Step → Type 0
Held m t s = label m t (start m s) + step_cost m s ≤ label m t (finish m s) + step_gain m s

abbrev pub back : Step → Step
back (Forward i) = Backward i
back (Backward i) = Forward i

pub calm_back : (m : Market) (t : Plan) (s : Step) → Held m t s → Calm m t (back s)
calm_back m t (Forward i) held apart = held
calm_back m t (Backward i) held apart = held

-- Idea: a step to the hub gains no more than the zone's taker is worth; a line is in the labels.
pub calm_free :
    (m : Market) (o : Outcome) (t : Plan) → Proper m → Plain m → Planned m o t → (s : Step) → Free m o s → Calm m t s
calm_free m o t proper plain planned s free apart =
    elim (free_kinds m o proper plain s free) [
      | inl to ↦
          let own = planned.labels.own (start m s) to.from (omega (arith, to.most)) in
          omega (
            arith,
            to.most,
            to.costs,
            own.worth,
            label_zone m t (start m s) to.from,
            ap (label m t) to.to,
            label_hub m t,
          )
      | inr (inl from) ↦ absurd (apart from.from)
      | inr (inr across) ↦
          elim (cases_lt 0 (at t.worth (finish m s))) [
            | inl some ↦
                let over =
                planned.labels.over across.number _ _ across.from across.to across.over some in
                omega (
                  arith,
                  over.worth,
                  across.gains,
                  label_zone m t (start m s) across.from,
                  label_zone m t (finish m s) across.to,
                )
            | inr none ↦ omega (arith, across.gains, label_zone m t (finish m s) across.to)
          ]
    ]

module _ (m : Market) (t : Plan) where
  -- Idea: add up the steps; between the ends the labels cancel.
  pub calm_way :
      (a : ℕ) (ss : List Step) (b : ℕ) → Links m a ss b → AllByRecursion (λ s. start m s ≢ hub m) ss →
      AllByRecursion (Calm m t) ss →
      label m t b + way_gain m ss ≤ label m t a + way_cost m ss
  calm_way a [] b links apart calm = omega (arith, ap (label m t) links)
  calm_way a (s ∷ ss) b links apart calm =
      omega (
        arith,
        calm_way (finish m s) ss b links.1 apart.1 calm.1,
        calm.0 apart.0,
        ap (label m t) links.0,
      )

  -- Idea: where the whole way is worth the label at its beginning, no step of it may lose any.
  pub held_way :
      (a : ℕ) (ss : List Step) (b : ℕ) → Links m a ss b → AllByRecursion (λ s. start m s ≢ hub m) ss →
      AllByRecursion (Calm m t) ss →
      label m t a + way_cost m ss ≤ label m t b + way_gain m ss → AllByRecursion (Held m t) ss
  held_way a [] b links apart calm worth = tt
  held_way a (s ∷ ss) b links apart calm worth =
      let here = calm.0 apart.0 in
      let rest = calm_way (finish m s) ss b links.1 apart.1 calm.1 in
      let begins = ap (label m t) links.0 in
      (omega arith, held_way (finish m s) ss b links.1 apart.1 calm.1 (omega arith))
