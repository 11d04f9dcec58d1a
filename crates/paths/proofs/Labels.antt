-- Laws of labels: no way beats one, they are unique, and a line leads on along each way. Assumes nothing.
use Rattle.std.proofs.Common.{◌≡◌, ℕ, zero, suc, ◌<◌, true, ◌&&◌, eqb, ltb, List, length, sym, refl, ap, ◌∙◌, subst, inl, inr, arith}
use mathlib.Core.Path.{subst⁻¹}
use Rattle.std.proofs.lemmas.Bool.{cases_lt, cases_eq, and_parts, and_from, or_left, or_right, or_cases, eqb-true, eq-eqb, ltb-true, lt-ltb, ne_eqb, cond-true, cond-false}
use Rattle.hour.specs.Market.{Market, Outcome, Proper, at, line}
use Rattle.network.specs.Ways.{room, item, start, finish}
use Rattle.network.specs.Network.{Among}
use Rattle.hour.specs.declared.items.Item.TheVariants.{Line}
use Rattle.network.specs.declared.arcs.Step.{Step}
use Rattle.network.specs.declared.arcs.Step.TheVariants.{Forward, Backward}
use Rattle.paths.specs.Labels.{Leads, Over, Along, NoBetter, BestLabels}
use Rattle.paths.specs.Plan.{nearer, onward, step_out}
use Rattle.paths.proofs.Best.{Passing}

pub record Joins (m : Market) (l v w : ℕ) : Type 0 where
  pub number : l < length m.lines
  pub from : v < m.zones
  pub to : w < m.zones

pub over_joins : (m : Market) (o : Outcome) (l v w : ℕ) → Proper m → Over m o l v w → Joins m l v w
over_joins m o l v w proper (inl leads) =
    let number : l < length m.lines = leads.free.among in
    omega (arith, proper.from l number, proper.to l number, leads.from, leads.to)
over_joins m o l v w proper (inr leads) =
    let number : l < length m.lines = leads.free.among in
    omega (arith, proper.from l number, proper.to l number, leads.from, leads.to)

pub no_better_over :
    (c k a b x y : ℕ) → NoBetter c k a b → NoBetter a (suc b) x y → NoBetter c (suc k) x y
no_better_over c k a b x y first then =
    record {
      worth = omega (arith, first.worth, then.worth);
      lines = λ e.
          omega (
            arith,
            first.lines (omega (arith, first.worth, then.worth)),
            then.lines (omega (arith, first.worth, then.worth)),
          );
    }

-- over line l a zone is ahead of v that is worth as much, over k lines
pub record Ahead (m : Market) (o : Outcome) (worth far : List ℕ) (v k l : ℕ) : Type 0 where
  pub zone : ℕ
  pub over : Over m o l v zone
  pub joins : Joins m l v zone
  pub as_much : at worth zone ≡ at worth v
  pub one_less : at far zone ≡ k

-- what the test for a line that leads on says
module _ (m : Market) (o : Outcome) (worth far : List ℕ) (v : ℕ) where
  pub ahead_onward : (k l : ℕ) → at far v ≡ suc k → Ahead m o worth far v k l → onward m o worth far v l ≡ true
  ahead_onward k l is ahead =
      elim ahead.over [
        | inl leads ↦ or_left _ _ (test (Forward (Line l)) leads)
        | inr leads ↦ or_right _ _ (test (Backward (Line l)) leads)
      ]
    where
      test :
          (s : Step) → Leads m o v ahead.zone s →
          (eqb (start m s) v && (ltb 0 (room m o s) && nearer worth far v (finish m s))) ≡ true
      test s leads =
          let same = eq-eqb _ _ (ap (at worth) leads.to ∙ ahead.as_much) in
          let near = eq-eqb _ _ (ap (λ w. suc (at far w)) leads.to ∙ ap suc ahead.one_less ∙ sym is) in
          and_from _ _ (eq-eqb _ _ leads.from)
          (and_from _ _ (lt-ltb _ _ leads.free.room) (and_from _ _ same near))

  -- the step s leads on from zone v
  pub record Onward (s : Step) : Type 0 where
    pub leads : Leads m o v (finish m s) s
    pub as_much : at worth (finish m s) ≡ at worth v
    pub one_less : suc (at far (finish m s)) ≡ at far v

  test_onward :
      (s : Step) (w : ℕ) → Among m (item s) → finish m s ≡ w →
      (eqb (start m s) v && (ltb 0 (room m o s) && nearer worth far v w)) ≡ true → Onward s
  test_onward s w among to on =
      let parts = and_parts _ _ on in
      let more = and_parts _ _ parts.1 in
      let near = and_parts _ _ more.1 in
      record {
        leads =
            record {
              free = record { among = among; room = ltb-true _ _ more.0 };
              from = eqb-true _ _ parts.0;
              to = refl;
            };
        as_much = ap (at worth) to ∙ eqb-true _ _ near.0;
        one_less = ap (λ x. suc (at far x)) to ∙ eqb-true _ _ near.1;
      }

  -- Idea: if the line begins in v, the way back along it would lead from v to v, which is not nearer.
  pub onward_out : (l : ℕ) → l < length m.lines → onward m o worth far v l ≡ true → Onward (step_out m v (Line l))
  onward_out l number on =
      elim (cases_eq (line m.lines l).from v) [
        | inl e ↦
            subst⁻¹ Onward (cond-true _ (Forward (Line l)) (Backward (Line l)) (eq-eqb _ _ e)) (forward e)
        | inr ne ↦
            subst⁻¹ Onward (cond-false _ (Forward (Line l)) (Backward (Line l)) (ne_eqb _ _ ne)) (backward ne)
      ]
    where
      forward : (line m.lines l).from ≡ v → Onward (Forward (Line l))
      forward e =
          elim (or_cases _ _ on) [
            | inl ahead ↦ test_onward (Forward (Line l)) (line m.lines l).to number refl ahead
            | inr back ↦
                let onward = test_onward (Backward (Line l)) (line m.lines l).from number refl back in
                absurd (omega (arith, onward.one_less, ap (at far) e))
          ]

      backward : ((line m.lines l).from ≡ v → ⊥) → Onward (Backward (Line l))
      backward ne =
          elim (or_cases _ _ on) [
            | inl ahead ↦
                absurd (ne (test_onward (Forward (Line l)) (line m.lines l).to number refl ahead).leads.from)
            | inr back ↦ test_onward (Backward (Line l)) (line m.lines l).from number refl back
          ]

module _ (m : Market) (o : Outcome) (worth far : List ℕ) (proper : Proper m) (best : BestLabels m o worth far) where
  -- Idea: the last zone's own taker is no better than its label, and each line passes that on to the zone before.
  pub along_no_better :
      (k v c : ℕ) → v < m.zones → Along m o k v c → 0 < c → NoBetter c k (at worth v) (at far v)
  along_no_better zero v c below way some =
      subst (λ x. NoBetter x 0 (at worth v) (at far v)) way (best.own v below (omega (arith, way)))
  along_no_better (suc k) v c below (l, w, over, way) some =
      let joins = over_joins m o l v w proper over in
      let rest = along_no_better k w c joins.to way some in
      no_better_over c k (at worth w) (at far w) (at worth v) (at far v) rest
      (best.over l v w below joins.to over (omega (arith, rest.worth)))

  -- a zone's way leads over a line to a zone that is worth as much, over one line less
  pub way_ahead :
      (v k : ℕ) → v < m.zones → 0 < at worth v → at far v ≡ suc k → (l : ℕ) × Ahead m o worth far v k l
  way_ahead v k below some is =
      let (l, w, over, rest) = subst (λ x. Along m o x v (at worth v)) is (best.way v below some) in
      let joins = over_joins m o l v w proper over in
      let there = along_no_better k w (at worth v) joins.to rest some in
      let here = best.over l v w below joins.to over (omega (arith, there.worth)) in
      let same : at worth w ≡ at worth v = omega (arith, there.worth, here.worth) in
      let near : at far w ≡ k = omega (arith, there.lines (sym same), here.lines same) in
      (l, record { zone = w; over = over; joins = joins; as_much = same; one_less = near })

  -- so the search for a line that leads on finds one
  pub onward_some :
      (v k : ℕ) → v < m.zones → 0 < at worth v → at far v ≡ suc k →
      (l : ℕ) × Passing (length m.lines) (onward m o worth far v) l
  onward_some v k below some is =
      let (l, ahead) = way_ahead v k below some is in
      (l, record { below = ahead.joins.number; passes = ahead_onward m o worth far v k l is ahead })

-- Idea: each list's ways are ways for the other's labels, and these are no better.
pub labels_agree :
    (m : Market) (o : Outcome) (worth far worth' far' : List ℕ) → Proper m → BestLabels m o worth far →
    BestLabels m o worth' far' → (v : ℕ) → v < m.zones → (at worth v ≡ at worth' v) × (at far v ≡ at far' v)
labels_agree m o worth far worth' far' proper best best' v below =
    elim (cases_lt 0 (at worth v)) [
      | inl some ↦
          let up = beaten some in
          let down = beaten' (omega (arith, up.worth)) in
          let same : at worth v ≡ at worth' v = omega (arith, up.worth, down.worth) in
          (same, omega (arith, up.lines same, down.lines (sym same)))
      | inr none ↦
          elim (cases_lt 0 (at worth' v)) [
            | inl some ↦ omega (arith, (beaten' some).worth)
            | inr none' ↦ omega (arith, best.none v below (omega arith), best'.none v below (omega arith))
          ]
    ]
  where
    beaten : 0 < at worth v → NoBetter (at worth v) (at far v) (at worth' v) (at far' v)
    beaten some =
        along_no_better m o worth' far' proper best' (at far v) v (at worth v) below (best.way v below some) some

    beaten' : 0 < at worth' v → NoBetter (at worth' v) (at far' v) (at worth v) (at far v)
    beaten' some =
        along_no_better m o worth far proper best (at far' v) v (at worth' v) below (best'.way v below some) some
