-- How each zone's way leaves it. Assumes nothing.
--
--   ExitsTo ..     out has the ways out of the zones below v, and the own takers from v on
--   Leaving ..     the same of a slice of ways, which have not changed otherwise
use Rattle.std.proofs.Common.{◌≡◌, ℕ, ◌+◌, ◌<◌, ◌≤◌, Bool, true, eqb, ◌≢◌, List, length, set, Some, None, Option, sym, refl, ap, ap₂, ◌∙◌, inl, inr, add-one, arith}
use mathlib.Core.Path.{subst⁻¹}
use Rattle.std.proofs.lemmas.List.{length-map, get_or-set_same, get_or-set_other}
use Rattle.std.proofs.lemmas.Bool.{cases_lt, cases_eq, cond-true, cond-false, eq-eqb, ne_eqb}
use Rattle.hour.proofs.First.{first_answer}
use Rattle.hour.specs.First.{when, first}
use Rattle.hour.specs.Market.{Market, Outcome, at}
use Rattle.paths.specs.Best.{numbered}
use Rattle.paths.specs.Bids.{bids, taker, worth_at, own}
use Rattle.paths.specs.Labels.{BestLabels}
use Rattle.paths.specs.Plan.{onward, first_onward, line_no, out_no}
use Rattle.paths.specs.Search.{KeepsAllButOut}
use Rattle.paths.specs.Ways.{way_at, worths, fars, outs}
use Rattle.paths.specs.declared.ways.Way.{Way}
use Rattle.paths.proofs.Zones.{out_set, far_kept, keeps_out}

module _ (m : Market) (o : Outcome) (worth far : List ℕ) where
  pub record ExitsTo (v : ℕ) (out : List ℕ) : Type 0 where
    pub done : (u : ℕ) → u < v → at out u ≡ out_no m o worth far u
    pub later : (u : ℕ) → v ≤ u → u < m.zones → at out u ≡ numbered (taker m o u)

  -- a zone with no way has no taker of its own
  no_taker : (b : Option ℕ) → worth_at m b ≡ 0 → numbered b ≡ 0
  no_taker None none = refl
  no_taker (Some k) none = absurd (omega arith)

  module _ (labels : BestLabels m o worth far) (v : ℕ) (below : v < m.zones) where
    own_none : at worth v ≡ 0 → own m o v ≡ 0
    own_none none =
        elim (cases_eq (own m o v) 0) [
          | inl e ↦ e
          | inr some ↦ let least = (labels.own v below (omega arith)).worth in omega arith
        ]

    own_exit : at far v ≡ 0 → numbered (taker m o v) ≡ out_no m o worth far v
    own_exit near =
        elim (cases_eq (at worth v) 0) [
          | inl none ↦
              no_taker (taker m o v) (own_none none)
              ∙ sym (cond-true (eqb (at worth v) 0) 0 _ (eq-eqb _ _ none))
          | inr some ↦
              sym
              (cond-false (eqb (at worth v) 0) 0 _ (ne_eqb _ _ some)
              ∙ cond-true (eqb (at far v) 0) (numbered (taker m o v)) _ (eq-eqb _ _ near))
        ]

    line_exit : at far v ≢ 0 → line_no m (first_onward m o worth far v) ≡ out_no m o worth far v
    line_exit away =
        sym
        (cond-false (eqb (at worth v) 0) 0 _ (ne_eqb _ _ (λ (none : at worth v ≡ 0). away (labels.none v below none)))
        ∙ cond-false (eqb (at far v) 0) (numbered (taker m o v)) _ (ne_eqb _ _ away))

    -- the way out of one more zone
    exits_more :
        (out out' : List ℕ) → ExitsTo v out → at out' v ≡ out_no m o worth far v →
        ((u : ℕ) → u ≢ v → at out' u ≡ at out u) → ExitsTo (v + 1) out'
    exits_more out out' before here elsewhere =
        record {
          done = λ u within.
              elim (cases_lt u v) [
                | inl earlier ↦ elsewhere u (omega arith) ∙ before.done u earlier
                | inr last ↦ let same : u ≡ v = omega arith in rw same here
              ];
          later = λ u from within. elsewhere u (omega arith) ∙ before.later u (omega arith) within;
        }

    exits_own : (out : List ℕ) → ExitsTo v out → at far v ≡ 0 → ExitsTo (v + 1) out
    exits_own out before near =
        exits_more out out before (before.later v (omega arith) below ∙ own_exit near) (λ u other. refl)

    exits_over :
        (out : List ℕ) (x : ℕ) → v < length out → ExitsTo v out → at far v ≢ 0 → x ≡ line_no m (first_onward m o worth far v) →
        ExitsTo (v + 1) (set out v x)
    exits_over out x inside before away is =
        exits_more out (set out v x) before (get_or-set_same out v x 0 inside ∙ (is ∙ line_exit away))
        (λ u other. get_or-set_other out v u x 0 other)

pub record Leaving (m : Market) (o : Outcome) (ways : List Way) (v : ℕ) (us : List Way) : Type 0 where
  pub exits : ExitsTo m o (worths ways) (fars ways) v (outs us)
  pub others : KeepsAllButOut ways us

-- the next zone's way is looked at
module _
    {m : Market} {o : Outcome} {ways us : List Way} {v : ℕ} (labels : BestLabels m o (worths ways) (fars ways))
    (below : v < m.zones) (before : Leaving m o ways v us)
  where
    pub leaves_own : (way_at us v).far ≡ 0 → Leaving m o ways (v + 1) us
    leaves_own near =
        record {
          exits = exits_own _ _ _ _ labels v below (outs us) before.exits (far_kept ways us v before.others ∙ near);
          others = before.others;
        }

    leaves_over :
        {x : ℕ} {line : Option ℕ} → v < length us → 0 < (way_at us v).far → line ≡ first_onward m o (worths us) (fars us) v →
        x ≡ line_no m line →
        Leaving m o ways (v + 1) (set us v (record (way_at us v) { out = x }))
    leaves_over {x} inside away first number =
        record {
          exits =
              subst⁻¹ (λ (xs : List ℕ). ExitsTo m o (worths ways) (fars ways) (v + 1) xs) (out_set us v x)
              (exits_over _ _ _ _ labels v below (outs us) x (omega (arith, length-map us (λ (w : Way). w.out)))
              before.exits (λ near. omega (arith, away, near, far_kept ways us v before.others))
              (number ∙ ap (line_no m) (first ∙ ap₂ (λ ws fs. first_onward m o ws fs v) before.others.worth before.others.far)));
          others = keeps_out ways us v x before.others;
        }

    -- the first l lines do not lead on
    module _
        {n l : ℕ} (all : n ≡ length m.lines) (inside : v < length us) (away : (way_at us v).far ≢ 0)
        (none : first l (λ j. when (onward m o (worths us) (fars us) v j) j) ≡ None)
      where
        pub leaves_found :
            {x : ℕ} → l < n → onward m o (worths us) (fars us) v l ≡ true → x ≡ bids m + l + 1 →
            Leaving m o ways (v + 1) (set us v (record (way_at us v) { out = x }))
        leaves_found less leads number =
            leaves_over inside (omega arith)
            (first_answer (λ j. when (onward m o (worths us) (fars us) v j) j) l (length m.lines) (Some l) (omega arith) none
            (ap (λ (b : Bool). when b l) (sym leads)) refl) (number ∙ add-one (bids m + l))

        pub leaves_nowhere : n ≤ l → l ≤ n → Leaving m o ways (v + 1) (set us v (record (way_at us v) { out = 0 }))
        leaves_nowhere over within =
            let same : l ≡ length m.lines = omega arith in
            leaves_over inside (omega arith)
            (sym none ∙ ap (λ k. first k (λ j. when (onward m o (worths us) (fars us) v j) j)) same) refl
