-- Labels on the way to the best: a raise keeps them, and where no line raises one they are best. Assumes nothing.
--
--   StepRaises                   a free step that raises a label
--   Unraised                     no step along a line does
use Rattle.std.proofs.Common.{◌≡◌, ℕ, suc, ◌+◌, ◌<◌, ◌≤◌, ◌≢◌, ◌⊎◌, List, length, set, sym, ap, subst₂, inl, inr, arith}
use mathlib.Core.Path.{subst⁻¹}
use Rattle.std.proofs.lemmas.List.{get_or-set_same, get_or-set_other}
use Rattle.std.proofs.lemmas.Bool.{cases_eq, cases_lt}
use Rattle.hour.specs.Market.{Market, Outcome, Proper, at}
use Rattle.network.specs.Ways.{Free, start, finish}
use Rattle.hour.specs.declared.items.Item.TheVariants.{Line}
use Rattle.network.specs.declared.arcs.Step.{Step}
use Rattle.network.specs.declared.arcs.Step.TheVariants.{Forward, Backward}
use Rattle.paths.specs.Bids.{own}
use Rattle.paths.specs.Labels.{Leads, Over, Along, NoBetter, BestLabels}
use Rattle.paths.specs.Keys.{Raises}
use Rattle.paths.specs.Search.{Reaching}
use Rattle.paths.proofs.Keys.{keyed_start, keyed_raised}
use Rattle.paths.proofs.Labels.{Joins, over_joins}

-- each zone's own taker, over no line
pub reaching_start :
    (m : Market) (o : Outcome) (top : ℕ) (worth far : List ℕ) → length worth ≡ m.zones → length far ≡ m.zones →
    ((v : ℕ) → v < m.zones → at worth v ≡ own m o v) → ((v : ℕ) → v < m.zones → at far v ≡ 0) →
    ((v : ℕ) → v < m.zones → own m o v ≤ top) → Reaching m o top worth far
reaching_start m o top worth far worth_long far_long owns nears most =
    record {
      keyed =
          keyed_start m.zones top worth far worth_long far_long (λ v h. omega (arith, owns v h, most v h)) nears;
      way = λ v h some. subst⁻¹ (λ k. Along m o k v (at worth v)) (nears v h) (sym (owns v h));
      none = λ v h none. nears v h;
      own = λ v h some. record { worth = omega (arith, owns v h); lines = λ e. omega (arith, nears v h) };
    }

-- a raise makes a label better
no_better_raised :
    (c k a b x y : ℕ) → NoBetter c k a b → (a < x) ⊎ ((a ≡ x) × (y < b)) → NoBetter c k x y
no_better_raised c k a b x y old (inl l) =
    record { worth = omega (arith, old.worth); lines = λ e. omega (arith, old.worth) }
no_better_raised c k a b x y old (inr (e, l)) =
    record { worth = omega (arith, old.worth); lines = λ is. omega (arith, old.lines (omega arith)) }

-- Idea: the new way goes over the line and on along the way of w; every other label stays.
pub reaching_raised :
    (m : Market) (o : Outcome) (top : ℕ) (worth far : List ℕ) (l v w : ℕ) → Proper m → Reaching m o top worth far →
    Over m o l v w → 0 < at worth w → Raises worth far v w →
    Reaching m o top (set worth v (at worth w)) (set far v (at far w + 1))
reaching_raised m o top worth far l v w proper r over some raises =
    record {
      keyed = keyed_raised m.zones top worth far v w r.keyed joins.from joins.to raises;
      way = λ u h positive. elim (cases_eq u v) [
        | inl e ↦
            subst⁻¹ Way e
            (subst₂ (λ x y. Along m o x v y) far_here (sym worth_here) (l, w, over, r.way w joins.to some))
        | inr ne ↦
            subst₂ (λ x y. Along m o x u y) (sym (far_there u ne)) (sym (worth_there u ne))
            (r.way u h (omega (arith, worth_there u ne)))
      ];
      none = λ u h none. elim (cases_eq u v) [
        | inl e ↦ omega (arith, worth_here, ap (at (set worth v (at worth w))) e)
        | inr ne ↦ omega (arith, r.none u h (omega (arith, worth_there u ne)), far_there u ne)
      ];
      own = λ u h positive. elim (cases_eq u v) [
        | inl e ↦ subst⁻¹ Own e (λ at_v. better_here (r.own v joins.from at_v)) positive
        | inr ne ↦
            subst₂ (λ x y. NoBetter (own m o u) 0 x y) (sym (worth_there u ne)) (sym (far_there u ne))
            (r.own u h positive)
      ];
    }
  where
    joins : Joins m l v w
    joins = over_joins m o l v w proper over

    worth_here : at (set worth v (at worth w)) v ≡ at worth w
    worth_here = get_or-set_same worth v (at worth w) 0 (omega (arith, joins.from, r.keyed.worth_long))

    far_set : at (set far v (at far w + 1)) v ≡ at far w + 1
    far_set = get_or-set_same far v (at far w + 1) 0 (omega (arith, joins.from, r.keyed.far_long))

    far_here : suc (at far w) ≡ at (set far v (at far w + 1)) v
    far_here = omega (arith, far_set)

    worth_there : (u : ℕ) → u ≢ v → at (set worth v (at worth w)) u ≡ at worth u
    worth_there u ne = get_or-set_other worth v u (at worth w) 0 ne

    far_there : (u : ℕ) → u ≢ v → at (set far v (at far w + 1)) u ≡ at far u
    far_there u ne = get_or-set_other far v u (at far w + 1) 0 ne

    Way : ℕ → Type 0
    Way u = Along m o (at (set far v (at far w + 1)) u) u (at (set worth v (at worth w)) u)

    Own : ℕ → Type 0
    Own u = 0 < own m o u → NoBetter (own m o u) 0 (at (set worth v (at worth w)) u) (at (set far v (at far w + 1)) u)

    better_here :
        NoBetter (own m o v) 0 (at worth v) (at far v) →
        NoBetter (own m o v) 0 (at (set worth v (at worth w)) v) (at (set far v (at far w + 1)) v)
    better_here old =
        subst₂ (λ x y. NoBetter (own m o v) 0 x y) (sym worth_here) (sym far_set)
        (no_better_raised _ _ _ _ _ _ old raises)

-- a step is free and raises the label of the zone where it begins
pub record StepRaises (m : Market) (o : Outcome) (worth far : List ℕ) (s : Step) : Type 0 where
  pub free : Free m o s
  pub some : 0 < at worth (finish m s)
  pub raises : Raises worth far (start m s) (finish m s)

-- no step along line l does
abbrev pub Unraised : Market → Outcome → List ℕ → List ℕ → ℕ → Type 0
Unraised m o worth far l = (v w : ℕ) → Over m o l v w → 0 < at worth w → Raises worth far v w → ⊥

leads_raises :
    (m : Market) (o : Outcome) (worth far : List ℕ) (s : Step) (v w : ℕ) → Leads m o v w s → 0 < at worth w →
    Raises worth far v w → StepRaises m o worth far s
leads_raises m o worth far s v w leads some raises =
    record {
      free = leads.free;
      some = omega (arith, some, ap (at worth) leads.to);
      raises = subst₂ (λ x y. Raises worth far x y) (sym leads.from) (sym leads.to) raises;
    }

pub unraised_line :
    (m : Market) (o : Outcome) (worth far : List ℕ) (l : ℕ) →
    (StepRaises m o worth far (Forward (Line l)) → ⊥) → (StepRaises m o worth far (Backward (Line l)) → ⊥) →
    Unraised m o worth far l
unraised_line m o worth far l ahead back v w (inl leads) some raises =
    ahead (leads_raises m o worth far (Forward (Line l)) v w leads some raises)
unraised_line m o worth far l ahead back v w (inr leads) some raises =
    back (leads_raises m o worth far (Backward (Line l)) v w leads some raises)

pub best_unraised :
    (m : Market) (o : Outcome) (top : ℕ) (worth far : List ℕ) → Proper m → Reaching m o top worth far →
    ((l : ℕ) → l < length m.lines → Unraised m o worth far l) → BestLabels m o worth far
best_unraised m o top worth far proper r unraised =
    record {
      way = r.way;
      none = r.none;
      own = r.own;
      over = λ l v w v_below w_below over some.
          let still = unraised l (over_joins m o l v w proper over).number v w over some in
          elim (cases_lt (at worth v) (at worth w)) [
            | inl more ↦ absurd (still (inl more))
            | inr le ↦
                record {
                  worth = le;
                  lines = λ e. elim (cases_lt (at far w + 1) (at far v))
                      [ inl more ↦ absurd (still (inr (sym e, more))) | inr near ↦ omega arith ];
                }
          ];
    }
