-- One label raised, or not: what holds of the labels afterwards. Assumes nothing.
use Rattle.std.proofs.Common.{◌≡◌, ℕ, suc, ◌+◌, ◌<◌, ◌≤◌, Bool, true, false, cond, eqb, ltb, List, set, sym, refl, ap, ◌∙◌, subst₂, inl, inr, arith}
use Rattle.std.proofs.lemmas.List.{map-set}
use Rattle.std.proofs.lemmas.Bool.{or_cases, or_parts, and_parts, and_cases, ltb-true, ltb-false, eqb-true, eqb-false}
use Rattle.hour.specs.Market.{Proper, at}
use Rattle.network.specs.declared.tables.Amounts.{Amounts}
use Rattle.network.specs.declared.tables.Tables.{Tables}
use Rattle.paths.specs.Keys.{Raises, left}
use Rattle.paths.specs.Labels.{Over, NoBetter}
use Rattle.network.specs.Given.{market_given, outcome_given}
use Rattle.paths.specs.Search.{rises, Reaching, Settling, Raised, top}
use Rattle.paths.specs.Ways.{way_at, way_better, over_line, worths, fars}
use Rattle.paths.specs.declared.ways.Way.{Way}
use Rattle.paths.proofs.Keys.{left_falls}
use Rattle.paths.proofs.Raising.{reaching_raised}
use Rattle.paths.proofs.Zones.{worth_is, far_is, keeps_same, keeps_over}

-- the test of the code, in words
module _ (worth far : List ℕ) (v w : ℕ) where
  pub rises_raises : rises worth far v w ≡ true → Raises worth far v w
  rises_raises yes_rises =
      elim (or_cases _ _ yes_rises) [
        | inl more ↦ inl (ltb-true _ _ more)
        | inr both ↦
            let parts = and_parts (eqb (at worth v) (at worth w)) _ both in
            let rest = and_parts (ltb 0 (at worth w)) _ parts.1 in
            inr (eqb-true _ _ parts.0, omega (arith, ltb-true (suc (at far w)) (at far v) rest.1))
      ]

  pub rises_some : rises worth far v w ≡ true → 0 < at worth w
  rises_some yes_rises =
      elim (or_cases _ _ yes_rises) [
        | inl more ↦ let less : at worth v < at worth w = ltb-true (at worth v) (at worth w) more in omega arith
        | inr both ↦
            let parts = and_parts (eqb (at worth v) (at worth w)) _ both in
            ltb-true _ _ (and_parts (ltb 0 (at worth w)) _ parts.1).0
      ]

  pub no_rise :
      rises worth far v w ≡ false → 0 < at worth w → NoBetter (at worth w) (suc (at far w)) (at worth v) (at far v)
  no_rise none some =
      let parts = or_parts (ltb (at worth v) (at worth w)) _ none in
      let less : at worth w ≤ at worth v = ltb-false _ _ parts.0 in
      record {
        worth = less;
        lines = λ (same : at worth w ≡ at worth v).
            elim (and_cases (eqb (at worth v) (at worth w)) _ parts.1) [
              | inl other ↦ absurd (eqb-false _ _ other (sym same))
              | inr rest ↦
                  elim (and_cases (ltb 0 (at worth w)) _ rest) [
                    | inl nothing ↦ absurd (omega (arith, ltb-false 0 (at worth w) nothing))
                    | inr near ↦ ltb-false _ _ near
                  ]
            ];
      }

-- the answer of a raise, and what it leaves
module _
    (t : Tables) (o : Amounts) (ways ways' : List Way) (l v w rose : ℕ)
    (proper : Proper (market_given t)) (before : Settling t o ways) (v_below : v < t.zones) (w_below : w < t.zones)
    (over : Over (market_given t) (outcome_given o) l v w)
    (answer : rose ≡ cond (way_better (way_at ways v) (way_at ways w)) 1 0)
    (new : ways'
    ≡ cond (way_better (way_at ways v) (way_at ways w)) (set ways v (over_line (way_at ways v) (way_at ways w))) ways)
  where
    better_rises : way_better (way_at ways v) (way_at ways w) ≡ rises (worths ways) (fars ways) v w
    better_rises = sym (rw (worth_is ways v, worth_is ways w, far_is ways v, far_is ways w))

    new_worth : worths (set ways v (over_line (way_at ways v) (way_at ways w))) ≡ set (worths ways) v (at (worths ways) w)
    new_worth = map-set (λ (x : Way). x.worth) ways v _ ∙ ap (set (worths ways) v) (sym (worth_is ways w))

    new_far : fars (set ways v (over_line (way_at ways v) (way_at ways w))) ≡ set (fars ways) v (at (fars ways) w + 1)
    new_far = map-set (λ (x : Way). x.far) ways v _ ∙ ap (λ k. set (fars ways) v (k + 1)) (sym (far_is ways w))

    After : Bool → Type 0
    After b =
        rises (worths ways) (fars ways) v w ≡ b → rose ≡ cond b 1 0 →
        ways' ≡ cond b (set ways v (over_line (way_at ways v) (way_at ways w))) ways →
        Raised t o ways rose ways'
        × (rose ≡ 0 → 0 < at (worths ways) w →
        NoBetter (at (worths ways) w) (suc (at (fars ways) w)) (at (worths ways) v) (at (fars ways) v))

    after : (b : Bool) → After b
    unfolding After
    after true is one set_way =
        let raises = rises_raises (worths ways) (fars ways) v w is in (
          rw (set_way, one)
              (record {
                settling =
                    subst₂ (λ ws fs. Reaching (market_given t) (outcome_given o) top ws fs) (sym new_worth) (sym new_far)
                    (reaching_raised (market_given t) (outcome_given o) top (worths ways) (fars ways) l v w
                    proper before over (rises_some (worths ways) (fars ways) v w is) raises);
                falls =
                    subst₂ (λ ws fs. 1 + left t.zones top ws fs ≤ left t.zones top (worths ways) (fars ways))
                    (sym new_worth) (sym new_far)
                    (omega (arith, left_falls t.zones top (worths ways) (fars ways) v w before.keyed v_below w_below raises));
                same = λ (e : ◌≡◌ {A = ℕ} 1 0). absurd (omega arith);
                bids = keeps_over ways v (way_at ways w);
              }),
          λ none some. absurd (omega arith),
        )
    after false is none set_way = (
      rw (set_way, none)
          (record {
            settling = before;
            falls = omega arith;
            same = λ e. refl;
            bids = keeps_same ways;
          }),
      λ zero_rose some. no_rise (worths ways) (fars ways) v w is some,
    )

    pub raise_done :
        Raised t o ways rose ways'
        × (rose ≡ 0 → 0 < at (worths ways) w →
        NoBetter (at (worths ways) w) (suc (at (fars ways) w)) (at (worths ways) v) (at (fars ways) v))
    unfolding After
    raise_done =
        after (rises (worths ways) (fars ways) v w) refl
        (answer ∙ ap (λ (b : Bool). cond b 1 0) better_rises)
        (new ∙ ap (λ (b : Bool). cond b (set ways v (over_line (way_at ways v) (way_at ways w))) ways) better_rises)
