-- Lines one after another, round after round: what holds when no label has risen. Assumes nothing.
--
--   LineDone ..    raising labels over a line, forth and back: at most two rose, and where none did, the line raises none
--   Rising ..      the same of the first k lines of a round, in its order
use Rattle.std.proofs.Common.{◌≡◌, ℕ, ◌+◌, ◌*◌, ◌<◌, ◌≤◌, Bool, true, false, List, length, sym, refl, ap, ◌∙◌, subst, inl, inr, arith}
use Rattle.std.proofs.lemmas.Bool.{cases_lt}
use Rattle.network.proofs.Rows.{length_lines_in}
use Rattle.network.specs.Tables.{items}
use Rattle.hour.specs.declared.items.Item.TheVariants.{Line}
use Rattle.network.specs.declared.arcs.Step.TheVariants.{Forward, Backward}
use Rattle.network.specs.declared.tables.Amounts.{Amounts}
use Rattle.network.specs.declared.tables.Tables.{Tables}
use Rattle.paths.specs.Labels.{BestLabels}
use Rattle.network.specs.Given.{market_given, outcome_given}
use Rattle.paths.specs.Search.{RelaxedBy, Relaxed, Settling, Raised, turned}
use Rattle.paths.specs.Ways.{worths, fars}
use Rattle.paths.specs.declared.ways.Way.{Way}
use Rattle.paths.proofs.Ends.{StepDone}
use Rattle.paths.proofs.Zones.{keeps_both}

turned_below : (b : Bool) (n j : ℕ) → j < n → turned b n j < n
turned_below true n j below = omega arith
turned_below false n j below = below

turned_back : (b : Bool) (n j : ℕ) → j < n → turned b n (turned b n j) ≡ j
turned_back true n j below = omega arith
turned_back false n j below = refl

-- what raising labels over line l comes to
abbrev pub LineDone : Tables → Amounts → ℕ → List Way → ℕ → List Way → Type 0
LineDone t o l ways rose ways' =
    record {
      raised : Raised t o ways rose ways';
      relaxed : rose ≡ 0 → Relaxed (market_given t) (outcome_given o) (worths ways) (fars ways) l;
      few : rose ≤ 2;
    }

raised_more :
    {t : Tables} {o : Amounts} {ways ways₁ ways₂ : List Way} {a b : ℕ} → Raised t o ways a ways₁ →
    Raised t o ways₁ b ways₂ → Raised t o ways (a + b) ways₂
raised_more first second =
    record {
      settling = second.settling;
      falls = omega (arith, first.falls, second.falls);
      same = λ none. second.same (omega arith) ∙ first.same (omega arith);
      bids = keeps_both _ _ _ first.bids second.bids;
    }

-- a line, forth and back
pub line_done :
    {t : Tables} {o : Amounts} {ways ways₁ ways₂ : List Way} {l a b : ℕ} →
    StepDone t o (Forward (Line l)) ways a ways₁ → StepDone t o (Backward (Line l)) ways₁ b ways₂ →
    LineDone t o l ways (a + b) ways₂
line_done {t} {o} {l = l} forth back =
    record {
      raised = raised_more forth.raised back.raised;
      relaxed = λ none. (
        forth.relaxed (omega arith),
        subst (λ ws. RelaxedBy (market_given t) (outcome_given o) (worths ws) (fars ws) (Backward (Line l)))
            (forth.raised.same (omega arith)) (back.relaxed (omega arith)),
      );
      few = omega (arith, forth.few, back.few);
    }

-- the first k of n lines, in the order of the round
pub record Rising
    (t : Tables) (o : Amounts) (ways : List Way) (from_last : Bool) (n k rose : ℕ) (ways' : List Way) : Type 0 where
  pub raised : Raised t o ways rose ways'
  pub few : rose ≤ 2 * k
  pub relaxed :
      rose ≡ 0 → (j : ℕ) → j < k →
      Relaxed (market_given t) (outcome_given o) (worths ways') (fars ways') (turned from_last n j)

module _
    {t : Tables} {o : Amounts} {ways ways' : List Way} {from_last : Bool} {n k rose : ℕ}
    (before : Rising t o ways from_last n k rose ways')
  where
    pub rising_on :
        {l b : ℕ} {ways₂ : List Way} → l ≡ turned from_last n k → LineDone t o l ways' b ways₂ →
        Rising t o ways from_last n (k + 1) (rose + b) ways₂
    rising_on {l} {b} {ways₂} is here =
        record {
          raised = raised_more before.raised here.raised;
          few = omega (arith, before.few, here.few);
          relaxed = λ none j below.
              let Here : List Way → Type 0 =
              λ ws. Relaxed (market_given t) (outcome_given o) (worths ws) (fars ws) (turned from_last n j)
              in
              let b_none : b ≡ 0 = omega arith in
              subst Here (sym (here.raised.same b_none))
              (elim (cases_lt j k) [
                | inl less ↦ before.relaxed (omega arith) j less
                | inr last ↦
                    let same : l ≡ turned from_last n j = is ∙ ap (turned from_last n) (omega arith) in
                    subst (λ x. Relaxed (market_given t) (outcome_given o) (worths ways') (fars ways') x) same
                    (here.relaxed b_none)
              ]);
        }

    -- a whole round
    pub risen :
        n ≡ items t.lines.now → n ≤ k →
        record {
          raised : Raised t o ways rose ways';
          relaxed :
              rose ≡ 0 → (l : ℕ) → l < items t.lines.now →
              Relaxed (market_given t) (outcome_given o) (worths ways') (fars ways') l;
        }
    risen count all =
        record {
          raised = before.raised;
          relaxed = λ none l below.
              let inside : l < n = omega arith in
              subst (λ x. Relaxed (market_given t) (outcome_given o) (worths ways') (fars ways') x)
              (turned_back from_last n l inside)
              (before.relaxed none (turned from_last n l) (omega (arith, turned_below from_last n l inside)));
        }

module _ (t : Tables) (o : Amounts) (ways : List Way) where
  pub best_at_rest :
      Settling t o ways →
      ((l : ℕ) → l < items t.lines.now → Relaxed (market_given t) (outcome_given o) (worths ways) (fars ways) l) →
      BestLabels (market_given t) (outcome_given o) (worths ways) (fars ways)
  best_at_rest settling relaxed =
      record {
        way = settling.way;
        none = settling.none;
        own = settling.own;
        over = λ l v w v_below w_below over some.
            elim over [
              | inl leads ↦ (relaxed l (line_in l leads.free.among)).0 v w leads some
              | inr leads ↦ (relaxed l (line_in l leads.free.among)).1 v w leads some
            ];
      }
    where
      line_in : (l : ℕ) → l < length (market_given t).lines → l < items t.lines.now
      line_in l among = rw (length_lines_in t.lines.now) at among
