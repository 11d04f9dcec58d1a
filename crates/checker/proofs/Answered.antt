-- What the answer about prices says, and that it is the only one. Assumes nothing.
use Rattle.std.proofs.Common.{◌≡◌, ℕ, ◌<◌, ◌≤◌, Bool, eqb, List, length, Some, None, Ok, Option, Result, sym, refl, ap, ◌∙◌, subst, ap₂, inl, inr, arith}
use Rattle.std.proofs.lemmas.Bool.{eqb-true, eqb-false, eq-eqb, ne_eqb}
use Rattle.hour.proofs.Kept.{plain_said}
use Rattle.hour.specs.Bytes.{market_of}
use Rattle.hour.specs.Market.{Market, Outcome, Proper, Plain, Feasible, Settled, at}
use Rattle.hour.specs.declared.refusals.Refusal.{Refusal}
use Rattle.network.specs.Prices as prices
use Rattle.checker.specs.declared.verdict.Broken.{Broken}
use Rattle.checker.specs.declared.verdict.Objection.{Objection}
use Rattle.checker.specs.Acceptance.{broken_of, objection_to, unless, Exactly}
use Rattle.checker.specs.Holding.{LowerAt, NowhereLower, FirstLower}
use Rattle.checker.specs.Marks.{unmarked, Marks, refusal_to_mark, lowness_of, Answerable, Left}
use Rattle.checker.specs.Seeking.{LeftIn}
use Rattle.checker.proofs.Breaches.{feasible_from_none, settled_from_none, none_broken}
use Rattle.checker.proofs.Firsts.{first_here, none_passes, none_found, found}
use Rattle.checker.proofs.Judged.{unobjected}
use Rattle.checker.proofs.Held.{held_le, held_nowhere_lower}
use Rattle.checker.proofs.Lending.{taken_marks}
use Rattle.checker.proofs.Lowered.{unmarked_lower}
use Rattle.checker.proofs.Rules.{proper_hour}

-- marks, and what they say of the prices of a result that stands
module _
    (m : Market) (o : Outcome) (ps old new : List ℕ) (proper : Proper m) (plain : Plain m) (f : Feasible m o)
    (s : Settled m o ps) (marks : Marks m o ps old new)
  where
    marked_nowhere : (z : ℕ) → z < m.zones → (at new z ≡ 0 → ⊥) → NowhereLower m ps z
    marked_nowhere z h marked =
        elim (marks.zones z h) [
          | inl held ↦ held_nowhere_lower m o ps proper plain f s z held.1
          | inr free ↦ absurd (marked free.0)
        ]

    pub first_lower : (z : ℕ) → unmarked m new ≡ Some z → FirstLower m o ps z
    first_lower z is =
        let bare = found (λ w. eqb (at new w) 0) m.zones z is in
        record {
          among = bare.below;
          could = unmarked_lower m o ps old new proper plain f s marks z bare.below (eqb-true _ _ bare.passes);
          before = λ w h.
              marked_nowhere w (omega (arith, bare.below)) (eqb-false _ _ (bare.before w h));
        }

    pub lowest : unmarked m new ≡ None → prices.Lowest m ps
    lowest none =
        record {
          outcome = o;
          feasible = f;
          settled = s;
          below = λ p qs g t z h.
              marked_nowhere z h (eqb-false _ _ (none_passes (λ w. eqb (at new w) 0) m.zones none z h)) p qs g t;
        }

    -- and the other way round
    marked_since : (z : ℕ) → z < m.zones → ((qs : List ℕ) → Settled m o qs → at ps z ≤ at qs z) → at new z ≡ 0 → ⊥
    marked_since z h nowhere bare =
        let list = unmarked_lower m o ps old new proper plain f s marks z h bare in
        let le = nowhere list.prices list.settled in
        let less = list.lower in
        omega arith

    bare_since : (z : ℕ) → z < m.zones → LowerAt m o ps z → at new z ≡ 0
    bare_since z h list =
        elim (marks.zones z h) [
          | inl held ↦
              let le = held_le m plain o ps list.prices list.settled held.1 in
              let less = list.lower in
              absurd (omega arith)
          | inr free ↦ free.0
        ]

    pub unmarked_first : (z : ℕ) → FirstLower m o ps z → unmarked m new ≡ Some z
    unmarked_first z first =
        let test : ℕ → Bool = λ w. eqb (at new w) 0 in
        let h = first.among in
        sym
        (first_here test z m.zones
        (none_found test z
        (λ w earlier. ne_eqb _ _ (marked_since w (omega arith) (λ qs t. first.before w earlier o qs f t))))
        h
        (eq-eqb _ _ (bare_since z h first.could)))

    pub unmarked_none : prices.Lowest m ps → unmarked m new ≡ None
    unmarked_none low =
        none_found (λ w. eqb (at new w) 0) m.zones
        (λ z h. ne_eqb _ _ (marked_since z h (λ qs t. low.below o qs f t z h)))

module _ (bs : List ℕ) (o : Outcome) (ps : List ℕ) (lent : ℕ) where
  pub answerable_from :
      refusal_to_mark bs o ps lent ≡ None → broken_of (market_of bs) o ps ≡ None → Answerable bs o ps lent
  answerable_from taken none =
      record {
        taken = taken;
        feasible = feasible_from_none (market_of bs) o ps none;
        settled = settled_from_none (market_of bs) o ps none;
      }

  pub answerable_proper : Answerable bs o ps lent → Proper (market_of bs)
  answerable_proper a = proper_hour bs (taken_marks bs o ps lent a.taken).0

  pub answerable_ranked :
      (lower : Option ℕ) → Answerable bs o ps lent →
      unless (objection_to (refusal_to_mark bs o ps lent) (broken_of (market_of bs) o ps)) lower ≡ Ok lower
  answerable_ranked lower a =
      ap₂ (λ (refusal : Option Refusal) (broken : Option Broken). unless (objection_to refusal broken) lower)
      a.taken (none_broken (market_of bs) o ps a.feasible a.settled)

-- what is left in the marks and the answer that they give fix the answer's meaning
module _
    (bs : List ℕ) (o : Outcome) (ps old new : List ℕ) (left : Left bs o ps old new) (r : Result (Option ℕ) Objection)
    (is : r ≡ lowness_of bs o ps (length old) new)
  where
    pub lower_exactly :
        (z : ℕ) → Exactly (r ≡ Ok (Some z)) (Answerable bs o ps (length old) × FirstLower (market_of bs) o ps z)
    lower_exactly z = (means, since)
      where
        means : r ≡ Ok (Some z) → Answerable bs o ps (length old) × FirstLower (market_of bs) o ps z
        means e =
            let parts = unobjected (unmarked (market_of bs) new) (Some z) _ _ (sym is ∙ e) in
            let a = answerable_from bs o ps (length old) parts.0 parts.1 in (
              a,
              first_lower (market_of bs) o ps old new (answerable_proper bs o ps (length old) a) (plain_said bs) a.feasible a.settled
                  (left.marked a) z parts.2,
            )

        since : Answerable bs o ps (length old) × FirstLower (market_of bs) o ps z → r ≡ Ok (Some z)
        since known =
            let a = known.0 in
            is
            ∙ (answerable_ranked bs o ps (length old) _ a
            ∙ ap Ok
            (unmarked_first (market_of bs) o ps old new (answerable_proper bs o ps (length old) a) (plain_said bs) a.feasible a.settled
            (left.marked a) z known.1))

    pub lowest_exactly :
        Exactly (r ≡ Ok None) (Answerable bs o ps (length old) × prices.Lowest (market_of bs) ps)
    lowest_exactly = (means, since)
      where
        means : r ≡ Ok None → Answerable bs o ps (length old) × prices.Lowest (market_of bs) ps
        means e =
            let parts = unobjected (unmarked (market_of bs) new) None _ _ (sym is ∙ e) in
            let a = answerable_from bs o ps (length old) parts.0 parts.1 in (
              a,
              lowest (market_of bs) o ps old new (answerable_proper bs o ps (length old) a) (plain_said bs) a.feasible a.settled
                  (left.marked a) parts.2,
            )

        since : Answerable bs o ps (length old) × prices.Lowest (market_of bs) ps → r ≡ Ok None
        since known =
            let a = known.0 in
            is
            ∙ (answerable_ranked bs o ps (length old) _ a
            ∙ ap Ok
            (unmarked_none (market_of bs) o ps old new (answerable_proper bs o ps (length old) a) (plain_said bs) a.feasible a.settled
            (left.marked a) known.1))

-- of an hour that is not refused, and is seen in its bytes
module _ (bs : List ℕ) (o : Outcome) (ps old new : List ℕ) where
  left_taken :
      None ≡ refusal_to_mark bs o ps (length old) → LeftIn (market_of bs) o ps old new → Left bs o ps old new
  left_taken taken inner =
      record {
        kept = go (broken_of (market_of bs) o ps) refl;
        marked = λ a. inner.marked (none_broken (market_of bs) o ps a.feasible a.settled);
      }
    where
      go :
          (broken : Option Broken) → broken_of (market_of bs) o ps ≡ broken →
          (Answerable bs o ps (length old) → ⊥) → new ≡ old
      go None none unanswerable = absurd (unanswerable (answerable_from bs o ps (length old) (sym taken) none))
      go (Some b) is unanswerable = inner.kept b is

  pub left_late :
      (seen : List ℕ) → seen ≡ bs → None ≡ refusal_to_mark bs o ps (length old) →
      LeftIn (market_of seen) o ps old new → Left bs o ps old new
  left_late seen same taken inner =
      left_taken taken (subst (λ (cs : List ℕ). LeftIn (market_of cs) o ps old new) same inner)
