-- What the checker promises of a result. Assumes nothing.
use Rattle.std.proofs.Common.{◌≡◌, ℕ, ◌≤◌, List, length, Some, None, Option, sym, refl, ap, ◌∙◌, inl, inr, arith}
use Rattle.std.proofs.lemmas.List.{ext_get_or}
use Rattle.std.proofs.lemmas.Bool.{cases_lt, le-ltb}
use Rattle.hour.specs.Bytes.{head_fault, head_of, market_of}
use Rattle.hour.specs.First.{◌else◌}
use Rattle.hour.specs.Market.{Market, Outcome, at}
use Rattle.hour.specs.Rules.{lent_fault, item_fault}
use Rattle.hour.specs.declared.refusals.Refusal.{Refusal}
use Rattle.hour.proofs.First.{else_none, else_none_left, else_none_right, when_false}
use Rattle.hour.proofs.Kept.{buys_count, sells_count, lines_count}
use Rattle.network.proofs.Prices.{best}
use Rattle.checker.specs.declared.verdict.Broken.{Broken}
use Rattle.checker.specs.Acceptance.{broken_of, lent_refusal, refusal_to_check}
use Rattle.checker.specs.Marks.{Mark, Marks, Left, Answerable, refusal_to_mark, lowness_of}
use Rattle.checker.specs.Promises.{AcceptedBest, Published, PublishedAccepted, LowestFound, OneLowness}
use Rattle.checker.proofs.Answered.{answerable_from, lowest_exactly}
use Rattle.checker.proofs.Breaches.{none_broken}
use Rattle.checker.proofs.Judged.{stands_accepted, accepted_stands}
use Rattle.checker.proofs.Lending.{taken_hour}
use Rattle.checker.proofs.Rules.{proper_hour}

-- a result that is accepted is feasible and settled, and so the best
pub accepted_best : AcceptedBest
accepted_best bs o p ps accepted feasible =
    let stands = accepted_stands bs o ps accepted in
    best (market_of bs) o p ps (proper_hour bs (taken_hour bs o ps stands.taken)) stands.feasible stands.settled feasible

-- enough is lent, so nothing is refused
module _ (bs : List ℕ) (o : Outcome) (ps : List ℕ) (published : Published bs o ps) where
  lent_enough : lent_refusal (head_of bs) o ps ≡ None
  lent_enough =
      let enough : (slice has needed : ℕ) → needed ≤ has → lent_fault slice has needed ≡ None =
      λ slice has needed le. when_false _ _ (le-ltb has needed le)
      in
      else_none _ _ (enough 0 (length o.bought) (head_of bs).buys (omega (arith, published.bought, buys_count bs)))
      ∙ (else_none _ _ (enough 1 (length o.sold) (head_of bs).sells (omega (arith, published.sold, sells_count bs)))
      ∙ (else_none _ _ (enough 2 (length o.flow) (head_of bs).lines (omega (arith, published.flow, lines_count bs)))
      ∙ enough 3 _ _ published.prices))

  refused_nothing : (lent : Option Refusal) → lent ≡ None → (head_fault bs else (lent else item_fault (market_of bs))) ≡ None
  refused_nothing lent none =
      else_none _ _ (else_none_left (head_fault bs) _ published.hour)
      ∙ (else_none lent _ none ∙ else_none_right (head_fault bs) _ published.hour)

  taken : refusal_to_check bs o ps ≡ None
  taken = refused_nothing (lent_refusal (head_of bs) o ps) lent_enough

  taken_with : (lent : ℕ) → (market_of bs).zones ≤ lent → refusal_to_mark bs o ps lent ≡ None
  taken_with lent enough =
      refused_nothing _
      (else_none (lent_refusal (head_of bs) o ps) _ lent_enough ∙ when_false _ _ (le-ltb lent _ enough))

pub published_accepted : PublishedAccepted
published_accepted bs o ps published =
    stands_accepted bs o ps
    (record { taken = taken bs o ps published; feasible = published.feasible; settled = published.settled })

pub lowest_found : LowestFound
lowest_found bs o ps old new published low enough left =
    (lowest_exactly bs o ps old new left (lowness_of bs o ps (length old) new) refl).1 (
      record {
        taken = taken_with bs o ps published (length old) enough;
        feasible = published.feasible;
        settled = published.settled;
      },
      low,
    )

-- Idea: a zone is held up or not, so its mark is one; where nothing is marked, the marks are as they were.
mark_one : (m : Market) (o : Outcome) (ps : List ℕ) (z x y : ℕ) → Mark m o ps z x → Mark m o ps z y → x ≡ y
mark_one m o ps z x y (inl a) (inl b) = omega (arith, a.0, b.0)
mark_one m o ps z x y (inl a) (inr b) = absurd (b.1 a.1)
mark_one m o ps z x y (inr a) (inl b) = absurd (a.1 b.1)
mark_one m o ps z x y (inr a) (inr b) = omega (arith, a.0, b.0)

marks_one : (m : Market) (o : Outcome) (ps old new other : List ℕ) → Marks m o ps old new → Marks m o ps old other → new ≡ other
marks_one m o ps old new other a b =
    ext_get_or 0 new other (a.long ∙ sym b.long)
    (λ k h. elim (cases_lt k m.zones) [
      | inl within ↦ mark_one m o ps k (at new k) (at other k) (a.zones k within) (b.zones k within)
      | inr past ↦ a.past k past ∙ sym (b.past k past)
    ])

left_one : (bs : List ℕ) (o : Outcome) (ps old new other : List ℕ) → Left bs o ps old new → Left bs o ps old other → new ≡ other
left_one bs o ps old new other a b =
    go (refusal_to_mark bs o ps (length old)) refl (broken_of (market_of bs) o ps) refl
  where
    kept : (Answerable bs o ps (length old) → ⊥) → new ≡ other
    kept unanswerable = a.kept unanswerable ∙ sym (b.kept unanswerable)

    go :
        (refusal : Option Refusal) → refusal_to_mark bs o ps (length old) ≡ refusal →
        (broken : Option Broken) → broken_of (market_of bs) o ps ≡ broken → new ≡ other
    go None taken None none =
        let asked = answerable_from bs o ps (length old) taken none in
        marks_one (market_of bs) o ps old new other (a.marked asked) (b.marked asked)
    go None taken (Some b) is =
        kept (λ asked.
        let none = none_broken (market_of bs) o ps asked.feasible asked.settled in
        cc)
    go (Some e) refused broken is =
        kept (λ asked. let none = asked.taken in cc)

pub one_lowness : OneLowness
one_lowness bs o ps old new other r s a b =
    let same = left_one bs o ps old new other a.left b.left in (
      same,
      a.answer ∙ (ap (lowness_of bs o ps (length old)) same ∙ sym b.answer),
    )
