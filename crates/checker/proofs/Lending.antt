-- What is refused before a result is looked at. Assumes nothing.
use Rattle.std.proofs.Common.{◌≡◌, ℕ, ◌≤◌, List, Some, None, Ok, Err, Option, sym, ap, ◌∙◌}
use Rattle.std.proofs.lemmas.Bool.{ltb-false}
use Rattle.hour.specs.Bytes.{head_fault, head_of, head_read, market_of, refusal_of, refusal_with}
use Rattle.hour.specs.First.{◌else◌}
use Rattle.hour.specs.Market.{Outcome}
use Rattle.hour.specs.Rules.{item_fault, lent_fault}
use Rattle.hour.specs.declared.reading.Head.{Head}
use Rattle.hour.specs.declared.refusals.Refusal.{Refusal}
use Rattle.hour.proofs.First.{else_none, else_none_left, else_none_right, when_none}
use Rattle.hour.proofs.Heads.{head_read_ok, head_read_err}
use Rattle.checker.specs.Acceptance.{lent_refusal, refusal_to_check}
use Rattle.checker.specs.Marks.{refusal_to_mark}

-- what is refused is the head, or else a slice, or else an item
module _ (bs : List ℕ) where
  pub head_refused : (lent : Option Refusal) (e : Refusal) → head_read bs ≡ Err e → Some e ≡ refusal_with bs lent
  head_refused lent e err =
      ap (λ (fault : Option Refusal). fault else (lent else item_fault (market_of bs))) (sym (head_read_err bs e err))

  module _ (lent : Head → Option Refusal) (h : Head) (ok : head_read bs ≡ Ok h) where
    head_stands : refusal_with bs (lent (head_of bs)) ≡ (lent h else item_fault (market_of bs))
    head_stands =
        let read = head_read_ok bs h ok in
        else_none (head_fault bs) _ read.0
        ∙ ap (λ (head : Head). lent head else item_fault (market_of bs)) (sym read.1)

    pub slice_refused : (e : Refusal) → Some e ≡ lent h → Some e ≡ refusal_with bs (lent (head_of bs))
    slice_refused e is =
        sym (head_stands ∙ ap (λ (fault : Option Refusal). fault else item_fault (market_of bs)) (sym is))

    pub item_refused :
        (e : Refusal) → None ≡ lent h → Some e ≡ item_fault (market_of bs) → Some e ≡ refusal_with bs (lent (head_of bs))
    item_refused e none is =
        is ∙ sym (head_stands ∙ ap (λ (fault : Option Refusal). fault else item_fault (market_of bs)) (sym none))

module _ (bs : List ℕ) (o : Outcome) (ps : List ℕ) where
  -- an hour with which nothing is refused is an hour
  pub taken_hour : refusal_to_check bs o ps ≡ None → refusal_of bs ≡ None
  taken_hour none =
      let after_head = else_none_right (head_fault bs) _ none in
      else_none _ _ (else_none_left (head_fault bs) _ none) ∙ else_none_right (lent_refusal (head_of bs) o ps) _ after_head

  -- the same where marks are lent too
  module _ (lent : ℕ) where
    -- an hour with which nothing is refused is an hour, and there is a mark for each zone
    pub taken_marks : refusal_to_mark bs o ps lent ≡ None → (refusal_of bs ≡ None) × ((market_of bs).zones ≤ lent)
    taken_marks none =
        let slices = lent_refusal (head_of bs) o ps in
        let after_head = else_none_right (head_fault bs) _ none in
        let enough = else_none_left (slices else lent_fault 4 lent (head_of bs).zones) _ after_head in (
          else_none _ _ (else_none_left (head_fault bs) _ none)
              ∙ else_none_right (slices else lent_fault 4 lent (head_of bs).zones) _ after_head,
          ltb-false lent _ (when_none _ _ (else_none_right slices _ enough)),
        )
