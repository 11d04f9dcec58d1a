-- The first rule that an hour's bytes and the slices lent with them break. Assumes nothing.
use Rattle.std.proofs.Common.{◌≡◌, ℕ, ◌+◌, ◌*◌, ◌≤◌, List, length, Some, None, Ok, Err, Option, sym, ap, ◌∙◌}
use Rattle.std.proofs.lemmas.Bool.{ltb-false, le-ltb}
use Rattle.hour.proofs.First.{else_none, else_none_left, else_none_right, when_none, when_false}
use Rattle.hour.proofs.Heads.{head_read_ok, head_read_err}
use Rattle.hour.specs.Bytes.{head_fault, head_of, head_read, market_of, refusal_of, refusal_with}
use Rattle.hour.specs.First.{◌else◌}
use Rattle.hour.specs.Rules.{item_fault, lent_fault}
use Rattle.hour.specs.declared.reading.Head.{Head}
use Rattle.hour.specs.declared.refusals.Refusal.{Refusal}
use Rattle.hour.specs.declared.rules.Lengths.{Lengths}
use Rattle.prices.specs.Ended.{lengths}
use Rattle.prices.specs.Found.{Roomy}
use Rattle.ledger.specs.Entry.{head_size, slices_fault, hour_fault}

-- the first rule of all, where the head is read or refused
module _ (bs : List ℕ) (has : Lengths) (ledger work : ℕ) where
  pub fault_by_head :
      (h : Head) → head_read bs ≡ Ok h →
      hour_fault bs has ledger work ≡ (slices_fault h has ledger work else item_fault (market_of bs))
  fault_by_head h ok =
      else_none (head_fault bs) _ (head_read_ok bs h ok).0
      ∙ ap (λ (k : Head). slices_fault k has ledger work else item_fault (market_of bs)) (sym (head_read_ok bs h ok).1)

  pub fault_of_head : (e : Refusal) → head_read bs ≡ Err e → hour_fault bs has ledger work ≡ Some e
  fault_of_head e err =
      ap (λ (o : Option Refusal). o else (slices_fault (head_of bs) has ledger work else item_fault (market_of bs)))
      (head_read_err bs e err)

-- an hour with which nothing is refused is an hour
pub taken_hour : (bs : List ℕ) (lent : Option Refusal) → refusal_with bs lent ≡ None → refusal_of bs ≡ None
taken_hour bs lent none =
    else_none _ _ (else_none_left (head_fault bs) _ none)
    ∙ else_none_right lent _ (else_none_right (head_fault bs) _ none)

-- and the slices are long enough
module _
    (bs bought sold flow price : List ℕ) (ledger work : ℕ)
    (none : hour_fault bs (lengths (length bought) (length sold) (length flow) (length price)) ledger work ≡ None)
  where
    slices : slices_fault (head_of bs) (lengths (length bought) (length sold) (length flow) (length price)) ledger work ≡ None
    slices = else_none_left _ _ (else_none_right (head_fault bs) _ none)

    pub results_room :
        Roomy (head_of bs).buys (head_of bs).sells (head_of bs).lines (head_of bs).zones bought sold flow price
    results_room =
        let results = else_none_left _ _ slices in
        let after_bought = else_none_right _ _ results in
        let after_sold = else_none_right _ _ after_bought in
        record {
          bought_room = ltb-false _ _ (when_none _ _ (else_none_left _ _ results));
          sold_room = ltb-false _ _ (when_none _ _ (else_none_left _ _ after_bought));
          flow_room = ltb-false _ _ (when_none _ _ (else_none_left _ _ after_sold));
          price_room = ltb-false _ _ (when_none _ _ (else_none_right _ _ after_sold));
        }

-- and where they are, none is refused
lent_enough : (slice has needed : ℕ) → needed ≤ has → lent_fault slice has needed ≡ None
lent_enough slice has needed fits = when_false _ _ (le-ltb has needed fits)

pub slices_enough :
    (h : Head) (has : Lengths) (ledger work : ℕ) → h.buys ≤ has.bought → h.sells ≤ has.sold → h.lines ≤ has.flow →
    h.zones ≤ has.prices → head_size h + 3 ≤ ledger → 64 * head_size h ≤ work → slices_fault h has ledger work ≡ None
slices_enough h has ledger work bought sold flow prices rows room =
    else_none _ _
    (else_none _ _ (lent_enough 0 has.bought h.buys bought)
    ∙ (else_none _ _ (lent_enough 1 has.sold h.sells sold)
    ∙ (else_none _ _ (lent_enough 2 has.flow h.lines flow) ∙ lent_enough 3 has.prices h.zones prices)))
    ∙ (else_none _ _ (lent_enough 4 ledger (head_size h + 3) rows) ∙ lent_enough 5 work (64 * head_size h) room)

-- so that what is refused is the hour
pub refusal_enough :
    (bs : List ℕ) (has : Lengths) (ledger work : ℕ) → slices_fault (head_of bs) has ledger work ≡ None →
    hour_fault bs has ledger work ≡ refusal_of bs
refusal_enough bs has ledger work none =
    ap (λ (o : Option Refusal). head_fault bs else o) (else_none _ (item_fault (market_of bs)) none)
