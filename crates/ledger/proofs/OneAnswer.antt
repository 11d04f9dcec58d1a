-- The entry's answer is one, keeps the whole promise, and is no refusal of an hour that keeps the rules. Assumes nothing.
use Rattle.std.proofs.Common.{◌≡◌, ℕ, ◌+◌, ◌-◌, ◌<◌, ◌≤◌, List, length, drop, Some, None, Ok, Err, Option, Result, sym, refl, ap, ◌∙◌, subst, ap₂, inl, inr, arith}
use Rattle.std.proofs.lemmas.List.{ext_get_or, get_or-drop}
use Rattle.std.proofs.lemmas.Bool.{cases_lt}
use Rattle.hour.proofs.Kept.{kept, buys_count, sells_count, lines_count}
use Rattle.hour.proofs.ReadBack.{read_back}
use Rattle.hour.specs.Bytes.{bytes_of, head_of, market_of, refusal_of, refusal_with}
use Rattle.hour.specs.Market.{Market, Outcome, Proper, at}
use Rattle.hour.specs.Rules.{KeepsRules}
use Rattle.hour.specs.declared.refusals.Refusal.{Refusal}
use Rattle.prices.proofs.Bounds.{proper_kept}
use Rattle.prices.proofs.OneAnswer.{Leaves, one_left}
use Rattle.prices.proofs.Promised.{found_promised, one_found}
use Rattle.prices.specs.Ended.{Lent, lent}
use Rattle.prices.specs.Found.{result_in, prices_in}
use Rattle.ledger.proofs.Even.{ledger_even}
use Rattle.ledger.proofs.Faults.{taken_hour, slices_enough, refusal_enough}
use Rattle.ledger.proofs.Limits.{payable_lowest, read_as_money, sums_small}
use Rattle.ledger.proofs.OneLedger.{one_ledger}
use Rattle.ledger.specs.Entry.{Slices, Answer}
use Rattle.ledger.specs.Money.{row_count, LedgerOf}
use Rattle.ledger.specs.Published.{PublishedAs}
use Rattle.ledger.specs.Text.{result_of}
use Rattle.ledger.specs.Whole.{OneAnswer, WholePromise, AlwaysCleared, OneText}

-- an hour that was not refused keeps the rules
rules_answered : (bs : List ℕ) (lent : Option Refusal) → None ≡ refusal_with bs lent → KeepsRules (market_of bs)
rules_answered bs lent none = kept bs (taken_hour bs lent (sym none))

-- what five of the slices hold, all but the ledger
abbrev lent_of : Slices → Lent
lent_of s = lent s.bought s.sold s.flow s.price s.work

past_at : (n k : ℕ) (xs zs : List ℕ) → n ≤ k → drop n xs ≡ drop n zs → at xs k ≡ at zs k
past_at n k xs zs past back =
    let there : n + (k - n) ≡ k = omega arith in
    ap (at xs) (sym there)
    ∙ (sym (get_or-drop n xs (k - n) 0)
    ∙ (ap (λ (l : List ℕ). at l (k - n)) back ∙ (get_or-drop n zs (k - n) 0 ∙ ap (at zs) there)))

-- two slices with fronts that agree number by number, and the rest as it was
agreed :
    (n : ℕ) (xs ys zs : List ℕ) → length xs ≡ length zs → length ys ≡ length zs → ((k : ℕ) → k < n → at xs k ≡ at ys k) →
    drop n xs ≡ drop n zs → drop n ys ≡ drop n zs → xs ≡ ys
agreed n xs ys zs long also_long same back also =
    ext_get_or 0 xs ys (long ∙ sym also_long)
    (λ k below.
    elim (cases_lt k n) [
      | inl front ↦ same k front
      | inr past ↦ past_at n k xs zs past back ∙ sym (past_at n k ys zs past also)
    ])

same_slices : (new other : Slices) → lent_of new ≡ lent_of other → new.ledger ≡ other.ledger → new ≡ other
same_slices new other same ledger = λ i.
    let l = same i in
    record { bought = l.bought; sold = l.sold; flow = l.flow; price = l.price; ledger = ledger i; work = l.work }

leaves_of :
    (bs : List ℕ) (old new : Slices) (r : Result ℕ Refusal) → Answer bs old r new →
    Leaves (market_of bs) (lent_of old) r (lent_of new)
leaves_of bs old new r a =
    record {
      found = a.found;
      bought = a.bought;
      sold = a.sold;
      flow = a.flow;
      price = a.price;
      work = a.work;
    }

-- answers that leave the same outcome and the same prices leave the same ledger
one_booked :
    (bs : List ℕ) (old new other : Slices) (r : Result ℕ Refusal) → lent_of new ≡ lent_of other → Answer bs old r new →
    Answer bs old r other → new.ledger ≡ other.ledger
one_booked bs old new other (Err x) same a b = a.ledger ∙ sym b.ledger
one_booked bs old new other (Ok n) same a b =
    let m = market_of bs in
    let booked =
    subst
    (λ (l : Lent). LedgerOf m (result_in m l.bought l.sold l.flow) (prices_in m l.price) new.ledger)
    same a.booked
    in
    agreed (row_count m + 3) _ _ _ a.ledger_long b.ledger_long
    (one_ledger m _ _ new.ledger other.ledger booked b.booked).rows a.ledger b.ledger

-- Idea: what is found is one, and so is what is left of it in the lent slices; so what is booked is one, too.
pub one_answer : OneAnswer
one_answer bs old new other r s a b =
    let same =
    one_left (market_of bs) (lent_of old) (lent_of new) (lent_of other) r s (a.refusal ∙ sym b.refusal)
    (λ none. proper_kept (market_of bs) (rules_answered bs _ (sym none ∙ a.refusal)))
    (leaves_of bs old new r a) (leaves_of bs old other s b)
    in
    let also = subst (λ (t : Result ℕ Refusal). Answer bs old t other) (sym same.answer) b in
    record {
      answer = same.answer;
      slices = same_slices new other same.slices (one_booked bs old new other r same.slices a also);
    }

pub whole_promise : WholePromise
whole_promise bs old new (Err x) a =
    record {
      carried_out = tt;
      settled = tt;
      lowest = tt;
      no_regret = tt;
      best = tt;
      rows = tt;
      small = tt;
      read = tt;
      even = tt;
      pushes = tt;
    }
whole_promise bs old new (Ok n) a =
    let m = market_of bs in
    let rules = rules_answered bs _ a.refusal in
    let proper = proper_kept m rules in
    let promised = found_promised m n _ _ proper rules.plain a.found in
    let payable = payable_lowest m _ _ rules promised.feasible promised.lowest in
    record {
      carried_out = promised.feasible;
      settled = promised.settled;
      lowest = promised.lowest;
      no_regret = promised.no_regret;
      best = promised.best;
      rows = a.booked;
      small = sums_small m _ _ rules payable;
      read = read_as_money m _ _ _ rules payable a.booked;
      even = ledger_even m _ _ proper rules.plain promised.feasible promised.settled;
      pushes = (promised.pushes, promised.few);
    }

-- Idea: the bytes of the hour say the hour, and are not refused; the slices are long enough for what they say.
pub always_cleared : AlwaysCleared
always_cleared m has ledger work rules enough =
    let bs = bytes_of m in
    let back = read_back m rules in
    let buys = sym (buys_count bs) ∙ ap (λ (x : Market). length x.buys) back.1 in
    let sells = sym (sells_count bs) ∙ ap (λ (x : Market). length x.sells) back.1 in
    let lines = sym (lines_count bs) ∙ ap (λ (x : Market). length x.lines) back.1 in
    let zones : (head_of bs).zones ≡ m.zones = ap (λ (x : Market). x.zones) back.1 in
    refusal_enough bs has ledger work
    (slices_enough (head_of bs) has ledger work
    (omega (arith, enough.bought, buys)) (omega (arith, enough.sold, sells)) (omega (arith, enough.flow, lines))
    (omega (arith, enough.prices, zones)) (omega (arith, enough.rows, buys, sells, lines))
    (omega (arith, enough.room, buys, sells, lines)))
    ∙ back.0

pub one_text : OneText
one_text bs text other a b = go (refusal_of bs) (λ none. proper_kept (market_of bs) (kept bs none)) a b
  where
    go :
        (o : Option Refusal) → (o ≡ None → Proper (market_of bs)) → PublishedAs o (market_of bs) text →
        PublishedAs o (market_of bs) other → text ≡ other
    go (Some refusal) proper a b = a ∙ sym b
    go None proper a b =
        let same = one_found (market_of bs) _ _ _ _ _ _ (proper refl) a.found b.found in
        a.text_is
        ∙ (ap (λ (k : ℕ). result_of (market_of bs) a.outcome a.prices k) same.count
        ∙ (ap₂ (λ (o : Outcome) (ps : List ℕ). result_of (market_of bs) o ps b.pushes) same.outcome same.prices
        ∙ sym b.text_is))
