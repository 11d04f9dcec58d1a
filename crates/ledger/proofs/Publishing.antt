-- What is published of an hour that is cleared in slices just long enough, or refused. Assumes nothing.
use Rattle.std.proofs.Common.{◌≡◌, ℕ, ◌+◌, ◌*◌, List, ◌++◌, length, take, None, Ok, Option, sym, ap, ◌∙◌, subst, arith}
use Rattle.std.proofs.lemmas.List.{take_all}
use Rattle.hour.proofs.Heads.{head_read_ok}
use Rattle.hour.proofs.Kept.{kept, buys_count, sells_count, lines_count}
use Rattle.hour.specs.Bytes.{head_read, market_of, refusal_of}
use Rattle.hour.specs.Market.{Market, Outcome}
use Rattle.hour.specs.Rules.{KeepsRules}
use Rattle.hour.specs.declared.reading.Head.{Head}
use Rattle.hour.specs.declared.refusals.Refusal.{Refusal}
use Rattle.network.specs.Tables.{outcome_in}
use Rattle.prices.proofs.Bounds.{proper_kept}
use Rattle.prices.proofs.Entries.{take_front}
use Rattle.prices.proofs.Promised.{found_promised}
use Rattle.prices.specs.Ended.{lengths}
use Rattle.prices.specs.Found.{Fitted, Found, result_in, prices_in}
use Rattle.ledger.proofs.Booked.{payable_found}
use Rattle.ledger.proofs.Even.{ledger_even}
use Rattle.ledger.proofs.Faults.{slices_enough, refusal_enough}
use Rattle.ledger.specs.Entry.{head_size, slices_fault, hour_fault}
use Rattle.ledger.specs.Money.{LedgerOf, Payable}
use Rattle.ledger.specs.Published.{ClearedText, PublishedAs, Published}
use Rattle.ledger.specs.Text.{result_of}

pub cleared_published :
    (bs text : List ℕ) → None ≡ refusal_of bs → ClearedText (market_of bs) text → Published bs text
cleared_published bs text none cleared =
    subst (λ (o : Option Refusal). PublishedAs o (market_of bs) text) none cleared

-- six slices that are just as long as an hour with the head h needs
pub record LentFor (h : Head) (bought sold flow price ledger work : List ℕ) : Type 0 where
  pub bought_long : length bought ≡ h.buys
  pub sold_long : length sold ≡ h.sells
  pub flow_long : length flow ≡ h.lines
  pub price_long : length price ≡ h.zones
  pub ledger_long : length ledger ≡ head_size h + 3
  pub work_long : length work ≡ 64 * head_size h

-- where enough is lent, what is refused is the hour
module _ (bs bought sold flow price ledger work : List ℕ) (head : Head) (read : head_read bs ≡ Ok head) where
  pub refusal_lent :
      LentFor head bought sold flow price ledger work →
      hour_fault bs (lengths (length bought) (length sold) (length flow) (length price)) (length ledger) (length work)
      ≡ refusal_of bs
  refusal_lent lent =
      let same = (head_read_ok bs head read).1 in
      let has = lengths (length bought) (length sold) (length flow) (length price) in
      refusal_enough bs _ _ _
      (subst (λ (h : Head). slices_fault h has (length ledger) (length work) ≡ None) same
      (slices_enough head has (length ledger) (length work)
      (omega (arith, lent.bought_long)) (omega (arith, lent.sold_long)) (omega (arith, lent.flow_long))
      (omega (arith, lent.price_long)) (omega (arith, lent.ledger_long)) (omega (arith, lent.work_long))))

  -- slices that keep their lengths have a number for each
  pub fitted_lent :
      LentFor head bought sold flow price ledger work → (b s f p : List ℕ) → length b ≡ length bought →
      length s ≡ length sold → length f ≡ length flow → length p ≡ length price → Fitted (market_of bs) b s f p
  fitted_lent lent b s f p eb es ef ep =
      let same = (head_read_ok bs head read).1 in
      record {
        bought_long = omega (arith, eb, lent.bought_long, ap (λ (h : Head). h.buys) same, buys_count bs);
        sold_long = omega (arith, es, lent.sold_long, ap (λ (h : Head). h.sells) same, sells_count bs);
        flow_long = omega (arith, ef, lent.flow_long, ap (λ (h : Head). h.lines) same, lines_count bs);
        price_long = omega (arith, ep, lent.price_long, ap (λ (h : Head). h.zones) same);
      }

-- what was found and booked, in slices that are just long enough
module _
    (m : Market) (rules : KeepsRules m) (b s f p l : List ℕ) (fitted : Fitted m b s f p) (n : ℕ)
    (found : Found m n (result_in m b s f) (prices_in m p)) (booked : LedgerOf m (result_in m b s f) (prices_in m p) l)
  where
    whole : result_in m b s f ≡ outcome_in b s f
    whole =
        let bought = take_all (length m.buys) b (omega (arith, fitted.bought_long)) in
        let sold = take_all (length m.sells) s (omega (arith, fitted.sold_long)) in
        let flow = take_all (length m.lines) f (omega (arith, fitted.flow_long)) in
        λ i. record { bought = bought i; sold = sold i; flow = flow i }

    all_prices : prices_in m p ≡ p
    all_prices = take_all m.zones p (omega (arith, fitted.price_long))

    pub payable_whole : Payable m (outcome_in b s f) p
    payable_whole = payable_found m rules b s f p n found

    pub booked_whole : LedgerOf m (outcome_in b s f) p l
    booked_whole =
        subst (λ (o : Outcome). LedgerOf m o p l) whole
        (subst (λ (ps : List ℕ). LedgerOf m (result_in m b s f) ps l) all_prices booked)

    found_whole : Found m n (outcome_in b s f) p
    found_whole =
        subst (λ (o : Outcome). Found m n o p) whole
        (subst (λ (ps : List ℕ). Found m n (result_in m b s f) ps) all_prices found)

    pub cleared_whole : (text : List ℕ) → text ≡ result_of m (outcome_in b s f) p n → ClearedText m text
    cleared_whole text is =
        let promised = found_promised m n _ _ (proper_kept m rules) rules.plain found_whole in
        record {
          pushes = n;
          outcome = outcome_in b s f;
          prices = p;
          found = found_whole;
          promised = promised;
          even = ledger_even m _ _ (proper_kept m rules) rules.plain promised.feasible promised.settled;
          text_is = is;
        }

-- a slice that held old when it was lent, came back as new, and is read
pub record Again (old new read : List ℕ) : Type 0 where
  pub long : length new ≡ length old
  pub same : read ≡ new

pub again :
    {n : ℕ} {old new read : List ℕ} (rest : List ℕ) → length new ≡ length old → length old ≡ n →
    read ≡ take n (new ++ rest) → Again old new read
again rest long all is = record { long = long; same = is ∙ take_front _ _ _ (long ∙ all) }

-- what is shown of an hour that was cleared in such slices, which hold b, s, f, p and l and are read under other names
pub record Shown (bs cs b s f p l : List ℕ) (n : ℕ) : Type 0 where
  pub payable : Payable (market_of cs) (outcome_in b s f) p
  pub booked : LedgerOf (market_of cs) (outcome_in b s f) p l
  pub says : (text : List ℕ) → text ≡ result_of (market_of cs) (outcome_in b s f) p n → Published bs text

pub shown :
    {bs cs bought sold flow price ledger work b s f p l b' s' f' p' l' : List ℕ} {head : Head} {n : ℕ} →
    head_read bs ≡ Ok head → LentFor head bought sold flow price ledger work →
    None ≡ hour_fault bs (lengths (length bought) (length sold) (length flow) (length price)) (length ledger) (length work) →
    Found (market_of bs) n (result_in (market_of bs) b s f) (prices_in (market_of bs) p) →
    LedgerOf (market_of bs) (result_in (market_of bs) b s f) (prices_in (market_of bs) p) l → cs ≡ bs →
    Again bought b b' → Again sold s s' → Again flow f f' → Again price p p' → l' ≡ l → Shown bs cs b' s' f' p' l' n
shown {bs} {b = b} {s = s} {f = f} {p = p} {l = l} {n = n} read lent none found booked bytes bought sold flow price ledger =
    let refused = refusal_lent bs _ _ _ _ _ _ _ read lent in
    let fitted = fitted_lent bs _ _ _ _ _ _ _ read lent b s f p bought.long sold.long flow.long price.long in
    let rules = kept bs (sym (none ∙ refused)) in
    let m = market_of bs in
    rw (bytes, bought.same, sold.same, flow.same, price.same, ledger)
    record {
      payable = payable_whole m rules b s f p l fitted n found booked;
      booked = booked_whole m rules b s f p l fitted n found booked;
      says = λ text is.
          cleared_published bs text (none ∙ refused) (cleared_whole m rules b s f p l fitted n found booked text is);
    }
