-- Whatever is reported of the text that the house publishes is that it is accepted, and lowest. Assumes nothing.
use Rattle.std.proofs.Common.{◌≡◌, ℕ, ◌+◌, ◌*◌, ◌^◌, ◌<◌, List, length, get_or, ℤ, pos, ◌-ℤ◌, Some, None, Ok, Option, Result, sym, ap, ◌∙◌, subst, ap₂, zero-add, arith}
use Rattle.std.proofs.lemmas.List.FromFn.{get_or-map-range_with_len}
use Rattle.std.proofs.lemmas.Bool.Decides.{Decides-int_eq}
use Rattle.std.proofs.lemmas.Bool.{not_from_true}
use Rattle.hour.proofs.First.{else_none, when_false, first_all}
use Rattle.hour.proofs.Kept.{kept}
use Rattle.hour.proofs.Total.{total_same}
use Rattle.hour.specs.Bytes.{market_of}
use Rattle.hour.specs.Listed.{listed}
use Rattle.hour.specs.Market.{Market, Outcome, Proper, Feasible, Settled, at, bid, line, worth, flow_cost, count_of}
use Rattle.hour.specs.declared.items.Bid.{Bid}
use Rattle.hour.specs.declared.items.Line as items
use Rattle.hour.specs.declared.refusals.Refusal.{Refusal}
use Rattle.hour.specs.declared.refusals.Sort.{Sort}
use Rattle.hour.specs.declared.refusals.Sort.TheVariants as sorts
use Rattle.network.proofs.Agree.{Agree, AgreePrices, feasible_agree, settled_agree, lowest_agree}
use Rattle.network.specs.Prices.{Lowest}
use Rattle.hour.specs.declared.items.Item.TheVariants.{Buy, Sell, Line}
use Rattle.circulation.proofs.Few.{top_small}
use Rattle.prices.proofs.Bounds.{proper_kept}
use Rattle.ledger.proofs.Booked.{money_agree}
use Rattle.ledger.proofs.Limits.{among_item, payable_lowest}
use Rattle.network.specs.Given.{item}
use Rattle.ledger.specs.Money.{worth_by}
use Rattle.ledger.specs.Published as texts
use Rattle.checker.proofs.Breaches.{none_broken}
use Rattle.checker.proofs.TextBack.{read_back}
use Rattle.checker.specs.Follows.{money_at, figure_wrong, rows_wrong, counts_in, outcome_said, wrong_in}
use Rattle.checker.specs.Form.{Saying, text_at, first_line}
use Rattle.checker.specs.Promises.{Says, table_of, HouseText}
use Rattle.checker.specs.Telling.{LowerSaid, JudgedAs, SaidAs, ReadAs, ReportedAs}
use Rattle.checker.specs.declared.reports.Report.{Report}
use Rattle.checker.specs.declared.reports.Report.TheVariants as reports
use Rattle.checker.specs.declared.reports.Wrong.{Wrong}
use Rattle.checker.specs.declared.verdict.Broken.{Broken}

listed_at : {A : Type 0} (n : ℕ) (f : ℕ → A) (k : ℕ) (d : A) → k < n → get_or (listed n f) k d ≡ f k
listed_at n f k d below = get_or-map-range_with_len f 0 n k k d below (zero-add k)

figure_follows : (line : ℕ) (figure : Option Sort) (a b : ℤ) → a ≡ b → figure_wrong line figure a b ≡ None
figure_follows line figure a b same =
    when_false _ _ (not_from_true _ ((Decides-int_eq a b).1 same))

worth_agree :
    (bs : List Bid) (xs ys : List ℕ) → ((k : ℕ) → k < length bs → at xs k ≡ at ys k) → worth bs xs ≡ worth bs ys
worth_agree bs xs ys same = total_same (length bs) _ _ (λ k below. ap (λ (x : ℕ). (bid bs k).price * x) (same k below))

cost_agree :
    (ls : List items.Line) (xs ys : List ℕ) → ((k : ℕ) → k < length ls → at xs k ≡ at ys k) → flow_cost ls xs ≡ flow_cost ls ys
cost_agree ls xs ys same = total_same (length ls) _ _ (λ k below. ap (λ (x : ℕ). (line ls k).cost * x) (same k below))

-- what a text says of an outcome and its prices
module _ (m : Market) (proper : Proper m) (o : Outcome) (ps : List ℕ) (n : ℕ) (t : Saying) (says : Says m o ps n t) where
  said_agree : Agree m o (outcome_said t)
  said_agree (Buy k) among =
      sym (ap (λ (xs : List ℕ). at xs k) (says.amounts sorts.Buy) ∙ listed_at _ _ k 0 among)
  said_agree (Sell k) among =
      sym (ap (λ (xs : List ℕ). at xs k) (says.amounts sorts.Sell) ∙ listed_at _ _ k 0 among)
  said_agree (Line k) among =
      sym (ap (λ (xs : List ℕ). at xs k) (says.amounts sorts.Line) ∙ listed_at _ _ k 0 among)

  said_prices : AgreePrices m ps t.zones.prices
  said_prices z below = sym (ap (λ (xs : List ℕ). at xs z) says.prices ∙ listed_at _ _ z 0 below)

  rows_follow : (s : Sort) → rows_wrong m (outcome_said t) t.zones.prices s (table_of t s).moneys ≡ None
  rows_follow s =
      first_all _ (count_of m s)
      (λ k below.
      figure_follows (first_line (counts_in m) s + k) (Some s) _ _
      (sym (money_agree m ps t.zones.prices proper said_prices o (outcome_said t) said_agree (item s k) (among_item m s k below))
      ∙ sym (ap (λ (ds : List ℤ). money_at ds k) (says.moneys s) ∙ listed_at _ _ k (pos 0) below)))

  worth_follows : worth_by m (outcome_said t) ≡ t.worth
  worth_follows =
      ap₂ (λ (a b : ℕ). pos a -ℤ pos b)
      (worth_agree m.buys _ _ (λ k below. sym (said_agree (Buy k) below)))
      (ap₂ ◌+◌ (worth_agree m.sells _ _ (λ k below. sym (said_agree (Sell k) below)))
      (cost_agree m.lines _ _ (λ k below. sym (said_agree (Line k) below))))
      ∙ sym says.worth

  none_wrong :
      wrong_in m (outcome_said t) t.zones.prices t ≡ None
  none_wrong =
      else_none _ _ (figure_follows 1 None _ _ worth_follows)
      ∙ (else_none _ _ (rows_follow sorts.Buy)
      ∙ (else_none _ _ (rows_follow sorts.Sell)
      ∙ rows_follow sorts.Line))

  -- Idea: no rule is broken and every row follows, so it is accepted; and lowest prices could not be lower.
  said_stands : Feasible m o → Settled m o ps → Lowest m ps → (r : Report) → SaidAs m t r → r ≡ reports.Accepted None
  said_stands feasible settled low r said =
      let f = feasible_agree m o (outcome_said t) said_agree feasible in
      let s = settled_agree m ps t.zones.prices proper said_prices o (outcome_said t) said_agree settled in
      let below = lowest_agree m ps t.zones.prices proper said_prices low in
      let accepted =
      subst (λ (w : Option Wrong). JudgedAs m (outcome_said t) t.zones.prices None w r) none_wrong
      (subst
      (λ (b : Option Broken).
      JudgedAs m (outcome_said t) t.zones.prices b
      (wrong_in m (outcome_said t) t.zones.prices t) r)
      (none_broken m (outcome_said t) t.zones.prices f s) said)
      in
      go f below accepted.lower accepted.report accepted.said
    where
      go :
          Feasible m (outcome_said t) → Lowest m t.zones.prices → (lower : Option ℕ) → r ≡ reports.Accepted lower →
          LowerSaid m (outcome_said t) t.zones.prices lower → r ≡ reports.Accepted None
      go f below None is said = is
      go f below (Some z) is first =
          let could = first.could in
          absurd (omega (
            arith,
            below.below (outcome_said t) could.prices f could.settled z first.among,
            could.lower,
          ))

pub house_text : HouseText
house_text bs text r none published reported =
    let m = market_of bs in
    let rules = kept bs none in
    let cleared = subst (λ (x : Option Refusal). texts.PublishedAs x m text) none published in
    let o = cleared.outcome in
    let ps = cleared.prices in
    let promised = cleared.promised in
    let few : cleared.pushes < 2 ^ 64 = omega (arith, promised.few, top_small m rules) in
    let pay = payable_lowest m o ps rules promised.feasible promised.lowest in
    let back = read_back m o ps cleared.pushes rules pay few in
    let read : text_at (counts_in m) text ≡ Ok back.said = ap (text_at (counts_in m)) cleared.text_is ∙ back.read in
    let said =
    subst (λ (x : Result Saying ℕ). ReadAs m x r) read
    (subst (λ (x : Option Refusal). ReportedAs x m (text_at (counts_in m) text) r) none reported)
    in
    said_stands m (proper_kept m rules) o ps cleared.pushes back.said back.says promised.feasible promised.settled
    promised.lowest r said
