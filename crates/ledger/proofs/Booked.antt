-- The ledger of what is found, and what the fronts of slices say of it. Assumes nothing.
use Rattle.std.proofs.Common.{◌≡◌, ℕ, zero, suc, ◌+◌, ◌≤◌, List, length, drop, ◌+ℤ◌, sym, refl, ap, ◌∙◌, inl, subst, ap₂, arith, w64, of_z}
use Rattle.std.proofs.lemmas.List.{ext_get_or, get_or-drop, length-drop}
use Rattle.hour.specs.Bytes.{market_of}
use Rattle.hour.specs.Market.{Market, Outcome, Proper, at, line, count_of}
use Rattle.hour.specs.Rules.{KeepsRules, max_price}
use Rattle.hour.specs.declared.refusals.Sort.{Sort}
use Rattle.network.proofs.Agree.{Agree, AgreePrices, feasible_agree, fronts_agree, front_prices}
use Rattle.network.proofs.Cap.{lowest_capped}
use Rattle.network.specs.Network.{Among, carried}
use Rattle.network.specs.Prices.{PricesTo}
use Rattle.network.specs.Tables.{outcome_in}
use Rattle.hour.specs.declared.items.Item.{Item}
use Rattle.hour.specs.declared.items.Item.TheVariants.{Buy, Sell, Line}
use Rattle.prices.proofs.Bounds.{proper_kept}
use Rattle.prices.proofs.Promised.{found_promised}
use Rattle.prices.specs.Found.{Found, Promised, result_in, prices_in}
use Rattle.ledger.proofs.Even.{ledger_even}
use Rattle.ledger.proofs.Limits.{among_item, payable_lowest, read_as_money, sums_small}
use Rattle.ledger.specs.Entry.{Slices, ClearedIn}
use Rattle.network.specs.Given.{item}
use Rattle.ledger.specs.Money.{above, base, owed, money, sumℤ, LedgerOf, ReadAsMoney, Payable}
use Rattle.ledger.specs.Promises.{Evens, Small}

module _ (m : Market) (ps qs : List ℕ) (proper : Proper m) (same : AgreePrices m ps qs) where
  above_agree : (i : Item) → Among m i → above m ps i ≡ above m qs i
  above_agree (Buy k) among = same _ (proper.buys k among)
  above_agree (Sell k) among = same _ (proper.sells k among)
  above_agree (Line k) among = same _ (proper.to k among)

  base_agree : (i : Item) → Among m i → base m ps i ≡ base m qs i
  base_agree (Buy k) among = refl
  base_agree (Sell k) among = refl
  base_agree (Line k) among = ap (λ p. p + (line m.lines k).cost) (same _ (proper.from k among))

  module _ (o p : Outcome) (alike : Agree m o p) where
    pub money_agree : (i : Item) → Among m i → money m o ps i ≡ money m p qs i
    money_agree i among =
        ap₂ (λ (a b : ℕ). owed a b (carried o i)) (above_agree i among) (base_agree i among)
        ∙ ap (owed (above m qs i) (base m qs i)) (alike i among)

    sum_agree : (s : Sort) (n : ℕ) → n ≤ count_of m s →
        sumℤ n (λ k. money m o ps (item s k)) ≡ sumℤ n (λ k. money m p qs (item s k))
    sum_agree s zero fits = refl
    sum_agree s (suc n) fits =
        ap₂ ◌+ℤ◌ (sum_agree s n (omega arith)) (money_agree (item s n) (among_item m s n (omega arith)))

    pub ledger_agree : (l : List ℕ) → LedgerOf m o ps l → LedgerOf m p qs l
    ledger_agree l ledger =
        record {
          rows = λ s k below. ledger.rows s k below ∙ ap (of_z w64) (money_agree (item s k) (among_item m s k below));
          sums = λ s. ledger.sums s ∙ ap (of_z w64) (sum_agree s (count_of m s) (omega arith));
        }

-- what was found stands at the front of slices: they can be booked as they are, and what is booked is of what was found
module _ (m : Market) (kept : KeepsRules m) (bought sold flow price : List ℕ) where
  pub payable_found :
      (n : ℕ) → Found m n (result_in m bought sold flow) (prices_in m price) →
      Payable m (outcome_in bought sold flow) price
  payable_found n found =
      let promised = found_promised m n _ _ (proper_kept m kept) kept.plain found in
      let dear : PricesTo m max_price =
      record { buys = λ k below. (kept.each_buy k below).price; sells = λ k below. (kept.each_sell k below).price } in
      record {
        feasible = feasible_agree m _ _ (fronts_agree m bought sold flow) promised.feasible;
        prices = λ z below. omega (arith, lowest_capped m max_price _ (inl (proper_kept m kept)) promised.lowest dear z below, front_prices m price z below);
      }

  pub booked_front :
      (l : List ℕ) → LedgerOf m (outcome_in bought sold flow) price l →
      LedgerOf m (result_in m bought sold flow) (prices_in m price) l
  booked_front l ledger =
      ledger_agree m price (prices_in m price) (proper_kept m kept) (λ z below. sym (front_prices m price z below))
      (outcome_in bought sold flow) (result_in m bought sold flow)
      (λ i among. sym (fronts_agree m bought sold flow i among)) l ledger

-- what is as it was from some number on
pub behind_kept :
    (n : ℕ) (xs ys : List ℕ) → length xs ≡ length ys → ((k : ℕ) → n ≤ k → at xs k ≡ at ys k) → drop n xs ≡ drop n ys
behind_kept n xs ys long same =
    ext_get_or 0 (drop n xs) (drop n ys) (omega (arith, length-drop n xs, length-drop n ys))
    (λ k below. get_or-drop n xs k 0 ∙ (same (n + k) (omega arith) ∙ sym (get_or-drop n ys k 0)))

-- what is promised of an hour that was cleared
module _ (m : Market) (kept : KeepsRules m) (n : ℕ) (old new : Slices) (done : ClearedIn m n old new) where
  pub promised_in : Promised m n (result_in m new.bought new.sold new.flow) (prices_in m new.price)
  promised_in = found_promised m n _ _ (proper_kept m kept) kept.plain done.found

  payable_in : Payable m (result_in m new.bought new.sold new.flow) (prices_in m new.price)
  payable_in = payable_lowest m _ _ kept promised_in.feasible promised_in.lowest

  pub small_in : Small m (result_in m new.bought new.sold new.flow) (prices_in m new.price)
  small_in = sums_small m _ _ kept payable_in

  pub read_in : ReadAsMoney m (result_in m new.bought new.sold new.flow) (prices_in m new.price) new.ledger
  read_in = read_as_money m _ _ _ kept payable_in done.booked

  pub closed_in : Evens m (result_in m new.bought new.sold new.flow) (prices_in m new.price)
  closed_in = ledger_even m _ _ (proper_kept m kept) kept.plain promised_in.feasible promised_in.settled

pub same_market :
    (bs cs : List ℕ) → bs ≡ cs → (n : ℕ) (old new : Slices) → ClearedIn (market_of bs) n old new →
    ClearedIn (market_of cs) n old new
same_market bs cs same n old new done = subst (λ (xs : List ℕ). ClearedIn (market_of xs) n old new) same done
