-- The rules of an hour limit every row and every sum. Assumes nothing.
use Rattle.std.proofs.Common.{◌≡◌, ℕ, zero, suc, ◌+◌, ◌*◌, ◌^◌, ◌<◌, ◌≤◌, List, ℤ, nat_abs, refl, ap, ◌∙◌, ap₂, inl, add-mul, mul-le-mul, arith, w64, to_z, of_z}
use borrow.Author.Differences.{ints}
use Rattle.hour.proofs.First.{is_none}
use Rattle.hour.proofs.Kept.{kept}
use Rattle.hour.specs.Total.{total}
use Rattle.hour.specs.Market.{Market, Outcome, Feasible, costs, count_of}
use Rattle.hour.specs.Rules.{KeepsRules, max_price, max_amount}
use Rattle.hour.specs.declared.refusals.Sort.{Sort}
use Rattle.hour.specs.declared.refusals.Sort.TheVariants as sorts
use Rattle.hour.specs.declared.view.Hour.{Hour}
use Rattle.network.proofs.Cap.{lowest_capped}
use Rattle.network.proofs.Market.{within}
use Rattle.network.proofs.Plain.{costs_plain}
use Rattle.network.specs.Network.{Among, carried, capacity}
use Rattle.network.specs.Prices.{Lowest, PricesTo}
use Rattle.hour.specs.declared.items.Item.{Item}
use Rattle.hour.specs.declared.items.Item.TheVariants.{Buy, Sell, Line}
use Rattle.hour.specs.Seen.{market_seen}
use Rattle.network.specs.Given.{item}
use Rattle.prices.proofs.Bounds.{proper_kept}
use Rattle.ledger.specs.Money.{above, base, money, asked, sumℤ, sum_of}
use Rattle.ledger.specs.Money.{worth_of, LedgerOf, ReadAsMoney, Payable}
use Rattle.ledger.specs.Promises.{SumsSmall, WorthSmall}
use Rattle.ledger.specs.Written.{widest}
use Rattle.ledger.proofs.Size.{size_add, size_between, size_owed, number_back, bits_back}

pub rules_of : (h : Hour) → KeepsRules (market_seen h)
rules_of h = kept h.bytes.now (is_none _ h.kept)

pub among_item : (m : Market) (s : Sort) (k : ℕ) → k < count_of m s → Among m (item s k)
among_item m sorts.Buy k h = h
among_item m sorts.Sell k h = h
among_item m sorts.Line k h = h

module _ (m : Market) (rules : KeepsRules m) where
  capacity_small : (i : Item) → Among m i → capacity m i ≤ max_amount
  capacity_small (Buy k) h = (rules.each_buy k h).amount
  capacity_small (Sell k) h = (rules.each_sell k h).amount
  capacity_small (Line k) h = (rules.each_line k h).capacity

  pub carried_small : (o : Outcome) → Feasible m o → (i : Item) → Among m i → carried o i ≤ max_amount
  carried_small o feasible i h = omega (arith, within m o feasible i h, capacity_small i h)

  pub asked_small : (i : Item) → Among m i → asked m i ≤ max_price
  asked_small (Buy k) h = (rules.each_buy k h).price
  asked_small (Sell k) h = (rules.each_sell k h).price
  asked_small (Line k) h = omega (arith, rules.plain.costless k h)

prices_kept : (m : Market) → KeepsRules m → PricesTo m max_price
prices_kept m rules =
    record {
      buys = λ k h. (rules.each_buy k h).price;
      sells = λ k h. (rules.each_sell k h).price;
    }

-- lowest prices are at or below the dearest bid, so they can be paid
pub payable_lowest :
    (m : Market) (o : Outcome) (ps : List ℕ) → KeepsRules m → Feasible m o → Lowest m ps → Payable m o ps
payable_lowest m o ps rules feasible low =
    record { feasible = feasible; prices = lowest_capped m max_price ps (inl (proper_kept m rules)) low (prices_kept m rules) }

module _ (m : Market) (o : Outcome) (ps : List ℕ) (rules : KeepsRules m) (pay : Payable m o ps) where
  pub above_small : (i : Item) → Among m i → above m ps i ≤ max_price
  above_small (Buy k) h = pay.prices _ (rules.each_buy k h).zone
  above_small (Sell k) h = pay.prices _ (rules.each_sell k h).zone
  above_small (Line k) h = pay.prices _ (rules.each_line k h).to

  pub base_small : (i : Item) → Among m i → base m ps i ≤ max_price
  base_small (Buy k) h = omega arith
  base_small (Sell k) h = omega arith
  base_small (Line k) h = omega (arith, pay.prices _ (rules.each_line k h).from, rules.plain.costless k h)

  -- a bid's zone's price is at most 350,000 from no money
  size_bid : (i : Item) → Among m i → base m ps i ≡ 50000 → nat_abs (money m o ps i) ≤ 350_000_000_000
  size_bid i h none =
      let high = above_small i h in
      size_owed (above m ps i) (base m ps i) (carried o i) 350000 max_amount (omega (arith, ints))
      (carried_small m rules o pay.feasible i h)

  pub size_item : (i : Item) → Among m i → nat_abs (money m o ps i) ≤ 400_000_000_000
  size_item i h =
      size_owed (above m ps i) (base m ps i) (carried o i) max_price max_amount
      (size_between _ _ max_price (above_small i h) (base_small i h))
      (carried_small m rules o pay.feasible i h)

  pub size_row : (s : Sort) (k : ℕ) → k < count_of m s → nat_abs (money m o ps (item s k)) ≤ widest s
  size_row sorts.Buy k h = size_bid (Buy k) h refl
  size_row sorts.Sell k h = size_bid (Sell k) h refl
  size_row sorts.Line k h = size_item (Line k) h

  size_sum : (s : Sort) (n : ℕ) → n ≤ count_of m s → nat_abs (sumℤ n (λ k. money m o ps (item s k))) ≤ n * widest s
  size_sum s zero h = omega arith
  size_sum s (suc n) h =
      omega (
        arith,
        size_add (sumℤ n (λ k. money m o ps (item s k))) (money m o ps (item s n)),
        size_sum s n (omega arith),
        size_row s n (omega arith),
        add-mul n 1 (widest s),
      )

pub widest_fits : (s : Sort) → widest s < 2 ^ 63
widest_fits sorts.Buy = omega arith
widest_fits sorts.Sell = omega arith
widest_fits sorts.Line = omega arith

-- the rows of a sort together
pub widest_all : (m : Market) → KeepsRules m → (s : Sort) → count_of m s * widest s < 400_000_000_000_000
widest_all m rules sorts.Buy = omega (arith, rules.buys)
widest_all m rules sorts.Sell = omega (arith, rules.sells)
widest_all m rules sorts.Line = omega (arith, rules.lines)

-- the sum of a sort, passed on by its bits
pub sum_bits :
    (m : Market) → KeepsRules m → (s : Sort) (z : ℤ) → nat_abs z ≤ count_of m s * widest s →
    of_z w64 (to_z w64 (of_z w64 z)) ≡ of_z w64 z
sum_bits m rules s z small = bits_back z (omega (arith, widest_all m rules s))

-- a sum of some rows of a sort, and one row more
pub running_small :
    (m : Market) → KeepsRules m → (s : Sort) (k x y : ℕ) → k < count_of m s → x ≤ k * widest s → y ≤ widest s →
    x + y < 2 ^ 63
running_small m rules s k x y below sum row =
    let more : k + 1 ≤ count_of m s = omega arith in
    let same : widest s ≤ widest s = omega arith in
    omega (arith, mul-le-mul more same, add-mul k 1 (widest s), widest_all m rules s)

-- the k-th item of a sort at its own price, and the first n of them
abbrev pub worth_at : Market → Outcome → Sort → ℕ → ℕ
worth_at m o s k = asked m (item s k) * carried o (item s k)

abbrev pub worth_to : Market → Outcome → Sort → ℕ → ℕ
worth_to m o s n = total n (worth_at m o s)

module _ (m : Market) (o : Outcome) (rules : KeepsRules m) (feasible : Feasible m o) (s : Sort) where
  pub worth_row : (k : ℕ) → k < count_of m s → asked m (item s k) * carried o (item s k) ≤ 400_000_000_000
  worth_row k h =
      let among = among_item m s k h in
      mul-le-mul (asked_small m rules (item s k) among) (carried_small m rules o feasible (item s k) among)

  pub worth_to_small : (n : ℕ) → n ≤ count_of m s → worth_to m o s n ≤ n * 400_000_000_000
  worth_to_small zero h = omega arith
  worth_to_small (suc n) h = omega (arith, worth_to_small n (omega arith), worth_row n (omega arith))

-- the price and the amount of the item i, which is the k-th of a sort
module _
    (m : Market) (o : Outcome) (rules : KeepsRules m) (feasible : Feasible m o) (s : Sort) (k : ℕ) (below : k < count_of m s)
    (i : Item) (price amount : ℕ) (here : i ≡ item s k) (asks : price ≡ asked m i) (carries : amount ≡ carried o i)
  where
    pub worth_is : price * amount ≡ asked m (item s k) * carried o (item s k)
    worth_is = ap₂ ◌*◌ (asks ∙ ap (asked m) here) (carries ∙ ap (carried o) here)

    pub worth_fits : price * amount ≤ 400_000_000_000
    worth_fits = omega (arith, worth_is, worth_row m o rules feasible s k below)

pub count_small : (m : Market) → KeepsRules m → (s : Sort) → count_of m s ≤ 1000
count_small m rules sorts.Buy = rules.buys
count_small m rules sorts.Sell = rules.sells
count_small m rules sorts.Line = omega (arith, rules.lines)

sort_worth_small :
    (m : Market) (o : Outcome) → KeepsRules m → Feasible m o → (s : Sort) → worth_of m o s ≤ 400_000_000_000_000
sort_worth_small m o rules feasible s =
    omega (arith, worth_to_small m o rules feasible s (count_of m s) (omega arith), count_small m rules s)

pub worth_small : WorthSmall
worth_small m o rules feasible =
    let gained = sort_worth_small m o rules feasible sorts.Buy in
    let sells = sort_worth_small m o rules feasible sorts.Sell in
    let spent : costs m o ≤ 400_000_000_000_000 = omega (arith, costs_plain m rules.plain o) in
    record { gained = gained; spent = spent; whole = size_between _ _ 400_000_000_000_000 gained spent }

pub sums_small : SumsSmall
sums_small m o ps rules pay =
    record {
      rows = size_item m o ps rules pay;
      sums = λ s. omega (arith, size_sum m o ps rules pay s (count_of m s) (omega arith), widest_all m rules s);
    }

-- money that is small is read from its bits again
pub read_as_money :
    (m : Market) (o : Outcome) (ps l : List ℕ) → KeepsRules m → Payable m o ps → LedgerOf m o ps l →
    ReadAsMoney m o ps l
read_as_money m o ps l rules pay booked =
    let small = sums_small m o ps rules pay in
    record {
      rows = λ s k below.
          ap (to_z w64) (booked.rows s k below)
          ∙ number_back (money m o ps (item s k)) (omega (arith, small.rows (item s k) (among_item m s k below)));
      sums = λ s. ap (to_z w64) (booked.sums s) ∙ number_back (sum_of m o ps s) (omega (arith, small.sums s));
    }
