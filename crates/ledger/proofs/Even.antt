-- What the buyers pay is what the sellers get and what the lines earn. Assumes nothing.
use Rattle.std.proofs.Common.{◌≡◌, ℕ, zero, suc, ◌+◌, ◌-◌, ◌*◌, ◌<◌, length, replicate, pos, negsuc, ◌+ℤ◌, ◌-ℤ◌, ◌*ℤ◌, ◌≤ℤ◌, sym, refl, ap, ◌∙◌, ap₂, inl, inr, add-mul, arith}
use mathlib.Core.Path.{subst⁻¹}
use borrow.Author.Differences.{ints}
use Rattle.std.proofs.lemmas.List.{get_or-replicate}
use Rattle.std.proofs.lemmas.Bool.{cases_lt}
use Rattle.hour.specs.Market.{Market, Outcome, Proper, Plain, Feasible, at, bid, line}
use Rattle.hour.specs.Text.{zero_price}
use Rattle.hour.specs.Total.{total}
use Rattle.hour.specs.declared.refusals.Sort.TheVariants as sorts
use Rattle.hour.proofs.Total.{total_same, total_add}
use Rattle.network.specs.Prices.{paid, sent, arrived}
use Rattle.network.proofs.Plain.{supplied_none, costs_none}
use Rattle.network.proofs.Prices.{paid_level, even}
use Rattle.ledger.specs.Money.{owed, sumℤ, sum_of}
use Rattle.ledger.specs.Promises.{LedgerEven}

-- a less b, x times, is a times x less b times x
pub owed_apart : (a b x : ℕ) → owed a b x ≡ pos (a * x) -ℤ pos (b * x)
owed_apart a b x =
    elim (cases_lt a b) [
      | inl less ↦
          let d = b - suc a in
          let parts : a + suc d ≡ b = omega arith in
          let under : pos a -ℤ pos b ≡ negsuc d = omega (arith, ints) in
          let product = ap (λ n. n * x) (sym parts) ∙ add-mul a (suc d) x in
          ap (λ z. z *ℤ pos x) under ∙ omega (arith, ints)
      | inr more ↦
          let d = a - b in
          let parts : b + d ≡ a = omega arith in
          let over : pos a -ℤ pos b ≡ pos d = omega (arith, ints) in
          let product = ap (λ n. n * x) (sym parts) ∙ add-mul b d x in
          ap (λ z. z *ℤ pos x) over ∙ omega (arith, ints)
    ]

-- a sum of such is the sum of what is above less that of what is below
pub sum_apart :
    (n : ℕ) (a b x : ℕ → ℕ) →
    sumℤ n (λ k. owed (a k) (b k) (x k)) ≡ pos (total n (λ k. a k * x k)) -ℤ pos (total n (λ k. b k * x k))
sum_apart zero a b x = refl
sum_apart (suc n) a b x =
    let so_far = sum_apart n a b x in
    let last = owed_apart (a n) (b n) (x n) in
    ap₂ ◌+ℤ◌ so_far last ∙ omega (arith, ints)

-- at one price in every zone
flat :
    (zones n : ℕ) (key x : ℕ → ℕ) → ((k : ℕ) → k < n → key k < zones) →
    total n (λ k. at (replicate zones zero_price) (key k) * x k) ≡ total n (λ k. zero_price * x k)
flat zones n key x below =
    total_same n _ _ (λ k h. ap (λ p. p * x k) (get_or-replicate zones (key k) zero_price 0 (below k h)))

-- Idea: at one price everywhere, what the lines send is what arrives.
pub bought_sold :
    (m : Market) (o : Outcome) → Proper m → Plain m → Feasible m o →
    total (length m.buys) (λ k. zero_price * at o.bought k)
    ≡ total (length m.sells) (λ k. zero_price * at o.sold k)
bought_sold m o proper plain feasible =
    omega (
      arith,
      paid_level m o (replicate m.zones zero_price) proper feasible,
      supplied_none m plain (replicate m.zones zero_price),
      flat m.zones (length m.buys) (λ k. (bid m.buys k).zone) (at o.bought) proper.buys,
      flat m.zones (length m.sells) (λ k. (bid m.sells k).zone) (at o.sold) proper.sells,
      flat m.zones (length m.lines) (λ k. (line m.lines k).from) (at o.flow) proper.from,
      flat m.zones (length m.lines) (λ k. (line m.lines k).to) (at o.flow) proper.to,
    )

-- Idea: each sum is what stands above less what stands below; as much is bought as is sold.
pub ledger_even : LedgerEven
ledger_even m o ps proper plain feasible settled =
    record {
      even =
          let level = paid_level m o ps proper feasible in
          let dry = supplied_none m plain ps in
          let same = bought_sold m o proper plain feasible in
          pays ∙ (omega (arith, ints) ∙ sym (ap₂ ◌+ℤ◌ gets earns));
      lines = λ k h.
          let up = (even m o ps proper feasible settled).lines k h in
          let begin = at ps (line m.lines k).from in
          let own = (line m.lines k).cost in
          let apart = owed_apart (at ps (line m.lines k).to) (begin + own) (at o.flow k) in
          let cost = add-mul begin own (at o.flow k) in
          subst⁻¹ (λ z. pos 0 ≤ℤ z) apart (omega (arith, ints));
    }
  where
    pays :
        sum_of m o ps sorts.Buy
        ≡ pos (paid ps m.buys o.bought) -ℤ pos (total (length m.buys) (λ k. zero_price * at o.bought k))
    pays = sum_apart (length m.buys) (λ k. at ps (bid m.buys k).zone) (λ k. zero_price) (at o.bought)

    gets :
        sum_of m o ps sorts.Sell
        ≡ pos (paid ps m.sells o.sold) -ℤ pos (total (length m.sells) (λ k. zero_price * at o.sold k))
    gets = sum_apart (length m.sells) (λ k. at ps (bid m.sells k).zone) (λ k. zero_price) (at o.sold)

    -- what lines pay is what they send, as the flows cost nothing
    begins :
        total (length m.lines) (λ k. (at ps (line m.lines k).from + (line m.lines k).cost) * at o.flow k)
        ≡ sent ps m.lines o.flow
    begins =
        let begin : ℕ → ℕ = λ k. at ps (line m.lines k).from * at o.flow k in
        let own : ℕ → ℕ = λ k. (line m.lines k).cost * at o.flow k in
        omega (
          arith,
          total_same (length m.lines) _ (λ k. begin k + own k)
              (λ k h. add-mul (at ps (line m.lines k).from) (line m.lines k).cost (at o.flow k)),
          total_add (length m.lines) begin own,
          costs_none m plain (at o.flow),
        )

    earns :
        sum_of m o ps sorts.Line ≡ pos (arrived ps m.lines o.flow) -ℤ pos (sent ps m.lines o.flow)
    earns =
        sum_apart (length m.lines) (λ k. at ps (line m.lines k).to)
        (λ k. at ps (line m.lines k).from + (line m.lines k).cost) (at o.flow)
        ∙ ap (λ n. pos (arrived ps m.lines o.flow) -ℤ pos n) begins
