-- How many pushes there can be: no more than the value can rise, which the rules of an hour limit. Assumes nothing.
use Rattle.std.proofs.Common.{◌≡◌, ℕ, zero, suc, ◌*◌, ◌<◌, ◌≤◌, List, length, ◌∙◌, add-mul, mul-le-mul, zero-mul, arith}
use Rattle.hour.specs.Total.{total}
use Rattle.hour.specs.Market.{Market, Outcome, bid}
use Rattle.hour.specs.Rules.{KeepsRules, BidKept}
use Rattle.hour.specs.declared.items.Bid.{Bid}
use Rattle.hour.proofs.Total.{total_same, total_none}
use Rattle.network.specs.Network.{capacity}
use Rattle.hour.specs.declared.items.Item.TheVariants.{Buy, Sell, Line}
use Rattle.network.proofs.Plain.{costs_none}
use Rattle.circulation.specs.Promises.{top, StepsSound}
use Rattle.circulation.proofs.Value.{value_top}

pub few_pushes :
    (m : Market) (o p : Outcome) (n : ℕ) → StepsSound m o p n → n ≤ top m
few_pushes m o p n sound = omega (arith, sound.rises, value_top m p sound.feasible)

total_bound : (n c : ℕ) (f : ℕ → ℕ) → ((k : ℕ) → k < n → f k ≤ c) → total n f ≤ n * c
total_bound zero c f le = omega arith
total_bound (suc n) c f le =
    omega (arith, total_bound n c f (λ k h. le k (omega arith)), le n (omega arith), add-mul n 1 c)

-- the bids of one sort together, by their own prices
bids_bound :
    (z : ℕ) (bs : List Bid) → length bs ≤ 1000 → ((k : ℕ) → k < length bs → BidKept z (bid bs k)) →
    total (length bs) (λ k. (bid bs k).price * (bid bs k).amount) ≤ 400_000_000_000_000
bids_bound z bs short kept =
    let each = total_bound (length bs) 400_000_000_000 (λ k. (bid bs k).price * (bid bs k).amount)
    (λ k h. mul-le-mul (kept k h).price (kept k h).amount) in
    omega (arith, each)

none : (n : ℕ) (x : ℕ → ℕ) → total n (λ k. 0 * x k) ≡ 0
none n x = total_same n _ _ (λ k h. zero-mul (x k)) ∙ total_none n

-- Idea: what all buys would pay, and what all sells would cost, is each a thousand times the highest price and amount.
pub top_small : (m : Market) → KeepsRules m → top m ≤ 800_000_000_000_000
top_small m kept =
    omega (
      arith,
      bids_bound m.zones m.buys kept.buys kept.each_buy,
      bids_bound m.zones m.sells kept.sells kept.each_sell,
      none (length m.sells) (λ k. capacity m (Sell k)),
      none (length m.buys) (λ k. capacity m (Buy k)),
      none (length m.lines) (λ k. capacity m (Line k)),
      costs_none m kept.plain (λ k. capacity m (Line k)),
    )
