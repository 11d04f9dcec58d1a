-- The worked hours, each by arithmetic on its numbers. Assumes nothing.
use Rattle.std.proofs.Common.{◌≡◌, ℕ, zero, suc, ◌+◌, ◌<◌, ◌≤◌, List, [], ◌∷◌, length, inl, inr, arith, lit<}
use Rattle.std.proofs.lemmas.Bool.{cases_eq, cases_lt}
use Rattle.hour.specs.Market.{Market, Outcome, Proper, Feasible, Settled, Balanced, at, bid, line, worth, costs}
use Rattle.network.specs.Network.{Among, ContentItem}
use Rattle.hour.specs.declared.items.Item.{Item}
use Rattle.hour.specs.declared.items.Item.TheVariants.{Buy, Sell, Line}
use Rattle.network.specs.Hours.{Row, Holds, narrow, wide, in_part, tied, unsold, apart, charged, stored, one_each, traded}
use Rattle.network.specs.Promises.{WorkedHours}
use Rattle.network.proofs.Content.{runs, has_room}
use Rattle.network.proofs.Prices.{one_lowest}

-- what holds of each number below n, one by one
abbrev Every : ℕ → (ℕ → Type 0) → Type 0
Every zero P = Unit {0}
Every (suc n) P = Every n P × P n

every : (n : ℕ) (P : ℕ → Type 0) → Every n P → (k : ℕ) → k < n → P k
every zero P all k h = let never : ⊥ = omega arith in absurd never
every (suc n) P all k h =
    elim (cases_eq k n) [ inl e ↦ rw e all.1 | inr ne ↦ every n P all.0 k (omega arith) ]

record CheckedMarket (m : Market) : Type 0 where
  buys : Every (length m.buys) (λ k. (bid m.buys k).zone < m.zones)
  sells : Every (length m.sells) (λ k. (bid m.sells k).zone < m.zones)
  from : Every (length m.lines) (λ k. (line m.lines k).from < m.zones)
  to : Every (length m.lines) (λ k. (line m.lines k).to < m.zones)

record CheckedOutcome (m : Market) (o : Outcome) : Type 0 where
  buys : Every (length m.buys) (λ k. at o.bought k ≤ (bid m.buys k).amount)
  sells : Every (length m.sells) (λ k. at o.sold k ≤ (bid m.sells k).amount)
  lines : Every (length m.lines) (λ k. at o.flow k ≤ (line m.lines k).capacity)
  balance : Every m.zones (Balanced m o)

record CheckedPrices (m : Market) (o : Outcome) (ps : List ℕ) : Type 0 where
  buys : Every (length m.buys) (λ k. ContentItem m o ps (Buy k))
  sells : Every (length m.sells) (λ k. ContentItem m o ps (Sell k))
  lines : Every (length m.lines) (λ k. ContentItem m o ps (Line k))

settled : (m : Market) (o : Outcome) (ps : List ℕ) → CheckedPrices m o ps → Settled m o ps
settled m o ps c = record { content = content }
  where
    content : (i : Item) → Among m i → ContentItem m o ps i
    content (Buy k) h = every _ _ c.buys k h
    content (Sell k) h = every _ _ c.sells k h
    content (Line k) h = every _ _ c.lines k h

abbrev Below : Row → Type 0
Below r =
    (qs : List ℕ) → Settled r.market r.outcome qs → Every r.market.zones (λ z. at r.prices z ≤ at qs z)

holds :
    (r : Row) → CheckedMarket r.market → CheckedOutcome r.market r.outcome →
    CheckedPrices r.market r.outcome r.prices →
    worth r.market.buys r.outcome.bought ≡ r.worth + costs r.market r.outcome →
    Below r → Holds r
holds r market outcome prices sums below =
    record {
      proper = proper;
      feasible = feasible;
      settled = settles;
      lowest = (one_lowest r.market proper).any r.outcome r.prices feasible
          (record { settled = settles; below = λ qs s. every _ _ (below qs s) });
      worth = sums;
    }
  where
    proper : Proper r.market
    proper =
        record {
          buys = every _ _ market.buys;
          sells = every _ _ market.sells;
          from = every _ _ market.from;
          to = every _ _ market.to;
        }

    feasible : Feasible r.market r.outcome
    feasible =
        record {
          buys = every _ _ outcome.buys;
          sells = every _ _ outcome.sells;
          lines = every _ _ outcome.lines;
          balance = every _ _ outcome.balance;
        }

    settles : Settled r.market r.outcome r.prices
    settles = settled r.market r.outcome r.prices prices

pub worked_hours : WorkedHours
worked_hours =
    record {
      narrow = holds narrow (omega arith) (omega arith) (omega arith) (omega arith)
          (λ qs s. omega (arith, runs (s.content (Sell 0) (lit< tt)) (lit< tt), runs (s.content (Sell 1) (lit< tt)) (lit< tt)));
      wide = holds wide (omega arith) (omega arith) (omega arith) (omega arith)
          (λ qs s. omega (arith, runs (s.content (Sell 1) (lit< tt)) (lit< tt), has_room (s.content (Line 0) (lit< tt)) (lit< tt)));
      in_part = holds in_part (omega arith) (omega arith) (omega arith) (omega arith)
          (λ qs s. omega (arith, has_room (s.content (Buy 1) (lit< tt)) (lit< tt)));
      tied = λ n h. holds (tied n) (omega arith) (omega arith) (omega arith) (omega arith) (lowest_tied n h);
      unsold = holds unsold (omega arith) (omega arith) (omega arith) (omega arith) (λ qs s. omega arith);
      apart = holds apart (omega arith) (omega arith) (omega arith) (omega arith)
          (λ qs s. omega (arith, runs (s.content (Sell 0) (lit< tt)) (lit< tt)));
      charged = holds charged (omega arith) (omega arith) (omega arith) (omega arith)
          (λ qs s. omega (arith, runs (s.content (Sell 1) (lit< tt)) (lit< tt), has_room (s.content (Line 0) (lit< tt)) (lit< tt)));
      stored = holds stored (omega arith) (omega arith) (omega arith) (omega arith)
          (λ qs s. omega (arith, runs (s.content (Sell 0) (lit< tt)) (lit< tt)));
      between = λ p low high. settled (one_each 12) (traded 10) (p ∷ []) (omega arith);
    }
  where
    lowest_tied : (n : ℕ) → n ≤ 10 → Below (tied n)
    lowest_tied n h qs s =
        elim (cases_lt 0 n) [
          | inl some ↦ omega (arith, runs (s.content (Sell 0) (lit< tt)) some)
          | inr none ↦ omega (arith, has_room (s.content (Buy 0) (lit< tt)) (omega arith))
        ]
