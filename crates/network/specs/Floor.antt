-- Prices below nothing, and markets in which they are not needed. Assumes nothing: these are definitions.
--
--   FreeStart m         an outcome that can be carried out in which nothing is sold, only bids at price 0 buy and only lines
--                       without cost carry
--   terms_from m qs s i the terms of the item i at prices of which s stands for nothing: less is below nothing
--   SettledFrom m o ..  at these prices nobody would rather have another amount
--   floored m qs s      zone by zone how far the price is above s, and 0 where it is below
use Rattle.std.specs.Prelude.{◌≡◌, ℕ, ◌+◌, ◌-◌, ◌<◌, List, length}
use Rattle.hour.specs.Listed.{listed}
use Rattle.hour.specs.Market.{Market, Outcome, Feasible, Among, Content, carried, terms, at, bid, line}
use Rattle.hour.specs.declared.items.Item.{Item}
use Rattle.hour.specs.declared.items.Item.TheVariants.{Buy, Sell, Line}
use Rattle.hour.specs.declared.items.Terms.{Terms}

pub record FreeStart (m : Market) : Type 0 where
  pub start : Outcome
  pub feasible : Feasible m start
  pub sold : (k : ℕ) → k < length m.sells → at start.sold k ≡ 0
  pub bought : (k : ℕ) → k < length m.buys → 0 < at start.bought k → (bid m.buys k).price ≡ 0
  pub flow : (k : ℕ) → k < length m.lines → 0 < at start.flow k → (line m.lines k).cost ≡ 0

abbrev pub terms_from : Market → List ℕ → ℕ → Item → Terms
terms_from m qs s (Buy k) =
    record { limit = (bid m.buys k).amount; cost = at qs (bid m.buys k).zone; value = (bid m.buys k).price + s }
terms_from m qs s (Sell k) =
    record { limit = (bid m.sells k).amount; cost = (bid m.sells k).price + s; value = at qs (bid m.sells k).zone }
terms_from m qs s (Line k) = terms m qs (Line k)

pub record SettledFrom (m : Market) (o : Outcome) (qs : List ℕ) (s : ℕ) : Type 0 where
  pub content : (i : Item) → Among m i → Content (terms_from m qs s i) (carried o i)

abbrev pub floored : Market → List ℕ → ℕ → List ℕ
floored m qs s = listed m.zones (λ z. at qs z - s)
