-- A price that is held up is lower in no list that settles. Assumes nothing.
use Rattle.std.proofs.Common.{ℕ, ◌≤◌, List, ap, arith}
use Rattle.hour.specs.Market.{Market, Outcome, Proper, Plain, Feasible, Settled, at}
use Rattle.hour.specs.declared.items.Item.TheVariants.{Buy, Sell, Line}
use Rattle.network.proofs.Content.{runs, has_room}
use Rattle.network.proofs.Prices.{exchange}
use Rattle.checker.specs.Holding.{Held, NowhereLower}
use Rattle.checker.specs.Holding.Held.{at_none, by_buy, by_sell, by_line_out, by_line_in}

-- Idea: at any prices that settle, a bid that holds a price holds it there too, and a line hands on what holds the other zone.
module _ (m : Market) (plain : Plain m) (o : Outcome) (ps qs : List ℕ) (s : Settled m o qs) where
  pub held_le : {z : ℕ} → Held m o ps z → at ps z ≤ at qs z
  held_le (at_none none) = omega arith
  held_le (by_buy k h) =
      omega (arith, has_room (s.content (Buy k) h.among) h.room, h.price, ap (at qs) h.zone)
  held_le (by_sell k h) =
      omega (arith, runs (s.content (Sell k) h.among) h.some, h.price, ap (at qs) h.zone)
  held_le (by_line_out l h held) =
      omega (
        arith,
        has_room (s.content (Line l) h.among) h.room,
        plain.costless l h.among,
        held_le held,
        h.price,
        ap (at qs) h.from,
        ap (at qs) h.to,
      )
  held_le (by_line_in l h held) =
      omega (
        arith,
        runs (s.content (Line l) h.among) h.some,
        plain.costless l h.among,
        held_le held,
        h.price,
        ap (at qs) h.from,
        ap (at qs) h.to,
      )

-- Idea: prices that settle another outcome settle this one too.
pub held_nowhere_lower :
    (m : Market) (o : Outcome) (ps : List ℕ) → Proper m → Plain m → Feasible m o → Settled m o ps →
    (z : ℕ) → Held m o ps z → NowhereLower m ps z
held_nowhere_lower m o ps proper plain f s z held p qs g t = held_le m plain o ps qs (exchange m o p ps qs proper f g s t) held
