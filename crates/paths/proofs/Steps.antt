-- The kinds of free steps: along a bid to the hub, along a bid from the hub, across a line. Assumes nothing.
--
--   ToHub m o s       s takes power in a zone, and gains no more than the zone's taker is worth
--   FromHub m o s     s gives power in a zone, and costs no less than the zone's giver asks
--   Across m o s      s leads over a line, and neither costs nor gains
use Rattle.std.proofs.Common.{◌≡◌, ℕ, suc, ◌+◌, ◌-◌, ◌<◌, ◌≤◌, ◌⊎◌, ltb, length, refl, subst, inl, inr, arith}
use Rattle.std.proofs.lemmas.Bool.Decides.{nat_tests}
use Rattle.hour.specs.Market.{Market, Outcome, Proper, Plain, line}
use Rattle.network.specs.Network.{hub}
use Rattle.network.specs.Ways.{Free, room, start, finish, step_cost, step_gain}
use Rattle.hour.specs.declared.items.Item.{Item}
use Rattle.hour.specs.declared.items.Item.TheVariants.{Buy, Sell, Line}
use Rattle.network.specs.declared.arcs.Step.{Step}
use Rattle.network.specs.declared.arcs.Step.TheVariants.{Forward, Backward}
use Rattle.network.proofs.Plain.{line_cost}
use Rattle.paths.specs.Bids.{bids, item_no, taking, giving, zone_of, price_of, giver, worth_at, own}
use Rattle.paths.specs.Labels.{Over}
use Rattle.paths.proofs.Bids.{buy_no, sell_no, own_most, ask_least}

-- an item has room where it carries less than it can
pub room_left : (carries most : ℕ) → ltb carries most ≡ ltb 0 (most - carries)
room_left carries most = grind (arith, nat_tests)

pub record ToHub (m : Market) (o : Outcome) (s : Step) : Type 0 where
  pub from : start m s < m.zones
  pub to : finish m s ≡ hub m
  pub costs : step_cost m s ≡ 0
  pub most : suc (step_gain m s) ≤ own m o (start m s)

pub record FromHub (m : Market) (o : Outcome) (s : Step) : Type 0 where
  pub from : start m s ≡ hub m
  pub to : finish m s < m.zones
  pub gains : step_gain m s ≡ 0
  pub some : 0 < worth_at m (giver m o (finish m s))
  pub least : worth_at m (giver m o (finish m s)) ≤ suc (step_cost m s)

pub record Across (m : Market) (o : Outcome) (s : Step) : Type 0 where
  pub number : ℕ
  pub over : Over m o number (start m s) (finish m s)
  pub from : start m s < m.zones
  pub to : finish m s < m.zones
  pub costs : step_cost m s ≡ 0
  pub gains : step_gain m s ≡ 0

-- a free step along a line leads over it
pub over_forward :
    (m : Market) (o : Outcome) (l : ℕ) → Free m o (Forward (Line l)) →
    Over m o l (line m.lines l).from (line m.lines l).to
over_forward m o l free = inl (record { free = free; from = refl; to = refl })

pub over_backward :
    (m : Market) (o : Outcome) (l : ℕ) → Free m o (Backward (Line l)) →
    Over m o l (line m.lines l).to (line m.lines l).from
over_backward m o l free = inr (record { free = free; from = refl; to = refl })

module _ (m : Market) (o : Outcome) where
  item_most :
      (i : Item) (j : ℕ) → item_no m j ≡ i → j < bids m → 0 < room m o (taking i) →
      suc (price_of m i) ≤ own m o (zone_of m i)
  item_most i j is below =
      subst (λ x. 0 < room m o (taking x) → suc (price_of m x) ≤ own m o (zone_of m x)) is
      (own_most m o (zone_of m (item_no m j)) j below refl)

  item_least :
      (i : Item) (j : ℕ) → item_no m j ≡ i → j < bids m → 0 < room m o (giving i) →
      (0 < worth_at m (giver m o (zone_of m i))) × (worth_at m (giver m o (zone_of m i)) ≤ suc (price_of m i))
  item_least i j is below =
      subst (λ x. 0 < room m o (giving x) → (0 < worth_at m (giver m o (zone_of m x)))
      × (worth_at m (giver m o (zone_of m x)) ≤ suc (price_of m x))) is
      (ask_least m o (zone_of m (item_no m j)) j below refl)

  pub free_kinds : Proper m → Plain m → (s : Step) → Free m o s → ToHub m o s ⊎ (FromHub m o s ⊎ Across m o s)
  free_kinds proper plain (Forward (Buy k)) f =
      inl (record {
        from = proper.buys k f.among;
        to = refl;
        costs = refl;
        most = item_most (Buy k) k (buy_no m k f.among) (omega (arith, f.among)) f.room;
      })
  free_kinds proper plain (Backward (Sell k)) f =
      let below : length m.buys + k < bids m = omega (arith, f.among) in
      inl (record {
        from = proper.sells k f.among;
        to = refl;
        costs = refl;
        most = item_most (Sell k) (length m.buys + k) (sell_no m k f.among) below f.room;
      })
  free_kinds proper plain (Backward (Buy k)) f =
      let asks = item_least (Buy k) k (buy_no m k f.among) (omega (arith, f.among)) f.room in
      inr (inl (record {
        from = refl;
        to = proper.buys k f.among;
        gains = refl;
        some = asks.0;
        least = asks.1;
      }))
  free_kinds proper plain (Forward (Sell k)) f =
      let below : length m.buys + k < bids m = omega (arith, f.among) in
      let asks = item_least (Sell k) (length m.buys + k) (sell_no m k f.among) below f.room in
      inr (inl (record {
        from = refl;
        to = proper.sells k f.among;
        gains = refl;
        some = asks.0;
        least = asks.1;
      }))
  free_kinds proper plain (Forward (Line l)) f =
      inr (inr (record {
        number = l;
        over = over_forward m o l f;
        from = proper.from l f.among;
        to = proper.to l f.among;
        costs = line_cost m plain l;
        gains = refl;
      }))
  free_kinds proper plain (Backward (Line l)) f =
      inr (inr (record {
        number = l;
        over = over_backward m o l f;
        from = proper.to l f.among;
        to = proper.from l f.among;
        costs = refl;
        gains = line_cost m plain l;
      }))
