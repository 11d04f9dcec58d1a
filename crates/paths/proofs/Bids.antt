-- Laws of takers and givers: which steps they are, and that no free bid is better. Assumes nothing.
--
--   IsBid, NumbersBid     an item is a buy or a sell; it is one of the market's
--   Goes m s a b c g      the step s goes from node a to node b, costs c and gains g
--   Found m o s z k c     bid k lies in zone z, its step s is free, and it is worth c as a table has it
use Rattle.std.proofs.Common.{◌≡◌, ℕ, suc, ◌+◌, ◌-◌, ◌<◌, ◌≤◌, true, length, Some, None, Option, refl, ap, inl, inr, arith}
use mathlib.Core.Path.{subst⁻¹}
use Rattle.std.proofs.lemmas.Bool.{cases_lt, and_parts, and_from, eqb-true, eq-eqb, ltb-true, lt-ltb, ltb-false}
use Rattle.hour.specs.Market.{Market, Outcome}
use Rattle.network.specs.Network.{Among, hub}
use Rattle.network.specs.Ways.{Free, room, start, finish, item, step_cost, step_gain}
use Rattle.hour.specs.declared.items.Item.{Item}
use Rattle.hour.specs.declared.items.Item.TheVariants.{Buy, Sell, Line}
use Rattle.network.specs.declared.arcs.Step.{Step}
use Rattle.network.proofs.Items.{nth_buy, nth_sell, nth_line}
use Rattle.paths.specs.Bids.{bids, item_no, taking, giving, zone_of, price_of, takes, gives, dearer, cheaper}
use Rattle.paths.specs.Bids.{taker, giver, worth_at, own}
use Rattle.paths.proofs.Best.{strict_higher, strict_lower, best_some, best_found}

abbrev pub IsBid : Item → Type 0
IsBid (Buy k) = Unit {0}
IsBid (Sell k) = Unit {0}
IsBid (Line k) = ⊥

pub record NumbersBid (m : Market) (i : Item) : Type 0 where
  pub bid : IsBid i
  pub among : Among m i

pub bid_numbered : (m : Market) (k : ℕ) → k < bids m → NumbersBid m (item_no m k)
bid_numbered m k h =
    elim (cases_lt k (length m.buys)) [
      | inl buy ↦
          subst⁻¹ (NumbersBid m) (nth_buy (length m.buys) (length m.sells) k buy)
          (record { bid = tt; among = buy })
      | inr past ↦
          let j = k - length m.buys in
          subst⁻¹ (NumbersBid m)
          (nth_sell (length m.buys) (length m.sells) k j (omega arith) (omega arith))
          (record { bid = tt; among = omega arith })
    ]

pub buy_no : (m : Market) (k : ℕ) → k < length m.buys → item_no m k ≡ Buy k
buy_no m k h = nth_buy (length m.buys) (length m.sells) k h

pub sell_no : (m : Market) (k : ℕ) → k < length m.sells → item_no m (length m.buys + k) ≡ Sell k
sell_no m k h = nth_sell (length m.buys) (length m.sells) (length m.buys + k) k refl h

pub line_no : (m : Market) (l : ℕ) → item_no m (bids m + l) ≡ Line l
line_no m l = nth_line (length m.buys) (length m.sells) (bids m + l) l refl

pub record Goes (m : Market) (s : Step) (a b c g : ℕ) : Type 0 where
  pub from : start m s ≡ a
  pub to : finish m s ≡ b
  pub costs : step_cost m s ≡ c
  pub gains : step_gain m s ≡ g

pub taking_goes : (m : Market) (i : Item) → IsBid i → Goes m (taking i) (zone_of m i) (hub m) 0 (price_of m i)
taking_goes m (Buy k) is = record { from = refl; to = refl; costs = refl; gains = refl }
taking_goes m (Sell k) is = record { from = refl; to = refl; costs = refl; gains = refl }
taking_goes m (Line k) is = absurd is

pub giving_goes : (m : Market) (i : Item) → IsBid i → Goes m (giving i) (hub m) (zone_of m i) (price_of m i) 0
giving_goes m (Buy k) is = record { from = refl; to = refl; costs = refl; gains = refl }
giving_goes m (Sell k) is = record { from = refl; to = refl; costs = refl; gains = refl }
giving_goes m (Line k) is = absurd is

taking_among : (m : Market) (i : Item) → Among m i → Among m (item (taking i))
taking_among m (Buy k) h = h
taking_among m (Sell k) h = h
taking_among m (Line k) h = h

giving_among : (m : Market) (i : Item) → Among m i → Among m (item (giving i))
giving_among m (Buy k) h = h
giving_among m (Sell k) h = h
giving_among m (Line k) h = h

-- a worth is that of a bid
pub worth_some : (m : Market) (r : Option ℕ) → 0 < worth_at m r → (k : ℕ) × (r ≡ Some k)
worth_some m None some = absurd (omega arith)
worth_some m (Some k) some = (k, refl)

pub record Found (m : Market) (o : Outcome) (s : Step) (z k c : ℕ) : Type 0 where
  pub below : k < bids m
  pub zone : zone_of m (item_no m k) ≡ z
  pub free : Free m o s
  pub worth : c ≡ suc (price_of m (item_no m k))

module _ (m : Market) (o : Outcome) (z : ℕ) where
  pub taker_found : (k : ℕ) → taker m o z ≡ Some k → Found m o (taking (item_no m k)) z k (own m o z)
  taker_found k some =
      let strict = strict_higher (λ j. price_of m (item_no m j)) in
      let chosen = best_some (takes m o z) (dearer m) strict (bids m) k some in
      let tests = and_parts _ _ chosen.fit in
      let numbers = bid_numbered m k chosen.below in
      record {
        below = chosen.below;
        zone = eqb-true _ _ tests.0;
        free = record { among = taking_among m (item_no m k) numbers.among; room = ltb-true _ _ tests.1 };
        worth = ap (worth_at m) some;
      }

  pub giver_found :
      (k : ℕ) → giver m o z ≡ Some k → Found m o (giving (item_no m k)) z k (worth_at m (giver m o z))
  giver_found k some =
      let strict = strict_lower (λ j. price_of m (item_no m j)) in
      let chosen = best_some (gives m o z) (cheaper m) strict (bids m) k some in
      let tests = and_parts _ _ chosen.fit in
      let numbers = bid_numbered m k chosen.below in
      record {
        below = chosen.below;
        zone = eqb-true _ _ tests.0;
        free = record { among = giving_among m (item_no m k) numbers.among; room = ltb-true _ _ tests.1 };
        worth = ap (worth_at m) some;
      }

  -- a bid that can take is worth no more than the zone's taker
  pub own_most :
      (j : ℕ) → j < bids m → zone_of m (item_no m j) ≡ z → 0 < room m o (taking (item_no m j)) →
      suc (price_of m (item_no m j)) ≤ own m o z
  own_most j below zone some =
      let on : takes m o z j ≡ true = and_from _ _ (eq-eqb _ _ zone) (lt-ltb _ _ some) in
      let strict = strict_higher (λ i. price_of m (item_no m i)) in
      let (k, found) = best_found (takes m o z) (dearer m) strict (bids m) j below on in
      let chosen = best_some (takes m o z) (dearer m) strict (bids m) k found in
      omega (arith, ltb-false _ _ (chosen.unbeaten j below on), ap (worth_at m) found)

  -- a bid that can give asks no less than the zone's giver
  pub ask_least :
      (j : ℕ) → j < bids m → zone_of m (item_no m j) ≡ z → 0 < room m o (giving (item_no m j)) →
      (0 < worth_at m (giver m o z)) × (worth_at m (giver m o z) ≤ suc (price_of m (item_no m j)))
  ask_least j below zone some =
      let on : gives m o z j ≡ true = and_from _ _ (eq-eqb _ _ zone) (lt-ltb _ _ some) in
      let strict = strict_lower (λ i. price_of m (item_no m i)) in
      let (k, found) = best_found (gives m o z) (cheaper m) strict (bids m) j below on in
      let chosen = best_some (gives m o z) (cheaper m) strict (bids m) k found in
      omega (arith, ltb-false _ _ (chosen.unbeaten j below on), ap (worth_at m) found)

  -- where no bid's price is above c, neither is what a taker is worth, as tables have it
  pub own_limit : (c : ℕ) → ((k : ℕ) → k < bids m → price_of m (item_no m k) ≤ c) → own m o z ≤ suc c
  own_limit c limit =
      elim (cases_lt 0 (own m o z)) [
        | inl some ↦
            let (k, taken) = worth_some m (taker m o z) some in
            let found = taker_found k taken in
            omega (arith, found.worth, limit k found.below)
        | inr none ↦ omega arith
      ]
