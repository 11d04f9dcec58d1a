-- Who can take power in a zone, and who can give it. Assumes nothing: these are definitions.
--
--   bids m            how many bids there are; they are numbered buys first, then sells
--   item_no m k       the item with number k of all: buys, then sells, then lines
--   taking i          the step along a bid from its zone to the hub: a buy has more, a sell is taken back
--   giving i          the step from the hub to the bid's zone: a sell has more, a buy is taken back
--   zone_of m i       the zone of the bid i; of a line, the zone where it begins
--   price_of m i      the price of the bid i; of a line 0
--   takes, gives      bid k lies in zone z and can take more power; it lies there and can give more
--   dearer, cheaper   bid j has a higher price than bid k; a lower one
--   taker m o z       the dearest bid of zone z that can take, the first among equals
--   giver m o z       the cheapest bid of zone z that can give, the first among equals
--   worth_at m b      what the bid b is worth as a table has it: 0 for no bid, else one more than its price
--   own m o z         what the zone's own taker is worth
use Rattle.std.specs.Prelude.{ℕ, suc, ◌+◌, Bool, ◌&&◌, length, Some, None, Option, ◌==◌, nat_lt}
use Rattle.hour.specs.Market.{Market, Outcome, bid, line}
use Rattle.network.specs.Network.{nth}
use Rattle.network.specs.Ways.{room}
use Rattle.hour.specs.declared.items.Item.{Item}
use Rattle.hour.specs.declared.items.Item.TheVariants.{Buy, Sell, Line}
use Rattle.network.specs.declared.arcs.Step.{Step}
use Rattle.network.specs.declared.arcs.Step.TheVariants.{Forward, Backward}
use Rattle.paths.specs.Best.{best}

abbrev pub bids : Market → ℕ
bids m = length m.buys + length m.sells

abbrev pub item_no : Market → ℕ → Item
item_no m k = nth (length m.buys) (length m.sells) k

abbrev pub taking : Item → Step
taking (Buy k) = Forward (Buy k)
taking (Sell k) = Backward (Sell k)
taking (Line k) = Forward (Line k)

abbrev pub giving : Item → Step
giving (Buy k) = Backward (Buy k)
giving (Sell k) = Forward (Sell k)
giving (Line k) = Backward (Line k)

abbrev pub zone_of : Market → Item → ℕ
zone_of m (Buy k) = (bid m.buys k).zone
zone_of m (Sell k) = (bid m.sells k).zone
zone_of m (Line k) = (line m.lines k).from

abbrev pub price_of : Market → Item → ℕ
price_of m (Buy k) = (bid m.buys k).price
price_of m (Sell k) = (bid m.sells k).price
price_of m (Line k) = 0

abbrev pub takes : Market → Outcome → ℕ → ℕ → Bool
takes m o z k = zone_of m (item_no m k) == z && nat_lt 0 (room m o (taking (item_no m k)))

abbrev pub gives : Market → Outcome → ℕ → ℕ → Bool
gives m o z k = zone_of m (item_no m k) == z && nat_lt 0 (room m o (giving (item_no m k)))

abbrev pub dearer : Market → ℕ → ℕ → Bool
dearer m j k = nat_lt (price_of m (item_no m k)) (price_of m (item_no m j))

abbrev pub cheaper : Market → ℕ → ℕ → Bool
cheaper m j k = nat_lt (price_of m (item_no m j)) (price_of m (item_no m k))

abbrev pub taker : Market → Outcome → ℕ → Option ℕ
taker m o z = best (bids m) (takes m o z) (dearer m)

abbrev pub giver : Market → Outcome → ℕ → Option ℕ
giver m o z = best (bids m) (gives m o z) (cheaper m)

abbrev pub worth_at : Market → Option ℕ → ℕ
worth_at m None = 0
worth_at m (Some k) = suc (price_of m (item_no m k))

abbrev pub own : Market → Outcome → ℕ → ℕ
own m o z = worth_at m (taker m o z)
