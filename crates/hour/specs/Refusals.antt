-- The number and the place by which a refusal is published. Assumes nothing: these are definitions.
--
--   number_of r   the rule that is broken
--   place_of r    the byte at which it is broken, counted from the hour's first; for a wrong length the length that came,
--                 for a lent slice that is too short the slice's number
--   count_place s the byte at which the hour has the count of a sort
use Rattle.std.specs.Prelude.{ℕ}
use Rattle.hour.specs.declared.refusals.Sort.{Sort}
use Rattle.hour.specs.declared.refusals.Sort.TheVariants.{Buy, Sell, Line}
use Rattle.hour.specs.declared.refusals.Refusal.{Refusal}
use Rattle.hour.specs.declared.refusals.Refusal.TheVariants.{Length, Zones, TooMany, BidZone, BidPrice, BidAmount}
use Rattle.hour.specs.declared.refusals.Refusal.TheVariants.{LineZone, LineCapacity, Lent}

abbrev pub number_of : Refusal → ℕ
number_of (Length came) = 1
number_of (Zones zones) = 2
number_of (TooMany sort count) = 3
number_of (BidZone at zone) = 4
number_of (BidPrice at price) = 5
number_of (BidAmount at amount) = 6
number_of (LineZone at zone) = 7
number_of (LineCapacity at capacity) = 8
number_of (Lent slice) = 9

abbrev pub count_place : Sort → ℕ
count_place Buy = 1
count_place Sell = 3
count_place Line = 5

abbrev pub place_of : Refusal → ℕ
place_of (Length came) = came
place_of (Zones zones) = 0
place_of (TooMany sort count) = count_place sort
place_of (BidZone at zone) = at
place_of (BidPrice at price) = at
place_of (BidAmount at amount) = at
place_of (LineZone at zone) = at
place_of (LineCapacity at capacity) = at
place_of (Lent slice) = slice
