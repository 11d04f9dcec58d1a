-- The money of an hour, in hundredths, below nothing too. Assumes nothing: these are definitions.
--
--   above, base         what the money of a unit lies between: for a bid, its zone's price (what a unit costs a buyer and brings a
--                      seller) and the price that stands for no money; for a line, what a unit brings it and what it costs it
--   owed a b x          x units at a less b
--   money m o ps i      what a buyer pays, what a seller gets, what a line earns, in the outcome o at the prices ps
--   sumℤ n f            f 0 + f 1 + .. + f (n - 1)
--   sum_of m o ps s     the money of all items of a sort
--   first_row m s       the row of a ledger at which a sort begins: buys, then sells, then lines; row_count m all of them
--   sum_row m s         the row with the sum of a sort: behind all others, in the same order
--   LedgerOf m o ps l   l has the money of each item and the three sums, each as the two's complement of 64 bits
--   ReadAsMoney m ..    what l has, read as signed numbers of 64 bits, is the money of each item and the three sums
--   asked m i           the price that a bid has itself; the cost of a line
--   worth_of m o s      what the items of a sort are worth, or cost, by these; worth_by m o what the outcome is worth
--   Payable m o ps      o can be carried out and no zone's price is above what a bid may have
--
-- A ledger may have more numbers behind its rows: they say nothing.
use Rattle.std.specs.Prelude.{◌≡◌, ℕ, zero, suc, ◌+◌, ◌*◌, ◌<◌, ◌≤◌, List, length, ℤ, pos, ◌+ℤ◌, ◌-ℤ◌, ◌*ℤ◌}
use Rattle.std.specs.Int.{w64}
use Rattle.std.proofs.Common.{to_z, of_z}
use Rattle.hour.specs.Market.{Market, Outcome, Feasible, at, bid, line, worth, costs, terms, count_of}
use Rattle.hour.specs.Rules.{max_price}
use Rattle.hour.specs.Text.{zero_price}
use Rattle.hour.specs.Total.{total}
use Rattle.hour.specs.declared.refusals.Sort.{Sort}
use Rattle.hour.specs.declared.refusals.Sort.TheVariants as sorts
use Rattle.network.specs.Network.{carried}
use Rattle.network.specs.Given.{item}
use Rattle.hour.specs.declared.items.Item.{Item}
use Rattle.hour.specs.declared.items.Item.TheVariants.{Buy, Sell, Line}

abbrev pub above : Market → List ℕ → Item → ℕ
above m ps (Buy k) = (terms m ps (Buy k)).cost
above m ps (Sell k) = (terms m ps (Sell k)).value
above m ps (Line k) = (terms m ps (Line k)).value

abbrev pub base : Market → List ℕ → Item → ℕ
base m ps (Buy k) = zero_price
base m ps (Sell k) = zero_price
base m ps (Line k) = (terms m ps (Line k)).cost

abbrev pub owed : ℕ → ℕ → ℕ → ℤ
owed a b x = (pos a -ℤ pos b) *ℤ pos x

abbrev pub money : Market → Outcome → List ℕ → Item → ℤ
money m o ps i = owed (above m ps i) (base m ps i) (carried o i)

abbrev pub sumℤ : ℕ → (ℕ → ℤ) → ℤ
sumℤ zero f = pos 0
sumℤ (suc n) f = sumℤ n f +ℤ f n

abbrev pub sum_of : Market → Outcome → List ℕ → Sort → ℤ
sum_of m o ps s = sumℤ (count_of m s) (λ k. money m o ps (item s k))

abbrev pub row_count : Market → ℕ
row_count m = length m.buys + length m.sells + length m.lines

abbrev pub first_row : Market → Sort → ℕ
first_row m sorts.Buy = 0
first_row m sorts.Sell = length m.buys
first_row m sorts.Line = length m.buys + length m.sells

abbrev pub sum_row : Market → Sort → ℕ
sum_row m sorts.Buy = row_count m
sum_row m sorts.Sell = row_count m + 1
sum_row m sorts.Line = row_count m + 2

pub record LedgerOf (m : Market) (o : Outcome) (ps l : List ℕ) : Type 0 where
  pub rows : (s : Sort) (k : ℕ) → k < count_of m s → at l (first_row m s + k) ≡ of_z w64 (money m o ps (item s k))
  pub sums : (s : Sort) → at l (sum_row m s) ≡ of_z w64 (sum_of m o ps s)

pub record ReadAsMoney (m : Market) (o : Outcome) (ps l : List ℕ) : Type 0 where
  pub rows : (s : Sort) (k : ℕ) → k < count_of m s → to_z w64 (at l (first_row m s + k)) ≡ money m o ps (item s k)
  pub sums : (s : Sort) → to_z w64 (at l (sum_row m s)) ≡ sum_of m o ps s

abbrev pub asked : Market → Item → ℕ
asked m (Buy k) = (bid m.buys k).price
asked m (Sell k) = (bid m.sells k).price
asked m (Line k) = (line m.lines k).cost

-- what the items of a sort are worth by their own prices
abbrev pub worth_of : Market → Outcome → Sort → ℕ
worth_of m o s = total (count_of m s) (λ k. asked m (item s k) * carried o (item s k))

-- what is bought is worth, less what is sold and what flows cost
abbrev pub worth_by : Market → Outcome → ℤ
worth_by m o = pos (worth m.buys o.bought) -ℤ pos (costs m o)

pub record Payable (m : Market) (o : Outcome) (ps : List ℕ) : Type 0 where
  pub feasible : Feasible m o
  pub prices : (z : ℕ) → z < m.zones → at ps z ≤ max_price
