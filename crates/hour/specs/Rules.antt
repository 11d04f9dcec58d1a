-- The rules that an hour keeps, and the first that is broken. Assumes nothing: these are definitions.
--
--   max_zones .. max_amount    the limits, all of them
--   bid_place k          where the k-th bid stands in the bytes, buys first and then sells
--   line_place b k       where the k-th line stands, behind b bids
--   longest_hour         how many bytes the longest hour has that there can be
--   zones_fault z        the rule on the number of zones
--   most_of s            how many entries of a sort an hour has at most; count_fault s n the rule on their number n
--   bid_fault z p b      the first rule that a bid b at place p breaks, in an hour of z zones: zone, price, amount
--   line_fault z p l     the same for a line: from, to, capacity
--   counts_fault ..      the first rule on numbers of zones, buys, sells and lines that is broken; shape_fault m the same of m
--   bids_fault z b bs    the first rule that one of the bids bs breaks, behind b others
--   all_lines_fault ..   the same of lines, behind so many bids
--   item_fault m         the first rule that a buy, a sell or a line breaks, in this order, each by number
--   lent_fault k n need  a lent slice with number k that has n numbers is shorter than needed
--   results_fault n need the first of the slices 0 to 3, which hold a result, that is shorter than needed
--   BidKept z b          what the rules ask of a bid, in an hour of z zones; LineKept z l the same of a line
--   KeepsRules m         all that the rules ask of an hour, in words of the market; lines cost nothing there, and no zone has a
--                        supply
--
-- A place is that of the byte in the written hour.
use Rattle.std.specs.Prelude.{ℕ, ◌+◌, ◌*◌, ◌<◌, ◌≤◌, ◌||◌, List, length, Option, ◌==◌, nat_le, nat_lt}
use Rattle.hour.specs.First.{when, ◌else◌, first}
use Rattle.hour.specs.Market.{Market, Plain, bid, line}
use Rattle.hour.specs.declared.items.Bid.{Bid}
use Rattle.hour.specs.declared.items.Line.{Line}
use Rattle.hour.specs.declared.refusals.Refusal.{Refusal}
use Rattle.hour.specs.declared.refusals.Refusal.TheVariants.{Zones, TooMany, BidZone, BidPrice, BidAmount, LineZone}
use Rattle.hour.specs.declared.refusals.Refusal.TheVariants.{LineCapacity, Lent}
use Rattle.hour.specs.declared.refusals.Sort.{Sort}
use Rattle.hour.specs.declared.refusals.Sort.TheVariants as sorts
use Rattle.hour.specs.declared.rules.Lengths.{Lengths}

abbrev pub max_zones : ℕ
max_zones = 32

abbrev pub max_bids : ℕ
max_bids = 1000

abbrev pub max_lines : ℕ
max_lines = 128

abbrev pub max_price : ℕ
max_price = 400000

abbrev pub max_amount : ℕ
max_amount = 1000000

abbrev pub bid_place : ℕ → ℕ
bid_place k = 7 + 7 * k

abbrev pub line_place : ℕ → ℕ → ℕ
line_place bids k = 7 + 7 * bids + 5 * k

abbrev pub longest_hour : ℕ
longest_hour = line_place (max_bids + max_bids) max_lines

abbrev pub zones_fault : ℕ → Option Refusal
zones_fault z = when (z == 0 || nat_lt max_zones z) (Zones z)

abbrev pub most_of : Sort → ℕ
most_of sorts.Buy = max_bids
most_of sorts.Sell = max_bids
most_of sorts.Line = max_lines

abbrev pub count_fault : Sort → ℕ → Option Refusal
count_fault sort n = when (nat_lt (most_of sort) n) (TooMany sort n)

abbrev pub bid_fault : ℕ → ℕ → Bid → Option Refusal
bid_fault z place b =
    when (nat_le z b.zone) (BidZone place b.zone)
    else when (nat_lt max_price b.price) (BidPrice (place + 1) b.price)
    else when (b.amount == 0 || nat_lt max_amount b.amount) (BidAmount (place + 4) b.amount)

abbrev pub line_fault : ℕ → ℕ → Line → Option Refusal
line_fault z place l =
    when (nat_le z l.from) (LineZone place l.from)
    else when (nat_le z l.to) (LineZone (place + 1) l.to)
    else when (nat_lt max_amount l.capacity) (LineCapacity (place + 2) l.capacity)

abbrev pub counts_fault : ℕ → ℕ → ℕ → ℕ → Option Refusal
counts_fault zones buys sells lines =
    zones_fault zones else count_fault sorts.Buy buys else count_fault sorts.Sell sells else count_fault sorts.Line lines

abbrev pub shape_fault : Market → Option Refusal
shape_fault m = counts_fault m.zones (length m.buys) (length m.sells) (length m.lines)

abbrev pub bids_fault : ℕ → ℕ → List Bid → Option Refusal
bids_fault z before bs = first (length bs) (λ k. bid_fault z (bid_place (before + k)) (bid bs k))

abbrev pub all_lines_fault : ℕ → ℕ → List Line → Option Refusal
all_lines_fault z bids ls = first (length ls) (λ k. line_fault z (line_place bids k) (line ls k))

abbrev pub item_fault : Market → Option Refusal
item_fault m =
    bids_fault m.zones 0 m.buys
    else bids_fault m.zones (length m.buys) m.sells
    else all_lines_fault m.zones (length m.buys + length m.sells) m.lines

abbrev pub lent_fault : ℕ → ℕ → ℕ → Option Refusal
lent_fault slice has needed = when (nat_lt has needed) (Lent slice)

abbrev pub results_fault : Lengths → Lengths → Option Refusal
results_fault has needed =
    lent_fault 0 has.bought needed.bought
    else lent_fault 1 has.sold needed.sold
    else lent_fault 2 has.flow needed.flow
    else lent_fault 3 has.prices needed.prices

pub record BidKept (z : ℕ) (b : Bid) : Type 0 where
  pub zone : b.zone < z
  pub price : b.price ≤ max_price
  pub some : 0 < b.amount
  pub amount : b.amount ≤ max_amount

pub record LineKept (z : ℕ) (l : Line) : Type 0 where
  pub from : l.from < z
  pub to : l.to < z
  pub capacity : l.capacity ≤ max_amount

pub record KeepsRules (m : Market) : Type 0 where
  pub some_zone : 0 < m.zones
  pub zones : m.zones ≤ max_zones
  pub buys : length m.buys ≤ max_bids
  pub sells : length m.sells ≤ max_bids
  pub lines : length m.lines ≤ max_lines
  pub each_buy : (k : ℕ) → k < length m.buys → BidKept m.zones (bid m.buys k)
  pub each_sell : (k : ℕ) → k < length m.sells → BidKept m.zones (bid m.sells k)
  pub each_line : (k : ℕ) → k < length m.lines → LineKept m.zones (line m.lines k)
  pub plain : Plain m
