-- The bytes of an hour: what they say, when they are refused, and how an hour is written. Assumes nothing: these are definitions.
--
--   byte, two, three   the number in one, two or three bytes from a place on, low byte first
--   bid_at, line_at    the bid, the line that the bytes say from a place on
--   bids_said bs b n   n bids, as the bytes have them behind b others
--   lines_said bs b n  n lines, as the bytes have them behind b bids
--   market_of bs       the market that the bytes say
--   size_said bs       how many bytes the counts ask for
--   in_first n bs f    f, what is wrong with the first n bytes, looked at only where they have come
--   limits_fault bs    the first rule that the numbers of zones, buys, sells and lines break, as far as they have come
--   head_fault bs      the first fault of the head and the length: these limits, then the length
--   head_of bs         the counts that the head says; head_read bs these, or the head's refusal
--   needed_by h        how long slices have to be that hold the result of an hour with the head h
--   bids_read, lines_read    the first rule that one of so many bids or lines breaks, read where they stand
--   items_read bs h    the same of all that the counts h ask for: buys, sells, lines
--   refusal_of bs      the first rule that the bytes break, or nothing
--   refusal_with bs l  the same where slices are lent with the bytes and l is what is wrong with these
--   low_bytes n v      the lowest n bytes of v, low byte first
--   bid_bytes, line_bytes, head_bytes    the bytes of a bid, of a line, of a market's head
--   bytes_of m         the bytes of the market m
--
-- The head has the number of zones (one byte) and the counts of buys, sells and lines (two each); of a head that is cut
-- short, what is there is checked. A bid has zone (1), price (3), amount (3); a line has from (1), to (1), capacity (3). Bytes
-- say no costs of lines and no supplies: there are none.
use Rattle.std.specs.Prelude.{ℕ, zero, suc, ◌+◌, ◌*◌, ◌/◌, ◌%◌, cond, not, List, [], ◌∷◌, ◌++◌, length, Some, None, Ok, Err, Option, Result, ◌==◌, nat_le, slice_index}
use Rattle.std.specs.List.{flat_map}
use Rattle.hour.specs.First.{when, ◌else◌, first}
use Rattle.hour.specs.Listed.{listed}
use Rattle.hour.specs.Market.{Market}
use Rattle.hour.specs.Rules.{bid_place, line_place, bid_fault, line_fault, zones_fault, count_fault, item_fault}
use Rattle.hour.specs.declared.items.Bid.{Bid}
use Rattle.hour.specs.declared.items.Line.{Line}
use Rattle.hour.specs.declared.reading.Head.{Head}
use Rattle.hour.specs.declared.refusals.Refusal.{Refusal}
use Rattle.hour.specs.declared.refusals.Refusal.TheVariants.{Length}
use Rattle.hour.specs.declared.refusals.Sort.TheVariants as sorts
use Rattle.hour.specs.declared.rules.Lengths.{Lengths}

abbrev pub byte : List ℕ → ℕ → ℕ
byte bs i = slice_index bs i

abbrev pub two : List ℕ → ℕ → ℕ
two bs i = byte bs i + 256 * byte bs (i + 1)

abbrev pub three : List ℕ → ℕ → ℕ
three bs i = byte bs i + 256 * byte bs (i + 1) + 65536 * byte bs (i + 2)

abbrev pub bid_at : List ℕ → ℕ → Bid
bid_at bs i = record { zone = byte bs i; price = three bs (i + 1); amount = three bs (i + 4) }

abbrev pub line_at : List ℕ → ℕ → Line
line_at bs i = record { from = byte bs i; to = byte bs (i + 1); capacity = three bs (i + 2); cost = 0 }

abbrev pub bids_said : List ℕ → ℕ → ℕ → List Bid
bids_said bs before count = listed count (λ k. bid_at bs (bid_place (before + k)))

abbrev pub lines_said : List ℕ → ℕ → ℕ → List Line
lines_said bs bids count = listed count (λ k. line_at bs (line_place bids k))

abbrev pub market_of : List ℕ → Market
market_of bs =
    record {
      zones = byte bs 0;
      buys = bids_said bs 0 (two bs 1);
      sells = bids_said bs (two bs 1) (two bs 3);
      lines = lines_said bs (two bs 1 + two bs 3) (two bs 5);
      supplies = [];
    }

abbrev pub size_said : List ℕ → ℕ
size_said bs = line_place (two bs 1 + two bs 3) (two bs 5)

abbrev pub in_first : ℕ → List ℕ → Option Refusal → Option Refusal
in_first n bs fault = cond (nat_le n (length bs)) fault None

abbrev pub limits_fault : List ℕ → Option Refusal
limits_fault bs =
    in_first 1 bs (zones_fault (byte bs 0))
    else in_first 3 bs (count_fault sorts.Buy (two bs 1))
    else in_first 5 bs (count_fault sorts.Sell (two bs 3))
    else in_first 7 bs (count_fault sorts.Line (two bs 5))

abbrev pub head_fault : List ℕ → Option Refusal
head_fault bs =
    limits_fault bs
    else when (not (length bs == size_said bs)) (Length (length bs))

abbrev pub head_of : List ℕ → Head
head_of bs = record { zones = byte bs 0; buys = two bs 1; sells = two bs 3; lines = two bs 5 }

abbrev pub head_read : List ℕ → Result Head Refusal
head_read bs = elim (head_fault bs) [ Some refusal ↦ Err refusal | None ↦ Ok (head_of bs) ]

abbrev pub needed_by : Head → Lengths
needed_by h = record { bought = h.buys; sold = h.sells; flow = h.lines; prices = h.zones }

abbrev pub bids_read : ℕ → List ℕ → ℕ → ℕ → Option Refusal
bids_read z bs before count = first count (λ k. bid_fault z (bid_place (before + k)) (bid_at bs (bid_place (before + k))))

abbrev pub lines_read : ℕ → List ℕ → ℕ → ℕ → Option Refusal
lines_read z bs bids count = first count (λ k. line_fault z (line_place bids k) (line_at bs (line_place bids k)))

abbrev pub items_read : List ℕ → Head → Option Refusal
items_read bs h =
    bids_read h.zones bs 0 h.buys
    else bids_read h.zones bs h.buys h.sells
    else lines_read h.zones bs (h.buys + h.sells) h.lines

abbrev pub refusal_of : List ℕ → Option Refusal
refusal_of bs = head_fault bs else item_fault (market_of bs)

-- lent slices are looked at once the head and the length are sound, before the items
abbrev pub refusal_with : List ℕ → Option Refusal → Option Refusal
refusal_with bs lent = head_fault bs else lent else item_fault (market_of bs)

abbrev pub low_bytes : ℕ → ℕ → List ℕ
low_bytes zero v = []
low_bytes (suc n) v = v % 256 ∷ low_bytes n (v / 256)

abbrev pub bid_bytes : Bid → List ℕ
bid_bytes b = low_bytes 1 b.zone ++ low_bytes 3 b.price ++ low_bytes 3 b.amount

abbrev pub line_bytes : Line → List ℕ
line_bytes l = low_bytes 1 l.from ++ low_bytes 1 l.to ++ low_bytes 3 l.capacity

abbrev pub head_bytes : Market → List ℕ
head_bytes m =
    low_bytes 1 m.zones
    ++ low_bytes 2 (length m.buys) ++ low_bytes 2 (length m.sells) ++ low_bytes 2 (length m.lines)

abbrev pub bytes_of : Market → List ℕ
bytes_of m = head_bytes m ++ flat_map bid_bytes m.buys ++ flat_map bid_bytes m.sells ++ flat_map line_bytes m.lines
