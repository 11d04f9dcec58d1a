-- An hour given as lists, and what writing it answers. Assumes nothing: these are definitions.
--
--   market_in book     the market that a book holds; a book has no supplies
--   size_of m          how many bytes the hour has
--   write_fault m n    why m is not written into a slice of n bytes: its shape, then the slice, then its bids and lines
--   written m n        what writing answers: how many bytes were written, or the refusal
--   left_by m r old    what a slice that held old holds after the answer r
use Rattle.std.specs.Prelude.{ℕ, ◌+◌, List, [], ◌++◌, length, drop, Some, None, Ok, Err, Option, Result, nat_lt}
use Rattle.hour.specs.Bytes.{bytes_of}
use Rattle.hour.specs.First.{when, ◌else◌}
use Rattle.hour.specs.Market.{Market}
use Rattle.hour.specs.Rules.{line_place, shape_fault, item_fault}
use Rattle.hour.specs.declared.books.Book.{Book}
use Rattle.hour.specs.declared.refusals.Refusal.{Refusal}
use Rattle.hour.specs.declared.refusals.Refusal.TheVariants.{Lent}

abbrev pub market_in : Book → Market
market_in b = record { zones = b.zones; buys = b.buys.now; sells = b.sells.now; lines = b.lines.now; supplies = [] }

abbrev pub size_of : Market → ℕ
size_of m = line_place (length m.buys + length m.sells) (length m.lines)

-- the one lent slice has number 0
abbrev pub write_fault : Market → ℕ → Option Refusal
write_fault m n = shape_fault m else when (nat_lt n (size_of m)) (Lent 0) else item_fault m

abbrev pub written : Market → ℕ → Result ℕ Refusal
written m n = elim (write_fault m n) [ Some refusal ↦ Err refusal | None ↦ Ok (size_of m) ]

-- what the lent bytes hold afterwards: the hour's and then what was there, or all as it was
abbrev pub left_by : Market → Result ℕ Refusal → List ℕ → List ℕ
left_by m (Ok size) old = bytes_of m ++ drop (size_of m) old
left_by m (Err refusal) old = old
