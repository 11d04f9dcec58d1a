-- An hour's bids and lines laid into tables, three numbers to an item. Assumes nothing: these are definitions.
--
--   bid_numbers b   the numbers of a bid, in the order of a table; line_numbers the same of a line
--   Laid t k r      the three numbers of item k of the table t are those of r
--   Rowed b s l ..  tables of three numbers to each of so many buys, sells and lines, and a number for each
--   nothing m       the outcome in which nothing is bought, sold or carried
use Rattle.std.specs.Prelude.{◌≡◌, ℕ, ◌*◌, List, [], ◌∷◌, length, get_or, replicate}
use Rattle.hour.specs.Market.{Market, Outcome}
use Rattle.hour.specs.declared.items.Bid.{Bid}
use Rattle.hour.specs.declared.items.Line.{Line}
use Rattle.network.specs.Tables.{cell, outcome_in}

abbrev pub bid_numbers : Bid → List ℕ
bid_numbers b = b.zone ∷ b.price ∷ b.amount ∷ []

abbrev pub line_numbers : Line → List ℕ
line_numbers l = l.from ∷ l.to ∷ l.capacity ∷ []

pub record Laid (t : List ℕ) (k : ℕ) (r : List ℕ) : Type 0 where
  pub first : cell t k 0 ≡ get_or r 0 0
  pub second : cell t k 1 ≡ get_or r 1 0
  pub third : cell t k 2 ≡ get_or r 2 0

pub record Rowed (b s l : ℕ) (buys sells lines bought sold flow : List ℕ) : Type 0 where
  pub buys_long : length buys ≡ 3 * b
  pub sells_long : length sells ≡ 3 * s
  pub lines_long : length lines ≡ 3 * l
  pub bought_long : length bought ≡ b
  pub sold_long : length sold ≡ s
  pub flow_long : length flow ≡ l

abbrev pub nothing : Market → Outcome
nothing m =
    outcome_in (replicate (length m.buys) 0) (replicate (length m.sells) 0) (replicate (length m.lines) 0)
