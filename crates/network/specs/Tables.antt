-- A market in tables of numbers, three to an item. Assumes nothing: these are definitions.
--
--   cell t k c       number c, from 0, of item k of the table t
--   items t          how many items the table t has; one or two numbers at its end that make no item do not count
--   rows_in made t   the rows of the table t, each made of its three numbers; triples t the three numbers of each
--   of_numbers made  what is made of a row's three numbers
--   nth_row made t k row k of the table t, made of its three numbers; past the end all three are 0
--   bids_in t        the bids of a table: zone, price, amount
--   lines_in t       the lines of a table: from, to, capacity; they cost nothing
--   column_no c      the number of a column that holds zones
--   zone_total       the amounts, together, of those items that have the zone z in column c
--   market_in        the market of so many zones with these tables of buys, sells and lines, and no supplies
--   outcome_in       the outcome with these lists of amounts and flows
use Rattle.std.specs.Prelude.{ℕ, ◌+◌, ◌*◌, ◌/◌, List, [], ◌∷◌, length, slice_index, slice_index_or}
use Rattle.hour.specs.Listed.{listed}
use Rattle.hour.specs.Total.{tagged}
use Rattle.hour.specs.declared.items.Bid.{Bid}
use Rattle.hour.specs.declared.items.Line.{Line}
use Rattle.hour.specs.Market.{Market, Outcome, at}
use Rattle.network.specs.declared.tables.Column.{Column}
use Rattle.network.specs.declared.tables.Column.TheVariants.{Zone, From, To}

abbrev pub cell : List ℕ → ℕ → ℕ → ℕ
cell t k c = at t (3 * k + c)

abbrev pub items : List ℕ → ℕ
items t = length t / 3

abbrev pub rows_in : {A : Type 0} → (ℕ → ℕ → ℕ → A) → List ℕ → List A
rows_in made t = listed (items t) (λ k. made (cell t k 0) (cell t k 1) (cell t k 2))

abbrev pub triples : List ℕ → List (List ℕ)
triples t = rows_in (λ first second third. first ∷ second ∷ third ∷ []) t

abbrev pub of_numbers : {A : Type 0} → (ℕ → ℕ → ℕ → A) → List ℕ → A
of_numbers made row = made (slice_index row 0) (slice_index row 1) (slice_index row 2)

abbrev pub nth_row : {A : Type 0} → (ℕ → ℕ → ℕ → A) → List ℕ → ℕ → A
nth_row made t k = slice_index_or (rows_in made t) k (made 0 0 0)

abbrev pub bids_in : List ℕ → List Bid
bids_in t = listed (items t) (λ k. record { zone = cell t k 0; price = cell t k 1; amount = cell t k 2 })

abbrev pub lines_in : List ℕ → List Line
lines_in t = listed (items t) (λ k. record { from = cell t k 0; to = cell t k 1; capacity = cell t k 2; cost = 0 })

abbrev pub market_in : ℕ → List ℕ → List ℕ → List ℕ → Market
market_in zones buys sells lines =
    record { zones = zones; buys = bids_in buys; sells = bids_in sells; lines = lines_in lines; supplies = [] }

abbrev pub outcome_in : List ℕ → List ℕ → List ℕ → Outcome
outcome_in bought sold flow = record { bought = bought; sold = sold; flow = flow }

abbrev pub column_no : Column → ℕ
column_no Zone = 0
column_no From = 0
column_no To = 1

abbrev pub zone_total : List ℕ → ℕ → ℕ → List ℕ → ℕ
zone_total t c z xs = tagged (items t) (λ k. cell t k c) z (at xs)
