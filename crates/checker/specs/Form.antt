-- The form of a published text, row by row. Assumes nothing: these are definitions.
--
--   Phrasing              what stands around the numbers in a row; phrasing s in a row of a sort; phrased w the same where the
--                         code has it
--   worth_at bs           the row of the worth: the worth and the count of pushes
--   zone_at z bs          the row of zone z: its price
--   row_at w k bs         a row with such words: its number k, its amount and its money
--   item_at s k bs        the row of the k-th of a sort: its amount and its money
--   o ok_then f           f of what o has, or the line that is not in the form
--   steps f t n           n steps one after the other, counted from 0, the first at t
--   Prices, Table         what the rows of the zones say, and those of a sort, and the text behind them
--   priced, table         what such rows say, put together
--   one_price, one_more   one row more, if it is in the form
--   zone_step, item_step  the next row of the zones, and of a sort
--   zones_at l n bs       the rows of n zones, the first of them at line l
--   items_at s l n bs     the rows of n buys, sells or lines
--   Saying                all that a text says; saying puts it together
--   worth_line            the row of the worth, or the first line
--   ended l bs x          x where nothing stands behind the last row, else line l
--   rows_of n s           how many rows a sort has; first_line n s the line at which they begin; last_line n the one behind all
--                         rows
--   text_at n bs          what a text for so many zones, buys, sells and lines says; or its first line that is not in the form
--   longest_row           no row in the form has more bytes: the words of a line's row, two numbers of 64 bits, one with a sign
--   longest_text          no text in the form has more bytes: a row for the worth, and for the most zones, buys, sells and lines
--   prices_seen, table_seen, said_seen
--                         the same where the code has them
--   Stopped               a line is the one that a definition says, and of want of memory nothing is said
--   AnswersAs r seen d    an answer is what a definition says, unless memory was wanting
--
-- Lines count from 1. A line that is missing is the one behind the last; so is text behind the last row.
use Rattle.std.specs.Prelude.{◌≡◌, ℕ, zero, suc, ◌+◌, ◌*◌, List, [], ◌∷◌, ◌++◌, ℤ, Some, None, Ok, Err, vec_items, codes, Result, MatchResult}
use Rattle.hour.specs.Rules.{max_zones, max_bids, max_lines}
use Rattle.hour.specs.declared.refusals.Sort.{Sort}
use Rattle.hour.specs.declared.refusals.Sort.TheVariants as sorts
use Rattle.checker.specs.Reading.{Read, ◌then◌, after, number, whole, index, price, largest}
use Rattle.checker.specs.declared.form.Counts.{Counts}
use Rattle.checker.specs.declared.form.Phrases.{Phrases}
use Rattle.checker.specs.declared.form.Rows.{Rows}
use Rattle.checker.specs.declared.form.Said.{Said}
use Rattle.checker.specs.declared.form.Stop.{Stop}
use Rattle.checker.specs.declared.form.Stop.TheVariants.{Memory, Line}
use Rattle.checker.specs.declared.form.Zones.{Zones}

infixr 20 ◌ok_then◌
pub record Phrasing : Type 0 where
  pub sort : List ℕ
  pub has : List ℕ
  pub pays : List ℕ

abbrev pub phrasing : Sort → Phrasing
phrasing sorts.Buy = record { sort = codes "buy "; has = codes " has "; pays = codes " pays " }
phrasing sorts.Sell = record { sort = codes "sell "; has = codes " has "; pays = codes " gets " }
phrasing sorts.Line = record { sort = codes "line "; has = codes " carries "; pays = codes " earns " }

abbrev pub phrased : Phrases → Phrasing
phrased w = record { sort = w.sort.now; has = w.has.now; pays = w.pays.now }

abbrev pub worth_at : List ℕ → Read (ℤ × ℕ)
worth_at bs =
    after (codes "worth ") bs then λ bs₁. whole bs₁ then λ w. after (codes " pushes ") w.1 then λ bs₂.
    number largest bs₂ then λ n. after (codes "\n") n.1 then λ bs₃. Some ((w.0, n.0), bs₃)

abbrev pub zone_at : ℕ → List ℕ → Read ℕ
zone_at z bs =
    after (codes "zone ") bs then λ bs₁. index z bs₁ then λ bs₂. after (codes " price ") bs₂ then λ bs₃.
    price bs₃ then λ p. after (codes "\n") p.1 then λ bs₄. Some (p.0, bs₄)

abbrev pub row_at : Phrasing → ℕ → List ℕ → Read (ℕ × ℤ)
row_at w k bs =
    after w.sort bs then λ bs₁. index k bs₁ then λ bs₂. after w.has bs₂ then λ bs₃.
    number largest bs₃ then λ x. after w.pays x.1 then λ bs₄. whole bs₄ then λ d.
    after (codes "\n") d.1 then λ bs₅. Some ((x.0, d.0), bs₅)

abbrev pub item_at : Sort → ℕ → List ℕ → Read (ℕ × ℤ)
item_at s k bs = row_at (phrasing s) k bs

abbrev pub ◌ok_then◌ : {A B : Type 0} → Result A ℕ → (A → Result B ℕ) → Result B ℕ
(Ok x) ok_then f = f x
(Err line) ok_then f = Err line

abbrev pub steps : {A : Type 0} → (ℕ → A → Result A ℕ) → A → ℕ → Result A ℕ
steps f t zero = Ok t
steps f t (suc n) = steps f t n ok_then f n

pub record Prices : Type 0 where
  pub prices : List ℕ
  pub rest : List ℕ

abbrev pub priced : List ℕ → List ℕ → Prices
priced prices rest = record { prices = prices; rest = rest }

abbrev pub one_price : ℕ → Prices → Read ℕ → Result Prices ℕ
one_price line t (Some r) = Ok (priced (t.prices ++ (r.0 ∷ [])) r.1)
one_price line t None = Err line

abbrev pub zone_step : ℕ → ℕ → Prices → Result Prices ℕ
zone_step line z t = one_price (line + z) t (zone_at z t.rest)

abbrev pub zones_at : ℕ → ℕ → List ℕ → Result Prices ℕ
zones_at line n bs = steps (zone_step line) (priced [] bs) n

pub record Table : Type 0 where
  pub amounts : List ℕ
  pub moneys : List ℤ
  pub rest : List ℕ

abbrev pub table : List ℕ → List ℤ → List ℕ → Table
table amounts moneys rest = record { amounts = amounts; moneys = moneys; rest = rest }

abbrev pub one_more : ℕ → Table → Read (ℕ × ℤ) → Result Table ℕ
one_more line t (Some r) = Ok (table (t.amounts ++ (r.0.0 ∷ [])) (t.moneys ++ (r.0.1 ∷ [])) r.1)
one_more line t None = Err line

abbrev pub item_step : Sort → ℕ → ℕ → Table → Result Table ℕ
item_step s line k t = one_more (line + k) t (item_at s k t.rest)

abbrev pub items_at : Sort → ℕ → ℕ → List ℕ → Result Table ℕ
items_at s line n bs = steps (item_step s line) (table [] [] bs) n

pub record Saying : Type 0 where
  pub worth : ℤ
  pub pushes : ℕ
  pub zones : Prices
  pub buys : Table
  pub sells : Table
  pub lines : Table

abbrev pub saying : ℤ × ℕ → Prices → Table → Table → Table → Saying
saying w z b s l = record { worth = w.0; pushes = w.1; zones = z; buys = b; sells = s; lines = l }

abbrev pub worth_line : Read (ℤ × ℕ) → Result ((ℤ × ℕ) × List ℕ) ℕ
worth_line (Some w) = Ok w
worth_line None = Err 1

abbrev pub ended : {A : Type 0} → ℕ → List ℕ → A → Result A ℕ
ended line [] x = Ok x
ended line (b ∷ bs) x = Err line

abbrev pub rows_of : Counts → Sort → ℕ
rows_of n sorts.Buy = n.buys
rows_of n sorts.Sell = n.sells
rows_of n sorts.Line = n.lines

abbrev pub first_line : Counts → Sort → ℕ
first_line n sorts.Buy = 2 + n.zones
first_line n sorts.Sell = 2 + n.zones + n.buys
first_line n sorts.Line = 2 + n.zones + n.buys + n.sells

abbrev pub last_line : Counts → ℕ
last_line n = 2 + n.zones + n.buys + n.sells + n.lines

abbrev pub text_at : Counts → List ℕ → Result Saying ℕ
text_at n bs =
    worth_line (worth_at bs) ok_then λ w.
    zones_at 2 n.zones w.1 ok_then λ z.
    items_at sorts.Buy (first_line n sorts.Buy) n.buys z.rest ok_then λ b.
    items_at sorts.Sell (first_line n sorts.Sell) n.sells b.rest ok_then λ s.
    items_at sorts.Line (first_line n sorts.Line) n.lines s.rest ok_then λ l.
    ended (last_line n) l.rest (saying w.0 z b s l)

abbrev pub longest_row : ℕ
longest_row = 102

abbrev pub longest_text : ℕ
longest_text = longest_row * (1 + max_zones + max_bids + max_bids + max_lines)

abbrev pub prices_seen : Zones → Prices
prices_seen t = priced (vec_items t.prices) t.rest.now

abbrev pub table_seen : Rows → Table
table_seen t = table (vec_items t.amounts) (vec_items t.moneys) t.rest.now

abbrev pub said_seen : Said → Saying
said_seen t =
    saying (t.worth, t.pushes) (prices_seen t.zones) (table_seen t.buys) (table_seen t.sells) (table_seen t.lines)

abbrev pub Stopped : {A : Type 0} → Stop → Result A ℕ → Type 0
Stopped (Memory error) d = Unit {0}
Stopped (Line line) d = d ≡ Err line

abbrev pub AnswersAs : {A B : Type 0} → Result A Stop → (A → B) → Result B ℕ → Type 0
AnswersAs r seen d = MatchResult r (λ x. d ≡ Ok (seen x)) (λ stop. Stopped stop d)
