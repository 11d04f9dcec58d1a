-- The text that is published of an hour, in bytes. Assumes nothing: these are definitions.
--
--   worth_row w n          what the outcome is worth, and how many pushes there were: worth 2000 pushes 2
--   zone_row z p           a zone and its price as money: zone 0 price -499.80
--   item_row w k x d       the k-th of a sort, which the words w name: its amount x and its money d, in hundredths:
--                          buy 0 has 100 pays -4996000
--   Wording                the words of such a row; wording s those of a sort
--   zone_rows n ps         the rows of n zones, with prices in ps
--   item_rows w n xs l i   n of them, with amounts in xs and money in the rows of the ledger l from i on
--   Counts                 how many zones, buys, sells and lines there are
--   text_of n ..           all rows: the worth, the zones, the buys, the sells and the lines, so many as n says
--   counts_of m            how many of each a market has
--   sort_rows m o ps s     the rows of a sort in words of the market
--   result_of m o ps n     the same text in words of the market: each amount, each money, what the outcome is worth
--
-- A ledger has the two's complement of a money; the text has its decimal with a sign.
use Rattle.std.specs.Prelude.{ℕ, ◌+◌, List, [], ◌∷◌, ◌++◌, length, ℤ, codes, decimal}
use Rattle.std.specs.Int.{w64}
use Rattle.std.proofs.Common.{to_z}
use Rattle.std.specs.Fmt.{signed_decimal}
use Rattle.hour.specs.Market.{Market, Outcome, at, count_of}
use Rattle.hour.specs.Text.{row, rows, money}
use Rattle.hour.specs.declared.refusals.Sort.{Sort}
use Rattle.hour.specs.declared.refusals.Sort.TheVariants as sorts
use Rattle.network.specs.Network.{carried}
use Rattle.ledger.specs.Money as ledger
use Rattle.network.specs.Given.{item}
use Rattle.ledger.specs.Money.{worth_by}

pub record Wording : Type 0 where
  pub sort : List ℕ
  pub has : List ℕ
  pub pays : List ℕ

abbrev pub wording : Sort → Wording
wording sorts.Buy = record { sort = codes "buy"; has = codes "has"; pays = codes "pays" }
wording sorts.Sell = record { sort = codes "sell"; has = codes "has"; pays = codes "gets" }
wording sorts.Line = record { sort = codes "line"; has = codes "carries"; pays = codes "earns" }

abbrev pub worth_row : ℤ → ℕ → List ℕ
worth_row w n = row (codes "worth" ∷ signed_decimal w ∷ codes "pushes" ∷ decimal n ∷ [])

abbrev pub zone_row : ℕ → ℕ → List ℕ
zone_row z p = row (codes "zone" ∷ decimal z ∷ codes "price" ∷ money p ∷ [])

abbrev pub item_row : Wording → ℕ → ℕ → ℤ → List ℕ
item_row w k x d = row (w.sort ∷ decimal k ∷ w.has ∷ decimal x ∷ w.pays ∷ signed_decimal d ∷ [])

abbrev pub zone_rows : ℕ → List ℕ → List ℕ
zone_rows n ps = rows n (λ z. zone_row z (at ps z))

abbrev pub item_rows : Wording → ℕ → List ℕ → List ℕ → ℕ → List ℕ
item_rows w n xs l i = rows n (λ k. item_row w k (at xs k) (to_z w64 (at l (i + k))))

pub record Counts : Type 0 where
  pub zones : ℕ
  pub buys : ℕ
  pub sells : ℕ
  pub lines : ℕ

abbrev pub text_of : Counts → ℕ → ℤ → List ℕ → Outcome → List ℕ → List ℕ
text_of n pushes worth ps o l =
    worth_row worth pushes
    ++ zone_rows n.zones ps
    ++ item_rows (wording sorts.Buy) n.buys o.bought l 0
    ++ item_rows (wording sorts.Sell) n.sells o.sold l n.buys
    ++ item_rows (wording sorts.Line) n.lines o.flow l (n.buys + n.sells)

abbrev pub counts_of : Market → Counts
counts_of m =
    record { zones = m.zones; buys = length m.buys; sells = length m.sells; lines = length m.lines }

abbrev pub sort_rows : Market → Outcome → List ℕ → Sort → List ℕ
sort_rows m o ps s =
    rows (count_of m s) (λ k. item_row (wording s) k (carried o (item s k)) (ledger.money m o ps (item s k)))

abbrev pub result_of : Market → Outcome → List ℕ → ℕ → List ℕ
result_of m o ps pushes =
    worth_row (worth_by m o) pushes
    ++ zone_rows m.zones ps
    ++ sort_rows m o ps sorts.Buy
    ++ sort_rows m o ps sorts.Sell
    ++ sort_rows m o ps sorts.Line
