-- Which rows of a text do not follow from its amounts and prices. Assumes nothing: these are definitions.
--
--   money_at ds k        the money that row k of a sort says
--   figure_wrong         a number that is written where another follows
--   row_wrong            a row of money that is another than the amount and the prices make
--   rows_wrong           the first of them in a sort
--   worth_wrong          a worth that is another than the amounts make
--   counts_in m          how many of each a market has
--   outcome_said t       the amounts and flows that a text says
--   wrong_in m o ps t    the first row of what a text says that does not follow: the worth, buys, sells, lines
use Rattle.std.specs.Prelude.{ℕ, ◌+◌, not, List, length, ℤ, pos, Some, None, Option, slice_index_or}
use Rattle.std.specs.Ordering.{int_eq}
use Rattle.hour.specs.First.{when, ◌else◌, first}
use Rattle.hour.specs.Market.{Market, Outcome, count_of}
use Rattle.hour.specs.declared.refusals.Sort.{Sort}
use Rattle.hour.specs.declared.refusals.Sort.TheVariants as sorts
use Rattle.network.specs.Tables.{outcome_in}
use Rattle.network.specs.Given.{item}
use Rattle.ledger.specs.Money.{money, worth_by}
use Rattle.checker.specs.Form.{Saying, first_line}
use Rattle.checker.specs.declared.form.Counts.{Counts}
use Rattle.checker.specs.declared.reports.Wrong.{Wrong}

abbrev pub money_at : List ℤ → ℕ → ℤ
money_at ds k = slice_index_or ds k (pos 0)

abbrev pub figure_wrong : ℕ → Option Sort → ℤ → ℤ → Option Wrong
figure_wrong line figure follows written =
    when (not (int_eq follows written))
    (record { line = line; figure = figure; follows = follows; written = written })

abbrev pub counts_in : Market → Counts
counts_in m =
    record { zones = m.zones; buys = length m.buys; sells = length m.sells; lines = length m.lines }

abbrev pub row_wrong : Market → Outcome → List ℕ → Sort → List ℤ → ℕ → Option Wrong
row_wrong m o ps s ds k =
    figure_wrong (first_line (counts_in m) s + k) (Some s) (money m o ps (item s k)) (money_at ds k)

abbrev pub rows_wrong : Market → Outcome → List ℕ → Sort → List ℤ → Option Wrong
rows_wrong m o ps s ds = first (count_of m s) (row_wrong m o ps s ds)

abbrev pub worth_wrong : Market → Outcome → ℤ → Option Wrong
worth_wrong m o written = figure_wrong 1 None (worth_by m o) written

abbrev pub outcome_said : Saying → Outcome
outcome_said t = outcome_in t.buys.amounts t.sells.amounts t.lines.amounts

abbrev pub wrong_in : Market → Outcome → List ℕ → Saying → Option Wrong
wrong_in m o ps t =
    worth_wrong m o t.worth
    else rows_wrong m o ps sorts.Buy t.buys.moneys
    else rows_wrong m o ps sorts.Sell t.sells.moneys
    else rows_wrong m o ps sorts.Line t.lines.moneys
