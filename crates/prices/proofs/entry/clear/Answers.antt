use Rattle.std.proofs.Common.{sym, ap, ◌∙◌}
use Rattle.std.specs.Result.{result_err}
use Rattle.prices.proofs.Bounds.{proper_kept}
use Rattle.prices.proofs.Promised.{found_promised}
use Rattle.prices.proofs.Shapes.{tables_kept}
use Rattle.prices.proofs.entry.clear.Goals as goal

pub clear_tables-requires-clause-kept : goal.clear_tables-requires-clause-kept
clear_tables-requires-clause-kept c =
    let a = c.args in
    tables_kept a.zones a.buys.now a.sells.now a.lines.now _ _
    (sym c.check_tables.ensures ∙ ap result_err c.in_ok-check_tables.was)

pub returns-clause-promised : goal.returns-clause-promised
returns-clause-promised c =
    let a = c.args in
    let none = sym c.check_tables.ensures ∙ ap result_err c.in_ok-check_tables.was in
    let rules = tables_kept a.zones a.buys.now a.sells.now a.lines.now _ _ none in
    found_promised _ _ _ _ (proper_kept _ rules) rules.plain c.clear_tables.ensures.found
