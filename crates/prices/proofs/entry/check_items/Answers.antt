use Rattle.std.proofs.Common.{rules}
use Rattle.prices.proofs.Shapes.{items_counted}
use Rattle.prices.proofs.entry.check_items.Goals as goal

pub returns-in_err-check_each-2 : goal.returns-in_err-check_each-2
returns-in_err-check_each-2 c =
    let t = c.args.t in
    let all =
    items_counted t.zones t.buys.now t.sells.now t.lines.now _ _ c.row_count-buys.ensures c.row_count-sells.ensures
    in
    search rules

pub returns : goal.returns
returns c =
    let t = c.args.t in
    let all =
    items_counted t.zones t.buys.now t.sells.now t.lines.now _ _ c.row_count-buys.ensures c.row_count-sells.ensures
    in
    search rules
