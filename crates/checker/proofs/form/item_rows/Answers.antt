use Rattle.std.proofs.Common.{◌≡◌, ◌+◌, [], None, Err, vec_items, arith, rules}
use Rattle.checker.specs.Form.{table, first_line, rows_of, item_at, item_step}
use Rattle.checker.specs.declared.form.Stop.TheVariants.{Line}
use Rattle.checker.proofs.Steps.{steps_stop, one_more_none}
use Rattle.checker.proofs.form.item_rows.Goals as goal

pub returns-in_err-amount : goal.returns-in_err-amount
returns-in_err-amount c =
    let none : None ≡ item_at c.args.sort c.loop-k.k c.loop-k.rest.now = search rules in
    let stopped : c.from_residual.result ≡ Err (Line (first_line c.args.n c.args.sort + c.loop-k.k)) = search rules in
    let first = first_line c.args.n c.args.sort in
    let before = table (vec_items c.loop-k.amounts) (vec_items c.loop-k.moneys) c.loop-k.rest.now in
    rw stopped
    (steps_stop (item_step c.args.sort first) (table [] [] c.args.bytes.now) c.loop-k.k (rows_of c.args.n c.args.sort) _ before
    c.loop-k.invariant (one_more_none _ before _ none) (omega arith))
