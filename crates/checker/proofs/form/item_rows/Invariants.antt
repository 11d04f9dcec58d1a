use Rattle.std.proofs.Common.{◌≡◌, Ok, vec_items}
use Rattle.checker.specs.Form.{first_line, table, items_at}
use Rattle.checker.proofs.form.item_rows.Given as goal

abbrev pub invariant-loop-k : goal.invariant-loop-k
invariant-loop-k l =
    items_at l.sort (first_line l.fn.n l.sort) l.k l.bytes
    ≡ Ok (table (vec_items l.amounts) (vec_items l.moneys) l.rest)
