use Rattle.std.proofs.Common.{◌≡◌, ℕ, length, Some, sym, arith, rules}
use Rattle.hour.proofs.First.{first_some}
use Rattle.network.specs.Tables.{cell, items, rows_in, nth_row}
use Rattle.std.proofs.lemmas.List.FromFn.{length-map-range_with_len}
use Rattle.prices.proofs.entry.check_each.Goals as goal

pub returns-in_err-check : goal.returns-in_err-check
returns-in_err-check g c =
    let e = g.E.Entry in
    let table = c.args.table.now in
    let fault = λ (k : ℕ). e.fault c.args.zones (e.place c.args.bids k) (nth_row g.E.Row.made table k) in
    let many : length (rows_in g.E.Row.made table) ≡ items table = length-map-range_with_len _ 0 (items table) in
    let here : fault c.loop-k.k ≡ Some c.in_err-check.field-0.0 = search rules in
    let found = first_some fault c.loop-k.k (length (rows_in g.E.Row.made table)) _ (omega arith) c.loop-k.invariant here in
    search rules

pub returns : goal.returns
returns g c =
    let table = c.args.table.now in
    let row = λ (k : ℕ). g.E.Row.made (cell table k 0) (cell table k 1) (cell table k 2) in
    let all : length (rows_in g.E.Row.made table) ≡ c.loop-k.k =
    omega (arith, length-map-range_with_len row 0 (items table))
    in
    rw all (sym c.loop-k.invariant)
