use Rattle.std.proofs.Common.{◌≡◌, ◌+◌, [], None, Err, vec_items, arith, rules}
use Rattle.checker.specs.Form.{priced, zone_at, zone_step}
use Rattle.checker.specs.declared.form.Stop.TheVariants.{Line}
use Rattle.checker.proofs.Steps.{steps_stop, one_price_none}
use Rattle.checker.proofs.form.zone_rows.Goals as goal

pub returns-in_err-price : goal.returns-in_err-price
returns-in_err-price c =
    let none : None ≡ zone_at c.loop-zone.zone c.loop-zone.rest.now = search rules in
    let stopped : c.from_residual.result ≡ Err (Line (2 + c.loop-zone.zone)) = search rules in
    let before = priced (vec_items c.loop-zone.prices) c.loop-zone.rest.now in
    rw stopped
    (steps_stop (zone_step 2) (priced [] c.args.bytes.now) c.loop-zone.zone c.args.n _ before
    c.loop-zone.invariant (one_price_none _ before _ none) (omega arith))
