use Rattle.std.proofs.Common.{◌≡◌, Ok, vec_items}
use Rattle.checker.specs.Form.{priced, zones_at}
use Rattle.checker.proofs.form.zone_rows.Given as goal

abbrev pub invariant-loop-zone : goal.invariant-loop-zone
invariant-loop-zone l = zones_at 2 l.zone l.bytes ≡ Ok (priced (vec_items l.prices) l.rest)
