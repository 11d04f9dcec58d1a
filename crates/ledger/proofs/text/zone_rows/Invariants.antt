use Rattle.std.proofs.Common.{◌≡◌, ◌++◌, string_bytes}
use Rattle.ledger.specs.Text.{zone_rows}
use Rattle.ledger.proofs.text.zone_rows.Given as goal

abbrev pub invariant-loop-zone : goal.invariant-loop-zone
invariant-loop-zone l = string_bytes l.text ≡ string_bytes l.initial.text ++ zone_rows l.zone l.prices
