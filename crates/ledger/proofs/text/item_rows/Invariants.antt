use Rattle.std.proofs.Common.{◌≡◌, ◌++◌, string_bytes}
use Rattle.ledger.specs.Text.{wording, item_rows}
use Rattle.ledger.proofs.text.item_rows.Given as goal

abbrev pub invariant-loop-k : goal.invariant-loop-k
invariant-loop-k l =
    string_bytes l.text ≡ string_bytes l.initial.text ++ item_rows (wording l.sort) l.k l.amounts l.ledger 0
