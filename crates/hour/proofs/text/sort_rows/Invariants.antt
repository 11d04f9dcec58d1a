use Rattle.std.proofs.Common.{◌≡◌, ◌++◌, string_bytes}
use Rattle.hour.specs.Seen.{market_seen}
use Rattle.hour.specs.Text.{rows, nth_row}
use Rattle.hour.proofs.text.sort_rows.Given as goal

abbrev pub invariant-loop-k : goal.invariant-loop-k
invariant-loop-k l =
    string_bytes l.text ≡ string_bytes l.initial.text ++ rows l.k (nth_row (market_seen l.hour) l.sort)
