use Rattle.std.proofs.Common.{◌≡◌, ◌≤◌, length}
use Rattle.checker.specs.Reading.{digits}
use Rattle.checker.proofs.reading.digits.Given as goal

abbrev pub invariant-loop-b : goal.invariant-loop-b
invariant-loop-b l = (digits l.limit l.n l.rest ≡ digits l.limit l.first l.bytes) × (l.n ≤ l.limit)

abbrev pub decreases-loop-b : goal.decreases-loop-b
decreases-loop-b l = length l.rest
