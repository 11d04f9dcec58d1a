use Rattle.std.proofs.Common.{◌≡◌, None}
use Rattle.hour.specs.First.{first}
use Rattle.checker.specs.Acceptance.{claimed, item_broken}
use Rattle.checker.proofs.claim.Claim.check_sort.Given as goal

abbrev pub invariant-loop-k : goal.invariant-loop-k
invariant-loop-k l = first l.k (claimed item_broken l.self l.sort) ≡ None
