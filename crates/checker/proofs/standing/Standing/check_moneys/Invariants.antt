use Rattle.std.proofs.Common.{◌≡◌, None}
use Rattle.hour.specs.First.{first}
use Rattle.checker.specs.Acceptance.{claimed}
use Rattle.checker.specs.Follows.{row_wrong}
use Rattle.checker.proofs.standing.Standing.check_moneys.Given as goal

abbrev pub invariant-loop-k : goal.invariant-loop-k
invariant-loop-k l = first l.k (claimed row_wrong l.self.claim l.sort l.moneys) ≡ None
