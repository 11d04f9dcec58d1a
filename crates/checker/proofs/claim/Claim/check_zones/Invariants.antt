use Rattle.std.proofs.Common.{◌≡◌, None}
use Rattle.hour.specs.Seen.{market_seen}
use Rattle.hour.specs.First.{first}
use Rattle.network.specs.Given.{outcome_given}
use Rattle.checker.specs.Acceptance.{zone_broken}
use Rattle.checker.proofs.claim.Claim.check_zones.Given as goal

abbrev pub invariant-loop-z : goal.invariant-loop-z
invariant-loop-z l = first l.z (zone_broken (market_seen l.self.hour) (outcome_given l.self.amounts)) ≡ None
