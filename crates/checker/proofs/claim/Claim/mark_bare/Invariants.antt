use Rattle.hour.specs.Seen.{market_seen}
use Rattle.network.specs.Given.{outcome_given}
use Rattle.checker.proofs.Marking.{Sofar, bare}
use Rattle.checker.proofs.claim.Claim.mark_bare.Given as goal

abbrev pub invariant-loop-z : goal.invariant-loop-z
invariant-loop-z l =
    Sofar (market_seen l.self.hour) (outcome_given l.self.amounts) l.self.prices.now l.initial.marks l.marks

abbrev pub decreases-loop-z : goal.decreases-loop-z
decreases-loop-z l = bare (market_seen l.self.hour) l.marks
