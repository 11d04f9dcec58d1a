use Rattle.std.proofs.Common.{sym, arith}
use Rattle.hour.specs.Seen.{market_seen}
use Rattle.network.specs.Given.{outcome_given}
use Rattle.checker.proofs.Marking.{marked_more, marked_all, bare_falls}
use Rattle.checker.proofs.Rules.{proper_seen}
use Rattle.checker.proofs.claim.Claim.mark_bare.Goals as goal

pub loop-z-smaller : goal.loop-z-smaller
loop-z-smaller c =
    bare_falls (market_seen c.args.self.hour) (outcome_given c.args.self.amounts) c.args.self.prices.now
    c.loop-z.marks c.in-Some.z (omega arith) (sym c.in-Some.ensures.value)

pub loop-z-preserved : goal.loop-z-preserved
loop-z-preserved c =
    let proper = proper_seen c.args.self.hour.bytes.now c.args.self.hour.kept in
    marked_more _ _ _ _ _ c.loop-z.invariant proper (omega arith) c.in-Some.z (sym c.in-Some.ensures.value)

pub returns : goal.returns
returns c =
    let proper = proper_seen c.args.self.hour.bytes.now c.args.self.hour.kept in
    marked_all _ _ _ _ _ c.loop-z.invariant proper (sym c.in_default.ensures.value)
