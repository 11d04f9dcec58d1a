use Rattle.std.proofs.Common.{arith}
use Rattle.paths.proofs.Rounds.{best_at_rest}
use Rattle.paths.proofs.Zones.{keeps_both}
use Rattle.paths.proofs.relax.settle.Goals as goal

pub returns : goal.returns
returns c =
    let settling = c.round.ensures.raised.settling in
    record {
      labels = best_at_rest c.args.given.tables c.args.given.amounts _ settling (c.round.ensures.relaxed (omega arith));
      bids = keeps_both _ _ _ c.loop-from_last.invariant.1 c.round.ensures.raised.bids;
    }
