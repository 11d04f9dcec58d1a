use Rattle.std.proofs.Common.{arith}
use Rattle.office.proofs.ReadOn.{more_counted, all_counted}
use Rattle.office.proofs.reading.count_rest.Goals as goal

pub loop-preserved : goal.loop-preserved
loop-preserved g c =
    more_counted _ _ _ _ _ _ _ _ _ _ c.loop.invariant c.in_ok-ended.ensures c.clear.ensures.items (omega arith)

pub returns-then-ended : goal.returns-then-ended
returns-then-ended g c =
    let step = c.in_ok-ended.ensures in
    all_counted _ _ _ _ (more_counted _ _ _ _ _ _ _ _ _ _ c.loop.invariant step c.clear.ensures.items (omega arith))
    (step.at_end c.if-ended.true)
