use Rattle.std.proofs.Common.{rules, arith}
use Rattle.office.proofs.ReadOn.{nothing_yet, one_more, enough, ended}
use Rattle.office.proofs.reading.read_up_to.Goals as goal

pub loop-init : goal.loop-init
loop-init g c = nothing_yet _ _ _

pub returns-then-len-limit : goal.returns-then-len-limit
returns-then-len-limit g c = enough _ _ _ _ _ c.loop.invariant (search rules)

pub returns-then-branch : goal.returns-then-branch
returns-then-branch g c =
    let step = c.in_ok-read_more.ensures in
    ended _ _ _ _ _ (one_more _ _ _ _ _ _ _ _ _ c.loop.invariant (omega arith) step) (step.at_end c.if-branch.true)

pub loop-preserved : goal.loop-preserved
loop-preserved g c = one_more _ _ _ _ _ _ _ _ _ c.loop.invariant (omega arith) c.in_ok-read_more.ensures
