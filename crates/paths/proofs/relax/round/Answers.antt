use Rattle.paths.proofs.Rounds.{rising_on, risen}
use Rattle.paths.proofs.relax.round.Goals as goal

pub loop-k-preserved : goal.loop-k-preserved
loop-k-preserved c = rising_on c.loop-k.invariant c.turn.ensures.value c.relax-rose.ensures

pub returns : goal.returns
returns c = risen c.loop-k.invariant c.row_count-lines.ensures c.loop-k-test.false
