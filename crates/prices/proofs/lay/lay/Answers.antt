use Rattle.std.proofs.Common.{arith}
use Rattle.prices.proofs.Rows.{laid_more}
use Rattle.prices.proofs.lay.lay.Goals as goal

pub loop-k-preserved : goal.loop-k-preserved
loop-k-preserved g c =
    rw c.copy_from_slice.ensures.after
    (laid_more c.loop-k.k c.loop-k.table c.row.result (omega arith) (omega arith) _ c.loop-k.invariant c.row.ensures)

pub returns : goal.returns
returns g c = λ k below. c.loop-k.invariant k (omega arith)
