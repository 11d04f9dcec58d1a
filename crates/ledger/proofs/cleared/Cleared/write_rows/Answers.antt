-- One more row; the sum stays small, as a sort has few rows.
use Rattle.std.proofs.Common.{arith}
use Rattle.ledger.proofs.Writing.{rows_more}
use Rattle.ledger.proofs.cleared.Cleared.write_rows.Goals as goal

pub loop-k-preserved : goal.loop-k-preserved
loop-k-preserved c =
    rows_more c.args.self c.args.sort c.loop-k.k c.loop-k.sum-bits c.cast_unsigned.result c.loop-k.rows
    c.row_money-money.result c.loop-k.invariant c.row_money-money.ensures.value
    c.row_money-money.ensures.small (omega arith) (omega arith) c.cast_unsigned.ensures
