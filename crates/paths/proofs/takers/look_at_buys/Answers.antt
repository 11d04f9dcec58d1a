use Rattle.paths.proofs.Looked.{buy_looks}
use Rattle.paths.proofs.takers.look_at_buys.Goals as goal

pub look-requires-clause-looks : goal.look-requires-clause-looks
look-requires-clause-looks c =
    buy_looks _ _ c.args.given.sound c.loop-k-test.true c.row_count-k-end.ensures c.row_in-bid.ensures
