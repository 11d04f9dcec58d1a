use Rattle.paths.proofs.Looked.{sell_looks}
use Rattle.paths.proofs.takers.look_at_sells.Goals as goal

pub look-requires-clause-looks : goal.look-requires-clause-looks
look-requires-clause-looks c =
    sell_looks _ _ c.args.given.sound c.loop-k-test.true _ c.row_count-buys.ensures c.row_count-k-end.ensures
    c.row_in-bid.ensures
