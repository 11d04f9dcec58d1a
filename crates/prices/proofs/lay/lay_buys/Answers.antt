use Rattle.std.proofs.Common.{arith}
use Rattle.prices.proofs.Rows.{bids_laid}
use Rattle.prices.proofs.lay.lay_buys.Goals as goal

pub returns : goal.returns
returns c = bids_laid _ c.buys.result _ (omega arith) c.buys.ensures.count c.lay.ensures
