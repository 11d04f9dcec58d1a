use Rattle.std.proofs.Common.{arith}
use Rattle.prices.proofs.Rows.{bids_laid}
use Rattle.prices.proofs.lay.lay_sells.Goals as goal

pub returns : goal.returns
returns c = bids_laid _ c.sells.result _ (omega arith) c.sells.ensures.count c.lay.ensures
