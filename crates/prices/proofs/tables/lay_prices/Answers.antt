use Rattle.std.proofs.Common.{arith}
use Rattle.prices.proofs.Bounds.{prices_laid}
use Rattle.prices.proofs.tables.lay_prices.Goals as goal

pub returns : goal.returns
returns c = prices_laid c.args.ways.now c.loop-v.price c.loop-v.v (omega arith) (omega arith) c.loop-v.invariant
