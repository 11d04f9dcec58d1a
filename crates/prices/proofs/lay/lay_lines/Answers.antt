use Rattle.std.proofs.Common.{arith}
use Rattle.hour.proofs.Kept.{plain_said}
use Rattle.prices.proofs.Rows.{lines_laid}
use Rattle.prices.proofs.lay.lay_lines.Goals as goal

pub returns : goal.returns
returns c =
    let plain = plain_said c.args.hour.bytes.now in
    lines_laid _ c.lines.result _ (omega arith) c.lines.ensures.count plain.costless c.lay.ensures
