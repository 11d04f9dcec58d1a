use Rattle.std.proofs.Common.{append_assoc, rules}
use Rattle.hour.proofs.text.market_rows.Goals as goal

pub returns : goal.returns
returns c = search (rules, append_assoc)
