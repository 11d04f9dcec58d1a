-- What tables and lists of amounts give. Assumes nothing: these are definitions.
--
--   market_given t    the market that tables hold
--   outcome_given o   the outcome that lists of amounts hold
use Rattle.hour.specs.Market.{Market, Outcome}
use Rattle.network.specs.Tables.{market_in, outcome_in}
use Rattle.network.specs.declared.tables.Amounts.{Amounts}
use Rattle.network.specs.declared.tables.Tables.{Tables}
pub use Rattle.hour.specs.Items.{item}

abbrev pub market_given : Tables → Market
market_given t = market_in t.zones t.buys.now t.sells.now t.lines.now

abbrev pub outcome_given : Amounts → Outcome
outcome_given o = outcome_in o.bought.now o.sold.now o.flow.now
