-- What is seen of an hour. Assumes nothing: this is a definition.
--
--   market_seen hour   the market that its bytes say
use Rattle.hour.specs.Bytes.{market_of}
use Rattle.hour.specs.Market.{Market}
use Rattle.hour.specs.declared.view.Hour.{Hour}

abbrev pub market_seen : Hour → Market
market_seen hour = market_of hour.bytes.now
