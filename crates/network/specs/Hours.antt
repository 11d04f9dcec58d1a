-- Worked hours: small markets with the outcome, the lowest prices and the worth written out. Assumes nothing.
--
--   Row         a market, an outcome, prices, and what the outcome is worth
--   Holds r     the outcome can be carried out, the prices settle it and are the lowest that settle anything, and the
--               worth is as said
--   bids, joins     a bid, and a line, as they are written here
--   two_zones c     two zones, with lines of capacity c both ways; narrow and wide are such hours
--   one_each ask    one zone with a buyer and a seller, who asks so much; traded n both have n; tied and apart are such hours
--   narrow, wide    the line to the dearer zone is full, so the prices differ; it has room, so they are the same
--   in_part         a buy that is served in part sets the price
--   tied n          buyer and seller ask the same, and any amount n will do
--   unsold          nobody buys
--   apart           the seller asks less than the buyer bids, and every price between them settles
--   charged         a line that has room and carries something stands between two prices by its cost
--   stored          what a zone is supplied with is used, and only the rest is sold
--
-- In crates/trials/data/worked, and in docs/TEMPTING.md, which speaks of some, they are the hours A (narrow), A1 (wide),
-- B (in_part), C (tied), D (unsold) and F (apart).
--
-- A bid is written zone, price, amount; a line from, to, capacity.
use Rattle.std.specs.Prelude.{◌≡◌, ℕ, ◌+◌, List, [], ◌∷◌}
use Rattle.hour.specs.declared.items.Bid.{Bid}
use Rattle.hour.specs.declared.items.Line.{Line}
use Rattle.hour.specs.Market.{Market, Outcome, Proper, Feasible, Settled, worth, costs}
use Rattle.network.specs.Prices.{Lowest}

pub record Row : Type 0 where
  pub market : Market
  pub outcome : Outcome
  pub prices : List ℕ
  pub worth : ℕ

pub record Holds (r : Row) : Type 0 where
  pub proper : Proper r.market
  pub feasible : Feasible r.market r.outcome
  pub settled : Settled r.market r.outcome r.prices
  pub lowest : Lowest r.market r.prices
  pub worth :
      worth r.market.buys r.outcome.bought ≡ r.worth + costs r.market r.outcome

abbrev pub bids : ℕ → ℕ → ℕ → Bid
bids z p a = record { zone = z; price = p; amount = a }

abbrev pub joins : ℕ → ℕ → ℕ → Line
joins a b c = record { from = a; to = b; capacity = c; cost = 0 }

abbrev pub two_zones : ℕ → Market
two_zones capacity =
    record {
      zones = 2;
      buys = bids 1 50 100 ∷ [];
      sells = bids 0 20 80 ∷ bids 1 40 60 ∷ [];
      lines = joins 0 1 capacity ∷ joins 1 0 capacity ∷ [];
      supplies = [];
    }

abbrev pub narrow : Row
narrow =
    record {
      market = two_zones 50;
      outcome = record { bought = 100 ∷ []; sold = 50 ∷ 50 ∷ []; flow = 50 ∷ 0 ∷ [] };
      prices = 20 ∷ 40 ∷ [];
      worth = 2000;
    }

abbrev pub wide : Row
wide =
    record {
      market = two_zones 90;
      outcome = record { bought = 100 ∷ []; sold = 80 ∷ 20 ∷ []; flow = 80 ∷ 0 ∷ [] };
      prices = 40 ∷ 40 ∷ [];
      worth = 2600;
    }

abbrev pub in_part : Row
in_part =
    record {
      market =
          record {
            zones = 1;
            buys = bids 0 30 10 ∷ bids 0 25 10 ∷ [];
            sells = bids 0 10 15 ∷ bids 0 28 10 ∷ [];
            lines = [];
            supplies = [];
          };
      outcome = record { bought = 10 ∷ 5 ∷ []; sold = 15 ∷ 0 ∷ []; flow = [] };
      prices = 25 ∷ [];
      worth = 275;
    }

abbrev pub one_each : ℕ → Market
one_each ask =
    record { zones = 1; buys = bids 0 30 10 ∷ []; sells = bids 0 ask 10 ∷ []; lines = []; supplies = [] }

abbrev pub traded : ℕ → Outcome
traded n = record { bought = n ∷ []; sold = n ∷ []; flow = [] }

abbrev pub tied : ℕ → Row
tied n = record { market = one_each 30; outcome = traded n; prices = 30 ∷ []; worth = 0 }

abbrev pub unsold : Row
unsold =
    record {
      market = record { zones = 2; buys = []; sells = bids 0 5 10 ∷ []; lines = joins 0 1 5 ∷ []; supplies = [] };
      outcome = record { bought = []; sold = 0 ∷ []; flow = 0 ∷ [] };
      prices = 0 ∷ 0 ∷ [];
      worth = 0;
    }

abbrev pub apart : Row
apart = record { market = one_each 12; outcome = traded 10; prices = 12 ∷ []; worth = 180 }

abbrev pub charged : Row
charged =
    record {
      market =
          record {
            zones = 2;
            buys = bids 1 50 100 ∷ [];
            sells = bids 0 20 80 ∷ bids 1 40 60 ∷ [];
            lines = record { from = 0; to = 1; capacity = 90; cost = 5 } ∷ [];
            supplies = [];
          };
      outcome = record { bought = 100 ∷ []; sold = 80 ∷ 20 ∷ []; flow = 80 ∷ [] };
      prices = 35 ∷ 40 ∷ [];
      worth = 2200;
    }

abbrev pub stored : Row
stored =
    record {
      market = record { zones = 1; buys = bids 0 30 8 ∷ []; sells = bids 0 20 10 ∷ []; lines = []; supplies = 5 ∷ [] };
      outcome = record { bought = 8 ∷ []; sold = 3 ∷ []; flow = [] };
      prices = 20 ∷ [];
      worth = 180;
    }
