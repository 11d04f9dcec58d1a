-- What holds while a search goes on. Assumes nothing: these are definitions.
--
--   Bounded t              the tables are those of a proper market, small enough to count in 64 bits
--   Spaced t ..            there is an amount for each bid and a flow for each line
--   Sound t o              both
--   Looks t o n b ..       what is seen of the bid with number n
--   Noted m ok beats n ..  two lists have, for each zone, what the best among the first n bids that are ok there is worth, and
--                          its number
--   Takers, Givers         the same of the best taker; of the best giver
--   Looked t o n ways      ways have both of the first n bids, and none leads over a line yet
--   rises worth far v w    the way over a line from v to w is better than the one that v has
--   Reaching m o top worth far    each label above 0 is that of a free way, no own taker is better than its zone's label, and
--                          the labels are keyed (see Keys)
--   RelaxedBy m o worth far s     no way over the step s is better than the label of the zone where it begins
--   Relaxed m o worth far l       line l, forward or backward, raises no label
--   turned from_last n j          number j of n, counted from the first or from the last
--   top                           one more than every price
--   Settling, Raised       what holds of labels while they are raised; what raising some of them keeps
--   KeepsBids, KeepsAllButOut     of two slices of ways: what a change of the labels, or of the ways out, leaves as it was
use Rattle.std.specs.Prelude.{◌≡◌, ℕ, suc, ◌+◌, ◌-◌, ◌^◌, ◌<◌, ◌≤◌, Bool, cond, ◌&&◌, ◌||◌, List, length, ◌==◌, nat_lt}
use Rattle.hour.specs.Market.{Market, Outcome, Proper, at, bid}
use Rattle.hour.specs.declared.items.Bid.{Bid}
use Rattle.network.specs.Given.{market_given, outcome_given}
use Rattle.network.specs.Tables.{items}
use Rattle.network.specs.Network.{Among, capacity}
use Rattle.hour.specs.declared.items.Item.{Item}
use Rattle.hour.specs.declared.items.Item.TheVariants.{Line}
use Rattle.network.specs.declared.arcs.Step.{Step}
use Rattle.network.specs.declared.arcs.Step.TheVariants.{Forward, Backward}
use Rattle.network.specs.declared.tables.Amounts.{Amounts}
use Rattle.network.specs.declared.tables.Tables.{Tables}
use Rattle.paths.specs.Best.{best, numbered}
use Rattle.paths.specs.Bids.{item_no, zone_of, price_of, takes, gives, dearer, cheaper, worth_at, own}
use Rattle.paths.specs.Keys.{Keyed, left}
use Rattle.paths.specs.Labels.{Along, Leads, NoBetter}
use Rattle.paths.specs.Ways.{worths, fars, outs, asks, givers}
use Rattle.paths.specs.declared.ways.Way.{Way}

pub record Bounded (t : Tables) : Type 0 where
  pub proper : Proper (market_given t)
  pub zones : t.zones < 2 ^ 32
  pub buys : items t.buys.now < 2 ^ 32
  pub sells : items t.sells.now < 2 ^ 32
  pub lines : items t.lines.now < 2 ^ 32
  pub buy_prices : (k : ℕ) → k < items t.buys.now → (bid (market_given t).buys k).price < 2 ^ 32
  pub sell_prices : (k : ℕ) → k < items t.sells.now → (bid (market_given t).sells k).price < 2 ^ 32
  pub capacities : (i : Item) → Among (market_given t) i → capacity (market_given t) i < 2 ^ 63

pub record Spaced (t : Tables) (bought sold flow : List ℕ) : Type 0 where
  pub buys : items t.buys.now ≤ length bought
  pub sells : items t.sells.now ≤ length sold
  pub lines : items t.lines.now ≤ length flow

pub record Sound (t : Tables) (o : Amounts) : Type 0 where
  pub tables : Bounded t
  pub spaced : Spaced t o.bought.now o.sold.now o.flow.now

pub record Noted
    (m : Market) (ok : ℕ → ℕ → Bool) (beats : ℕ → ℕ → Bool) (n : ℕ) (worths numbers : List ℕ) : Type 0 where
  pub worth : (z : ℕ) → z < m.zones → at worths z ≡ worth_at m (best n (ok z) beats)
  pub number : (z : ℕ) → z < m.zones → at numbers z ≡ numbered (best n (ok z) beats)

-- bid b has number n; it can take, and it can give, as the two tests say
pub record Looks (t : Tables) (o : Amounts) (n : ℕ) (b : Bid) (taking giving : Bool) : Type 0 where
  pub zone : zone_of (market_given t) (item_no (market_given t) n) ≡ b.zone
  pub price : b.price ≡ price_of (market_given t) (item_no (market_given t) n)
  pub within : b.zone < t.zones
  pub small : b.price < 2 ^ 32
  pub few : n < 2 ^ 34
  pub takes : taking ≡ takes (market_given t) (outcome_given o) b.zone n
  pub gives : giving ≡ gives (market_given t) (outcome_given o) b.zone n

abbrev pub Takers : Market → Outcome → ℕ → List ℕ → List ℕ → Type 0
Takers m o n worth out = Noted m (takes m o) (dearer m) n worth out

abbrev pub Givers : Market → Outcome → ℕ → List ℕ → List ℕ → Type 0
Givers m o n ask giver = Noted m (gives m o) (cheaper m) n ask giver

pub record Looked (t : Tables) (o : Amounts) (n : ℕ) (ways : List Way) : Type 0 where
  pub zones : length ways ≡ t.zones
  pub takers : Takers (market_given t) (outcome_given o) n (worths ways) (outs ways)
  pub givers : Givers (market_given t) (outcome_given o) n (asks ways) (givers ways)
  pub near : (v : ℕ) → at (fars ways) v ≡ 0

abbrev pub rises : List ℕ → List ℕ → ℕ → ℕ → Bool
rises worth far v w =
    nat_lt (at worth v) (at worth w)
    || (at worth v == at worth w && (nat_lt 0 (at worth w) && nat_lt (suc (at far w)) (at far v)))

pub record Reaching (m : Market) (o : Outcome) (top : ℕ) (worth far : List ℕ) : Type 0 where
  pub keyed : Keyed m.zones top worth far
  pub way : (v : ℕ) → v < m.zones → 0 < at worth v → Along m o (at far v) v (at worth v)
  pub none : (v : ℕ) → v < m.zones → at worth v ≡ 0 → at far v ≡ 0
  pub own : (v : ℕ) → v < m.zones → 0 < own m o v → NoBetter (own m o v) 0 (at worth v) (at far v)

abbrev pub RelaxedBy : Market → Outcome → List ℕ → List ℕ → Step → Type 0
RelaxedBy m o worth far s =
    (v w : ℕ) → Leads m o v w s → 0 < at worth w → NoBetter (at worth w) (suc (at far w)) (at worth v) (at far v)

abbrev pub Relaxed : Market → Outcome → List ℕ → List ℕ → ℕ → Type 0
Relaxed m o worth far l =
    RelaxedBy m o worth far (Forward (Line l)) × RelaxedBy m o worth far (Backward (Line l))

abbrev pub turned : Bool → ℕ → ℕ → ℕ
turned from_last n j = cond from_last (n - 1 - j) j

abbrev pub top : ℕ
top = 2 ^ 32

abbrev pub Settling : Tables → Amounts → List Way → Type 0
Settling t o ways = Reaching (market_given t) (outcome_given o) top (worths ways) (fars ways)

pub record KeepsBids (old new : List Way) : Type 0 where
  pub out : outs new ≡ outs old
  pub ask : asks new ≡ asks old
  pub giver : givers new ≡ givers old

pub record KeepsAllButOut (old new : List Way) : Type 0 where
  pub worth : worths new ≡ worths old
  pub far : fars new ≡ fars old
  pub ask : asks new ≡ asks old
  pub giver : givers new ≡ givers old

-- from ways to others by raising so many labels
pub record Raised (t : Tables) (o : Amounts) (ways : List Way) (rose : ℕ) (ways' : List Way) : Type 0 where
  pub settling : Settling t o ways'
  pub falls : rose + left t.zones top (worths ways') (fars ways') ≤ left t.zones top (worths ways) (fars ways)
  pub same : rose ≡ 0 → ways' ≡ ways
  pub bids : KeepsBids ways ways'
