-- Which prices cannot be lower, and which can. Assumes nothing: these are definitions.
--
--   BuyHolds m o ps z k     buy k of zone z bids exactly the zone's price, and has room for more
--   SellHolds m o ps z k    sell k of zone z asks exactly the zone's price, and has sold something
--   LineOut m o ps z w l    line l leads from z to w, has room for more, and joins zones of one price
--   LineIn m o ps z w l     line l leads from w to z, carries something, and joins zones of one price
--   Held m o ps z           the price of z is held up: it is 0, or a bid holds it, or such a line joins z to a zone that is
--                           held up
--   LowerAt m o ps z        a list that settles the outcome o and is lower than ps in zone z
--   NowhereLower m ps z     no list that settles an outcome that can be carried out is lower than ps in zone z
--   FirstLower m o ps z     z is the first zone that could be lower
--
-- A zone that could be lower may be so only together with others.
use Rattle.std.specs.Prelude.{◌≡◌, ℕ, ◌<◌, ◌≤◌, List, length}
use Rattle.hour.specs.Market.{Market, Outcome, Feasible, Settled, at, bid, line}

pub record BuyHolds (m : Market) (o : Outcome) (ps : List ℕ) (z k : ℕ) : Type 0 where
  pub among : k < length m.buys
  pub zone : (bid m.buys k).zone ≡ z
  pub price : (bid m.buys k).price ≡ at ps z
  pub room : at o.bought k < (bid m.buys k).amount

pub record SellHolds (m : Market) (o : Outcome) (ps : List ℕ) (z k : ℕ) : Type 0 where
  pub among : k < length m.sells
  pub zone : (bid m.sells k).zone ≡ z
  pub price : (bid m.sells k).price ≡ at ps z
  pub some : 0 < at o.sold k

pub record LineOut (m : Market) (o : Outcome) (ps : List ℕ) (z w l : ℕ) : Type 0 where
  pub among : l < length m.lines
  pub from : (line m.lines l).from ≡ z
  pub to : (line m.lines l).to ≡ w
  pub price : at ps w ≡ at ps z
  pub room : at o.flow l < (line m.lines l).capacity

pub record LineIn (m : Market) (o : Outcome) (ps : List ℕ) (z w l : ℕ) : Type 0 where
  pub among : l < length m.lines
  pub from : (line m.lines l).from ≡ w
  pub to : (line m.lines l).to ≡ z
  pub price : at ps w ≡ at ps z
  pub some : 0 < at o.flow l

pub data Held (m : Market) (o : Outcome) (ps : List ℕ) : ℕ → Type 0 where
  at_none : {z : ℕ} → at ps z ≡ 0 → Held m o ps z
  by_buy : {z : ℕ} (k : ℕ) → BuyHolds m o ps z k → Held m o ps z
  by_sell : {z : ℕ} (k : ℕ) → SellHolds m o ps z k → Held m o ps z
  by_line_out : {z w : ℕ} (l : ℕ) → LineOut m o ps z w l → Held m o ps w → Held m o ps z
  by_line_in : {z w : ℕ} (l : ℕ) → LineIn m o ps z w l → Held m o ps w → Held m o ps z

pub record LowerAt (m : Market) (o : Outcome) (ps : List ℕ) (z : ℕ) : Type 0 where
  pub prices : List ℕ
  pub long : length prices ≡ m.zones
  pub settled : Settled m o prices
  pub lower : at prices z < at ps z

abbrev pub NowhereLower : Market → List ℕ → ℕ → Type 0
NowhereLower m ps z = (p : Outcome) (qs : List ℕ) → Feasible m p → Settled m p qs → at ps z ≤ at qs z

pub record FirstLower (m : Market) (o : Outcome) (ps : List ℕ) (z : ℕ) : Type 0 where
  pub among : z < m.zones
  pub could : LowerAt m o ps z
  pub before : (w : ℕ) → w < z → NowhereLower m ps w
