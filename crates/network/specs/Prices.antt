-- What prices are said to do. Assumes nothing: these are definitions.
--
--   paid ps bs xs         the amounts xs of the bids bs at their zones' prices
--   sent, arrived         the flows at the prices where the lines begin, and where they end
--   supplied m ps         the supplies at their zones' prices
--   MoneyEven m o ps      buyers pay what sellers get, flows cost, lines earn and the supplies are worth; no line earns less than
--                         nothing
--   MoneyWithin m o ps    what buyers pay is at most what they bid, and at least what sellers get and what any line earns
--   surplus m ps          what all items could gain at most at the prices ps, each for itself: on the whole limit what a unit
--                         brings less what it costs, if that is above 0
--   Highest t x           on the terms t, no amount within the limit has a higher surplus than x
--   NoRegrets m o ps      nobody's surplus is higher at another amount
--   LowestOf m o ps       ps settles o, and no list that settles o is lower in any zone
--   Lowest m ps           ps settles a feasible outcome, and no list that settles a feasible one is lower in any zone
--   lower_of m ps qs      zone by zone the lower of the prices in ps and in qs; upper_of the higher of them
--   middle_of m ps qs     zone by zone half the sum of the two prices, rounded down
--   PricesTo m c          no bid has a price above c
--
-- A surplus is what an amount brings less what it costs; the orders below have the cost on the other side.
use Rattle.std.specs.Prelude.{◌≡◌, ℕ, ◌+◌, ◌-◌, ◌*◌, ◌/◌, ◌<◌, ◌≤◌, min, max, List, length}
use Rattle.hour.specs.Listed.{listed}
use Rattle.hour.specs.Total.{total}
use Rattle.hour.specs.declared.items.Bid.{Bid}
use Rattle.hour.specs.declared.items.Item.{Item}
use Rattle.hour.specs.declared.items.Line.{Line}
use Rattle.hour.specs.declared.items.Terms.{Terms}
use Rattle.hour.specs.Market.{Market, Outcome, Feasible, Settled, Among, carried, terms, at, bid, line, worth, flow_cost}
use Rattle.network.specs.Network.{sum}

abbrev pub paid : List ℕ → List Bid → List ℕ → ℕ
paid ps bs xs = total (length bs) (λ k. at ps (bid bs k).zone * at xs k)

abbrev pub sent : List ℕ → List Line → List ℕ → ℕ
sent ps ls fs = total (length ls) (λ k. at ps (line ls k).from * at fs k)

abbrev pub supplied : Market → List ℕ → ℕ
supplied m ps = total m.zones (λ z. at ps z * at m.supplies z)

abbrev pub arrived : List ℕ → List Line → List ℕ → ℕ
arrived ps ls fs = total (length ls) (λ k. at ps (line ls k).to * at fs k)

-- What a line earns is its flow at the price where it ends less its flow at the price where it begins and what the flow costs.
pub record MoneyEven (m : Market) (o : Outcome) (ps : List ℕ) : Type 0 where
  pub even :
      paid ps m.buys o.bought + (sent ps m.lines o.flow + flow_cost m.lines o.flow)
      ≡ paid ps m.sells o.sold + flow_cost m.lines o.flow + arrived ps m.lines o.flow + supplied m ps
  pub lines :
      (k : ℕ) → k < length m.lines →
      at ps (line m.lines k).from * at o.flow k + (line m.lines k).cost * at o.flow k
      ≤ at ps (line m.lines k).to * at o.flow k

-- What a line sends and what its flow costs stands on the other side.
pub record MoneyWithin (m : Market) (o : Outcome) (ps : List ℕ) : Type 0 where
  pub buys : paid ps m.buys o.bought ≤ worth m.buys o.bought
  pub sells : paid ps m.sells o.sold ≤ paid ps m.buys o.bought
  pub lines :
      (k : ℕ) → k < length m.lines →
      at ps (line m.lines k).to * at o.flow k
      ≤ at ps (line m.lines k).from * at o.flow k + (line m.lines k).cost * at o.flow k + paid ps m.buys o.bought

abbrev pub surplus : Market → List ℕ → ℕ
surplus m ps = sum m (λ i. ((terms m ps i).value - (terms m ps i).cost) * (terms m ps i).limit)

abbrev pub Highest : Terms → ℕ → Type 0
Highest t x = (y : ℕ) → y ≤ t.limit → t.value * y + t.cost * x ≤ t.value * x + t.cost * y

pub record NoRegrets (m : Market) (o : Outcome) (ps : List ℕ) : Type 0 where
  pub highest : (i : Item) → Among m i → Highest (terms m ps i) (carried o i)

pub record LowestOf (m : Market) (o : Outcome) (ps : List ℕ) : Type 0 where
  pub settled : Settled m o ps
  pub below : (qs : List ℕ) → Settled m o qs → (z : ℕ) → z < m.zones → at ps z ≤ at qs z

pub record Lowest (m : Market) (ps : List ℕ) : Type 0 where
  pub outcome : Outcome
  pub feasible : Feasible m outcome
  pub settled : Settled m outcome ps
  pub below : (o : Outcome) (qs : List ℕ) → Feasible m o → Settled m o qs → (z : ℕ) → z < m.zones → at ps z ≤ at qs z

abbrev pub lower_of : Market → List ℕ → List ℕ → List ℕ
lower_of m ps qs = listed m.zones (λ z. min (at ps z) (at qs z))

abbrev pub upper_of : Market → List ℕ → List ℕ → List ℕ
upper_of m ps qs = listed m.zones (λ z. max (at ps z) (at qs z))

abbrev pub middle_of : Market → List ℕ → List ℕ → List ℕ
middle_of m ps qs = listed m.zones (λ z. (at ps z + at qs z) / 2)

pub record PricesTo (m : Market) (c : ℕ) : Type 0 where
  pub buys : (k : ℕ) → k < length m.buys → (bid m.buys k).price ≤ c
  pub sells : (k : ℕ) → k < length m.sells → (bid m.sells k).price ≤ c
