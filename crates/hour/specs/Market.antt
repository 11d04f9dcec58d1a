-- A market of zones joined by lines, in whole units and whole cents. Assumes nothing: these are definitions.
--
--   Market           the zones (numbered from 0), the bids to buy, the bids to sell, the lines, and the supplies: what each zone
--                    has to begin with, which is given and not chosen
--   count_of m s     how many buys, sells or lines it has
--   Outcome          an amount for every bid and a flow for every line; a number that a list lacks is 0
--   at xs k          the number at place k of a list, 0 behind its end
--   bid, line        the bid, the line at a place of a list; behind its end no_bid, no_line, which are all 0
--   Proper m         every zone that is named is a zone
--   in_zone z bs xs  the amounts xs of those bids that lie in zone z, together
--   into z ls fs     what flows into zone z over the lines ls; out_of z ls fs what flows out of it
--   Balanced m o z   what is sold in zone z, flows in and is supplied there equals what is bought there and flows out
--   Feasible m o     o can be carried out: limits kept, every zone in balance
--   Among m i        i is an item of m
--   carried o i      how much of the item i the outcome o has
--   Terms            an item at the zones' prices: its limit, and what a unit costs it and brings it; terms m ps i those of i
--   Content t x      on the terms t, x is the whole limit if a unit brings more than it costs, and nothing if it brings less
--   Settled m o ps   at the zones' prices ps nobody would rather have another amount
--   worth bs xs      price times amount over the bids bs
--   flow_cost ls fs  cost times flow over the lines ls
--   costs m o        what is sold in o is worth, and what its flows cost; what o is worth is what is bought less these costs
--   Plain m          no line costs anything and no zone has a supply
--
-- A line may join a zone with itself, and two lines may join the same zones.
use Rattle.std.specs.Prelude.{◌≡◌, ℕ, ◌+◌, ◌*◌, ◌<◌, ◌≤◌, List, [], length, slice_index, slice_index_or}
use Rattle.hour.specs.Total.{total, tagged}
use Rattle.hour.specs.declared.items.Bid.{Bid}
use Rattle.hour.specs.declared.items.Item.{Item}
use Rattle.hour.specs.declared.items.Item.TheVariants as items
use Rattle.hour.specs.declared.items.Line.{Line}
use Rattle.hour.specs.declared.items.Terms.{Terms}
use Rattle.hour.specs.declared.refusals.Sort.{Sort}
use Rattle.hour.specs.declared.refusals.Sort.TheVariants as sorts

pub record Market : Type 0 where
  pub zones : ℕ
  pub buys : List Bid
  pub sells : List Bid
  pub lines : List Line
  pub supplies : List ℕ

abbrev pub count_of : Market → Sort → ℕ
count_of m sorts.Buy = length m.buys
count_of m sorts.Sell = length m.sells
count_of m sorts.Line = length m.lines

pub record Outcome : Type 0 where
  pub bought : List ℕ
  pub sold : List ℕ
  pub flow : List ℕ

abbrev pub at : List ℕ → ℕ → ℕ
at xs k = slice_index xs k

abbrev pub no_bid : Bid
no_bid = record { zone = 0; price = 0; amount = 0 }

abbrev pub no_line : Line
no_line = record { from = 0; to = 0; capacity = 0; cost = 0 }

abbrev pub bid : List Bid → ℕ → Bid
bid bs k = slice_index_or bs k no_bid

abbrev pub line : List Line → ℕ → Line
line ls k = slice_index_or ls k no_line

pub record Proper (m : Market) : Type 0 where
  pub buys : (k : ℕ) → k < length m.buys → (bid m.buys k).zone < m.zones
  pub sells : (k : ℕ) → k < length m.sells → (bid m.sells k).zone < m.zones
  pub from : (k : ℕ) → k < length m.lines → (line m.lines k).from < m.zones
  pub to : (k : ℕ) → k < length m.lines → (line m.lines k).to < m.zones

abbrev pub in_zone : ℕ → List Bid → List ℕ → ℕ
in_zone z bs xs = tagged (length bs) (λ k. (bid bs k).zone) z (at xs)

abbrev pub into : ℕ → List Line → List ℕ → ℕ
into z ls fs = tagged (length ls) (λ k. (line ls k).to) z (at fs)

abbrev pub out_of : ℕ → List Line → List ℕ → ℕ
out_of z ls fs = tagged (length ls) (λ k. (line ls k).from) z (at fs)

abbrev pub Balanced : Market → Outcome → ℕ → Type 0
Balanced m o z =
    in_zone z m.sells o.sold + into z m.lines o.flow + at m.supplies z
    ≡ in_zone z m.buys o.bought + out_of z m.lines o.flow

pub record Feasible (m : Market) (o : Outcome) : Type 0 where
  pub buys : (k : ℕ) → k < length m.buys → at o.bought k ≤ (bid m.buys k).amount
  pub sells : (k : ℕ) → k < length m.sells → at o.sold k ≤ (bid m.sells k).amount
  pub lines : (k : ℕ) → k < length m.lines → at o.flow k ≤ (line m.lines k).capacity
  pub balance : (z : ℕ) → z < m.zones → Balanced m o z

abbrev pub Among : Market → Item → Type 0
Among m (items.Buy k) = k < length m.buys
Among m (items.Sell k) = k < length m.sells
Among m (items.Line k) = k < length m.lines

abbrev pub carried : Outcome → Item → ℕ
carried o (items.Buy k) = at o.bought k
carried o (items.Sell k) = at o.sold k
carried o (items.Line k) = at o.flow k

-- A unit costs a buyer the zone's price and brings the bid's; it costs a seller the bid's price and brings the zone's;
-- it costs a line its own cost and the price where it begins, and brings the price where it ends.
abbrev pub terms : Market → List ℕ → Item → Terms
terms m ps (items.Buy k) =
    record { limit = (bid m.buys k).amount; cost = at ps (bid m.buys k).zone; value = (bid m.buys k).price }
terms m ps (items.Sell k) =
    record { limit = (bid m.sells k).amount; cost = (bid m.sells k).price; value = at ps (bid m.sells k).zone }
terms m ps (items.Line k) =
    record {
      limit = (line m.lines k).capacity;
      cost = at ps (line m.lines k).from + (line m.lines k).cost;
      value = at ps (line m.lines k).to;
    }

-- where a unit brings what it costs, any amount within the limit will do
pub record Content (t : Terms) (x : ℕ) : Type 0 where
  pub whole : t.cost < t.value → x ≡ t.limit
  pub none : t.value < t.cost → x ≡ 0

pub record Settled (m : Market) (o : Outcome) (ps : List ℕ) : Type 0 where
  pub content : (i : Item) → Among m i → Content (terms m ps i) (carried o i)

-- what amounts are worth by their bids' own prices
abbrev pub worth : List Bid → List ℕ → ℕ
worth bs xs = total (length bs) (λ k. (bid bs k).price * at xs k)

abbrev pub flow_cost : List Line → List ℕ → ℕ
flow_cost ls fs = total (length ls) (λ k. (line ls k).cost * at fs k)

abbrev pub costs : Market → Outcome → ℕ
costs m o = worth m.sells o.sold + flow_cost m.lines o.flow

pub record Plain (m : Market) : Type 0 where
  pub costless : (k : ℕ) → k < length m.lines → (line m.lines k).cost ≡ 0
  pub unsupplied : m.supplies ≡ []
