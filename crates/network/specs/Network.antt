-- A market as a network: each bid and each line is an arc between two nodes. Assumes nothing: these are definitions.
--
--   nth b s k         item k of all: b buys first, then s sells, then lines
--   hub m             a node beside the zones: every sell comes from it, every buy goes to it
--   tail, head        the nodes where an arc begins and ends: a buy goes from its zone to the hub, a sell from the
--                     hub to its zone, a line from zone to zone
--   capacity          how much an arc carries at most
--   cost, gain        what a unit costs and brings on its own: a sell costs its price, a line its cost, a buy brings its price
--   sum m f           f over all items of m
--   weighed m w o     what o carries, item by item, times the item's weight
--   tag v z           1 where v and z are the same node, else 0
--   inflow, outflow   what o carries into a node, and out of it
--   gained, spent     what o gains and what it costs
--   price m ps n      a node's price: that of its zone, and 0 for the hub
--   unit_cost         what a unit of an item costs at the prices ps, by its terms; unit_value what it brings
--   ContentItem       what Settled says of the item
--
-- A supply is no item: nothing chooses it. It is there besides what flows in.
use Rattle.std.specs.Prelude.{ℕ, ◌+◌, ◌-◌, ◌*◌, cond, List, length, ◌==◌, nat_lt}
use Rattle.hour.specs.Total.{total}
use Rattle.hour.specs.Market.{Market, Outcome, Content, at, bid, line, terms}
pub use Rattle.hour.specs.Market.{Among, carried}
use Rattle.hour.specs.declared.items.Item.{Item}
use Rattle.hour.specs.declared.items.Item.TheVariants.{Buy, Sell, Line}

abbrev pub nth : ℕ → ℕ → ℕ → Item
nth b s k = cond (nat_lt k b) (Buy k) (cond (nat_lt (k - b) s) (Sell (k - b)) (Line (k - b - s)))

abbrev pub hub : Market → ℕ
hub m = m.zones

abbrev pub tail : Market → Item → ℕ
tail m (Buy k) = (bid m.buys k).zone
tail m (Sell k) = hub m
tail m (Line k) = (line m.lines k).from

abbrev pub head : Market → Item → ℕ
head m (Buy k) = hub m
head m (Sell k) = (bid m.sells k).zone
head m (Line k) = (line m.lines k).to

abbrev pub capacity : Market → Item → ℕ
capacity m (Buy k) = (bid m.buys k).amount
capacity m (Sell k) = (bid m.sells k).amount
capacity m (Line k) = (line m.lines k).capacity

abbrev pub cost : Market → Item → ℕ
cost m (Buy k) = 0
cost m (Sell k) = (bid m.sells k).price
cost m (Line k) = (line m.lines k).cost

abbrev pub gain : Market → Item → ℕ
gain m (Buy k) = (bid m.buys k).price
gain m (Sell k) = 0
gain m (Line k) = 0

abbrev pub sum : Market → (Item → ℕ) → ℕ
sum m f =
    total (length m.buys) (λ k. f (Buy k))
    + total (length m.sells) (λ k. f (Sell k))
    + total (length m.lines) (λ k. f (Line k))

abbrev pub weighed : Market → (Item → ℕ) → Outcome → ℕ
weighed m w o = sum m (λ i. w i * carried o i)

abbrev pub tag : ℕ → ℕ → ℕ
tag v z = cond (v == z) 1 0

abbrev pub inflow : Market → Outcome → ℕ → ℕ
inflow m o z = weighed m (λ i. tag (head m i) z) o

abbrev pub outflow : Market → Outcome → ℕ → ℕ
outflow m o z = weighed m (λ i. tag (tail m i) z) o

abbrev pub gained : Market → Outcome → ℕ
gained m o = weighed m (gain m) o

abbrev pub spent : Market → Outcome → ℕ
spent m o = weighed m (cost m) o

abbrev pub price : Market → List ℕ → ℕ → ℕ
price m ps n = cond (nat_lt n m.zones) (at ps n) 0

abbrev pub unit_cost : Market → List ℕ → Item → ℕ
unit_cost m ps i = (terms m ps i).cost

abbrev pub unit_value : Market → List ℕ → Item → ℕ
unit_value m ps i = (terms m ps i).value

abbrev pub ContentItem : Market → Outcome → List ℕ → Item → Type 0
ContentItem m o ps i = Content (terms m ps i) (carried o i)
