-- The market's definitions, said of its arcs. Assumes nothing.
use Rattle.std.proofs.Common.{◌≡◌, ℕ, ◌+◌, ◌*◌, ◌<◌, ◌≤◌, eqb, ◌≢◌, List, length, refl, ◌∙◌, zero-mul, arith, le-ltb, lt-ltb, ne_eqb}
use Rattle.hour.specs.Total.{total, tagged}
use Rattle.hour.specs.Market.{Market, Outcome, Proper, Feasible, at, bid, line, worth, costs, terms}
use Rattle.hour.specs.Market.{in_zone, into, out_of}
use Rattle.hour.proofs.Total.{total_same, total_none}
use Rattle.network.specs.Network.{Among, hub, tail, head, capacity, cost, gain, carried, tag, price}
use Rattle.network.specs.Network.{inflow, outflow, gained, spent, unit_cost, unit_value}
use Rattle.hour.specs.declared.items.Item.{Item}
use Rattle.hour.specs.declared.items.Item.TheVariants.{Buy, Sell, Line}
use Rattle.network.proofs.Weighed.{cond_mul}

-- the prices of nodes
pub price_zone : (m : Market) (ps : List ℕ) (z : ℕ) → z < m.zones → price m ps z ≡ at ps z
price_zone m ps z h = rw (lt-ltb z m.zones h)

pub price_hub : (m : Market) (ps : List ℕ) → price m ps (hub m) ≡ 0
price_hub m ps = rw (le-ltb m.zones m.zones (omega arith))

-- the nodes of arcs
pub tail_below : (m : Market) → Proper m → (i : Item) → Among m i → tail m i < hub m + 1
tail_below m p (Buy k) h = omega (arith, p.buys k h)
tail_below m p (Sell k) h = omega arith
tail_below m p (Line k) h = omega (arith, p.from k h)

pub head_below : (m : Market) → Proper m → (i : Item) → Among m i → head m i < hub m + 1
head_below m p (Buy k) h = omega arith
head_below m p (Sell k) h = omega (arith, p.sells k h)
head_below m p (Line k) h = omega (arith, p.to k h)

-- sums over sorts that do not count
nothing : (n : ℕ) (x : ℕ → ℕ) → total n (λ k. 0 * x k) ≡ 0
nothing n x = total_same n _ _ (λ k h. zero-mul (x k)) ∙ total_none n

elsewhere : (n v z : ℕ) (x : ℕ → ℕ) → v ≢ z → total n (λ k. tag v z * x k) ≡ 0
elsewhere n v z x ne =
    let off : (k : ℕ) → k < n → tag v z * x k ≡ 0 = λ k h. rw (ne_eqb v z ne) (zero-mul (x k)) in
    total_same n _ _ off ∙ total_none n

tagged_weighed : (n : ℕ) (key : ℕ → ℕ) (z : ℕ) (x : ℕ → ℕ) → total n (λ k. tag (key k) z * x k) ≡ tagged n key z x
tagged_weighed n key z x = total_same n _ _ (λ k h. cond_mul (eqb (key k) z) (x k))

-- limits and contentment, arc by arc
pub within : (m : Market) (o : Outcome) → Feasible m o → (i : Item) → Among m i → carried o i ≤ capacity m i
within m o f (Buy k) h = f.buys k h
within m o f (Sell k) h = f.sells k h
within m o f (Line k) h = f.lines k h

-- the limit in an item's terms is what its arc carries at most
pub limit_is : (m : Market) (ps : List ℕ) (i : Item) → (terms m ps i).limit ≡ capacity m i
limit_is m ps (Buy k) = refl
limit_is m ps (Sell k) = refl
limit_is m ps (Line k) = refl

pub within_terms :
    (m : Market) (o : Outcome) (ps : List ℕ) → Feasible m o → (i : Item) → Among m i → carried o i ≤ (terms m ps i).limit
within_terms m o ps f i h = omega (arith, within m o f i h, limit_is m ps i)

-- what a unit costs and brings is what it does on its own, and the prices where its arc begins and ends
pub unit_arc :
    (m : Market) (ps : List ℕ) → Proper m → (i : Item) → Among m i →
    (unit_cost m ps i ≡ cost m i + price m ps (tail m i)) × (unit_value m ps i ≡ gain m i + price m ps (head m i))
unit_arc m ps p (Buy k) h = omega (arith, price_zone m ps (tail m (Buy k)) (p.buys k h), price_hub m ps)
unit_arc m ps p (Sell k) h = omega (arith, price_zone m ps (head m (Sell k)) (p.sells k h), price_hub m ps)
unit_arc m ps p (Line k) h =
    omega
    (arith, price_zone m ps (tail m (Line k)) (p.from k h), price_zone m ps (head m (Line k)) (p.to k h))

-- what an outcome is worth is what its arcs gain less what they cost
pub worth_gained : (m : Market) (o : Outcome) → worth m.buys o.bought ≡ gained m o
worth_gained m o =
    omega (arith, nothing (length m.sells) (at o.sold), nothing (length m.lines) (at o.flow))

pub costs_spent : (m : Market) (o : Outcome) → costs m o ≡ spent m o
costs_spent m o = omega (arith, nothing (length m.buys) (at o.bought))

-- the two sides of a zone's balance
pub inflow_zone :
    (m : Market) (o : Outcome) (z : ℕ) → z < m.zones →
    inflow m o z ≡ in_zone z m.sells o.sold + into z m.lines o.flow
inflow_zone m o z h =
    omega (
      arith,
      elsewhere (length m.buys) (hub m) z (at o.bought) (omega arith),
      tagged_weighed (length m.sells) (λ k. (bid m.sells k).zone) z (at o.sold),
      tagged_weighed (length m.lines) (λ k. (line m.lines k).to) z (at o.flow),
    )

pub outflow_zone :
    (m : Market) (o : Outcome) (z : ℕ) → z < m.zones →
    outflow m o z ≡ in_zone z m.buys o.bought + out_of z m.lines o.flow
outflow_zone m o z h =
    omega (
      arith,
      elsewhere (length m.sells) (hub m) z (at o.sold) (omega arith),
      tagged_weighed (length m.buys) (λ k. (bid m.buys k).zone) z (at o.bought),
      tagged_weighed (length m.lines) (λ k. (line m.lines k).from) z (at o.flow),
    )

pub balanced_arcs :
    (m : Market) (o : Outcome) → Feasible m o → (z : ℕ) → z < m.zones → inflow m o z + at m.supplies z ≡ outflow m o z
balanced_arcs m o f z h = omega (arith, inflow_zone m o z h, f.balance z h, outflow_zone m o z h)

pub feasible_by_arcs :
    (m : Market) (o : Outcome) → ((i : Item) → Among m i → carried o i ≤ capacity m i) →
    ((z : ℕ) → z < m.zones → inflow m o z + at m.supplies z ≡ outflow m o z) → Feasible m o
feasible_by_arcs m o limits balance =
    record {
      buys = λ k. limits (Buy k);
      sells = λ k. limits (Sell k);
      lines = λ k. limits (Line k);
      balance = λ z h. omega (arith, inflow_zone m o z h, balance z h, outflow_zone m o z h);
    }
