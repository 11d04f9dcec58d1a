-- Prices at rest: no free step can raise one. Assumes nothing.
use Rattle.std.proofs.Common.{ℕ, ◌+◌, ◌<◌, ◌≤◌, List, [], ◌∷◌, ap, inl, inr, arith}
use Rattle.std.specs.List.{AllByRecursion}
use Rattle.std.proofs.lemmas.Bool.{cases_lt}
use Rattle.hour.specs.Market.{Market, Outcome, Proper, Feasible, Settled, at}
use Rattle.network.specs.Network.{Among, hub, capacity, carried, price, unit_cost, unit_value, ContentItem}
use Rattle.network.specs.Ways.{finish, Free, Links, way_cost, way_gain}
use Rattle.network.specs.Ways.{Resting, Reached}
use Rattle.network.specs.Promises.{AtRest}
use Rattle.hour.specs.declared.items.Item.{Item}
use Rattle.network.specs.declared.arcs.Step.{Step}
use Rattle.network.specs.declared.arcs.Step.TheVariants.{Forward, Backward}
use Rattle.network.proofs.Market.{price_zone, price_hub, within, unit_arc, limit_is}
use Rattle.network.proofs.Prices.{one_lowest}

-- Idea: an arc with room, or one that carries something, is not content where the step along it would raise a price.
pub resting : (m : Market) (o : Outcome) (ps : List ℕ) → Proper m → Settled m o ps → Resting m o ps
resting m o ps proper s (Forward i) f =
    let unit = unit_arc m ps proper i f.among in
    let content = s.content i f.among in
    elim (cases_lt (unit_cost m ps i) (unit_value m ps i))
    [ inl l ↦ omega (arith, content.whole l, f.room, limit_is m ps i) | inr le ↦ omega arith ]
resting m o ps proper s (Backward i) f =
    let unit = unit_arc m ps proper i f.among in
    let content = s.content i f.among in
    elim (cases_lt (unit_value m ps i) (unit_cost m ps i))
    [ inl l ↦ omega (arith, content.none l, f.room) | inr le ↦ omega arith ]

-- Idea: if an arc is not content, the step forward or the step backward along it is free, and would raise a price.
pub settled_at_rest :
    (m : Market) (o : Outcome) (ps : List ℕ) → Proper m → Feasible m o → Resting m o ps → Settled m o ps
settled_at_rest m o ps proper f rest = record { content = content }
  where
    content : (i : Item) → Among m i → ContentItem m o ps i
    content i h =
        let limit = within m o f i h in
        let unit = unit_arc m ps proper i h in
        record {
          whole = λ l. elim (cases_lt (carried o i) (capacity m i)) [
            | inl less ↦ omega (arith, rest (Forward i) (record { among = h; room = omega arith }))
            | inr full ↦ omega (arith, limit_is m ps i)
          ];
          none = λ l. elim (cases_lt 0 (carried o i)) [
            | inl some ↦ omega (arith, rest (Backward i) (record { among = h; room = some }))
            | inr none ↦ omega arith
          ];
        }

-- Idea: add up what the steps' ends and beginnings are worth; between the ends all cancel.
pub free_way_le :
    (m : Market) (o : Outcome) (ps : List ℕ) → Resting m o ps → (a : ℕ) (ss : List Step) (b : ℕ) → Links m a ss b →
    AllByRecursion (Free m o) ss → price m ps b + way_gain m ss ≤ price m ps a + way_cost m ss
free_way_le m o ps rest a [] b links free = omega (arith, ap (price m ps) links)
free_way_le m o ps rest a (s ∷ ss) b links free =
    omega (
      arith,
      free_way_le m o ps rest (finish m s) ss b links.1 free.1,
      rest s free.0,
      ap (price m ps) links.0,
    )

-- Idea: a way that is free is worth no more than what the prices say of its beginning, whatever prices settle.
below_reached :
    (m : Market) (o : Outcome) (ps qs : List ℕ) → Proper m → Settled m o qs → (z : ℕ) → z < m.zones →
    Reached m o ps z → at ps z ≤ at qs z
below_reached m o ps qs proper s z h (inl none) = omega arith
below_reached m o ps qs proper s z h (inr way) =
    omega (
      arith,
      free_way_le m o qs (resting m o qs proper s) z way.steps (hub m) way.links way.free,
      way.worth,
      price_zone m qs z h,
      price_hub m qs,
    )

pub at_rest : AtRest
at_rest m o ps proper f =
    record {
      settles = settled_at_rest m o ps proper f;
      rests = resting m o ps proper;
      below = λ reached qs s z h. below_reached m o ps qs proper s z h (reached z h);
      lowest = λ rest reached. (one_lowest m proper).any o ps f
          (record {
            settled = settled_at_rest m o ps proper f rest;
            below = λ qs s z h. below_reached m o ps qs proper s z h (reached z h);
          });
    }
