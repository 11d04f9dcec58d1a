-- What goes into a set of zones and what comes out of it. Assumes nothing: these are definitions.
--
--   inside m ws n     whether the node n is in the set of zones ws: a zone whose number in ws is not 0
--   enters, leaves    whether an item leads into the set from outside: a sell in it, or a line; and out of it: a buy or a line
--   entering m ws o   what is sold in the set and flows into it from outside
--   leaving m ws o    what is bought in the set and flows out of it
--   supply_in m ws    what the zones of the set are supplied with
--   CutEven m o ws    as much enters, with the supply, as leaves; and if nothing enters and the set has no supply, nothing leaves
--
-- A set of zones is a list with a number for each zone, 0 where the zone is outside. The hub is outside of every set, so a
-- sell in the set leads into it from outside, and a buy in the set leads out of it.
use Rattle.std.specs.Prelude.{◌≡◌, ℕ, ◌+◌, Bool, IsTrue, cond, not, ◌&&◌, List, nat_lt}
use Rattle.hour.specs.Market.{Market, Outcome, at}
use Rattle.hour.specs.Total.{total}
use Rattle.network.specs.Network.{Among, tail, head, carried, sum}
use Rattle.hour.specs.declared.items.Item.{Item}

abbrev pub inside : Market → List ℕ → ℕ → Bool
inside m ws n = nat_lt n m.zones && nat_lt 0 (at ws n)

abbrev pub enters : Market → List ℕ → Item → Bool
enters m ws i = inside m ws (head m i) && not (inside m ws (tail m i))

abbrev pub leaves : Market → List ℕ → Item → Bool
leaves m ws i = inside m ws (tail m i) && not (inside m ws (head m i))

abbrev pub entering : Market → List ℕ → Outcome → ℕ
entering m ws o = sum m (λ i. cond (enters m ws i) (carried o i) 0)

abbrev pub leaving : Market → List ℕ → Outcome → ℕ
leaving m ws o = sum m (λ i. cond (leaves m ws i) (carried o i) 0)

abbrev pub supply_in : Market → List ℕ → ℕ
supply_in m ws = total m.zones (λ z. cond (inside m ws z) (at m.supplies z) 0)

pub record CutEven (m : Market) (o : Outcome) (ws : List ℕ) : Type 0 where
  pub even : entering m ws o + supply_in m ws ≡ leaving m ws o
  pub shut :
      supply_in m ws ≡ 0 → ((i : Item) → Among m i → IsTrue (enters m ws i) → carried o i ≡ 0) → (i : Item) → Among m i →
      IsTrue (leaves m ws i) → carried o i ≡ 0
