-- Ways through what an outcome leaves free, and pushes along them. Assumes nothing: these are definitions.
--
--   Step              forward along an item, from its tail to its head, or backward, from its head to its tail
--   item s            the item along which the step goes
--   start, finish     the nodes where a step begins and ends
--   step_cost         what a unit more costs along the step: backward, what the item gains is lost
--   step_gain         what a unit more gains along the step: backward, what the item costs is saved
--   room m o s        how much more can go along s: forward what the item leaves free, backward what it carries
--   Free m o s        s is a step along an item of m with room
--   Fits m o d s      s is a step along an item of m with room for d
--   Links m a ss b    the steps ss lead from the node a to the node b, each beginning where the last one ended
--   Once m ss         no node is left twice
--   way_cost          what a unit more costs along all steps; way_gain what it gains
--   put xs k x        xs with x in place k, filled up with 0 if it is too short
--   carry o i x       the outcome o in which the item i carries x
--   moved o s d       o with d more along the step s
--   pushed o ss d     o with d more along each of the steps
--   Resting m o ps    no free step can raise a price: what its end is worth, with the step's gain and cost, is no more
--                     than what its beginning is worth already
--   FreeWay m o a b v a free way from a to b whose gain less its cost is v
--   Reached m o ps z  the price of z is 0, or what a free way from z to the hub gains less what it costs
--
-- A way is a list of steps that links; it is closed if it ends where it begins.
use Rattle.std.specs.Prelude.{◌≡◌, ℕ, zero, suc, ◌+◌, ◌-◌, ◌<◌, ◌≤◌, ◌≢◌, ◌⊎◌, List, [], ◌∷◌}
use Rattle.std.specs.List.{AllByRecursion}
use Rattle.hour.specs.Market.{Market, Outcome, at}
use Rattle.network.specs.Network.{Among, hub, tail, head, capacity, cost, gain, carried, price}
use Rattle.hour.specs.declared.items.Item.{Item}
use Rattle.hour.specs.declared.items.Item.TheVariants.{Buy, Sell, Line}
use Rattle.network.specs.declared.arcs.Step.{Step}
use Rattle.network.specs.declared.arcs.Step.TheVariants.{Forward, Backward}

abbrev pub item : Step → Item
item (Forward i) = i
item (Backward i) = i

abbrev pub start : Market → Step → ℕ
start m (Forward i) = tail m i
start m (Backward i) = head m i

abbrev pub finish : Market → Step → ℕ
finish m (Forward i) = head m i
finish m (Backward i) = tail m i

abbrev pub step_cost : Market → Step → ℕ
step_cost m (Forward i) = cost m i
step_cost m (Backward i) = gain m i

abbrev pub step_gain : Market → Step → ℕ
step_gain m (Forward i) = gain m i
step_gain m (Backward i) = cost m i

abbrev pub room : Market → Outcome → Step → ℕ
room m o (Forward i) = capacity m i - carried o i
room m o (Backward i) = carried o i

pub record Free (m : Market) (o : Outcome) (s : Step) : Type 0 where
  pub among : Among m (item s)
  pub room : 0 < room m o s

pub record Fits (m : Market) (o : Outcome) (d : ℕ) (s : Step) : Type 0 where
  pub among : Among m (item s)
  pub fits : d ≤ room m o s

abbrev pub Links : Market → ℕ → List Step → ℕ → Type 0
Links m a [] b = a ≡ b
Links m a (s ∷ ss) b = (start m s ≡ a) × Links m (finish m s) ss b

abbrev pub Once : Market → List Step → Type 0
Once m [] = Unit {0}
Once m (s ∷ ss) = AllByRecursion (λ t. start m t ≢ start m s) ss × Once m ss

abbrev pub way_cost : Market → List Step → ℕ
way_cost m [] = 0
way_cost m (s ∷ ss) = step_cost m s + way_cost m ss

abbrev pub way_gain : Market → List Step → ℕ
way_gain m [] = 0
way_gain m (s ∷ ss) = step_gain m s + way_gain m ss

abbrev pub put : List ℕ → ℕ → ℕ → List ℕ
put [] zero x = x ∷ []
put [] (suc k) x = 0 ∷ put [] k x
put (y ∷ ys) zero x = x ∷ ys
put (y ∷ ys) (suc k) x = y ∷ put ys k x

abbrev pub carry : Outcome → Item → ℕ → Outcome
carry o (Buy k) x = record { bought = put o.bought k x; sold = o.sold; flow = o.flow }
carry o (Sell k) x = record { bought = o.bought; sold = put o.sold k x; flow = o.flow }
carry o (Line k) x = record { bought = o.bought; sold = o.sold; flow = put o.flow k x }

abbrev pub moved : Outcome → Step → ℕ → Outcome
moved o (Forward i) d = carry o i (carried o i + d)
moved o (Backward i) d = carry o i (carried o i - d)

abbrev pub pushed : Outcome → List Step → ℕ → Outcome
pushed o [] d = o
pushed o (s ∷ ss) d = pushed (moved o s d) ss d

abbrev pub Resting : Market → Outcome → List ℕ → Type 0
Resting m o ps =
    (s : Step) → Free m o s → price m ps (finish m s) + step_gain m s ≤ price m ps (start m s) + step_cost m s

pub record FreeWay (m : Market) (o : Outcome) (a b v : ℕ) : Type 0 where
  pub steps : List Step
  pub links : Links m a steps b
  pub free : AllByRecursion (Free m o) steps
  pub worth : v + way_cost m steps ≡ way_gain m steps

abbrev pub Reached : Market → Outcome → List ℕ → ℕ → Type 0
Reached m o ps z = (at ps z ≡ 0) ⊎ FreeWay m o z (hub m) (at ps z)
