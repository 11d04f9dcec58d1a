-- What a search promises of its tables. Assumes nothing.
--
--   WayShown m o t v c the way from zone v that the tables show leads to the hub through what is left free, and is worth c
--   Shortest m o t     no closed way costs less than it gains; each zone's way is shown with what it is worth, and no free way
--                      from the zone to the hub is worth more; where none is shown, none leads there
--   PaysOff m o t v    the closed way through zone v that the tables show is free, leaves no node twice, and gains more than
--                      it costs
--   Shown m o t r      the one where no zone pays, the other for the zone that does
--   OnePlan            the tables are fixed by the market and the outcome
--   SomePlan           every outcome has such tables
--   PlanShown          in a plain market, tables that a search leaves show the one or the other
--   RingsEven          in a plain market, no closed way that avoids the hub gains or costs anything
--   prices_of t        what the labels say as prices
--   LowestLabels       in a plain market, where no zone pays, the labels are the lowest prices, 0 where no way leads to the hub
use Rattle.std.specs.Prelude.{◌≡◌, ℕ, ◌+◌, ◌-◌, ◌<◌, ◌≤◌, ◌≢◌, List, map, Some, None, Option}
use Rattle.std.specs.List.{AllByRecursion}
use Rattle.hour.specs.Market.{Market, Outcome, Proper, Plain, Feasible, at}
use Rattle.network.specs.Network.{hub}
use Rattle.network.specs.Prices.{LowestOf, Lowest}
use Rattle.network.specs.Ways.{start, Free, Links, Once, way_cost, way_gain}
use Rattle.network.specs.declared.arcs.Step.{Step}
use Rattle.paths.specs.Plan.{Plan, Planned, closed_way, way_out, first_paying}

pub record WayShown (m : Market) (o : Outcome) (t : Plan) (v c : ℕ) : Type 0 where
  pub links : Links m v (way_out m t (at t.far v) v) (hub m)
  pub free : AllByRecursion (Free m o) (way_out m t (at t.far v) v)
  pub worth : c + way_cost m (way_out m t (at t.far v) v) ≡ way_gain m (way_out m t (at t.far v) v)

pub record Shortest (m : Market) (o : Outcome) (t : Plan) : Type 0 where
  pub no_gain : (a : ℕ) (ss : List Step) → Links m a ss a → AllByRecursion (Free m o) ss → way_gain m ss ≤ way_cost m ss
  pub way : (v : ℕ) → v < m.zones → 0 < at t.worth v → WayShown m o t v (at t.worth v - 1)
  pub best :
      (v : ℕ) → v < m.zones → (ss : List Step) → Links m v ss (hub m) → AllByRecursion (Free m o) ss →
      way_gain m ss ≤ at t.worth v - 1 + way_cost m ss
  pub nowhere :
      (v : ℕ) → v < m.zones → at t.worth v ≡ 0 → (ss : List Step) → Links m v ss (hub m) → AllByRecursion (Free m o) ss → ⊥

pub record PaysOff (m : Market) (o : Outcome) (t : Plan) (v : ℕ) : Type 0 where
  pub zone : v < m.zones
  pub links : Links m (hub m) (closed_way m t v) (hub m)
  pub free : AllByRecursion (Free m o) (closed_way m t v)
  pub once : Once m (closed_way m t v)
  pub gains : way_cost m (closed_way m t v) < way_gain m (closed_way m t v)

abbrev pub Shown : Market → Outcome → Plan → Option ℕ → Type 0
Shown m o t None = Shortest m o t
Shown m o t (Some v) = PaysOff m o t v

abbrev pub OnePlan : Type 0
OnePlan = (m : Market) (o : Outcome) (s t : Plan) → Proper m → Planned m o s → Planned m o t → s ≡ t

abbrev pub SomePlan : Type 0
SomePlan = (m : Market) (o : Outcome) → Proper m → (t : Plan) × Planned m o t

abbrev pub PlanShown : Type 0
PlanShown =
    (m : Market) (o : Outcome) (t : Plan) → Proper m → Plain m → Feasible m o → Planned m o t → Shown m o t (first_paying m t)

abbrev pub RingsEven : Type 0
RingsEven =
    (m : Market) (a : ℕ) (ss : List Step) → Plain m → Links m a ss a → AllByRecursion (λ s. start m s ≢ hub m) ss →
    (way_gain m ss ≡ 0) × (way_cost m ss ≡ 0)

abbrev pub prices_of : Plan → List ℕ
prices_of t = map (λ c. c - 1) t.worth

abbrev pub LowestLabels : Type 0
LowestLabels =
    (m : Market) (o : Outcome) (t : Plan) → Proper m → Plain m → Feasible m o → Planned m o t → first_paying m t ≡ None →
    LowestOf m o (prices_of t) × Lowest m (prices_of t)
