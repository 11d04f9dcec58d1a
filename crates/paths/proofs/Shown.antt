-- What tables show: where no zone pays, the lowest prices; else a closed way that gains. Assumes nothing.
use Rattle.std.proofs.Common.{◌≡◌, ℕ, ◌+◌, ◌-◌, ◌<◌, ◌≤◌, false, ltb, List, [], ◌∷◌, Some, None, Option, refl, ap, ◌∙◌, inl, inr, arith}
use Rattle.std.specs.List.{AllByRecursion}
use Rattle.std.proofs.lemmas.List.{get_or-map}
use Rattle.std.proofs.lemmas.Bool.{cases_lt, and_cases, ltb-false}
use Rattle.hour.proofs.First.{when_none, first_none}
use Rattle.hour.specs.Market.{Market, Outcome, Proper, Plain, at}
use Rattle.network.specs.Network.{hub, price}
use Rattle.network.specs.Ways.{Free, Links, start, finish, step_cost, step_gain, Resting, Reached}
use Rattle.network.specs.declared.arcs.Step.{Step}
use Rattle.network.proofs.Market.{price_zone, price_hub}
use Rattle.network.proofs.Rest.{free_way_le, at_rest}
use Rattle.paths.specs.Plan.{Plan, Planned, pays, first_paying}
use Rattle.paths.specs.Promises.{Shortest, Shown, PlanShown, prices_of, LowestLabels}
use Rattle.paths.proofs.Best.{first_passing}
use Rattle.paths.proofs.Steps.{ToHub, FromHub, Across, free_kinds}
use Rattle.paths.proofs.WaysOut.{way_of, way_shown, pays_off}

module _ (m : Market) (o : Outcome) (t : Plan) (proper : Proper m) (plain : Plain m) (p : Planned m o t) where
  -- what the label of a zone says as a price
  label_price : (v : ℕ) → v < m.zones → at (prices_of t) v ≡ at t.worth v - 1
  label_price v below = get_or-map (λ c. c - 1) t.worth v 0 0 (omega (arith, p.worth_long))

  node_price : (v : ℕ) → v < m.zones → price m (prices_of t) v ≡ at t.worth v - 1
  node_price v below = price_zone m (prices_of t) v below ∙ label_price v below

  -- a step to the hub gains less than the label says; over a line no label rises
  to_hub_le : (s : Step) → ToHub m o s → step_gain m s < at t.worth (start m s)
  to_hub_le s hub = omega (arith, hub.most, (p.labels.own (start m s) hub.from (omega (arith, hub.most))).worth)

  across_le : (s : Step) → Across m o s → at t.worth (finish m s) ≤ at t.worth (start m s)
  across_le s over =
      elim (cases_lt 0 (at t.worth (finish m s))) [
        | inl some ↦
            (p.labels.over over.number (start m s) (finish m s) over.from over.to over.over some).worth
        | inr none ↦ omega arith
      ]

  -- Idea: from a zone whose label is 0, lines lead to such zones only, and none of these has a taker.
  nowhere :
      (v : ℕ) (ss : List Step) → v < m.zones → at t.worth v ≡ 0 → Links m v ss (hub m) → AllByRecursion (Free m o) ss → ⊥
  nowhere v [] below none links free = omega arith
  nowhere v (s ∷ ss) below none links free =
      let here : at t.worth (start m s) ≡ 0 = ap (at t.worth) links.0 ∙ none in
      elim (free_kinds m o proper plain s free.0) [
        | inl to ↦ omega (arith, to_hub_le s to)
        | inr (inl from) ↦ omega (arith, from.from, links.0)
        | inr (inr over) ↦
            nowhere (finish m s) ss over.to (omega (arith, across_le s over)) links.1 free.1
      ]

  module _ (unpaid : first_paying m t ≡ None) where
    no_zone_pays : (v : ℕ) → v < m.zones → 0 < at t.ask v → at t.worth v ≤ at t.ask v
    no_zone_pays v below asks =
        let off : pays t v ≡ false = when_none (pays t v) v (first_none _ m.zones unpaid v below) in
        elim (and_cases (ltb 0 (at t.ask v)) (ltb (at t.ask v) (at t.worth v)) off) [
          | inl none ↦ omega (arith, ltb-false 0 (at t.ask v) none)
          | inr less ↦ ltb-false (at t.ask v) (at t.worth v) less
        ]

    from_hub_le : (s : Step) → FromHub m o s → at t.worth (finish m s) ≤ step_cost m s + 1
    from_hub_le s from =
        let asks = p.ask (finish m s) from.to in
        omega (arith, no_zone_pays (finish m s) from.to (omega (arith, from.some)), from.least)

    -- Idea: a taker is worth at most the label, a giver asks at least that much, and lines pass labels on.
    pub labels_rest : Resting m o (prices_of t)
    labels_rest s free =
        elim (free_kinds m o proper plain s free) [
          | inl to ↦
              omega (
                arith,
                to_hub_le s to,
                node_price (start m s) to.from,
                ap (price m (prices_of t)) to.to ∙ price_hub m (prices_of t),
              )
          | inr (inl from) ↦
              omega (
                arith,
                from_hub_le s from,
                node_price (finish m s) from.to,
                ap (price m (prices_of t)) from.from ∙ price_hub m (prices_of t),
                from.gains,
              )
          | inr (inr over) ↦
              omega (
                arith,
                across_le s over,
                node_price (start m s) over.from,
                node_price (finish m s) over.to,
                over.costs,
                over.gains,
              )
        ]

    pub labels_reached : (v : ℕ) → v < m.zones → Reached m o (prices_of t) v
    labels_reached v below =
        elim (cases_lt 0 (at t.worth v)) [
          | inl some ↦
              let way = way_of m o t proper plain p (at t.far v) v below some refl in
              inr (record {
                steps = _;
                links = way.links;
                free = way.free;
                worth = omega (arith, way.costs, way.gains, label_price v below);
              })
          | inr none ↦ inl (omega (arith, label_price v below))
        ]

    -- Idea: prices at rest bound every free way; around a closed one they cancel.
    pub shortest : Shortest m o t
    shortest =
        record {
          no_gain = λ a ss links free. omega (arith, free_way_le m o (prices_of t) labels_rest a ss a links free);
          way = way_shown m o t proper plain p;
          best = λ v below ss links free.
              omega (
                arith,
                free_way_le m o (prices_of t) labels_rest v ss (hub m) links free,
                node_price v below,
                price_hub m (prices_of t),
              );
          nowhere = λ v below none ss links free. nowhere v ss below none links free;
        }

pub lowest_labels : LowestLabels
lowest_labels m o t proper plain feasible p unpaid =
    let rest = at_rest m o (prices_of t) proper feasible in
    let resting = labels_rest m o t proper plain p unpaid in
    let reached = labels_reached m o t proper plain p unpaid in
    (record { settled = rest.settles resting; below = rest.below reached }, rest.lowest resting reached)

pub plan_shown : PlanShown
plan_shown m o t proper plain feasible p = go (first_paying m t) refl
  where
    go : (r : Option ℕ) → first_paying m t ≡ r → Shown m o t r
    go None unpaid = shortest m o t proper plain p unpaid
    go (Some v) found =
        let paying = first_passing (pays t) m.zones v found in
        pays_off m o t proper plain p v paying.below paying.passes
