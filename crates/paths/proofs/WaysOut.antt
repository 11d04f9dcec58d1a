-- The ways that tables show: from each zone to the hub, and closed through a zone that pays. Assumes nothing.
--
--   WayOf m o t k v     the way of k lines that t shows from zone v: it leads to the hub through what is free, costs
--                       nothing, gains what the label says, and leaves zones only, each nearer the hub than the last
use Rattle.std.proofs.Common.{◌≡◌, ℕ, zero, suc, ◌+◌, ◌-◌, ◌<◌, ◌≤◌, true, eqb, ◌≢◌, List, ◌∷◌, length, refl, ap, ◌∙◌, subst, arith}
use mathlib.Core.Path.{subst⁻¹}
use Rattle.std.specs.List.{AllByRecursion}
use Rattle.std.proofs.ByRecursion.{All-weaker}
use Rattle.std.proofs.lemmas.Bool.{and_parts, ltb-true, cond-true, cond-false, cond_both, eq-eqb, ne_eqb}
use Rattle.hour.specs.Market.{Market, Outcome, Proper, Plain, at, line}
use Rattle.network.specs.Network.{hub}
use Rattle.network.specs.Ways.{Free, Links, Once, start, finish, step_cost, step_gain, way_cost, way_gain}
use Rattle.hour.specs.declared.items.Item.{Item}
use Rattle.hour.specs.declared.items.Item.TheVariants.{Buy, Sell, Line}
use Rattle.network.specs.declared.arcs.Step.{Step}
use Rattle.network.specs.declared.arcs.Step.TheVariants.{Forward, Backward}
use Rattle.network.proofs.Plain.{line_cost}
use Rattle.paths.specs.Best.{numbered}
use Rattle.paths.specs.Bids.{bids, item_no, taking, giving, taker, giver, own}
use Rattle.paths.specs.Labels.{Along}
use Rattle.paths.specs.Plan.{Plan, Planned, pays, onward, line_no, step_out, out_step, way_out}
use Rattle.paths.specs.Promises.{WayShown, PaysOff}
use Rattle.paths.proofs.Best.{first_passing, first_passes}
use Rattle.paths.proofs.Bids.{IsBid, Goes, bid_numbered, taking_goes, giving_goes, taker_found, giver_found}
use Rattle.paths.proofs.Bids.{worth_some}
use Rattle.paths.proofs.Bids as items
use Rattle.paths.proofs.Labels.{onward_some, onward_out}

-- out of a zone along a bid is to the hub
step_out_bid : (m : Market) (v : ℕ) (i : Item) → IsBid i → step_out m v i ≡ taking i
step_out_bid m v (Buy k) is = refl
step_out_bid m v (Sell k) is = refl
step_out_bid m v (Line k) is = absurd is

-- out of a zone along a line is to a zone, and neither costs nor gains
record LineOut (m : Market) (s : Step) : Type 0 where
  zone : finish m s < m.zones
  costs : step_cost m s ≡ 0
  gains : step_gain m s ≡ 0

step_out_line : (m : Market) (v l : ℕ) → Proper m → Plain m → l < length m.lines → LineOut m (step_out m v (Line l))
step_out_line m v l proper plain number =
    cond_both (eqb (line m.lines l).from v) (Forward (Line l)) (Backward (Line l)) (LineOut m)
    (λ e. record { zone = proper.to l number; costs = line_cost m plain l; gains = refl })
    (λ e. record { zone = proper.from l number; costs = refl; gains = line_cost m plain l })

-- a closed way through the hub that gains more than it costs
record Gaining (m : Market) (o : Outcome) (ss : List Step) : Type 0 where
  links : Links m (hub m) ss (hub m)
  free : AllByRecursion (Free m o) ss
  once : Once m ss
  gains : way_cost m ss < way_gain m ss

-- the last step of a way, and a step before it
pub record Last (m : Market) (o : Outcome) (t : Plan) (v : ℕ) (s : Step) : Type 0 where
  pub free : Free m o s
  pub goes : Goes m s v (hub m) 0 (at t.worth v - 1)

pub record Next (m : Market) (o : Outcome) (t : Plan) (v : ℕ) (s : Step) : Type 0 where
  pub free : Free m o s
  pub goes : Goes m s v (finish m s) 0 0
  pub zone : finish m s < m.zones
  pub as_much : at t.worth (finish m s) ≡ at t.worth v
  pub one_less : suc (at t.far (finish m s)) ≡ at t.far v

module _ (m : Market) (o : Outcome) (t : Plan) (proper : Proper m) (plain : Plain m) (p : Planned m o t) where
  last_step : (v : ℕ) → v < m.zones → 0 < at t.worth v → at t.far v ≡ 0 → Last m o t v (out_step m t v)
  last_step v below some near =
      let is_own : own m o v ≡ at t.worth v =
      subst (λ x. Along m o x v (at t.worth v)) near (p.labels.way v below some) in
      let (k, taken) = worth_some m (taker m o v) (omega (arith, is_own)) in
      let found = taker_found m o v k taken in
      let is_bid = (bid_numbered m k found.below).bid in
      let goes = taking_goes m (item_no m k) is_bid in
      let table : at t.out v ≡ suc k =
      p.out v below
      ∙ cond-false _ _ _ (ne_eqb (at t.worth v) 0 (omega arith))
      ∙ cond-true _ _ _ (eq-eqb (at t.far v) 0 near)
      ∙ ap numbered taken in
      let number : at t.out v - 1 ≡ k = omega arith in
      let step : out_step m t v ≡ taking (item_no m k) =
      ap (λ x. step_out m v (item_no m x)) number ∙ step_out_bid m v (item_no m k) is_bid in
      subst⁻¹ (Last m o t v) step
      (record {
        free = found.free;
        goes =
            record {
              from = goes.from ∙ found.zone;
              to = goes.to;
              costs = goes.costs;
              gains = omega (arith, goes.gains, found.worth);
            };
      })

  next_step :
      (v k : ℕ) → v < m.zones → 0 < at t.worth v → at t.far v ≡ suc k → Next m o t v (out_step m t v)
  next_step v k below some far =
      let lines = length m.lines in
      let test = onward m o t.worth t.far v in
      let (j, there) = onward_some m o t.worth t.far proper p.labels v k below some far in
      let (l, found) = first_passes test lines j there.below there.passes in
      let passing = first_passing test lines l found in
      let on = onward_out m o t.worth t.far v l passing.below passing.passes in
      let out = step_out_line m v l proper plain passing.below in
      let table : at t.out v ≡ suc (bids m + l) =
      p.out v below
      ∙ cond-false _ _ _ (ne_eqb (at t.worth v) 0 (omega arith))
      ∙ cond-false _ _ _ (ne_eqb (at t.far v) 0 (omega arith))
      ∙ ap (line_no m) found in
      let number : at t.out v - 1 ≡ bids m + l = omega arith in
      let step : out_step m t v ≡ step_out m v (Line l) =
      ap (λ x. step_out m v (item_no m x)) number ∙ ap (step_out m v) (items.line_no m l) in
      subst⁻¹ (Next m o t v) step
      (record {
        free = on.leads.free;
        goes = record { from = on.leads.from; to = refl; costs = out.costs; gains = out.gains };
        zone = out.zone;
        as_much = on.as_much;
        one_less = on.one_less;
      })

  abbrev Leaves : ℕ → Step → Type 0
  Leaves k s = (start m s < m.zones) × (at t.far (start m s) ≤ k)

  pub record WayOf (k v : ℕ) : Type 0 where
    pub links : Links m v (way_out m t k v) (hub m)
    pub free : AllByRecursion (Free m o) (way_out m t k v)
    pub costs : way_cost m (way_out m t k v) ≡ 0
    pub gains : way_gain m (way_out m t k v) ≡ at t.worth v - 1
    pub leaves : AllByRecursion (Leaves k) (way_out m t k v)
    pub once : Once m (way_out m t k v)

  -- Idea: the way's first step is the table's; the rest is the way of the next zone, and has fewer lines to go.
  pub way_of : (k v : ℕ) → v < m.zones → 0 < at t.worth v → at t.far v ≡ k → WayOf k v
  way_of zero v below some far =
      let s = last_step v below some far in
      record {
        links = (s.goes.from, s.goes.to);
        free = (s.free, tt);
        costs = omega (arith, s.goes.costs);
        gains = omega (arith, s.goes.gains);
        leaves = (omega (arith, s.goes.from, ap (at t.far) s.goes.from), tt);
        once = (tt, tt);
      }
  way_of (suc k) v below some far =
      let s = next_step v k below some far in
      let w = finish m (out_step m t v) in
      let rest = way_of k w s.zone (omega (arith, s.as_much)) (omega (arith, s.one_less)) in
      let further : at t.far (start m (out_step m t v)) ≡ suc k = ap (at t.far) s.goes.from ∙ far in
      record {
        links = (s.goes.from, rest.links);
        free = (s.free, rest.free);
        costs = omega (arith, s.goes.costs, rest.costs);
        gains = omega (arith, s.goes.gains, rest.gains, s.as_much);
        leaves = (
          (omega (arith, s.goes.from), omega arith),
          All-weaker (Leaves k) (Leaves (suc k)) (λ x l. omega (arith, l)) (way_out m t k w) rest.leaves,
        );
        once = (
          All-weaker (Leaves k) (λ x. start m x ≢ start m (out_step m t v))
              (λ x l e. omega (arith, l, ap (at t.far) e)) (way_out m t k w) rest.leaves,
          rest.once,
        );
      }

  pub way_shown : (v : ℕ) → v < m.zones → 0 < at t.worth v → WayShown m o t v (at t.worth v - 1)
  way_shown v below some =
      let way = way_of (at t.far v) v below some refl in
      record { links = way.links; free = way.free; worth = omega (arith, way.costs, way.gains) }

  -- Idea: the giver's step leaves the hub, the way leaves zones; the giver asks less than the way gains.
  pub pays_off : (v : ℕ) → v < m.zones → pays t v ≡ true → PaysOff m o t v
  pays_off v below pay =
      let tests = and_parts _ _ pay in
      let asks : 0 < at t.ask v = ltb-true _ _ tests.0 in
      let less : at t.ask v < at t.worth v = ltb-true _ _ tests.1 in
      let (k, given) = worth_some m (giver m o v) (omega (arith, p.ask v below)) in
      let found = giver_found m o v k given in
      let goes = giving_goes m (item_no m k) (bid_numbered m k found.below).bid in
      let table : at t.giver v ≡ suc k = p.giver v below ∙ ap numbered given in
      let number : at t.giver v - 1 ≡ k = omega arith in
      let step : giving (item_no m (at t.giver v - 1)) ≡ giving (item_no m k) =
      ap (λ x. giving (item_no m x)) number in
      let rest = way_of (at t.far v) v below (omega arith) refl in
      let ways = way_out m t (at t.far v) v in
      let closed = subst⁻¹ (λ s. Gaining m o (s ∷ ways)) step
      (record {
        links = (goes.from, subst⁻¹ (λ a. Links m a ways (hub m)) (goes.to ∙ found.zone) rest.links);
        free = (found.free, rest.free);
        once = (
          All-weaker (Leaves (at t.far v)) (λ x. start m x ≢ start m (giving (item_no m k)))
              (λ x l e. omega (arith, l, goes.from)) ways rest.leaves,
          rest.once,
        );
        gains = omega (arith, goes.costs, goes.gains, rest.costs, rest.gains, found.worth, p.ask v below);
      }) in
      record {
        zone = below;
        links = closed.links;
        free = closed.free;
        once = closed.once;
        gains = closed.gains;
      }
