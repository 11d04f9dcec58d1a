-- What a search leaves in its tables, and the closed ways that they show. Assumes nothing: these are definitions.
--
--   Plan                 the tables, a number for each zone: worth and far (see Labels), out, ask, giver
--   nearer worth far v w zone w has a way worth as much as that of zone v, over one line less
--   onward m o ..        line l leads from zone v, through what is left free, to such a zone
--   first_onward m o ..  the first line that leads on from zone v
--   line_no m l          a line as a table has it: 0 for none, else one more than its number among all items
--   out_no               how a zone's way leaves it, as a table has it: by its own taker, or by the first line that leads on
--   Planned m o t        t is what a search of the outcome o leaves: labels, ways out, each zone's giver and its price
--   asks_less, pays t v  somebody in zone v gives for less than the zone's way to the hub is worth
--   step_out m v i       the step along the item i out of zone v
--   out_step, way_out    the step by which the way leaves a zone; all steps of the way, over so many lines
--   closed_way m t v     from the hub along the giver's bid to zone v, and from there to the hub
--   first_paying m t     the first zone that pays
use Rattle.std.specs.Prelude.{◌≡◌, ℕ, zero, suc, ◌+◌, ◌-◌, ◌<◌, Bool, cond, ◌&&◌, ◌||◌, List, [], ◌∷◌, length, Some, None, Option, ◌==◌, nat_lt}
use Rattle.hour.specs.First.{when, first}
use Rattle.hour.specs.Market.{Market, Outcome, at, line}
use Rattle.network.specs.Ways.{room, finish}
use Rattle.hour.specs.declared.items.Item.{Item}
use Rattle.hour.specs.declared.items.Item.TheVariants.{Buy, Sell, Line}
use Rattle.network.specs.declared.arcs.Step.{Step}
use Rattle.network.specs.declared.arcs.Step.TheVariants.{Forward, Backward}
use Rattle.paths.specs.Best.{numbered}
use Rattle.paths.specs.Bids.{bids, item_no, taking, giving, taker, giver, worth_at}
use Rattle.paths.specs.Labels.{BestLabels}

pub record Plan : Type 0 where
  pub worth : List ℕ
  pub far : List ℕ
  pub out : List ℕ
  pub ask : List ℕ
  pub giver : List ℕ

abbrev pub nearer : List ℕ → List ℕ → ℕ → ℕ → Bool
nearer worth far v w = at worth w == at worth v && suc (at far w) == at far v

abbrev pub onward : Market → Outcome → List ℕ → List ℕ → ℕ → ℕ → Bool
onward m o worth far v l =
    ((line m.lines l).from == v && (nat_lt 0 (room m o (Forward (Line l))) && nearer worth far v (line m.lines l).to))
    || ((line m.lines l).to == v && (nat_lt 0 (room m o (Backward (Line l))) && nearer worth far v (line m.lines l).from))

abbrev pub first_onward : Market → Outcome → List ℕ → List ℕ → ℕ → Option ℕ
first_onward m o worth far v = first (length m.lines) (λ l. when (onward m o worth far v l) l)

abbrev pub line_no : Market → Option ℕ → ℕ
line_no m None = 0
line_no m (Some l) = suc (bids m + l)

abbrev pub out_no : Market → Outcome → List ℕ → List ℕ → ℕ → ℕ
out_no m o worth far v =
    cond (at worth v == 0) 0 (cond (at far v == 0) (numbered (taker m o v)) (line_no m (first_onward m o worth far v)))

pub record Planned (m : Market) (o : Outcome) (t : Plan) : Type 0 where
  pub labels : BestLabels m o t.worth t.far
  pub out : (v : ℕ) → v < m.zones → at t.out v ≡ out_no m o t.worth t.far v
  pub ask : (v : ℕ) → v < m.zones → at t.ask v ≡ worth_at m (giver m o v)
  pub giver : (v : ℕ) → v < m.zones → at t.giver v ≡ numbered (giver m o v)
  pub worth_long : length t.worth ≡ m.zones
  pub far_long : length t.far ≡ m.zones
  pub out_long : length t.out ≡ m.zones
  pub ask_long : length t.ask ≡ m.zones
  pub giver_long : length t.giver ≡ m.zones

abbrev pub asks_less : List ℕ → List ℕ → ℕ → Bool
asks_less worth ask v = nat_lt 0 (at ask v) && nat_lt (at ask v) (at worth v)

abbrev pub pays : Plan → ℕ → Bool
pays t v = asks_less t.worth t.ask v

abbrev pub step_out : Market → ℕ → Item → Step
step_out m v (Buy k) = taking (Buy k)
step_out m v (Sell k) = taking (Sell k)
step_out m v (Line l) = cond ((line m.lines l).from == v) (Forward (Line l)) (Backward (Line l))

abbrev pub out_step : Market → Plan → ℕ → Step
out_step m t v = step_out m v (item_no m (at t.out v - 1))

abbrev pub way_out : Market → Plan → ℕ → ℕ → List Step
way_out m t zero v = out_step m t v ∷ []
way_out m t (suc k) v = out_step m t v ∷ way_out m t k (finish m (out_step m t v))

abbrev pub closed_way : Market → Plan → ℕ → List Step
closed_way m t v = giving (item_no m (at t.giver v - 1)) ∷ way_out m t (at t.far v) v

abbrev pub first_paying : Market → Plan → Option ℕ
first_paying m t = first m.zones (λ v. when (pays t v) v)
