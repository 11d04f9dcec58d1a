-- What a search finds for each zone, as a slice has it, and the plan that it makes. Assumes nothing: these are definitions.
--
--   no_way              no way leads from the zone, and nobody there gives
--   way_at ws v         the way of zone v; past the last zone there is none
--   worths, fars ws     zone by zone, what the ways are worth, and over how many lines
--   outs ws             by which item they leave the zones
--   asks, givers ws     what the zones' cheapest givers ask, and which bids these are
--   plan_of ws          the plan that they make
--   way_pays w          somebody gives for less than the way is worth
--   way_nearer v w      w is worth as much as v, over one line less
--   way_better v w      w, over one line more, is better than v
--   over_line v w       v with what w is worth, over one line more
--   taker_noted ..      w with bid n noted as its zone's best taker, where it takes and is dearer than the best so far
--   giver_noted ..      w with bid n noted as its zone's best giver, where it gives and is cheaper, or the first
use Rattle.std.specs.Prelude.{ℕ, suc, ◌+◌, Bool, cond, ◌&&◌, ◌||◌, List, map, ◌==◌, nat_lt, slice_index_or}
use Rattle.paths.specs.Plan.{Plan}
use Rattle.paths.specs.declared.ways.Way.{Way}

abbrev pub no_way : Way
no_way = record { worth = 0; far = 0; out = 0; ask = 0; giver = 0 }

abbrev pub way_at : List Way → ℕ → Way
way_at ws v = slice_index_or ws v no_way

abbrev pub worths : List Way → List ℕ
worths ws = map (λ (w : Way). w.worth) ws

abbrev pub fars : List Way → List ℕ
fars ws = map (λ (w : Way). w.far) ws

abbrev pub outs : List Way → List ℕ
outs ws = map (λ (w : Way). w.out) ws

abbrev pub asks : List Way → List ℕ
asks ws = map (λ (w : Way). w.ask) ws

abbrev pub givers : List Way → List ℕ
givers ws = map (λ (w : Way). w.giver) ws

abbrev pub plan_of : List Way → Plan
plan_of ws = record { worth = worths ws; far = fars ws; out = outs ws; ask = asks ws; giver = givers ws }

abbrev pub way_pays : Way → Bool
way_pays w = nat_lt 0 w.ask && nat_lt w.ask w.worth

abbrev pub way_nearer : Way → Way → Bool
way_nearer v w = w.worth == v.worth && suc w.far == v.far

abbrev pub way_better : Way → Way → Bool
way_better v w =
    nat_lt v.worth w.worth || (v.worth == w.worth && (nat_lt 0 w.worth && nat_lt (suc w.far) v.far))

abbrev pub over_line : Way → Way → Way
over_line v w = record v { worth = w.worth; far = w.far + 1 }

abbrev pub taker_noted : Bool → ℕ → ℕ → Way → Way
taker_noted takes price n w =
    cond (takes && nat_lt w.worth (price + 1)) (record w { worth = price + 1; out = n + 1 }) w

abbrev pub giver_noted : Bool → ℕ → ℕ → Way → Way
giver_noted gives price n w =
    cond (gives && (w.ask == 0 || nat_lt (price + 1) w.ask)) (record w { ask = price + 1; giver = n + 1 }) w
