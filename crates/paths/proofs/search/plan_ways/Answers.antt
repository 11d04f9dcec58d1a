use Rattle.std.proofs.Common.{ap, ◌∙◌, arith}
use Rattle.hour.specs.Market.{at}
use Rattle.network.proofs.Rows.{plain_in}
use Rattle.paths.specs.Plan.{Planned}
use Rattle.network.specs.Given.{market_given, outcome_given}
use Rattle.paths.specs.Ways.{plan_of}
use Rattle.paths.proofs.Searched.{nothing_looked, settling_start, all_noted, planned_ways}
use Rattle.paths.proofs.Shown.{plan_shown}
use Rattle.paths.proofs.search.plan_ways.Goals as goal

pub look_at_buys-requires : goal.look_at_buys-requires
look_at_buys-requires c = nothing_looked _ _ _ _ c.requires (c.fill.ensures.after (λ y same. same))

pub settle-requires : goal.settle-requires
settle-requires c = settling_start _ _ c.args.given.sound _ c.look_at_sells.ensures

pub ways_out-requires-clause-takers : goal.ways_out-requires-clause-takers
ways_out-requires-clause-takers c v below =
    ap (λ xs. at xs v) c.settle.ensures.bids.out
    ∙ (all_noted c.args.given.tables c.look_at_sells.ensures.takers).number v below

pub returns : goal.returns
returns c =
    let planned : Planned (market_given c.args.given.tables) (outcome_given c.args.given.amounts) (plan_of c.ways_out.new.ways) =
    planned_ways _ _ c.args.given.sound _ _ _ (omega arith) c.look_at_sells.ensures c.settle.ensures.labels
    c.settle.ensures.bids c.ways_out.ensures.out c.ways_out.ensures.others
    in
    record {
      planned = planned;
      shown = λ feasible. plan_shown _ _ _ c.args.given.sound.tables.proper (plain_in _ _ _ _) feasible planned;
    }
