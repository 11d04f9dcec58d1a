-- Every proper plain market clears: a run from the outcome with nothing ends, settled. Assumes nothing.
use Rattle.std.proofs.Common.{◌-◌, ◌∙◌}
use Rattle.std.proofs.lemmas.List.{length-map}
use Rattle.paths.specs.Promises.{prices_of}
use Rattle.paths.proofs.Shown.{lowest_labels}
use Rattle.network.proofs.Plain.{nothing, nothing_feasible}
use Rattle.network.proofs.ByLists.{proper_from_lists, feasible_to_lists, settled_to_lists}
use Rattle.circulation.specs.Promises.{Always, AlwaysByLists}
use Rattle.circulation.proofs.Runs.{run_reaches, run_ends}

pub always : Always
always m proper plain =
    let start = nothing_feasible m plain in
    let ended = run_ends m nothing proper plain start in
    let t = ended.tables in
    let end = run_reaches m nothing ended.end ended.count t proper plain start ended.run in
    let lowest = lowest_labels m ended.end t proper plain end.sound.feasible end.planned end.none_pays in
    record {
      outcome = ended.end;
      prices = prices_of t;
      feasible = end.sound.feasible;
      settled = lowest.0.settled;
      lowest = lowest.1;
      one_each = length-map t.worth (λ c. c - 1) ∙ end.planned.worth_long;
    }

pub always_by_lists : AlwaysByLists
always_by_lists m proper plain =
    let cleared = always m (proper_from_lists m proper) plain in
    record {
      outcome = cleared.outcome;
      prices = cleared.prices;
      feasible = feasible_to_lists m cleared.outcome plain cleared.feasible;
      settled = settled_to_lists m cleared.outcome plain cleared.prices cleared.settled;
      one_each = cleared.one_each;
    }
