-- What the entry on an hour's bytes leaves is accepted, and its prices are found the lowest. Assumes nothing.
use Rattle.std.proofs.Common.{ℕ, List, Ok, sym, arith}
use Rattle.hour.proofs.Kept.{kept, buys_count, sells_count, lines_count}
use Rattle.hour.specs.Bytes.{market_of}
use Rattle.network.proofs.Agree.{feasible_agree, settled_agree, lowest_agree, fronts_agree, front_prices}
use Rattle.network.specs.Prices.{Lowest}
use Rattle.prices.proofs.Bounds.{proper_kept}
use Rattle.ledger.proofs.Faults.{taken_hour, results_room}
use Rattle.ledger.proofs.OneAnswer.{whole_promise}
use Rattle.ledger.specs.Entry.{Slices, Answer}
use Rattle.checker.proofs.Publishing.{published_accepted, lowest_found}
use Rattle.checker.specs.Promises.{Published, HouseAccepted, HouseLowest, outcome_left}

-- Idea: the slices agree with their fronts, which are what was found.
module _ (bs : List ℕ) (old new : Slices) (n : ℕ) (answer : Answer bs old (Ok n) new) where
  stands : Published bs (outcome_left new) new.price
  stands =
      let m = market_of bs in
      let taken = taken_hour bs _ (sym answer.refusal) in
      let proper = proper_kept m (kept bs taken) in
      let promise = whole_promise bs old new (Ok n) answer in
      let room = results_room bs old.bought old.sold old.flow old.price _ _ (sym answer.refusal) in
      let agree = fronts_agree m new.bought new.sold new.flow in
      record {
        hour = taken;
        bought = omega (arith, room.bought_room, answer.bought_long, buys_count bs);
        sold = omega (arith, room.sold_room, answer.sold_long, sells_count bs);
        flow = omega (arith, room.flow_room, answer.flow_long, lines_count bs);
        prices = omega (arith, room.price_room, answer.price_long);
        feasible = feasible_agree m _ _ agree promise.carried_out;
        settled = settled_agree m _ new.price proper (front_prices m new.price) _ _ agree promise.settled;
      }

  lowest_left : Lowest (market_of bs) new.price
  lowest_left =
      let m = market_of bs in
      let proper = proper_kept m (kept bs (taken_hour bs _ (sym answer.refusal))) in
      lowest_agree m _ new.price proper (front_prices m new.price) (whole_promise bs old new (Ok n) answer).lowest

pub house_accepted : HouseAccepted
house_accepted bs old new n answer = published_accepted bs (outcome_left new) new.price (stands bs old new n answer)

pub house_lowest : HouseLowest
house_lowest bs old new n answer marks after enough left =
    lowest_found bs (outcome_left new) new.price marks after (stands bs old new n answer) (lowest_left bs old new n answer)
    enough left
