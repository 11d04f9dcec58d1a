use Rattle.std.proofs.Common.{◌≡◌, length, Ok, rules}
use Rattle.network.specs.Tables.{outcome_in}
use Rattle.checker.specs.Marks.{lowness_of}
use Rattle.checker.proofs.Answered.{left_late, lower_exactly, lowest_exactly}
use Rattle.checker.proofs.ranking.lowest.Goals as goal

pub returns-in_err-lower : goal.returns-in_err-lower
returns-in_err-lower c =
    let bs = c.args.bytes.now in
    let o = outcome_in c.args.bought.now c.args.sold.now c.args.flow.now in
    let ps = c.args.prices.now in
    let old = c.args.marks.now in
    let new = c.rank.new.marks in
    let hour = c.in_ok-hour.ensures in
    let left = left_late bs o ps old new _ hour.hour hour.refused c.in_err-lower.ensures.left in
    let is : c.from_residual-in_err-lower.result ≡ lowness_of bs o ps (length old) new = search rules in
    record {
      answer = is;
      left = left;
      lower = lower_exactly bs o ps old new left _ is;
      lowest = lowest_exactly bs o ps old new left _ is;
    }

pub returns : goal.returns
returns c =
    let bs = c.args.bytes.now in
    let o = outcome_in c.args.bought.now c.args.sold.now c.args.flow.now in
    let ps = c.args.prices.now in
    let old = c.args.marks.now in
    let new = c.rank.new.marks in
    let hour = c.in_ok-hour.ensures in
    let left = left_late bs o ps old new _ hour.hour hour.refused c.in_ok-lower.ensures.left in
    let is : Ok c.in_ok-lower.lower ≡ lowness_of bs o ps (length old) new = search rules in
    record {
      answer = is;
      left = left;
      lower = lower_exactly bs o ps old new left _ is;
      lowest = lowest_exactly bs o ps old new left _ is;
    }
