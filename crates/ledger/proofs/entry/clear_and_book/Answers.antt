use Rattle.std.proofs.Common.{◌*◌, arith}
use Rattle.prices.proofs.Entries.{past_same, wiped_front}
use Rattle.hour.specs.Seen.{market_seen}
use Rattle.ledger.specs.Money.{row_count}
use Rattle.ledger.proofs.Booked.{payable_found, booked_front}
use Rattle.ledger.proofs.Limits.{rules_of}
use Rattle.ledger.proofs.entry.clear_and_book.Goals as goal

pub invariant_of-cleared : goal.invariant_of-cleared
invariant_of-cleared c =
    let hour = c.args.hour in
    record { payable = payable_found (market_seen hour) (rules_of hour) _ _ _ _ _ c.clear_lent-pushes.ensures.found }

pub returns : goal.returns
returns c =
    let hour = c.args.hour in
    let done = c.clear_lent-pushes.ensures in
    record {
      found = done.found;
      booked = booked_front (market_seen hour) (rules_of hour) _ _ _ _ _ c.write_ledger.ensures.ledger;
      bought = past_same hour.buys _ _ _ hour.buys_count done.bought;
      sold = past_same hour.sells _ _ _ hour.sells_count done.sold;
      flow = past_same hour.lines _ _ _ hour.lines_count done.flow;
      price = past_same hour.zones _ _ _ hour.zones_said done.price;
      ledger = c.write_ledger.ensures.behind;
      work = wiped_front (64 * row_count (market_seen hour)) _ _ _ (omega arith) (omega arith) done.work;
    }
