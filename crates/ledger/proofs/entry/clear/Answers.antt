use Rattle.std.proofs.Common.{sym, ap, ◌∙◌}
use Rattle.std.specs.Result.{result_err}
use Rattle.hour.proofs.Kept.{kept}
use Rattle.hour.specs.Bytes.{market_of}
use Rattle.ledger.proofs.Booked.{promised_in, small_in, read_in, closed_in, same_market}
use Rattle.ledger.proofs.Faults.{taken_hour}
use Rattle.ledger.proofs.entry.clear.Goals as goal

pub returns : goal.returns
returns c =
    let bytes = c.args.bytes.now in
    let none = sym c.check_hour.ensures ∙ ap result_err c.in_ok-check_hour.was in
    let rules = kept bytes (taken_hour bytes _ none) in
    let done = same_market _ bytes c.of-hour.ensures _ _ _ c.clear_and_book.ensures in
    let promised = promised_in (market_of bytes) rules _ _ _ done in
    record {
      refusal = sym none;
      carried_out = promised.feasible;
      settled = promised.settled;
      lowest = promised.lowest;
      no_regret = promised.no_regret;
      best = promised.best;
      rows = done.booked;
      small = small_in (market_of bytes) rules _ _ _ done;
      read = read_in (market_of bytes) rules _ _ _ done;
      even = closed_in (market_of bytes) rules _ _ _ done;
      found = done.found;
      pushes = (promised.pushes, promised.few);
      bought = done.bought;
      sold = done.sold;
      flow = done.flow;
      price = done.price;
      ledger = done.ledger;
      work = done.work;
    }
