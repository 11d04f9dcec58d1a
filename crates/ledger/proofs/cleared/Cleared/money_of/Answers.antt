-- The rules of the hour limit prices and amounts.
use Rattle.std.proofs.Common.{arith}
use Rattle.hour.specs.Seen.{market_seen}
use Rattle.network.specs.Given.{outcome_given}
use Rattle.ledger.proofs.Limits.{rules_of, above_small, base_small, carried_small}
use Rattle.ledger.proofs.cleared.Cleared.money_of.Goals as goal

pub owed-requires : goal.owed-requires
owed-requires c =
    let this = c.args.self in
    let m = market_seen this.hour in
    let o = outcome_given this.amounts in
    let rules = rules_of this.hour in
    let pay = this.payable in
    let among = c.requires in (
      omega (arith, c.price_above.ensures, above_small m o this.prices.now rules pay c.args.item among),
      (
        omega (arith, c.price_below.ensures, base_small m o this.prices.now rules pay c.args.item among),
        omega (arith, c.of.ensures, carried_small m rules o pay.feasible c.args.item among),
      ),
    )
