-- A sort has at most 1,000 items.
use Rattle.std.proofs.Common.{ℕ, ap, ◌∙◌, arith, rules, tests}
use Rattle.hour.specs.Seen.{market_seen}
use Rattle.hour.specs.Total.{total}
use Rattle.network.specs.Given.{outcome_given}
use Rattle.ledger.proofs.Limits.{rules_of, count_small, worth_at}
use Rattle.ledger.proofs.Summed.{sum_fits, sum_both}
use Rattle.ledger.proofs.worth.Carried.worth_of.Goals as goal

pub sum-requires-clause-fits : goal.sum-requires-clause-fits
sum-requires-clause-fits c =
    let m = market_seen c.args.self.hour in
    let worth = worth_at m (outcome_given c.args.self.amounts) c.args.sort in
    sum_fits c.count.result 400_000_000_000 worth c.map.ensures.source c.map.ensures.closure
    (λ x r q k. search (rules, tests)) _ (omega (arith, c.count.ensures, count_small m (rules_of c.args.self.hour) c.args.sort))

pub returns : goal.returns
returns c =
    let m = market_seen c.args.self.hour in
    let worth = worth_at m (outcome_given c.args.self.amounts) c.args.sort in
    let summed = sum_both c.count.result 400_000_000_000 worth c.map.ensures.source c.map.ensures.closure
    (λ x r q k. search (rules, tests)) c.sum.result c.sum.ensures.ran in
    record {
      value = summed.0 ∙ ap (λ (n : ℕ). total n worth) c.count.ensures;
      small = omega (arith, summed.1, c.count.ensures, count_small m (rules_of c.args.self.hour) c.args.sort);
    }
