use Rattle.std.proofs.Common.{ℕ, ◌∙◌, ap, arith, rules, tests}
use Rattle.hour.specs.Seen.{market_seen}
use Rattle.hour.specs.Total.{total}
use Rattle.network.specs.Given.{outcome_given}
use Rattle.ledger.proofs.Summed.{sum_fits, sum_both}
use Rattle.checker.specs.Acceptance.{side_counted}
use Rattle.checker.proofs.claim.Claim.side_total.Goals as goal

pub sum-requires-clause-fits : goal.sum-requires-clause-fits
sum-requires-clause-fits c =
    let counted = side_counted (market_seen c.args.self.hour) (outcome_given c.args.self.amounts) c.args.side c.args.zone in
    sum_fits c.side_count.result 18446744073709551615 counted c.map.ensures.source c.map.ensures.closure
    (λ x r q k. search (rules, tests)) _ (omega arith)

pub returns : goal.returns
returns c =
    let counted = side_counted (market_seen c.args.self.hour) (outcome_given c.args.self.amounts) c.args.side c.args.zone in
    let summed = sum_both c.side_count.result 18446744073709551615 counted c.map.ensures.source c.map.ensures.closure
    (λ x r q k. search (rules, tests)) c.sum.result c.sum.ensures.ran in
    record {
      value = summed.0 ∙ ap (λ (n : ℕ). total n counted) c.side_count.ensures;
      small = omega (arith, summed.1, c.side_count.ensures);
    }
