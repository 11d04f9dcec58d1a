use Rattle.std.proofs.Common.{rules}
use Rattle.network.specs.Tables.{outcome_in}
use Rattle.checker.proofs.Judged.{accepted_exactly}
use Rattle.checker.proofs.accept.check.Goals as goal

pub returns-in_err-check-clause-accepted : goal.returns-in_err-check-clause-accepted
returns-in_err-check-clause-accepted c =
    let o = outcome_in c.args.bought.now c.args.sold.now c.args.flow.now in
    accepted_exactly c.args.bytes.now o c.args.prices.now _ (search rules)

pub returns-clause-accepted : goal.returns-clause-accepted
returns-clause-accepted c =
    let o = outcome_in c.args.bought.now c.args.sold.now c.args.flow.now in
    accepted_exactly c.args.bytes.now o c.args.prices.now _ (search rules)
