use Rattle.std.proofs.Common.{rules}
use Rattle.ledger.proofs.Faults.{fault_by_head, fault_of_head}
use Rattle.ledger.proofs.entry.check_hour.Goals as goal

pub returns-in_err-head : goal.returns-in_err-head
returns-in_err-head c = search (rules, fault_of_head c.args.bytes.now c.args.has c.args.ledger c.args.work)

pub returns-in_err-check_slices : goal.returns-in_err-check_slices
returns-in_err-check_slices c = search (rules, fault_by_head c.args.bytes.now c.args.has c.args.ledger c.args.work)

pub returns : goal.returns
returns c = search (rules, fault_by_head c.args.bytes.now c.args.has c.args.ledger c.args.work)
