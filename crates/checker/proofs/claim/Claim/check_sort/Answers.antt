use Rattle.std.proofs.Common.{arith, rules}
use Rattle.hour.specs.Market.{count_of}
use Rattle.hour.specs.Seen.{market_seen}
use Rattle.hour.proofs.First.{first_answer, first_more}
use Rattle.checker.proofs.claim.Claim.check_sort.Goals as goal

pub returns-in_err-check_item : goal.returns-in_err-check_item
returns-in_err-check_item c =
    first_answer _ c.loop-k.k (count_of (market_seen c.args.self.hour) c.args.sort) _ (omega arith)
    c.loop-k.invariant (search rules) (search rules)

pub loop-k-preserved : goal.loop-k-preserved
loop-k-preserved c = search (rules, first_more)
