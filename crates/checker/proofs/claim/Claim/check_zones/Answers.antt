use Rattle.std.proofs.Common.{rules}
use Rattle.hour.proofs.First.{first_some}
use Rattle.checker.proofs.claim.Claim.check_zones.Goals as goal

pub returns-in_err-check_zone : goal.returns-in_err-check_zone
returns-in_err-check_zone c = search (rules, first_some)
