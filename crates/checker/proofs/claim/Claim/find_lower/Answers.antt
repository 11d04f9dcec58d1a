use Rattle.std.proofs.Common.{eqb, refl, rules}
use Rattle.hour.specs.Market.{at}
use Rattle.checker.proofs.Firsts.{sought}
use Rattle.checker.proofs.claim.Claim.find_lower.Goals as goal

pub returns-clause-value : goal.returns-clause-value
returns-clause-value c =
    sought (λ z. eqb (at c.mark_held.new.marks z) 0) _ _ _ _ _ refl c.zones.ensures
    c.find.ensures.ran (λ x q k. search rules) (λ x q k. (search rules, search rules))
