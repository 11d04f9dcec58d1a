use Rattle.std.proofs.Common.{refl, rules}
use Rattle.checker.specs.Seeking.{marked, sort_test}
use Rattle.checker.proofs.Firsts.{sought}
use Rattle.checker.proofs.claim.Marked.find_holder.Goals as goal

pub returns : goal.returns
returns c =
    sought (marked sort_test c.args.self c.args.z c.args.sort) _ _ _ _ _ refl c.count.ensures
    c.find.ensures.ran (λ x q k. search rules) (λ x q k. (search rules, search rules))
