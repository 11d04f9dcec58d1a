use Rattle.std.proofs.Common.{◌≡◌, refl, rules}
use Rattle.checker.specs.Seeking.{marked, next_held, new_test}
use Rattle.checker.proofs.Firsts.{sought, found_below}
use Rattle.checker.proofs.claim.Marked.next_held.Goals as goal

pub returns : goal.returns
returns c =
    let test = marked new_test c.args.self in
    let value : c.find.result ≡ marked next_held c.args.self =
    sought test _ _ _ _ _ refl c.zones.ensures c.find.ensures.ran (λ x q k. search rules)
    (λ x q k. (search rules, search rules))
    in
    record { among = found_below test _ _ value; value = value }
