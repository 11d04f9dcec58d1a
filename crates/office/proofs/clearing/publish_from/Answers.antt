use Rattle.std.proofs.Common.{rules}
use Rattle.office.proofs.Answered.{hour_answered}
use Rattle.office.proofs.clearing.publish_from.Goals as goal

pub returns-clause-said : goal.returns-clause-said
returns-clause-said g c =
    hour_answered _ _ _ _ _ _ _ c.in-Ok.ensures.came c.in_ok-publication.ensures (search rules)
