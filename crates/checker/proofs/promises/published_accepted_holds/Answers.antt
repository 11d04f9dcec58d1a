-- The statement is a theorem of proofs/Publishing.antt.
use Rattle.checker.proofs.Publishing.{published_accepted}
use Rattle.checker.proofs.promises.published_accepted_holds.Goals as goal

pub returns : goal.returns
returns c = published_accepted
