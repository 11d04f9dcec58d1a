-- The statement is a theorem of proofs/Publishing.antt.
use Rattle.checker.proofs.Publishing.{lowest_found}
use Rattle.checker.proofs.promises.lowest_found_holds.Goals as goal

pub returns : goal.returns
returns c = lowest_found
