-- The statement is a theorem of proofs/Shown.antt.
use Rattle.paths.proofs.Shown.{lowest_labels}
use Rattle.paths.proofs.promises.lowest_labels_holds.Goals as goal

pub returns : goal.returns
returns c = lowest_labels
