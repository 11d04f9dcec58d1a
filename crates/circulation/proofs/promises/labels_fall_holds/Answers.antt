-- The statement is a theorem of proofs/Fall.antt.
use Rattle.circulation.proofs.Fall.{labels_fall}
use Rattle.circulation.proofs.promises.labels_fall_holds.Goals as goal

pub returns : goal.returns
returns c = labels_fall
