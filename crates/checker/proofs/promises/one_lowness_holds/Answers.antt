-- The statement is a theorem of proofs/Publishing.antt.
use Rattle.checker.proofs.Publishing.{one_lowness}
use Rattle.checker.proofs.promises.one_lowness_holds.Goals as goal

pub returns : goal.returns
returns c = one_lowness
