-- The statement is a theorem of proofs/TextBack.antt.
use Rattle.checker.proofs.TextBack.{read_back}
use Rattle.checker.proofs.promises.read_back_holds.Goals as goal

pub returns : goal.returns
returns c = read_back
