-- The statement is a theorem of proofs/House.antt.
use Rattle.checker.proofs.House.{house_accepted}
use Rattle.checker.proofs.promises.house_accepted_holds.Goals as goal

pub returns : goal.returns
returns c = house_accepted
