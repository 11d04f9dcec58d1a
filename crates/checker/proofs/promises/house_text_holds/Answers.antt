-- The statement is a theorem of proofs/HouseText.antt.
use Rattle.checker.proofs.HouseText.{house_text}
use Rattle.checker.proofs.promises.house_text_holds.Goals as goal

pub returns : goal.returns
returns c = house_text
