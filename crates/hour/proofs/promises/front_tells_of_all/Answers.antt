use Rattle.hour.proofs.Fronts.{front_tells}
use Rattle.hour.proofs.promises.front_tells_of_all.Goals as goal

pub returns : goal.returns
returns c = front_tells
