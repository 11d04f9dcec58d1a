use Rattle.hour.proofs.WrittenBack.{only_hours}
use Rattle.hour.proofs.promises.only_hours_are_taken.Goals as goal

pub returns : goal.returns
returns c = only_hours
