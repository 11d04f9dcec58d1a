use Rattle.hour.proofs.ReadBack.{read_back}
use Rattle.hour.proofs.promises.what_is_written_is_read_back.Goals as goal

pub returns : goal.returns
returns c = read_back
