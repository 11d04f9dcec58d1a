use Rattle.hour.proofs.WrittenBack.{written_back}
use Rattle.hour.proofs.promises.what_is_read_is_written_back.Goals as goal

pub returns : goal.returns
returns c = written_back
