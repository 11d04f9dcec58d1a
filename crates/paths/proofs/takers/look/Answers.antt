use Rattle.paths.proofs.Looked.{bid_looked}
use Rattle.paths.proofs.takers.look.Goals as goal

pub returns : goal.returns
returns c = bid_looked c.requires.looks c.requires.looked c.note_taker.ensures c.note_giver.ensures
