-- The statement is a theorem of proofs/Rings.antt.
use Rattle.paths.proofs.Rings.{rings_even}
use Rattle.paths.proofs.promises.rings_even_holds.Goals as goal

pub returns : goal.returns
returns c = rings_even
