-- The statement is a theorem of proofs/Lattice.antt.
use Rattle.network.proofs.Lattice.{lattice}
use Rattle.network.proofs.promises.lattice_holds.Goals as goal

pub returns : goal.returns
returns c = lattice
