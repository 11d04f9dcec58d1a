-- How a program says why it has no answer. Assumes nothing: these are definitions.
--
--   fault_shown f   its text; none is said of a fault that holds an error of the system, whose words are the system's
use Rattle.std.specs.Prelude.{ℕ, List, codes, Some, None, Option}
use Rattle.office.specs.declared.faults.Fault.{Fault}
use Rattle.office.specs.declared.faults.Fault.TheVariants.{Hour, Published, Answer, Memory}

abbrev pub fault_shown : Fault → Option (List ℕ)
fault_shown (Hour error) = None
fault_shown (Published error) = None
fault_shown (Answer error) = None
fault_shown Memory = Some (codes "out of memory")
