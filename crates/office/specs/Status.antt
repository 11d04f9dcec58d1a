-- The status that a program ends with. Assumes nothing: these are definitions.
--
--   status_number s    0 where the answer is the one hoped for, 1 where it is not, 2 where there is none
--   status_of answer   what an answer ends with: Good where the hour was cleared or the result stands
--   status_of_run r    the number that a run ends with
use Rattle.std.specs.Prelude.{ℕ, cond, Result, Ok, Err}
use Rattle.office.specs.declared.clearing.Answer.{Answer}
use Rattle.office.specs.declared.status.Status.{Status}
use Rattle.office.specs.declared.status.Status.TheVariants.{Good, Bad, Trouble}

abbrev pub status_number : Status → ℕ
status_number Good = 0
status_number Bad = 1
status_number Trouble = 2

abbrev pub status_of : Answer → Status
status_of answer = cond answer.good Good Bad

abbrev pub status_of_run : {E : Type 0} → Result Status E → ℕ
status_of_run (Ok status) = status_number status
status_of_run (Err error) = 2
