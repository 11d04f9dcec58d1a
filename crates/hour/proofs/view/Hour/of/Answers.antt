-- One ghost field is answered alone, so that each of the others is a goal of its own, which the lemmas named at the function close.
use Rattle.hour.proofs.view.Hour.of.Goals as goal

pub invariant_of-result-clause-kept : goal.invariant_of-result-clause-kept
invariant_of-result-clause-kept c = c.requires
