use Rattle.std.proofs.Common.{rules}
use Rattle.office.proofs.WrittenOn.{behind, one_more}
use Rattle.office.proofs.writing.deliver.Goals as goal

pub loop-preserved : goal.loop-preserved
loop-preserved g c = one_more _ _ _ _ _ _ c.in-Some.n c.loop.invariant (search rules) (behind c.in-Some.n c.loop.rest.now)
