use Rattle.std.proofs.Common.{inr, refl}
use Rattle.office.proofs.troubles.Trouble.unread.Goals as goal

pub returns-in-Ok : goal.returns-in-Ok
returns-in-Ok c = inr (c.in-Ok.name, (c.in-Ok.ensures.ok, refl))
