use Rattle.std.proofs.Common.{arith}
use Rattle.network.proofs.Rows.{plain_in}
use Rattle.circulation.proofs.Asked.{ready_pays}
use Rattle.circulation.proofs.routes.Routes.sweep.Goals as goal

pub ask_zone-pushes-requires-clause-ready : goal.ask_zone-pushes-requires-clause-ready
ask_zone-pushes-requires-clause-ready c =
    ready_pays _ _ _ c.args.self.bounded.proper (plain_in _ _ _ _) c.requires.planned c.loop-zone.zone (omega arith)
