use Rattle.std.proofs.Common.{sym, ◌∙◌}
use Rattle.circulation.proofs.Asked.{ready_fits}
use Rattle.circulation.proofs.routes.Routes.ask_zone.Goals as goal

pub push-requires-clause-fits : goal.push-requires-clause-fits
push-requires-clause-fits c =
    let ready = c.requires.ready (sym c.is_paying.ensures ∙ c.if-not-is_paying.false) in
    ready_fits _ _ _ _ _ ready c.narrowest-d.ensures
