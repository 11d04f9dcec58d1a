-- The ways that a search found, and a zone's way while it is walked. Assumes nothing: these are definitions.
--
--   routed f r                f of the market and of the plan that routes have
--   steps_from m t v lines    the steps of the way from zone v over so many lines; none where it has been walked
--   steps_left w              the steps that a walk has before it
use Rattle.std.specs.Prelude.{ℕ, List, [], Some, None, Option}
use Rattle.hour.specs.Market.{Market}
use Rattle.network.specs.Given.{market_given}
use Rattle.network.specs.declared.arcs.Step.{Step}
use Rattle.paths.specs.Plan.{Plan, way_out}
use Rattle.paths.specs.Ways.{plan_of}
use Rattle.circulation.specs.declared.routes.Routes.{Routes}
use Rattle.circulation.specs.declared.walk.Walk.{Walk}

abbrev pub routed {ℓ} : {A : Type ℓ} → (Market → Plan → A) → Routes → A
routed f r = f (market_given r.tables) (plan_of r.ways.now)

abbrev pub steps_from : Market → Plan → ℕ → Option ℕ → List Step
steps_from m t v None = []
steps_from m t v (Some lines) = way_out m t lines v

abbrev pub steps_left : Walk → List Step
steps_left w = routed steps_from w.routes w.node w.lines
