use Rattle.std.proofs.Common.{◌∙◌, arith}
use Rattle.paths.proofs.Zones.{first_pays}
use Rattle.paths.proofs.search.find_ways.Goals as goal

pub returns-clause-answer : goal.returns-clause-answer
returns-clause-answer c = c.find_paying.ensures ∙ first_pays c.plan_ways.new.ways c.args.t.zones (omega arith)
