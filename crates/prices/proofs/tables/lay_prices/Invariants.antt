use Rattle.std.proofs.Common.{◌≡◌, ℕ, ◌-◌, ◌<◌}
use Rattle.hour.specs.Market.{at}
use Rattle.paths.specs.Ways.{way_at}
use Rattle.prices.proofs.tables.lay_prices.Given as goal

abbrev pub invariant-loop-v : goal.invariant-loop-v
invariant-loop-v l = (k : ℕ) → k < l.v → at l.price k ≡ (way_at l.ways k).worth - 1
