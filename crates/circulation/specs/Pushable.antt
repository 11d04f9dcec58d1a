-- What a push asks of lists of amounts and of a closed way. Assumes nothing: these are definitions.
--
--   Ready m t v       the closed way through zone v goes along items of the market, and leaves no node twice
--   Placed .. i       item i has its place in the lists of amounts
--   Movable o d s     d more can go along step s: forward its item then carries a number of 64 bits, backward it has as much
use Rattle.std.specs.Prelude.{ℕ, ◌+◌, ◌^◌, ◌<◌, ◌≤◌, List, length}
use Rattle.std.specs.List.{AllByRecursion}
use Rattle.hour.specs.Market.{Market, Outcome}
use Rattle.network.specs.Network.{Among, carried}
use Rattle.network.specs.Ways.{item, Once}
use Rattle.hour.specs.declared.items.Item.{Item}
use Rattle.hour.specs.declared.items.Item.TheVariants.{Buy, Sell, Line}
use Rattle.network.specs.declared.arcs.Step.{Step}
use Rattle.network.specs.declared.arcs.Step.TheVariants.{Forward, Backward}
use Rattle.paths.specs.Plan.{Plan, closed_way}

pub record Ready (m : Market) (t : Plan) (v : ℕ) : Type 0 where
  pub among : AllByRecursion (λ s. Among m (item s)) (closed_way m t v)
  pub once : Once m (closed_way m t v)

abbrev pub Placed : List ℕ → List ℕ → List ℕ → Item → Type 0
Placed bought sold flow (Buy k) = k < length bought
Placed bought sold flow (Sell k) = k < length sold
Placed bought sold flow (Line l) = l < length flow

abbrev pub Movable : Outcome → ℕ → Step → Type 0
Movable o d (Forward i) = carried o i + d < 2 ^ 64
Movable o d (Backward i) = d ≤ carried o i
