-- Closed ways that avoid the hub neither cost nor gain anything. Assumes nothing.
use Rattle.std.proofs.Common.{◌≡◌, ℕ, ◌≢◌, List, [], ◌∷◌, sym, refl, ◌∙◌, arith}
use Rattle.std.specs.List.{AllByRecursion}
use Rattle.hour.specs.Market.{Market, Plain}
use Rattle.network.specs.Network.{hub}
use Rattle.network.specs.Ways.{start, finish, Links, way_cost, way_gain}
use Rattle.hour.specs.declared.items.Item.TheVariants.{Buy, Sell, Line}
use Rattle.network.specs.declared.arcs.Step.{Step}
use Rattle.network.specs.declared.arcs.Step.TheVariants.{Forward, Backward}
use Rattle.network.proofs.Plain.{line_cost}
use Rattle.paths.specs.Promises.{RingsEven}

abbrev Avoids : Market → List Step → Type 0
Avoids m ss = AllByRecursion (λ s. start m s ≢ hub m) ss

-- a way from the hub leaves it, unless it ends there
from_hub : (m : Market) (ss : List Step) (b : ℕ) → Links m (hub m) ss b → Avoids m ss → b ≢ hub m → ⊥
from_hub m [] b links avoids off = off (sym links)
from_hub m (s ∷ ss) b links avoids off = avoids.0 links.0

-- Idea: a step along a bid begins or ends at the hub; so there are only lines, and these cost and gain nothing.
even_off_hub :
    (m : Market) → Plain m → (a : ℕ) (ss : List Step) (b : ℕ) → Links m a ss b → Avoids m ss → b ≢ hub m →
    (way_gain m ss ≡ 0) × (way_cost m ss ≡ 0)
even_off_hub m plain a [] b links avoids off = (refl, refl)
even_off_hub m plain a (Forward (Line l) ∷ ss) b links avoids off =
    omega (arith, even_off_hub m plain (finish m (Forward (Line l))) ss b links.1 avoids.1 off, line_cost m plain l)
even_off_hub m plain a (Backward (Line l) ∷ ss) b links avoids off =
    omega (arith, even_off_hub m plain (finish m (Backward (Line l))) ss b links.1 avoids.1 off, line_cost m plain l)
even_off_hub m plain a (Forward (Buy k) ∷ ss) b links avoids off = absurd (from_hub m ss b links.1 avoids.1 off)
even_off_hub m plain a (Backward (Sell k) ∷ ss) b links avoids off = absurd (from_hub m ss b links.1 avoids.1 off)
even_off_hub m plain a (Backward (Buy k) ∷ ss) b links avoids off = absurd (avoids.0 refl)
even_off_hub m plain a (Forward (Sell k) ∷ ss) b links avoids off = absurd (avoids.0 refl)

pub rings_even : RingsEven
rings_even m a [] plain links avoids = (refl, refl)
rings_even m a (s ∷ ss) plain links avoids =
    even_off_hub m plain a (s ∷ ss) a links avoids (λ e. avoids.0 (links.0 ∙ e))
