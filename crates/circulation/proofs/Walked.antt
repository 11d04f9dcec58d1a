-- A push in place, step by step along a closed way. Assumes nothing.
use Rattle.std.proofs.Common.{◌≡◌, ℕ, ◌<◌, List, ◌∷◌, sym, refl, subst, arith}
use Rattle.std.specs.List.{AllByRecursion}
use Rattle.hour.specs.Market.{Market, Outcome}
use Rattle.network.proofs.Rows.{length_bids_in, length_lines_in}
use Rattle.network.proofs.Ways.{fits_rest}
use Rattle.network.specs.Network.{Among}
use Rattle.network.specs.Ways.{Fits, Once, moved, pushed}
use Rattle.hour.specs.declared.items.Item.{Item}
use Rattle.hour.specs.declared.items.Item.TheVariants.{Buy, Sell, Line}
use Rattle.network.specs.declared.arcs.Step.{Step}
use Rattle.network.specs.declared.arcs.Step.TheVariants.{Forward, Backward}
use Rattle.network.specs.declared.tables.Tables.{Tables}
use Rattle.network.specs.Given.{market_given}
use Rattle.paths.specs.Search.{Bounded, Spaced}
use Rattle.circulation.specs.Pushable.{Placed, Movable}

pub placed :
    (t : Tables) (bought sold flow : List ℕ) → Spaced t bought sold flow → (i : Item) → Among (market_given t) i →
    Placed bought sold flow i
placed t bought sold flow spaced (Buy k) among = omega (arith, spaced.buys, length_bids_in t.buys.now)
placed t bought sold flow spaced (Sell k) among = omega (arith, spaced.sells, length_bids_in t.sells.now)
placed t bought sold flow spaced (Line l) among = omega (arith, spaced.lines, length_lines_in t.lines.now)

-- what fits along a step of the market can be carried
pub movable :
    (t : Tables) (o : Outcome) (d : ℕ) → Bounded t → 0 < d → (s : Step) → Fits (market_given t) o d s → Movable o d s
movable t o d bounded some (Forward i) fits = omega (arith, fits.fits, bounded.capacities i fits.among)
movable t o d bounded some (Backward i) fits = fits.fits

-- so far q is reached along the steps ss: what is left makes of it what all steps make of o, and fits
pub record Walks (m : Market) (d : ℕ) (o : Outcome) (ss : List Step) (q : Outcome) (left : List Step) : Type 0 where
  pub rest : pushed q left d ≡ pushed o ss d
  pub fits : AllByRecursion (Fits m q d) left
  pub once : Once m left

module _ (m : Market) (d : ℕ) (o : Outcome) (ss : List Step) where
  pub walks_start : Once m ss → AllByRecursion (Fits m o d) ss → Walks m d o ss o ss
  walks_start once fits = record { rest = refl; fits = fits; once = once }

  pub walks_fits :
      (q : Outcome) (left : List Step) (s : Step) (left' : List Step) → Walks m d o ss q left → left ≡ s ∷ left' →
      Fits m q d s
  walks_fits q left s left' walks is = (subst (Walks m d o ss q) is walks).fits.0

  pub walks_more :
      (q : Outcome) (left : List Step) (s : Step) (left' : List Step) (q' : Outcome) → Walks m d o ss q left →
      left ≡ s ∷ left' → q' ≡ moved q s d → Walks m d o ss q' left'
  walks_more q left s left' q' walks is moves =
      let here = subst (Walks m d o ss q) is walks in
      subst (λ p. Walks m d o ss p left') (sym moves)
      (record {
        rest = here.rest;
        fits = fits_rest m q d s left' here.once.0 here.fits.1;
        once = here.once.1;
      })

-- what a step of the walk takes
pub ruleset walking = (placed, movable, walks_fits, walks_more)
