-- How much fits along all steps of a way. Assumes nothing.
use Rattle.std.proofs.Common.{◌≡◌, ℕ, ◌<◌, ◌≤◌, min, List, [], ◌∷◌, sym, refl, arith}
use Rattle.std.specs.List.{AllByRecursion}
use Rattle.std.proofs.ByRecursion.{All-weaker}
use Rattle.hour.specs.Market.{Market, Outcome}
use Rattle.network.specs.Network.{Among}
use Rattle.network.specs.Ways.{item, room, Free, Fits}
use Rattle.network.specs.declared.arcs.Step.{Step}
use Rattle.circulation.specs.Sweep.{bottleneck}

-- Idea: the bottleneck is the least room of all steps, so it is no more than the first and no more than the rest's.
pub fits_below :
    (m : Market) (o : Outcome) (d : ℕ) (ss : List Step) → d ≤ bottleneck m o ss → AllByRecursion (λ s. Among m (item s)) ss →
    AllByRecursion (Fits m o d) ss
fits_below m o d [] le among = tt
fits_below m o d (s ∷ []) le among = (record { among = among.0; fits = le }, tt)
fits_below m o d (s ∷ r ∷ rs) le among =
    (record { among = among.0; fits = omega arith }, fits_below m o d (r ∷ rs) (omega arith) among.1)

pub bottleneck_fits :
    (m : Market) (o : Outcome) (ss : List Step) → AllByRecursion (λ s. Among m (item s)) ss →
    AllByRecursion (Fits m o (bottleneck m o ss)) ss
bottleneck_fits m o ss = fits_below m o (bottleneck m o ss) ss (omega arith)

pub bottleneck_some :
    (m : Market) (o : Outcome) (s : Step) (ss : List Step) → AllByRecursion (Free m o) (s ∷ ss) → 0 < bottleneck m o (s ∷ ss)
bottleneck_some m o s [] free = free.0.room
bottleneck_some m o s (r ∷ rs) free = omega (arith, free.0.room, bottleneck_some m o r rs free.1)

pub free_among :
    (m : Market) (o : Outcome) (ss : List Step) → AllByRecursion (Free m o) ss → AllByRecursion (λ s. Among m (item s)) ss
free_among m o = All-weaker (Free m o) (λ s. Among m (item s)) (λ s free. free.among)

-- so much fits along a step that has been found and all that are left
abbrev narrowed : Market → Outcome → ℕ → List Step → ℕ
narrowed m o least [] = least
narrowed m o least (s ∷ left) = narrowed m o (min least (room m o s)) left

-- the way ss is walked: so much fits along the steps so far, and with those that are left it comes to what fits along all
pub record Narrows (m : Market) (o : Outcome) (ss : List Step) (least : ℕ) (left : List Step) : Type 0 where
  pub all : narrowed m o least left ≡ bottleneck m o ss

module _ (m : Market) (o : Outcome) where
  narrowed_min :
      (least : ℕ) (s : Step) (left : List Step) → min least (bottleneck m o (s ∷ left)) ≡ narrowed m o least (s ∷ left)
  narrowed_min least s [] = refl
  narrowed_min least s (r ∷ left) = omega (arith, narrowed_min (min least (room m o s)) r left)

  narrowed_first : (s : Step) (left : List Step) → narrowed m o (room m o s) left ≡ bottleneck m o (s ∷ left)
  narrowed_first s [] = refl
  narrowed_first s (r ∷ left) = sym (narrowed_min (room m o s) r left)

  module _ (ss : List Step) where
    pub narrows_start :
        (s : Step) (left : List Step) (least : ℕ) → ss ≡ s ∷ left → least ≡ room m o s → Narrows m o ss least left
    narrows_start s left least is room_is = record { all = rw (is, room_is) (narrowed_first s left) }
