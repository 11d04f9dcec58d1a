-- Keys of labels, by which raising labels comes to an end. Assumes nothing: these are definitions.
--
--   key                  one number for a label: worth counts first, then how few lines
--   keys                 all keys of n zones together; every raise adds to it
--   higher               how many of n keys are higher than a given one
--   Raises worth far v w zone w, over one line more, is better than what zone v has
--   Keyed n top          no label is worth more than top, and each zone's way has at most as many lines as there are
--                        zones with a higher key; so no way has n lines
--   left                 what the keys have yet to grow at most
use Rattle.std.specs.Prelude.{◌≡◌, ℕ, ◌+◌, ◌-◌, ◌*◌, ◌<◌, ◌≤◌, cond, ◌⊎◌, List, length, nat_lt}
use Rattle.hour.specs.Market.{at}
use Rattle.hour.specs.Total.{total}

abbrev pub key : ℕ → List ℕ → List ℕ → ℕ → ℕ
key n worth far v = at worth v * (n + 1) + (n - at far v)

abbrev pub keys : ℕ → List ℕ → List ℕ → ℕ
keys n worth far = total n (key n worth far)

abbrev pub higher : ℕ → (ℕ → ℕ) → ℕ → ℕ
higher n f x = total n (λ u. cond (nat_lt x (f u)) 1 0)

abbrev pub Raises : List ℕ → List ℕ → ℕ → ℕ → Type 0
Raises worth far v w =
    (at worth v < at worth w) ⊎ ((at worth v ≡ at worth w) × (at far w + 1 < at far v))

pub record Keyed (n top : ℕ) (worth far : List ℕ) : Type 0 where
  pub worth_long : length worth ≡ n
  pub far_long : length far ≡ n
  pub most : (v : ℕ) → v < n → at worth v ≤ top
  pub passed : (v : ℕ) → v < n → at far v ≤ higher n (key n worth far) (key n worth far v)

abbrev pub left : ℕ → ℕ → List ℕ → List ℕ → ℕ
left n top worth far = n * ((top + 1) * (n + 1)) - keys n worth far
