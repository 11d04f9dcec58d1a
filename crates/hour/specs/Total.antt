-- Sums by index. Assumes nothing: these are definitions.
--
--   total n f          f 0 + f 1 + .. + f (n - 1)
--   tagged n key v f   the same, of only those k whose key k is v
use Rattle.std.specs.Prelude.{ℕ, zero, suc, ◌+◌, cond, ◌==◌}

abbrev pub total : ℕ → (ℕ → ℕ) → ℕ
total zero f = 0
total (suc n) f = total n f + f n

abbrev pub tagged : ℕ → (ℕ → ℕ) → ℕ → (ℕ → ℕ) → ℕ
tagged n key v f = total n (λ k. cond (key k == v) (f k) 0)
