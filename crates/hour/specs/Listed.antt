-- A list by its places. Assumes nothing: this is a definition.
--
--   listed n f   f 0, f 1, .., f (n - 1)
use Rattle.std.specs.Prelude.{ℕ, List, map}
use Rattle.std.specs.List.{range_with_len}

abbrev pub listed : {A : Type 0} → ℕ → (ℕ → A) → List A
listed n f = map f (range_with_len 0 n)
