-- The first fault of several. Assumes nothing: these are definitions.
--
--   when t x      x where the test t holds, else nothing
--   o else p      what o has, or else what p has
--   first n f     the first that f finds among 0, 1, .., n - 1
use Rattle.std.specs.Prelude.{ℕ, zero, suc, Bool, true, false, Some, None, Option}

infixr 20 ◌else◌
abbrev pub when : {A : Type 0} → Bool → A → Option A
when true x = Some x
when false x = None

abbrev pub ◌else◌ : {A : Type 0} → Option A → Option A → Option A
None else p = p
(Some x) else p = Some x

abbrev pub first : {A : Type 0} → ℕ → (ℕ → Option A) → Option A
first zero f = None
first (suc n) f = first n f else f n
