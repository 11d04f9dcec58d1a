-- The best of several. Assumes nothing: these are definitions.
--
--   better beats n o  n beside the best so far
--   best n ok beats   of those below n that are ok, the first that no other beats; nothing if none is ok
--   numbered o        how a table has it: 0 for nothing, else one more than the number
use Rattle.std.specs.Prelude.{ℕ, zero, suc, Bool, cond, Some, None, Option}

abbrev pub better : (ℕ → ℕ → Bool) → ℕ → Option ℕ → Option ℕ
better beats n None = Some n
better beats n (Some k) = cond (beats n k) (Some n) (Some k)

abbrev pub best : ℕ → (ℕ → Bool) → (ℕ → ℕ → Bool) → Option ℕ
best zero ok beats = None
best (suc n) ok beats = cond (ok n) (better beats n (best n ok beats)) (best n ok beats)

abbrev pub numbered : Option ℕ → ℕ
numbered None = 0
numbered (Some k) = suc k
