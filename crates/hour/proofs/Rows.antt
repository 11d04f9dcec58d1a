-- Laws of `rows`, for every loop that writes a row a turn. Assumes nothing.
use Rattle.std.proofs.Common.{◌≡◌, ℕ, ◌+◌, List, ◌++◌, sym, ap, ◌∙◌, append_assoc, add-one}
use Rattle.hour.specs.Text.{rows}

module _ (f : ℕ → List ℕ) where
  pub rows_more : (n : ℕ) → rows (n + 1) f ≡ rows n f ++ f n
  rows_more n = ap (λ (m : ℕ). rows m f) (add-one n)

  -- a turn that puts the n-th row behind the n rows before it
  pub row_added :
      (start before after : List ℕ) (n : ℕ) → before ≡ start ++ rows n f → after ≡ before ++ f n →
      after ≡ start ++ rows (n + 1) f
  row_added start before after n so_far adds =
      adds ∙ ap (λ (l : List ℕ). l ++ f n) so_far
      ∙ append_assoc start (rows n f) (f n)
      ∙ ap (λ (l : List ℕ). start ++ l) (sym (rows_more n))
