-- The rows of a table, three numbers each: what cutting it gives, and what is read of one. Assumes nothing.
use Rattle.std.proofs.Common.{◌≡◌, ℕ, zero, suc, ◌+◌, ◌*◌, ◌<◌, ◌≤◌, List, [], ◌∷◌, length, get_or, take, drop, map, refl, ap, ap₂, sym, ◌∙◌, arith, length-drop}
use Rattle.std.proofs.lemmas.List.{get_or-drop, drop-drop}
use Rattle.std.proofs.lemmas.List.FromFn.{get_or-map-range_with_len}
use Rattle.std.proofs.Math.ListN.{get_or-map}
use Rattle.std.proofs.lemmas.Simd.{map-map}
use Rattle.std.specs.List.{range_with_len}
use Rattle.std.specs.Simd.{first_chunks}
use Rattle.hour.specs.Market.{at}
use Rattle.network.specs.Tables.{cell, items, triples, rows_in, nth_row, of_numbers}

abbrev row : List ℕ → ℕ → List ℕ
row t k = cell t k 0 ∷ cell t k 1 ∷ cell t k 2 ∷ []

three : (xs : List ℕ) → 3 ≤ length xs → take 3 xs ≡ at xs 0 ∷ at xs 1 ∷ at xs 2 ∷ []
three [] h = absurd (omega arith)
three (x ∷ []) h = absurd (omega arith)
three (x ∷ y ∷ []) h = absurd (omega arith)
three (x ∷ y ∷ z ∷ xs) h = refl

first_row : (t : List ℕ) (k : ℕ) → 3 * k + 3 ≤ length t → take 3 (drop (3 * k) t) ≡ row t k
first_row t k h =
    three (drop (3 * k) t) (omega (arith, length-drop (3 * k) t))
    ∙ (λ i. get_or-drop (3 * k) t 0 0 i ∷ get_or-drop (3 * k) t 1 0 i ∷ get_or-drop (3 * k) t 2 0 i ∷ [])

rows_from :
    (n k : ℕ) (t : List ℕ) → 3 * (k + n) ≤ length t →
    first_chunks 3 n (drop (3 * k) t) ≡ map (row t) (range_with_len k n)
rows_from zero k t h = refl
rows_from (suc n) k t h =
    let next : 3 * k + 3 ≡ 3 * (k + 1) = omega arith in
    ap₂ ◌∷◌ (first_row t k (omega arith))
    (ap (first_chunks 3 n) (drop-drop 3 (3 * k) t ∙ ap (λ (j : ℕ). drop j t) next) ∙ rows_from n (k + 1) t (omega arith))

pub cut_in_triples : (t : List ℕ) → first_chunks 3 (items t) t ≡ triples t
cut_in_triples t = rows_from (items t) 0 t (omega arith)

pub cell_in :
    (t : List ℕ) (k c : ℕ) (d : List ℕ) → k < items t → c < 3 → get_or (get_or (triples t) k d) c 0 ≡ cell t k c
cell_in t k c d below column =
    ap (λ (r : List ℕ). get_or r c 0) (get_or-map-range_with_len (row t) 0 (items t) k k d below (omega arith))
    ∙ of_row c column
  where
    of_row : (c : ℕ) → c < 3 → get_or (row t k) c 0 ≡ cell t k c
    of_row zero h = refl
    of_row (suc zero) h = refl
    of_row (suc (suc zero)) h = refl
    of_row (suc (suc (suc c))) h = absurd (omega arith)

-- what a row says, also past the end of the table, where it has no numbers or three zeros
module _ {A : Type 0} (made : ℕ → ℕ → ℕ → A) (t : List ℕ) (k : ℕ) where
  again : map (of_numbers made) (triples t) ≡ rows_in made t
  again = map-map (of_numbers made) (row t) (range_with_len 0 (items t))

  row_by : (d : List ℕ) → get_or (rows_in made t) k (of_numbers made d) ≡ of_numbers made (get_or (triples t) k d)
  row_by d =
      ap (λ (rs : List A). get_or rs k (of_numbers made d)) (sym again) ∙ get_or-map (of_numbers made) (triples t) k d

  pub row_made :
      (nth_row made t k ≡ of_numbers made (get_or (triples t) k []))
      × (nth_row made t k ≡ of_numbers made (get_or (triples t) k (0 ∷ 0 ∷ 0 ∷ [])))
  row_made = (row_by [], row_by (0 ∷ 0 ∷ 0 ∷ []))
