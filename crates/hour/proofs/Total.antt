-- The laws of sums by index. Assumes nothing.
use Rattle.std.proofs.Common.{◌≡◌, ℕ, zero, suc, ◌+◌, ◌*◌, ◌<◌, ◌≤◌, cond, eqb, ◌≢◌, length, get_or, sym, refl, ap, ◌∙◌, inl, inr, mul-zero, mul-add, add-one, arith, eq-eqb, ne_eqb}
use Rattle.std.proofs.lemmas.Bool.{cases_eq}
use Rattle.std.proofs.lemmas.List.FromFn.{length-map-range_with_len, get_or-map-range_with_len}
use Rattle.hour.specs.Listed.{listed}
use Rattle.hour.specs.Total.{total}

pub total_add : (n : ℕ) (f g : ℕ → ℕ) → total n (λ k. f k + g k) ≡ total n f + total n g
total_add zero f g = refl
total_add (suc n) f g = omega (arith, total_add n f g)

pub total_scale : (n c : ℕ) (f : ℕ → ℕ) → total n (λ k. c * f k) ≡ c * total n f
total_scale zero c f = sym (mul-zero c)
total_scale (suc n) c f = omega (arith, total_scale n c f, mul-add c (total n f) (f n))

pub total_same : (n : ℕ) (f g : ℕ → ℕ) → ((k : ℕ) → k < n → f k ≡ g k) → total n f ≡ total n g
total_same zero f g same = refl
total_same (suc n) f g same =
    omega (arith, total_same n f g (λ k l. same k (omega arith)), same n (omega arith))

pub total_le : (n : ℕ) (f g : ℕ → ℕ) → ((k : ℕ) → k < n → f k ≤ g k) → total n f ≤ total n g
total_le zero f g le = omega arith
total_le (suc n) f g le = omega (arith, total_le n f g (λ k l. le k (omega arith)), le n (omega arith))

-- sums that are equal, of parts in order, have equal parts
pub total_tight :
    (n : ℕ) (f g : ℕ → ℕ) → ((k : ℕ) → k < n → f k ≤ g k) → total n g ≤ total n f → (k : ℕ) → k < n → f k ≡ g k
total_tight zero f g le sums k l = omega arith
total_tight (suc n) f g le sums k l =
    let below = total_le n f g (λ j h. le j (omega arith)) in
    let here = le n (omega arith) in
    let rest : total n g ≤ total n f = omega arith in
    let last : f n ≡ g n = omega arith in
    let earlier : k < n → f k ≡ g k = total_tight n f g (λ j h. le j (omega arith)) rest k in
    elim (cases_eq k n) [ inl e ↦ ap f e ∙ last ∙ sym (ap g e) | inr ne ↦ earlier (omega arith) ]

pub total_none : (n : ℕ) → total n (λ k. 0) ≡ 0
total_none zero = refl
total_none (suc n) = omega (arith, total_none n)

-- two sums change places
pub total_total :
    (n m : ℕ) (f : ℕ → ℕ → ℕ) → total n (λ i. total m (λ j. f i j)) ≡ total m (λ j. total n (λ i. f i j))
total_total zero m f = sym (total_none m)
total_total (suc n) m f =
    omega (arith, total_total n m f, total_add m (λ j. total n (λ i. f i j)) (λ j. f n j))

-- one part changed
pub total_change :
    (n k : ℕ) (f g : ℕ → ℕ) → k < n → ((j : ℕ) → j ≢ k → g j ≡ f j) → total n g + f k ≡ total n f + g k
total_change zero k f g l others = omega arith
total_change (suc n) k f g l others =
    elim (cases_eq k n) [
      | inl e ↦
          let same = total_same n g f (λ j h. others j (omega arith)) in
          omega (arith, ap f e, ap g e)
      | inr ne ↦ omega (arith, total_change n k f g (omega arith) others, others n (omega arith))
    ]

-- a number picked out by its place
pub total_pick : (n k : ℕ) (f : ℕ → ℕ) → k < n → total n (λ j. cond (eqb k j) (f j) 0) ≡ f k
total_pick n k f l =
    let here : cond (eqb k k) (f k) 0 ≡ f k = rw (eq-eqb k k refl) in
    let others : (j : ℕ) → j ≢ k → cond (eqb k j) (f j) 0 ≡ 0 = λ j ne. rw (ne_eqb k j (λ e. ne (sym e))) in
    omega (arith, total_change n k (λ j. 0) (λ j. cond (eqb k j) (f j) 0) l others, total_none n)

-- one more, as a loop has it
pub total_more : (n : ℕ) (f : ℕ → ℕ) → total (n + 1) f ≡ total n f + f n
total_more n f = rw add-one

-- a part is no more than the whole
pub total_part : (k n : ℕ) (f : ℕ → ℕ) → k ≤ n → total k f ≤ total n f
total_part k zero f h =
    let none : k ≡ 0 = omega arith in
    omega (arith, ap (λ j. total j f) none)
total_part k (suc n) f h =
    elim (cases_eq k (suc n))
    [ inl e ↦ omega (arith, ap (λ j. total j f) e) | inr ne ↦ omega (arith, total_part k n f (omega arith)) ]

-- a sum over a list that is made by its places
pub total_listed :
    {A : Type 0} (n : ℕ) (f : ℕ → A) (d : A) (h : ℕ → A → ℕ) →
    total (length (listed n f)) (λ k. h k (get_or (listed n f) k d)) ≡ total n (λ k. h k (f k))
total_listed n f d h =
    ap (λ j. total j (λ k. h k (get_or (listed n f) k d))) (length-map-range_with_len f 0 n)
    ∙ total_same n _ _ (λ k l. ap (h k) (get_or-map-range_with_len f 0 n k k d l (omega arith)))
