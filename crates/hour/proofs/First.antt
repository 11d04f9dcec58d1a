-- Laws of `first`, for every loop that looks for the first fault. Assumes nothing.
use Rattle.std.proofs.Common.{◌≡◌, ℕ, zero, suc, ◌+◌, ◌<◌, ◌≤◌, Bool, true, false, is_some, Some, None, Option, sym, refl, ap, ◌∙◌, ap₂, ⊎_elim, add-one, arith}
use Rattle.std.proofs.lemmas.Bool.{cases_lt, both_ways}
use Rattle.hour.specs.First.{when, ◌else◌, first}

module _ {A : Type 0} where
  pub is_none : (o : Option A) → is_some o ≡ false → o ≡ None
  is_none None none = refl
  is_none (Some x) none = absurd (both_ways true none refl)

  pub else_some : (o p : Option A) → is_some o ≡ true → (o else p) ≡ o
  else_some None p some = absurd (both_ways false refl some)
  else_some (Some x) p some = refl

  pub else_none : (o p : Option A) → o ≡ None → (o else p) ≡ p
  else_none o p none = ap (λ (q : Option A). q else p) none

  -- nothing in the whole is nothing in either part
  pub else_none_left : (o p : Option A) → (o else p) ≡ None → o ≡ None
  else_none_left None p none = refl
  else_none_left (Some x) p none = none

  pub else_none_right : (o p : Option A) → (o else p) ≡ None → p ≡ None
  else_none_right None p none = none
  else_none_right (Some x) p none = absurd (both_ways true (ap is_some none) refl)

  pub when_none : (t : Bool) (x : A) → when t x ≡ None → t ≡ false
  when_none false x none = refl
  when_none true x none = absurd (both_ways true (ap is_some none) refl)

  pub when_false : (t : Bool) (x : A) → t ≡ false → when t x ≡ None
  when_false t x no_fault = ap (λ (b : Bool). when b x) no_fault

module _ {A : Type 0} (f : ℕ → Option A) where
  -- one more that finds nothing
  pub first_more : (n : ℕ) → first n f ≡ None → f n ≡ None → first (n + 1) f ≡ None
  first_more n none here = rw add-one (else_none (first n f) (f n) none ∙ here)

  -- the first find is the answer, however many follow
  pub first_found : (k n : ℕ) → k < n → first k f ≡ None → is_some (f k) ≡ true → first n f ≡ f k
  first_found k zero below none some = absurd (omega arith)
  first_found k (suc n) below none some =
      ⊎_elim
      (λ (lt : k < n).
      let found = first_found k n lt none some in
      else_some (first n f) (f n) (ap is_some found ∙ some) ∙ found)
      (λ (le : n ≤ k). let same : k ≡ n = omega arith in rw (← same) (else_none (first k f) (f k) none))
      (cases_lt k n)

  -- a loop that stops at its first find r
  pub first_answer :
      (k n : ℕ) (r : Option A) → k < n → first k f ≡ None → r ≡ f k → is_some r ≡ true → r ≡ first n f
  first_answer k n r below none here some = here ∙ sym (first_found k n below none (ap is_some (sym here) ∙ some))

  -- the same for a loop that leaves with what it finds
  pub first_some : (k n : ℕ) (x : A) → k < n → first k f ≡ None → f k ≡ Some x → first n f ≡ Some x
  first_some k n x below none here = first_found k n below none (ap is_some here) ∙ here

  -- nothing was found: nothing is there to find
  pub first_none : (n : ℕ) → first n f ≡ None → (k : ℕ) → k < n → f k ≡ None
  first_none zero none k below = absurd (omega arith)
  first_none (suc n) none k below =
      ⊎_elim
      (λ (lt : k < n). first_none n (else_none_left (first n f) (f n) none) k lt)
      (λ (le : n ≤ k). let same : k ≡ n = omega arith in rw same (else_none_right (first n f) (f n) none))
      (cases_lt k n)

  pub first_all : (n : ℕ) → ((k : ℕ) → k < n → f k ≡ None) → first n f ≡ None
  first_all zero none = refl
  first_all (suc n) none =
      else_none (first n f) (f n) (first_all n (λ k below. none k (omega arith))) ∙ none n (omega arith)

module _ {A : Type 0} (f g : ℕ → Option A) where
  pub first_same : (n : ℕ) → ((k : ℕ) → k < n → f k ≡ g k) → first n f ≡ first n g
  first_same zero same = refl
  first_same (suc n) same =
      ap₂ ◌else◌ (first_same n (λ k below. same k (omega arith))) (same n (omega arith))
