-- The first number that passes a test. Assumes nothing.
use Rattle.std.proofs.Common.{◌≡◌, ℕ, zero, suc, ◌<◌, ◌≤◌, Bool, true, false, is_some, Some, None, Option, MatchOption, IfSome, sym, refl, ap, ◌∙◌, inl, inr, arith}
use Rattle.std.proofs.lemmas.Bool.{cases_Bool, both_ways}
use Rattle.std.proofs.lemmas.Iterator.{first_from_Range}
use Rattle.std.proofs.iter.Yields.{nat_range_steps}
use Rattle.std.specs.Borrow.{Bor}
use Rattle.std.specs.Fn.{CalledAt}
use Rattle.std.specs.Iterator.{FindsItem}
use Rattle.std.specs.declared.ops.Range.{Range}
use denote.Param.Members.{Mut}
use Rattle.hour.specs.First.{when, ◌else◌, first}
use Rattle.hour.proofs.First.{is_none, when_none, when_false, first_found, first_none, first_all}

module _ (test : ℕ → Bool) where
  -- a loop that stops at the first that passes
  pub first_here :
      (k n : ℕ) → first k (λ j. when (test j) j) ≡ None → k < n → test k ≡ true →
      Some k ≡ first n (λ j. when (test j) j)
  first_here k n none below passes =
      let found : when (test k) k ≡ Some k = ap (λ (b : Bool). when b k) passes in
      sym (first_found (λ j. when (test j) j) k n below none (ap is_some found) ∙ found)

  -- none was found: none passes, and the other way round
  pub none_passes : (n : ℕ) → first n (λ j. when (test j) j) ≡ None → (k : ℕ) → k < n → test k ≡ false
  none_passes n none k below = when_none (test k) k (first_none (λ j. when (test j) j) n none k below)

  pub none_found : (n : ℕ) → ((k : ℕ) → k < n → test k ≡ false) → first n (λ j. when (test j) j) ≡ None
  none_found n none = first_all (λ j. when (test j) j) n (λ k below. when_false (test k) k (none k below))

  -- what a search over 0, 1, .., n - 1 answers
  pub sought :
      {F : Type 0} {g : Mut F (Bor ℕ × Unit {0}) Bool} (n : ℕ) (s u : Range ℕ) (f : F) (r : Option ℕ) → s.start ≡ 0 →
      s.end ≡ n → FindsItem nat_range_steps g s f r u → ((x : ℕ) (q : F) → CalledAt g f x true q → test x ≡ true) →
      ((x : ℕ) (q : F) → CalledAt g f x false q → (q ≡ f) × (test x ≡ false)) → r ≡ first n (λ j. when (test j) j)
  sought n s u f r start end ran hit miss =
      go r (first_from_Range s u f r (λ k. test k ≡ true) (λ k. test k ≡ false) ran hit miss)
    where
      go :
          (r : Option ℕ) →
          MatchOption r ((k : ℕ) → s.start ≤ k → k < s.end → test k ≡ false)
          (λ i. (s.start ≤ i) × (i < s.end) × (test i ≡ true) × ((k : ℕ) → s.start ≤ k → k < i → test k ≡ false)) →
          r ≡ first n (λ j. when (test j) j)
      go None none = sym (none_found n (λ k below. none k (omega arith) (omega arith)))
      go (Some i) there =
          first_here i n (none_found i (λ k below. there.3 k (omega arith) below)) (omega (arith, there.1)) there.2

  -- what was found passes, and is the first
  pub record Found (n k : ℕ) : Type 0 where
    pub below : k < n
    pub passes : test k ≡ true
    pub before : (j : ℕ) → j < k → test j ≡ false

  pub found : (n k : ℕ) → first n (λ j. when (test j) j) ≡ Some k → Found n k
  found zero k some = absurd (cc)
  found (suc n) k some = go (found n k) (first n (λ j. when (test j) j)) refl (test n) refl some
    where
      go :
          (first n (λ j. when (test j) j) ≡ Some k → Found n k) → (earlier : Option ℕ) →
          first n (λ j. when (test j) j) ≡ earlier →
          (here : Bool) → test n ≡ here → (earlier else when here n) ≡ Some k → Found (suc n) k
      go ih (Some j) is here passes some =
          let inner = ih (is ∙ some) in
          record { below = omega (arith, inner.below); passes = inner.passes; before = inner.before }
      go ih None is true passes some =
          let same : n ≡ k = cc in
          record { below = omega arith; passes = rw (← same) passes; before = rw (← same) (none_passes n is) }
      go ih None is false passes some = absurd (cc)

  pub found_below : (n : ℕ) (r : Option ℕ) → r ≡ first n (λ j. when (test j) j) → IfSome r (λ k. k < n)
  found_below n None is = tt
  found_below n (Some k) is = (found n k (sym is)).below

  -- something was found where one passes
  pub some_found : (n k : ℕ) → k < n → test k ≡ true → is_some (first n (λ j. when (test j) j)) ≡ true
  some_found n k below passes =
      elim (cases_Bool (is_some (first n (λ j. when (test j) j)))) [
        | inl some ↦ some
        | inr none ↦ absurd (both_ways (test k) (none_passes n (is_none _ none) k below) passes)
      ]

  pub some_passes : (n : ℕ) → is_some (first n (λ j. when (test j) j)) ≡ true → (k : ℕ) × Found n k
  some_passes n some = go (first n (λ j. when (test j) j)) refl some
    where
      go : (o : Option ℕ) → first n (λ j. when (test j) j) ≡ o → is_some o ≡ true → (k : ℕ) × Found n k
      go None is some = absurd (both_ways false refl some)
      go (Some k) is some = (k, found n k is)
