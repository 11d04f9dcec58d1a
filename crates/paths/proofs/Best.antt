-- Laws of `best`: what it gives. Assumes nothing.
--
--   Strict beats           nobody beats himself; who does not beat k does not beat one who beats k
--   Chosen n ok beats k    k is below n and ok, and nobody below n who is ok beats k
use Rattle.std.proofs.Common.{◌≡◌, ℕ, zero, suc, ◌<◌, Bool, true, false, cond, ltb, Some, None, Option, sym, refl, ap, ◌∙◌, subst, inl, inr, arith}
use Rattle.std.proofs.lemmas.Bool.{cases_eq, both_ways, ltb-true, ltb-false, le-ltb}
use Rattle.hour.specs.First.{when, ◌else◌, first}
use Rattle.hour.proofs.First.{when_none, first_none}
use Rattle.paths.specs.Best.{better, best}

pub record Strict (beats : ℕ → ℕ → Bool) : Type 0 where
  pub self : (k : ℕ) → beats k k ≡ false
  pub over : (j k n : ℕ) → beats j k ≡ false → beats n k ≡ true → beats j n ≡ false

-- a higher number beats, or a lower one
pub strict_higher : (key : ℕ → ℕ) → Strict (λ j k. ltb (key k) (key j))
strict_higher key =
    record {
      self = λ k. le-ltb (key k) (key k) (omega arith);
      over = λ j k n not_j yes_n.
          le-ltb (key n) (key j)
          (omega (arith, ltb-false (key k) (key j) not_j, ltb-true (key k) (key n) yes_n));
    }

pub strict_lower : (key : ℕ → ℕ) → Strict (λ j k. ltb (key j) (key k))
strict_lower key =
    record {
      self = λ k. le-ltb (key k) (key k) (omega arith);
      over = λ j k n not_j yes_n.
          le-ltb (key j) (key n)
          (omega (arith, ltb-false (key j) (key k) not_j, ltb-true (key n) (key k) yes_n));
    }

pub record Chosen (n : ℕ) (ok : ℕ → Bool) (beats : ℕ → ℕ → Bool) (k : ℕ) : Type 0 where
  pub below : k < n
  pub fit : ok k ≡ true
  pub unbeaten : (j : ℕ) → j < n → ok j ≡ true → beats j k ≡ false

-- what `best` gives
abbrev Gives : ℕ → (ℕ → Bool) → (ℕ → ℕ → Bool) → Option ℕ → Type 0
Gives n ok beats None = (j : ℕ) → j < n → ok j ≡ false
Gives n ok beats (Some k) = Chosen n ok beats k

-- Idea: a newcomer who beats the chosen one is beaten by nobody whom the chosen one kept off.
module _ (ok : ℕ → Bool) (beats : ℕ → ℕ → Bool) (strict : Strict beats) where
  more_skipped : (n : ℕ) (r : Option ℕ) → Gives n ok beats r → ok n ≡ false → Gives (suc n) ok beats r
  more_skipped n None none off = λ j below.
      elim (cases_eq j n) [ inl e ↦ ap ok e ∙ off | inr ne ↦ none j (omega arith) ]
  more_skipped n (Some k) chosen off =
      record {
        below = omega (arith, chosen.below);
        fit = chosen.fit;
        unbeaten = λ j below on. elim (cases_eq j n) [
          | inl e ↦ absurd (both_ways (ok j) (ap ok e ∙ off) on)
          | inr ne ↦ chosen.unbeaten j (omega arith) on
        ];
      }

  more_compared : (n k : ℕ) (t : Bool) → Chosen n ok beats k → ok n ≡ true → beats n k ≡ t →
      Gives (suc n) ok beats (cond t (Some n) (Some k))
  more_compared n k true chosen on beaten =
      record {
        below = omega arith;
        fit = on;
        unbeaten = λ j below fit. elim (cases_eq j n) [
          | inl e ↦ ap (λ x. beats x n) e ∙ strict.self n
          | inr ne ↦ strict.over j k n (chosen.unbeaten j (omega arith) fit) beaten
        ];
      }
  more_compared n k false chosen on beaten =
      record {
        below = omega (arith, chosen.below);
        fit = chosen.fit;
        unbeaten = λ j below fit. elim (cases_eq j n) [
          | inl e ↦ ap (λ x. beats x k) e ∙ beaten
          | inr ne ↦ chosen.unbeaten j (omega arith) fit
        ];
      }

  more_taken : (n : ℕ) (r : Option ℕ) → Gives n ok beats r → ok n ≡ true → Gives (suc n) ok beats (better beats n r)
  more_taken n None none on =
      record {
        below = omega arith;
        fit = on;
        unbeaten = λ j below fit. elim (cases_eq j n) [
          | inl e ↦ ap (λ x. beats x n) e ∙ strict.self n
          | inr ne ↦ absurd (both_ways (ok j) (none j (omega arith)) fit)
        ];
      }
  more_taken n (Some k) chosen on = more_compared n k (beats n k) chosen on refl

  gives_more : (n : ℕ) (t : Bool) (r : Option ℕ) → ok n ≡ t → Gives n ok beats r →
      Gives (suc n) ok beats (cond t (better beats n r) r)
  gives_more n true r on given = more_taken n r given on
  gives_more n false r off given = more_skipped n r given off

  pub best_gives : (n : ℕ) → Gives n ok beats (best n ok beats)
  best_gives zero = λ j below. absurd (omega arith)
  best_gives (suc n) = gives_more n (ok n) (best n ok beats) refl (best_gives n)

  pub best_some : (n k : ℕ) → best n ok beats ≡ Some k → Chosen n ok beats k
  best_some n k some = subst (Gives n ok beats) some (best_gives n)

  pub best_none : (n : ℕ) → best n ok beats ≡ None → (j : ℕ) → j < n → ok j ≡ false
  best_none n none = subst (Gives n ok beats) none (best_gives n)

  -- one who is ok is enough for a best
  pub best_found : (n j : ℕ) → j < n → ok j ≡ true → (k : ℕ) × (best n ok beats ≡ Some k)
  best_found n j below on = go (best n ok beats) refl
    where
      go : (r : Option ℕ) → best n ok beats ≡ r → (k : ℕ) × (best n ok beats ≡ Some k)
      go None none = absurd (both_ways (ok j) (best_none n none j below) on)
      go (Some k) some = (k, some)

-- what `first` finds by a test
pub record Passing (n : ℕ) (test : ℕ → Bool) (k : ℕ) : Type 0 where
  pub below : k < n
  pub passes : test k ≡ true

module _ (test : ℕ → Bool) where
  abbrev find : ℕ → Option ℕ
  find k = when (test k) k

  passing_more :
      (n : ℕ) (r : Option ℕ) (t : Bool) (k : ℕ) → (r ≡ Some k → Passing n test k) → test n ≡ t →
      (r else when t n) ≡ Some k → Passing (suc n) test k
  passing_more n (Some j) t k earlier here some =
      let found = earlier some in
      record { below = omega (arith, found.below); passes = found.passes }
  passing_more n None true k earlier here some =
      let same : n ≡ k = cc in
      record { below = omega arith; passes = ap test (sym same) ∙ here }
  passing_more n None false k earlier here some = let never : ◌≡◌ {A = ℕ} 0 1 = cc in absurd (omega arith)

  pub first_passing : (n k : ℕ) → first n find ≡ Some k → Passing n test k
  first_passing zero k some = let never : ◌≡◌ {A = ℕ} 0 1 = cc in absurd (omega arith)
  first_passing (suc n) k some = passing_more n (first n find) (test n) k (first_passing n k) refl some

  pub first_passes : (n j : ℕ) → j < n → test j ≡ true → (k : ℕ) × (first n find ≡ Some k)
  first_passes n j below on = go (first n find) refl
    where
      go : (r : Option ℕ) → first n find ≡ r → (k : ℕ) × (first n find ≡ Some k)
      go None none = absurd (both_ways (test j) (when_none (test j) j (first_none find n none j below)) on)
      go (Some k) some = (k, some)
