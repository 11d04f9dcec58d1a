-- How large signed sums and products are. Assumes nothing.
use Rattle.std.proofs.Common.{◌≡◌, ℕ, zero, suc, ◌+◌, ◌*◌, ◌^◌, ◌<◌, ◌≤◌, ℤ, pos, negsuc, ◌+ℤ◌, ◌-ℤ◌, ◌*ℤ◌, neg_ℤ, nat_abs, refl, ap, ◌∙◌, ap₂, mul-le-mul, arith, w64, SFits, to_z, of_z}
use mathlib.Core.Path.{subst⁻¹}
use borrow.Author.Differences.{ints}
use Rattle.std.proofs.lemmas.Int.{to_z-of_z, of_z-to_z}
use Rattle.ledger.specs.Money.{owed}

size_neg : (z : ℤ) → nat_abs (neg_ℤ z) ≡ nat_abs z
size_neg (pos zero) = refl
size_neg (pos (suc n)) = refl
size_neg (negsuc n) = refl

pub size_mul : (a b : ℤ) → nat_abs (a *ℤ b) ≡ nat_abs a * nat_abs b
size_mul (pos a) (pos b) = refl
size_mul (pos a) (negsuc b) = size_neg (pos (a * suc b))
size_mul (negsuc a) (pos b) = size_neg (pos (suc a * b))
size_mul (negsuc a) (negsuc b) = refl

pub size_add : (a b : ℤ) → nat_abs (a +ℤ b) ≤ nat_abs a + nat_abs b
size_add a b = omega (arith, ints)

-- of two numbers from 0 to c, neither is more than c from the other
pub size_between : (a b c : ℕ) → a ≤ c → b ≤ c → nat_abs (pos a -ℤ pos b) ≤ c
size_between a b c la lb = omega (arith, ints)

pub size_owed : (a b x c d : ℕ) → nat_abs (pos a -ℤ pos b) ≤ c → x ≤ d → nat_abs (owed a b x) ≤ c * d
size_owed a b x c d between amount = rw (size_mul (pos a -ℤ pos b) (pos x)) (mul-le-mul between amount)

pub fits_by_size : (z : ℤ) → nat_abs z < 2 ^ 63 → SFits w64 z
fits_by_size z small = omega (arith, ints)

-- what is passed on by its bits
pub number_back : (z : ℤ) → nat_abs z < 2 ^ 63 → to_z w64 (of_z w64 z) ≡ z
number_back z small = to_z-of_z w64 z (fits_by_size z small)

pub bits_back : (z : ℤ) → nat_abs z < 2 ^ 63 → of_z w64 (to_z w64 (of_z w64 z)) ≡ of_z w64 z
bits_back z small = ap (of_z w64) (number_back z small)

-- a running sum in the bits of a variable, and what is added to it
module _ (bits : ℕ) (sum more : ℤ) (is : to_z w64 bits ≡ sum) (small : nat_abs sum + nat_abs more < 2 ^ 63) where
  abbrev pub machine_sum : ℤ
  machine_sum = to_z w64 bits +ℤ to_z w64 (of_z w64 more)

  machine_sum_is : machine_sum ≡ sum +ℤ more
  machine_sum_is = ap₂ ◌+ℤ◌ is (number_back more (omega arith))

  pub sum_fits : SFits w64 machine_sum
  sum_fits =
      subst⁻¹ (SFits w64) machine_sum_is (fits_by_size (sum +ℤ more) (omega (arith, size_add sum more)))

  pub sum_back : to_z w64 (of_z w64 machine_sum) ≡ sum +ℤ more
  sum_back = to_z-of_z w64 machine_sum sum_fits ∙ machine_sum_is

-- a number read from its bits, and passed on
pub read_back : (n : ℕ) (z : ℤ) → n < 2 ^ 64 → z ≡ to_z w64 n → to_z w64 (of_z w64 z) ≡ to_z w64 n
read_back n z fits is = ap (λ (x : ℤ). to_z w64 (of_z w64 x)) is ∙ ap (to_z w64) (of_z-to_z w64 n fits)
