-- A product of signed numbers of 64 bits, from unsigned ones that are small. Assumes nothing.
use Rattle.std.proofs.Common.{◌≡◌, ℕ, ◌≤◌, ℤ, pos, ◌-ℤ◌, ◌*ℤ◌, ◌∙◌, ap₂, arith, w64, SFits, to_z, of_z}
use mathlib.Core.Path.{subst⁻¹}
use Rattle.std.proofs.lemmas.Int.{to_z-of_z, to_z_pos}
use Rattle.hour.specs.Rules.{max_price, max_amount}
use Rattle.ledger.specs.Money.{owed}
use Rattle.ledger.proofs.Size.{size_between, size_owed, fits_by_size}

module _ (a b x : ℕ) (a_small : a ≤ max_price) (b_small : b ≤ max_price) (x_small : x ≤ max_amount) where
  abbrev pub difference : ℤ
  difference = to_z w64 (of_z w64 (to_z w64 a -ℤ to_z w64 b))

  difference_is : difference ≡ pos a -ℤ pos b
  difference_is =
      ap₂ (λ (p q : ℤ). to_z w64 (of_z w64 (p -ℤ q))) (to_z_pos w64 a (omega arith)) (to_z_pos w64 b (omega arith))
      ∙ to_z-of_z w64 (pos a -ℤ pos b)
      (fits_by_size (pos a -ℤ pos b) (omega (arith, size_between a b max_price a_small b_small)))

  product_is : difference *ℤ to_z w64 x ≡ owed a b x
  product_is = ap₂ ◌*ℤ◌ difference_is (to_z_pos w64 x (omega arith))

  pub owed_fits : SFits w64 (owed a b x)
  owed_fits =
      let between = size_between a b max_price a_small b_small in
      fits_by_size (owed a b x) (omega (arith, size_owed a b x max_price max_amount between x_small))

  pub product_fits : SFits w64 (difference *ℤ to_z w64 x)
  product_fits = subst⁻¹ (SFits w64) product_is owed_fits

  pub product_back : to_z w64 (of_z w64 (difference *ℤ to_z w64 x)) ≡ owed a b x
  product_back = to_z-of_z w64 (difference *ℤ to_z w64 x) product_fits ∙ product_is
