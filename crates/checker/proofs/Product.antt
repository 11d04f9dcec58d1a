-- A product of signed numbers of 128 bits, from unsigned ones of 64 bits, one of them small. Assumes nothing.
use Rattle.std.proofs.Common.{◌≡◌, ℕ, ◌^◌, ◌<◌, ◌≤◌, ℤ, pos, ◌-ℤ◌, ◌*ℤ◌, nat_abs, ap, ◌∙◌, arith, SFits, to_z, of_z}
use mathlib.Core.Path.{subst⁻¹}
use borrow.Author.Differences.{ints}
use mir.Syntax.{w128}
use Rattle.std.proofs.lemmas.Int.{to_z-of_z}
use Rattle.hour.specs.Rules.{max_amount}
use Rattle.ledger.specs.Money.{owed}
use Rattle.ledger.proofs.Size.{size_between, size_owed}
use Rattle.checker.specs.Reading.{largest}

fits_wide : (z : ℤ) → nat_abs z < 2 ^ 127 → SFits w128 z
fits_wide z small = omega (arith, ints)

module _ (a b x : ℕ) (a_small : a < 2 ^ 64) (b_small : b < 2 ^ 64) (x_small : x ≤ max_amount) where
  between : nat_abs (pos a -ℤ pos b) ≤ largest
  between = size_between a b largest (omega arith) (omega arith)

  abbrev pub difference : ℤ
  difference = to_z w128 (of_z w128 (pos a -ℤ pos b))

  difference_is : difference ≡ pos a -ℤ pos b
  difference_is = to_z-of_z w128 (pos a -ℤ pos b) (fits_wide (pos a -ℤ pos b) (omega (arith, between)))

  product_is : difference *ℤ pos x ≡ owed a b x
  product_is = ap (λ (d : ℤ). d *ℤ pos x) difference_is

  owed_fits : SFits w128 (owed a b x)
  owed_fits = fits_wide (owed a b x) (omega (arith, size_owed a b x largest max_amount between x_small))

  pub product_fits : SFits w128 (difference *ℤ pos x)
  product_fits = subst⁻¹ (SFits w128) product_is owed_fits

  pub product_back : to_z w128 (of_z w128 (difference *ℤ pos x)) ≡ owed a b x
  product_back = to_z-of_z w128 (difference *ℤ pos x) product_fits ∙ product_is
