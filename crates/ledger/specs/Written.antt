-- A ledger on the way: the rows of one sort. Assumes nothing: these are definitions.
--
--   widest s          no row of a sort is larger in size
--   Rows c s n l sum  l begins with the first n rows of a sort; sum is their sum
use Rattle.std.specs.Prelude.{◌≡◌, ℕ, ◌*◌, ◌<◌, ◌≤◌, List, ℤ, unsigned_abs}
use Rattle.std.specs.Int.{w64}
use Rattle.std.proofs.Common.{of_z}
use Rattle.hour.specs.Market.{at}
use Rattle.hour.specs.declared.refusals.Sort.{Sort}
use Rattle.hour.specs.declared.refusals.Sort.TheVariants as sorts
use Rattle.ledger.specs.Cleared.{money_in}
use Rattle.network.specs.Given.{item}
use Rattle.ledger.specs.Money.{sumℤ}
use Rattle.ledger.specs.declared.cleared.Cleared.{Cleared}

abbrev pub widest : Sort → ℕ
widest sorts.Buy = 350_000_000_000
widest sorts.Sell = 350_000_000_000
widest sorts.Line = 400_000_000_000

pub record Rows (c : Cleared) (s : Sort) (n : ℕ) (l : List ℕ) (sum : ℤ) : Type 0 where
  pub rows : (k : ℕ) → k < n → at l k ≡ of_z w64 (money_in c (item s k))
  pub total : sum ≡ sumℤ n (λ k. money_in c (item s k))
  pub small : unsigned_abs sum ≤ n * widest s
