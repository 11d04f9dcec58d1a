-- What the ledger promises, each a statement whose proof a contract of this crate asks for. Assumes nothing.
--
--   Evens m o ps   the sums of the ledger close, and no line earns less than nothing
--   LedgerEven     in a plain market, what the buyers pay is what the sellers get and what the lines earn, and no line earns less
--                  than nothing
--   Small m o ps   how large rows and sums are
--   SumsSmall      no row is above 400,000,000,000 in size, and every sum is below 400,000,000,000,000
--   WorthsSmall    how large the worth of an outcome is
--   WorthSmall     what is bought, what is sold with what flows cost, and the outcome are each worth at most
--                  400,000,000,000,000 in size
--   SameLedger     two lists agree in every row of a ledger, and are one if they have no more
--   OneLedger      two ledgers of one outcome at the same prices agree in every row, and are one list if they have no more
--   TextSays       the text of a ledger is the text of the outcome, with every money by its definition
use Rattle.std.specs.Prelude.{◌≡◌, ℕ, ◌+◌, ◌<◌, ◌≤◌, List, length, pos, ◌+ℤ◌, ◌≤ℤ◌, unsigned_abs}
use Rattle.hour.specs.Market.{Market, Outcome, Proper, Plain, Feasible, Settled, at, worth, costs}
use Rattle.hour.specs.Rules.{KeepsRules}
use Rattle.hour.specs.declared.refusals.Sort.{Sort}
use Rattle.hour.specs.declared.refusals.Sort.TheVariants as sorts
use Rattle.network.specs.Network.{Among}
use Rattle.hour.specs.declared.items.Item.{Item}
use Rattle.hour.specs.declared.items.Item.TheVariants.{Line}
use Rattle.ledger.specs.Money.{money, sum_of, row_count, worth_by, LedgerOf, Payable}
use Rattle.ledger.specs.Text.{counts_of, text_of, result_of}

pub record Evens (m : Market) (o : Outcome) (ps : List ℕ) : Type 0 where
  pub even : sum_of m o ps sorts.Buy ≡ sum_of m o ps sorts.Sell +ℤ sum_of m o ps sorts.Line
  pub lines : (k : ℕ) → k < length m.lines → pos 0 ≤ℤ money m o ps (Line k)

abbrev pub LedgerEven : Type 0
LedgerEven =
    (m : Market) (o : Outcome) (ps : List ℕ) → Proper m → Plain m → Feasible m o → Settled m o ps → Evens m o ps

pub record Small (m : Market) (o : Outcome) (ps : List ℕ) : Type 0 where
  pub rows : (i : Item) → Among m i → unsigned_abs (money m o ps i) ≤ 400_000_000_000
  pub sums : (s : Sort) → unsigned_abs (sum_of m o ps s) < 400_000_000_000_000

abbrev pub SumsSmall : Type 0
SumsSmall = (m : Market) (o : Outcome) (ps : List ℕ) → KeepsRules m → Payable m o ps → Small m o ps

pub record WorthsSmall (m : Market) (o : Outcome) : Type 0 where
  pub gained : worth m.buys o.bought ≤ 400_000_000_000_000
  pub spent : costs m o ≤ 400_000_000_000_000
  pub whole : unsigned_abs (worth_by m o) ≤ 400_000_000_000_000

abbrev pub WorthSmall : Type 0
WorthSmall = (m : Market) (o : Outcome) → KeepsRules m → Feasible m o → WorthsSmall m o

pub record SameLedger (m : Market) (l l' : List ℕ) : Type 0 where
  pub rows : (k : ℕ) → k < row_count m + 3 → at l k ≡ at l' k
  pub whole : length l ≡ row_count m + 3 → length l' ≡ row_count m + 3 → l ≡ l'

abbrev pub OneLedger : Type 0
OneLedger =
    (m : Market) (o : Outcome) (ps l l' : List ℕ) → LedgerOf m o ps l → LedgerOf m o ps l' → SameLedger m l l'

abbrev pub TextSays : Type 0
TextSays =
    (m : Market) (o : Outcome) (ps l : List ℕ) (pushes : ℕ) → KeepsRules m → Payable m o ps → LedgerOf m o ps l →
    text_of (counts_of m) pushes (worth_by m o) ps o l ≡ result_of m o ps pushes
