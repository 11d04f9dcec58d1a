-- What is written of a cleared hour. Assumes nothing: these are definitions.
--
--   money_in c i      what an item pays, gets or earns there
--   LedgerIn c l      l has the money of each item and the three sums
--   Room c l          a price for each zone, an amount for each bid and line, and a row of l
--   text_in c n       the text of it, after n pushes
--   text_from c n l   the same with each money as the ledger l has it
use Rattle.std.specs.Prelude.{ℕ, ◌≤◌, List, length, ℤ}
use Rattle.hour.specs.declared.items.Item.{Item}
use Rattle.hour.specs.Seen.{market_seen}
use Rattle.network.specs.Given.{outcome_given}
use Rattle.ledger.specs.Money.{money, row_count, worth_by, LedgerOf}
use Rattle.ledger.specs.Text.{counts_of, text_of, result_of}
use Rattle.ledger.specs.declared.cleared.Cleared.{Cleared}

abbrev pub money_in : Cleared → Item → ℤ
money_in c i = money (market_seen c.hour) (outcome_given c.amounts) c.prices.now i

abbrev pub LedgerIn : Cleared → List ℕ → Type 0
LedgerIn c l = LedgerOf (market_seen c.hour) (outcome_given c.amounts) c.prices.now l

pub record Room (c : Cleared) (l : List ℕ) : Type 0 where
  pub prices : (market_seen c.hour).zones ≤ length c.prices.now
  pub bought : length (market_seen c.hour).buys ≤ length c.amounts.bought.now
  pub sold : length (market_seen c.hour).sells ≤ length c.amounts.sold.now
  pub flow : length (market_seen c.hour).lines ≤ length c.amounts.flow.now
  pub ledger : row_count (market_seen c.hour) ≤ length l

abbrev pub text_in : Cleared → ℕ → List ℕ
text_in c n = result_of (market_seen c.hour) (outcome_given c.amounts) c.prices.now n

abbrev pub text_from : Cleared → ℕ → List ℕ → List ℕ
text_from c n l =
    text_of
    (counts_of (market_seen c.hour)) n (worth_by (market_seen c.hour) (outcome_given c.amounts))
    c.prices.now (outcome_given c.amounts) l
