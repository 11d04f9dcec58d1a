-- What clearing promises, each a statement whose proof a contract of this crate asks for. Assumes nothing.
--
--   FoundPromised    in a plain market, what is found can be carried out and is settled by its prices; no list that settles any
--                    outcome that can be carried out is lower in any zone; no outcome that can be carried out is worth more;
--                    nobody would rather have another amount; every push kept all that and raised the value, so that there are
--                    not many
--   SomethingFound   a count, an outcome and prices that are found of a market
--   AlwaysFound      for every proper and plain market something is found
--   SameFound        two counts, two outcomes and two lists of prices are the same
--   OneFound         and it is one: the count, the outcome and the prices
--   SameTablesAnswer two answers are the same, and so is what they leave in the lent slices
--   OneTablesAnswer  two answers to the same tables and the same lent slices, with all numbers that they leave, are the same
use Rattle.std.specs.Prelude.{◌≡◌, ℕ, List, Result}
use Rattle.hour.specs.Market.{Market, Outcome, Proper, Plain}
use Rattle.hour.specs.declared.refusals.Refusal.{Refusal}
use Rattle.prices.specs.Ended.{Lent, TablesAnswer}
use Rattle.prices.specs.Found.{Found, Promised}

abbrev pub FoundPromised : Type 0
FoundPromised =
    (m : Market) (n : ℕ) (o : Outcome) (ps : List ℕ) → Proper m → Plain m → Found m n o ps → Promised m n o ps

pub record SomethingFound (m : Market) : Type 0 where
  pub count : ℕ
  pub outcome : Outcome
  pub prices : List ℕ
  pub found : Found m count outcome prices

abbrev pub AlwaysFound : Type 0
AlwaysFound = (m : Market) → Proper m → Plain m → SomethingFound m

pub record SameFound (n j : ℕ) (o p : Outcome) (ps qs : List ℕ) : Type 0 where
  pub count : n ≡ j
  pub outcome : o ≡ p
  pub prices : ps ≡ qs

abbrev pub OneFound : Type 0
OneFound =
    (m : Market) (n j : ℕ) (o p : Outcome) (ps qs : List ℕ) → Proper m → Found m n o ps → Found m j p qs →
    SameFound n j o p ps qs

pub record SameTablesAnswer (r s : Result ℕ Refusal) (new other : Lent) : Type 0 where
  pub answer : r ≡ s
  pub slices : new ≡ other

abbrev pub OneTablesAnswer : Type 0
OneTablesAnswer =
    (zones : ℕ) (buys sells lines : List ℕ) (old new other : Lent) (r s : Result ℕ Refusal) →
    TablesAnswer zones buys sells lines old r new → TablesAnswer zones buys sells lines old s other →
    SameTablesAnswer r s new other
