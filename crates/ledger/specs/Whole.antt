-- What the entry on bytes promises as a whole. Each is a statement whose proof a contract of this crate asks for.
-- Assumes nothing.
--
--   SameAnswer      two answers are the same, and so is what they leave in slices
--   OneAnswer       two answers to the same bytes, with all numbers that they leave in slices, are the same
--   Promise r m ..  the whole promise of the answer r to an hour that says the market m
--   WholePromise    what is left of an hour that was cleared keeps the whole promise, from its bytes to its ledger
--   Enough m ..     lengths of lent slices that are enough for a market
--   AlwaysCleared   an hour that keeps the rules, with enough lent, is never refused
--   OneText         what is published of bytes is one text
use Rattle.std.specs.Prelude.{◌≡◌, ℕ, ◌+◌, ◌*◌, ◌≤◌, List, length, None, Result}
use Rattle.hour.specs.Bytes.{market_of, bytes_of}
use Rattle.hour.specs.Market.{Market}
use Rattle.hour.specs.Rules.{KeepsRules}
use Rattle.hour.specs.declared.rules.Lengths.{Lengths}
use Rattle.hour.specs.declared.refusals.Refusal.{Refusal}
use Rattle.ledger.specs.Entry.{Slices, Answer, hour_fault, CarriedOut, SettledBy, LowestPrices, BestWorth}
use Rattle.ledger.specs.Entry.{NobodyRegrets, Counted, Booked, SmallMoney, MoneyRead, Closed}
use Rattle.ledger.specs.Money.{row_count}
use Rattle.ledger.specs.Published.{Published}

pub record SameAnswer (r s : Result ℕ Refusal) (new other : Slices) : Type 0 where
  pub answer : r ≡ s
  pub slices : new ≡ other

abbrev pub OneAnswer : Type 0
OneAnswer =
    (bs : List ℕ) (old new other : Slices) (r s : Result ℕ Refusal) → Answer bs old r new → Answer bs old s other →
    SameAnswer r s new other

pub record Promise (r : Result ℕ Refusal) (m : Market) (new : Slices) : Type 0 where
  pub carried_out : CarriedOut r m new.bought new.sold new.flow
  pub settled : SettledBy r m new.bought new.sold new.flow new.price
  pub lowest : LowestPrices r m new.price
  pub no_regret : NobodyRegrets r m new.bought new.sold new.flow new.price
  pub best : BestWorth r m new.bought new.sold new.flow
  pub rows : Booked r m new.bought new.sold new.flow new.price new.ledger
  pub small : SmallMoney r m new.bought new.sold new.flow new.price
  pub read : MoneyRead r m new.bought new.sold new.flow new.price new.ledger
  pub even : Closed r m new.bought new.sold new.flow new.price
  pub pushes : Counted r m new.bought new.sold new.flow

abbrev pub WholePromise : Type 0
WholePromise =
    (bs : List ℕ) (old new : Slices) (r : Result ℕ Refusal) → Answer bs old r new → Promise r (market_of bs) new

pub record Enough (m : Market) (has : Lengths) (ledger work : ℕ) : Type 0 where
  pub bought : length m.buys ≤ has.bought
  pub sold : length m.sells ≤ has.sold
  pub flow : length m.lines ≤ has.flow
  pub prices : m.zones ≤ has.prices
  pub rows : row_count m + 3 ≤ ledger
  pub room : 64 * row_count m ≤ work

abbrev pub AlwaysCleared : Type 0
AlwaysCleared =
    (m : Market) (has : Lengths) (ledger work : ℕ) → KeepsRules m → Enough m has ledger work →
    hour_fault (bytes_of m) has ledger work ≡ None

abbrev pub OneText : Type 0
OneText = (bs text other : List ℕ) → Published bs text → Published bs other → text ≡ other
