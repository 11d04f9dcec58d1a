-- How clearing ends, and what it leaves in lent slices. Assumes nothing: these are definitions.
--
--   an answer            Ok n where a market was cleared, with n pushes, or Err with the refusal
--   FoundIn r m ..       where m was cleared, what four slices hold is what is found; PromisedIn what is promised of it
--   Left r n old new     a slice that held old: as it was where the answer is a refusal, else as it was from number n on
--   Wiped r n old new    the same, with zeros before number n
--   ragged_fault n       a table of n numbers does not have three for each item
--   Small ..             tables of no more bids and lines than an hour may have
--   layout_fault ..      the first rule on the counts and lengths of tables that is broken
--   lengths b s f p      how long four slices are: amounts bought and sold, flows and prices
--   slices_fault ..      the first slice that is too short for them, of those that hold a result and of the work slice
--   tables_fault ..      the first rule that tables and lent slices break: zones, counts, the tables' lengths, the slices, then
--                        bid by bid and line by line, at the places of the written hour
--   Lent                 what the five lent slices hold; lent b s f p w the five put together
--   TablesAnswer z ..    what pins the answer r, of so many zones and these tables, to all numbers of slices that held old and
--                        hold new; a lent slice keeps its length
--
-- Lent slices have numbers: bought 0, sold 1, flow 2, prices 3, and work 5, as where a ledger is lent too.
use Rattle.std.specs.Prelude.{◌≡◌, ℕ, ◌+◌, ◌*◌, ◌%◌, ◌≤◌, not, List, ◌++◌, length, drop, replicate, Option, Result, Ok, Err, IfOk, ◌==◌}
use Rattle.std.specs.Result.{result_err}
use Rattle.hour.specs.First.{when, ◌else◌}
use Rattle.hour.specs.Market.{Market}
use Rattle.hour.specs.Rules.{counts_fault, item_fault, lent_fault, results_fault, max_bids, max_lines}
use Rattle.hour.specs.declared.refusals.Refusal.{Refusal}
use Rattle.hour.specs.declared.refusals.Refusal.TheVariants.{Length}
use Rattle.hour.specs.declared.rules.Lengths.{Lengths}
use Rattle.network.specs.Tables.{items, market_in}
use Rattle.prices.specs.Found.{Found, Promised, result_in, prices_in}

abbrev pub FoundIn : Result ℕ Refusal → Market → List ℕ → List ℕ → List ℕ → List ℕ → Type 0
FoundIn r m bought sold flow price = IfOk r (λ n. Found m n (result_in m bought sold flow) (prices_in m price))

abbrev pub PromisedIn : Result ℕ Refusal → Market → List ℕ → List ℕ → List ℕ → List ℕ → Type 0
PromisedIn r m bought sold flow price =
    IfOk r (λ n. Promised m n (result_in m bought sold flow) (prices_in m price))

abbrev pub Left : Result ℕ Refusal → ℕ → List ℕ → List ℕ → Type 0
Left (Ok n) used old new = drop used new ≡ drop used old
Left (Err refusal) used old new = new ≡ old

abbrev pub Wiped : Result ℕ Refusal → ℕ → List ℕ → List ℕ → Type 0
Wiped (Ok n) used old new = new ≡ replicate used 0 ++ drop used old
Wiped (Err refusal) used old new = new ≡ old

abbrev pub ragged_fault : ℕ → Option Refusal
ragged_fault n = when (not (n % 3 == 0)) (Length n)

pub record Small (buys sells lines : List ℕ) : Type 0 where
  pub few_buys : items buys ≤ max_bids
  pub few_sells : items sells ≤ max_bids
  pub few_lines : items lines ≤ max_lines

abbrev pub layout_fault : ℕ → List ℕ → List ℕ → List ℕ → Option Refusal
layout_fault zones buys sells lines =
    counts_fault zones (items buys) (items sells) (items lines)
    else ragged_fault (length buys)
    else ragged_fault (length sells)
    else ragged_fault (length lines)

abbrev pub lengths : ℕ → ℕ → ℕ → ℕ → Lengths
lengths bought sold flow prices = record { bought = bought; sold = sold; flow = flow; prices = prices }

abbrev pub slices_fault : ℕ → List ℕ → List ℕ → List ℕ → Lengths → ℕ → Option Refusal
slices_fault zones buys sells lines has work =
    results_fault has (lengths (items buys) (items sells) (items lines) zones)
    else lent_fault 5 work (64 * (items buys + items sells + items lines))

abbrev pub tables_fault : ℕ → List ℕ → List ℕ → List ℕ → Lengths → ℕ → Option Refusal
tables_fault zones buys sells lines has work =
    layout_fault zones buys sells lines
    else slices_fault zones buys sells lines has work
    else item_fault (market_in zones buys sells lines)

pub record Lent : Type 0 where
  pub bought : List ℕ
  pub sold : List ℕ
  pub flow : List ℕ
  pub price : List ℕ
  pub work : List ℕ

abbrev pub lent : List ℕ → List ℕ → List ℕ → List ℕ → List ℕ → Lent
lent bought sold flow price work =
    record { bought = bought; sold = sold; flow = flow; price = price; work = work }

pub record TablesAnswer (zones : ℕ) (buys sells lines : List ℕ) (old : Lent) (r : Result ℕ Refusal) (new : Lent) : Type 0 where
  pub refusal :
      result_err r
      ≡ tables_fault zones buys sells lines
      (lengths (length old.bought) (length old.sold) (length old.flow) (length old.price)) (length old.work)
  pub found : FoundIn r (market_in zones buys sells lines) new.bought new.sold new.flow new.price
  pub bought : Left r (items buys) old.bought new.bought
  pub sold : Left r (items sells) old.sold new.sold
  pub flow : Left r (items lines) old.flow new.flow
  pub price : Left r zones old.price new.price
  pub work : Wiped r (64 * (items buys + items sells + items lines)) old.work new.work
  pub bought_long : length new.bought ≡ length old.bought
  pub sold_long : length new.sold ≡ length old.sold
  pub flow_long : length new.flow ≡ length old.flow
  pub price_long : length new.price ≡ length old.price
  pub work_long : length new.work ≡ length old.work
