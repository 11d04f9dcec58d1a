-- What the entry on an hour's bytes answers, and what it leaves in six lent slices. Assumes nothing: these are definitions.
--
--   head_size h             how many buys, sells and lines an hour with the head h has
--   slices_fault h ..       the first lent slice that is too short for such an hour: bought, sold, flow, prices, ledger, work
--   hour_fault bs ..        the first rule that the bytes and the slices break, in the order of the rules
--   CarriedOut r m ..       where the hour was cleared: amounts and flows keep all limits, and every zone is in balance
--   SettledBy r m ..        the prices settle them
--   LowestPrices r m ..     no list that settles any outcome of m that can be carried out is lower in any zone
--   BestWorth r m ..        no outcome that can be carried out is worth more
--   NobodyRegrets r m ..    no buyer, no seller and no line would rather have another amount
--   Counted r m ..          the count is that of the definition's pushes, each of which paid; there are no more than the value
--                           can rise
--   Booked r m ..           each row of the ledger, and each of its three sums
--   SmallMoney r m ..       no row of it is above 400,000,000,000 in size, and every sum is below 400,000,000,000,000
--   MoneyRead r m ..        what is stored in it, read as signed numbers of 64 bits, is the money of each item and the three sums
--   Closed r m ..           what is collected is what is paid and what lines earn; no line earns less than nothing
--   Slices                  what the six slices hold; slices b s f p l w the six put together
--   ClearedIn m n old new   what clearing m with n pushes leaves in them
--   Answer bs old r new     what pins the answer r to bs and all numbers of slices that held old and hold new; a lent slice keeps
--                         its length
--
-- A slice's needed length is a number for each buy, sell, line and zone; for the ledger a row for each buy, sell and line, and
-- three sums; for work 64 numbers for each buy, sell and line.
use Rattle.std.specs.Prelude.{◌≡◌, ℕ, ◌+◌, ◌*◌, ◌≤◌, List, ◌++◌, length, drop, replicate, Option, Result, IfOk}
use Rattle.std.specs.Result.{result_err}
use Rattle.hour.specs.Bytes.{market_of, head_of, needed_by, refusal_with}
use Rattle.hour.specs.First.{◌else◌}
use Rattle.hour.specs.Market.{Market, Feasible, Settled}
use Rattle.hour.specs.Rules.{lent_fault, results_fault}
use Rattle.hour.specs.declared.reading.Head.{Head}
use Rattle.hour.specs.declared.refusals.Refusal.{Refusal}
use Rattle.hour.specs.declared.rules.Lengths.{Lengths}
use Rattle.network.specs.Prices.{Lowest, NoRegrets}
use Rattle.circulation.specs.Promises.{StepsSound, top}
use Rattle.prices.specs.Ended.{FoundIn, Left, Wiped, lengths}
use Rattle.prices.specs.Found.{Found, result_in, prices_in, BestOf}
use Rattle.prices.specs.Laid.{nothing}
use Rattle.ledger.specs.Money.{row_count, LedgerOf, ReadAsMoney}
use Rattle.ledger.specs.Promises.{Evens, Small}

abbrev pub head_size : Head → ℕ
head_size h = h.buys + h.sells + h.lines

abbrev pub slices_fault : Head → Lengths → ℕ → ℕ → Option Refusal
slices_fault h has ledger work =
    results_fault has (needed_by h)
    else lent_fault 4 ledger (head_size h + 3)
    else lent_fault 5 work (64 * head_size h)

abbrev pub hour_fault : List ℕ → Lengths → ℕ → ℕ → Option Refusal
hour_fault bs has ledger work = refusal_with bs (slices_fault (head_of bs) has ledger work)

abbrev pub CarriedOut : Result ℕ Refusal → Market → List ℕ → List ℕ → List ℕ → Type 0
CarriedOut r m bought sold flow = IfOk r (λ n. Feasible m (result_in m bought sold flow))

abbrev pub SettledBy : Result ℕ Refusal → Market → List ℕ → List ℕ → List ℕ → List ℕ → Type 0
SettledBy r m bought sold flow price =
    IfOk r (λ n. Settled m (result_in m bought sold flow) (prices_in m price))

abbrev pub LowestPrices : Result ℕ Refusal → Market → List ℕ → Type 0
LowestPrices r m price = IfOk r (λ n. Lowest m (prices_in m price))

abbrev pub BestWorth : Result ℕ Refusal → Market → List ℕ → List ℕ → List ℕ → Type 0
BestWorth r m bought sold flow = IfOk r (λ n. BestOf m (result_in m bought sold flow))

abbrev pub NobodyRegrets : Result ℕ Refusal → Market → List ℕ → List ℕ → List ℕ → List ℕ → Type 0
NobodyRegrets r m bought sold flow price =
    IfOk r (λ n. NoRegrets m (result_in m bought sold flow) (prices_in m price))

abbrev pub Counted : Result ℕ Refusal → Market → List ℕ → List ℕ → List ℕ → Type 0
Counted r m bought sold flow =
    IfOk r (λ n. StepsSound m (nothing m) (result_in m bought sold flow) n × (n ≤ top m))

abbrev pub Booked : Result ℕ Refusal → Market → List ℕ → List ℕ → List ℕ → List ℕ → List ℕ → Type 0
Booked r m bought sold flow price ledger =
    IfOk r (λ n. LedgerOf m (result_in m bought sold flow) (prices_in m price) ledger)

abbrev pub SmallMoney : Result ℕ Refusal → Market → List ℕ → List ℕ → List ℕ → List ℕ → Type 0
SmallMoney r m bought sold flow price =
    IfOk r (λ n. Small m (result_in m bought sold flow) (prices_in m price))

abbrev pub MoneyRead : Result ℕ Refusal → Market → List ℕ → List ℕ → List ℕ → List ℕ → List ℕ → Type 0
MoneyRead r m bought sold flow price ledger =
    IfOk r (λ n. ReadAsMoney m (result_in m bought sold flow) (prices_in m price) ledger)

abbrev pub Closed : Result ℕ Refusal → Market → List ℕ → List ℕ → List ℕ → List ℕ → Type 0
Closed r m bought sold flow price =
    IfOk r (λ n. Evens m (result_in m bought sold flow) (prices_in m price))

pub record Slices : Type 0 where
  pub bought : List ℕ
  pub sold : List ℕ
  pub flow : List ℕ
  pub price : List ℕ
  pub ledger : List ℕ
  pub work : List ℕ

abbrev pub slices : List ℕ → List ℕ → List ℕ → List ℕ → List ℕ → List ℕ → Slices
slices bought sold flow price ledger work =
    record { bought = bought; sold = sold; flow = flow; price = price; ledger = ledger; work = work }

-- the market m was cleared with n pushes, in slices that held old and hold new
pub record ClearedIn (m : Market) (n : ℕ) (old new : Slices) : Type 0 where
  pub found : Found m n (result_in m new.bought new.sold new.flow) (prices_in m new.price)
  pub booked : LedgerOf m (result_in m new.bought new.sold new.flow) (prices_in m new.price) new.ledger
  pub bought : drop (length m.buys) new.bought ≡ drop (length m.buys) old.bought
  pub sold : drop (length m.sells) new.sold ≡ drop (length m.sells) old.sold
  pub flow : drop (length m.lines) new.flow ≡ drop (length m.lines) old.flow
  pub price : drop m.zones new.price ≡ drop m.zones old.price
  pub ledger : drop (row_count m + 3) new.ledger ≡ drop (row_count m + 3) old.ledger
  pub work : new.work ≡ replicate (64 * row_count m) 0 ++ drop (64 * row_count m) old.work

pub record Answer (bs : List ℕ) (old : Slices) (r : Result ℕ Refusal) (new : Slices) : Type 0 where
  pub refusal :
      result_err r
      ≡ hour_fault bs (lengths (length old.bought) (length old.sold) (length old.flow) (length old.price))
      (length old.ledger) (length old.work)
  pub found : FoundIn r (market_of bs) new.bought new.sold new.flow new.price
  pub booked : Booked r (market_of bs) new.bought new.sold new.flow new.price new.ledger
  pub bought : Left r (length (market_of bs).buys) old.bought new.bought
  pub sold : Left r (length (market_of bs).sells) old.sold new.sold
  pub flow : Left r (length (market_of bs).lines) old.flow new.flow
  pub price : Left r (market_of bs).zones old.price new.price
  pub ledger : Left r (row_count (market_of bs) + 3) old.ledger new.ledger
  pub work : Wiped r (64 * row_count (market_of bs)) old.work new.work
  pub bought_long : length new.bought ≡ length old.bought
  pub sold_long : length new.sold ≡ length old.sold
  pub flow_long : length new.flow ≡ length old.flow
  pub price_long : length new.price ≡ length old.price
  pub ledger_long : length new.ledger ≡ length old.ledger
