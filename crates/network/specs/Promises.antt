-- What the market promises, each a statement whose proof a contract of this crate asks for. Assumes nothing.
--
--   Best             a settled outcome is worth at least as much as any other that can be carried out
--   Dual             an outcome that can be carried out is worth no more than what all items could gain at any prices, each
--                    for itself, with the supplies at these prices, and exactly as much at prices that settle it (WorthWithin)
--   Even             buyers pay what sellers get, flows cost, lines earn and the supplies are worth; no line earns less than
--                    nothing
--   MoneyBounded     at prices that settle, buyers pay no more than they bid, and neither sellers together nor any line get more
--                    than what the buyers pay (MoneyWithin)
--   NoRegret         at the prices, nobody's surplus is higher at another amount within the limit
--   Exchange         prices that settle one outcome settle every other that some prices settle
--   Lattice          where two lists of prices settle an outcome, the list of each zone's lower price settles it too, and so
--                    do that of the higher ones and that of the means (BetweenSettles)
--   OneLowest        lowest prices are one list; the lowest that settle one outcome are the lowest that settle any (LowestOne m)
--   LowestCapped     lowest prices of proper markets, and of any market without costs and supplies, are at or below the dearest
--                    bid
--   Floor            in a market with a free start, prices that settle an outcome, of which some may be below nothing, still
--                    settle it when these are set to nothing
--   PlainStart       a market without costs and supplies has a free start
--   Cut              what is sold in a set of zones, flows into it and is supplied there is what is bought in it and flows out; if
--                    nothing enters the set and it has no supply, nothing leaves it (CutEven)
--   Push             an amount that fits, along a closed way that leaves no node twice, keeps all limits and balances,
--                    and changes the worth by the amount times what the way gains less what it costs (PushDone)
--   AtRest           prices that no free step can raise settle; prices that free ways to the hub bear out are at or
--                    below every list that settles (RestSettles)
--   WorkedHours      the worked hours come out as written (HoursWorked)
--   SumsByLists      the sums by recursion over lists are those by index; what is proper, and of a plain market what is feasible
--                    or settled, in the one way is so in the other (SumsAgree)
--   BestByLists, EvenByLists, NoRegretByLists, ExchangeByLists
--                    Best, Even, NoRegret and Exchange of plain markets, said in the words by lists alone
--
-- Of two sides of an order, what is subtracted stands on the other side: naturals only.
use Rattle.std.specs.Prelude.{◌≡◌, ℕ, ◌+◌, ◌*◌, ◌<◌, ◌≤◌, ◌↔◌, ◌⊎◌, List, [], ◌∷◌, length}
use Rattle.hour.specs.declared.items.Bid.{Bid}
use Rattle.hour.specs.declared.items.Line.{Line}
use Rattle.hour.specs.Market.{Market, Outcome, Proper, Feasible, Settled, Plain, at, worth, costs, in_zone, into, out_of}
use Rattle.std.specs.List.{AllByRecursion}
use Rattle.network.specs.declared.arcs.Step.{Step}
use Rattle.network.specs.Ways.{Links, Once, Fits, way_cost, way_gain, pushed, Resting, Reached}
use Rattle.network.specs.Hours.{Holds, narrow, wide, in_part, tied, unsold, apart, charged, stored, one_each, traded}
use Rattle.network.specs.ByLists.{zone_amount, flow_into, flow_out_of}
use Rattle.network.specs.ByLists.{at_bid_prices, at_zone_prices, at_from_prices, at_to_prices}
use Rattle.network.specs.ByLists.{FeasibleByLists, ProperByLists, SettledByLists, EvenMoney, Regretless}
use Rattle.network.specs.Cut.{CutEven}
use Rattle.network.specs.Prices.{MoneyEven, MoneyWithin, NoRegrets, LowestOf, Lowest, PricesTo, paid, sent, arrived}
use Rattle.network.specs.Prices.{surplus, supplied, lower_of, upper_of, middle_of}
use Rattle.network.specs.Floor.{FreeStart, SettledFrom, floored}

abbrev pub Best : Type 0
Best =
    (m : Market) (o p : Outcome) (ps : List ℕ) → Proper m → Feasible m o → Settled m o ps → Feasible m p →
    worth m.buys p.bought + costs m o ≤ worth m.buys o.bought + costs m p

pub record WorthWithin (m : Market) (o : Outcome) (ps : List ℕ) : Type 0 where
  pub within : worth m.buys o.bought ≤ costs m o + surplus m ps + supplied m ps
  pub settled : Settled m o ps → worth m.buys o.bought ≡ costs m o + surplus m ps + supplied m ps
  pub settles : worth m.buys o.bought ≡ costs m o + surplus m ps + supplied m ps → Settled m o ps

abbrev pub Dual : Type 0
Dual = (m : Market) (o : Outcome) (ps : List ℕ) → Proper m → Feasible m o → WorthWithin m o ps

abbrev pub Even : Type 0
Even = (m : Market) (o : Outcome) (ps : List ℕ) → Proper m → Feasible m o → Settled m o ps → MoneyEven m o ps

abbrev pub MoneyBounded : Type 0
MoneyBounded =
    (m : Market) (o : Outcome) (ps : List ℕ) → Proper m → Feasible m o → Settled m o ps → MoneyWithin m o ps

abbrev pub NoRegret : Type 0
NoRegret = (m : Market) (o : Outcome) (ps : List ℕ) → Feasible m o → Settled m o ps → NoRegrets m o ps

abbrev pub Exchange : Type 0
Exchange =
    (m : Market) (o p : Outcome) (ps qs : List ℕ) → Proper m → Feasible m o → Feasible m p → Settled m o ps →
    Settled m p qs → Settled m o qs

pub record BetweenSettles (m : Market) (o : Outcome) (ps qs : List ℕ) : Type 0 where
  pub lower : Settled m o (lower_of m ps qs)
  pub upper : Settled m o (upper_of m ps qs)
  pub middle : Settled m o (middle_of m ps qs)

abbrev pub Lattice : Type 0
Lattice =
    (m : Market) (o : Outcome) (ps qs : List ℕ) → Proper m → Feasible m o → Settled m o ps → Settled m o qs →
    BetweenSettles m o ps qs

pub record LowestOne (m : Market) : Type 0 where
  pub agree : (ps qs : List ℕ) → Lowest m ps → Lowest m qs → (z : ℕ) → z < m.zones → at ps z ≡ at qs z
  pub same :
      (ps qs : List ℕ) → length ps ≡ m.zones → length qs ≡ m.zones → Lowest m ps → Lowest m qs → ps ≡ qs
  pub any : (o : Outcome) (ps : List ℕ) → Feasible m o → LowestOf m o ps → Lowest m ps

abbrev pub OneLowest : Type 0
OneLowest = (m : Market) → Proper m → LowestOne m

abbrev pub LowestCapped : Type 0
LowestCapped =
    (m : Market) (c : ℕ) (ps : List ℕ) → Proper m ⊎ Plain m → Lowest m ps → PricesTo m c → (z : ℕ) → z < m.zones →
    at ps z ≤ c

abbrev pub Floor : Type 0
Floor =
    (m : Market) (o : Outcome) (qs : List ℕ) (s : ℕ) → Proper m → FreeStart m → Feasible m o → SettledFrom m o qs s →
    Settled m o (floored m qs s)

abbrev pub PlainStart : Type 0
PlainStart = (m : Market) → Plain m → FreeStart m

abbrev pub Cut : Type 0
Cut = (m : Market) (o : Outcome) (ws : List ℕ) → Proper m → Feasible m o → CutEven m o ws

-- What o is worth and what it is worth after a push, with what the way costs and gains.
pub record PushDone (m : Market) (o p : Outcome) (ss : List Step) (d : ℕ) : Type 0 where
  pub feasible : Feasible m p
  pub changes :
      worth m.buys p.bought + costs m o + way_cost m ss * d
      ≡ worth m.buys o.bought + costs m p + way_gain m ss * d
  pub rises :
      0 < d → way_cost m ss < way_gain m ss →
      worth m.buys o.bought + costs m p < worth m.buys p.bought + costs m o

abbrev pub Push : Type 0
Push =
    (m : Market) (o : Outcome) (a d : ℕ) (ss : List Step) → Feasible m o → Links m a ss a → Once m ss →
    AllByRecursion (Fits m o d) ss → PushDone m o (pushed o ss d) ss d

pub record RestSettles (m : Market) (o : Outcome) (ps : List ℕ) : Type 0 where
  pub settles : Resting m o ps → Settled m o ps
  pub rests : Settled m o ps → Resting m o ps
  pub below :
      ((z : ℕ) → z < m.zones → Reached m o ps z) → (qs : List ℕ) → Settled m o qs → (z : ℕ) → z < m.zones →
      at ps z ≤ at qs z
  pub lowest : Resting m o ps → ((z : ℕ) → z < m.zones → Reached m o ps z) → Lowest m ps

abbrev pub AtRest : Type 0
AtRest = (m : Market) (o : Outcome) (ps : List ℕ) → Proper m → Feasible m o → RestSettles m o ps

pub record HoursWorked : Type 0 where
  pub narrow : Holds narrow
  pub wide : Holds wide
  pub in_part : Holds in_part
  pub tied : (n : ℕ) → n ≤ 10 → Holds (tied n)
  pub unsold : Holds unsold
  pub apart : Holds apart
  pub charged : Holds charged
  pub stored : Holds stored
  pub between : (p : ℕ) → 12 ≤ p → p ≤ 30 → Settled (one_each 12) (traded 10) (p ∷ [])

abbrev pub WorkedHours : Type 0
WorkedHours = HoursWorked

pub record SumsAgree : Type 0 where
  pub in_zone : (z : ℕ) (bs : List Bid) (xs : List ℕ) → zone_amount z bs xs ≡ in_zone z bs xs
  pub into : (z : ℕ) (ls : List Line) (fs : List ℕ) → flow_into z ls fs ≡ into z ls fs
  pub out_of : (z : ℕ) (ls : List Line) (fs : List ℕ) → flow_out_of z ls fs ≡ out_of z ls fs
  pub worth : (bs : List Bid) (xs : List ℕ) → at_bid_prices bs xs ≡ worth bs xs
  pub paid : (ps : List ℕ) (bs : List Bid) (xs : List ℕ) → at_zone_prices ps bs xs ≡ paid ps bs xs
  pub sent : (ps : List ℕ) (ls : List Line) (fs : List ℕ) → at_from_prices ps ls fs ≡ sent ps ls fs
  pub arrived : (ps : List ℕ) (ls : List Line) (fs : List ℕ) → at_to_prices ps ls fs ≡ arrived ps ls fs
  pub proper : (m : Market) → Proper m ↔ ProperByLists m
  pub feasible : (m : Market) (o : Outcome) → Plain m → Feasible m o ↔ FeasibleByLists m o
  pub settled : (m : Market) (o : Outcome) (ps : List ℕ) → Plain m → Settled m o ps ↔ SettledByLists m o ps

abbrev pub SumsByLists : Type 0
SumsByLists = SumsAgree

abbrev pub BestByLists : Type 0
BestByLists =
    (m : Market) (o p : Outcome) (ps : List ℕ) → Plain m → ProperByLists m → FeasibleByLists m o → SettledByLists m o ps →
    FeasibleByLists m p →
    at_bid_prices m.buys p.bought + at_bid_prices m.sells o.sold
    ≤ at_bid_prices m.buys o.bought + at_bid_prices m.sells p.sold

abbrev pub EvenByLists : Type 0
EvenByLists =
    (m : Market) (o : Outcome) (ps : List ℕ) → Plain m → ProperByLists m → FeasibleByLists m o → SettledByLists m o ps →
    EvenMoney m o ps

abbrev pub NoRegretByLists : Type 0
NoRegretByLists =
    (m : Market) (o : Outcome) (ps : List ℕ) → Plain m → FeasibleByLists m o → SettledByLists m o ps → Regretless m o ps

abbrev pub ExchangeByLists : Type 0
ExchangeByLists =
    (m : Market) (o p : Outcome) (ps qs : List ℕ) → Plain m → ProperByLists m → FeasibleByLists m o → FeasibleByLists m p →
    SettledByLists m o ps → SettledByLists m p qs → SettledByLists m o qs
