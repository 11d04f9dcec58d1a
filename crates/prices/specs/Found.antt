-- What clearing finds, and what is promised of it. Assumes nothing: these are definitions.
--
--   Fitted m ..          an amount for each bid, a flow for each line and a price for each zone
--   Roomy b s l z ..     slices for so many buys, sells, lines and zones, or more
--   result_in m ..       the outcome of m at the front of three slices; prices_in m the prices at the front of one
--   Found m n o ps       the run that begins with nothing takes n pushes and ends with the outcome o and the prices ps
--   BestOf m o           no outcome that can be carried out is worth more than o
--   Promised m n o ps    what holds of everything that is found
--
-- Of two sides of an order, what is subtracted stands on the other side.
use Rattle.std.specs.Prelude.{◌≡◌, ℕ, ◌+◌, ◌≤◌, List, length, take}
use Rattle.hour.specs.Market.{Market, Outcome, Feasible, Settled, worth, costs}
use Rattle.network.specs.Prices.{Lowest, NoRegrets}
use Rattle.network.specs.Tables.{outcome_in}
use Rattle.paths.specs.Plan.{Plan}
use Rattle.paths.specs.Promises.{prices_of}
use Rattle.circulation.specs.Promises.{StepsSound, top}
use Rattle.circulation.specs.Run.{Run}
use Rattle.prices.specs.Laid.{nothing}

pub record Fitted (m : Market) (bought sold flow price : List ℕ) : Type 0 where
  pub bought_long : length bought ≡ length m.buys
  pub sold_long : length sold ≡ length m.sells
  pub flow_long : length flow ≡ length m.lines
  pub price_long : length price ≡ m.zones

pub record Roomy (b s l z : ℕ) (bought sold flow price : List ℕ) : Type 0 where
  pub bought_room : b ≤ length bought
  pub sold_room : s ≤ length sold
  pub flow_room : l ≤ length flow
  pub price_room : z ≤ length price

abbrev pub result_in : Market → List ℕ → List ℕ → List ℕ → Outcome
result_in m bought sold flow =
    outcome_in (take (length m.buys) bought) (take (length m.sells) sold) (take (length m.lines) flow)

abbrev pub prices_in : Market → List ℕ → List ℕ
prices_in m price = take m.zones price

pub record Found (m : Market) (n : ℕ) (o : Outcome) (ps : List ℕ) : Type 0 where
  pub tables : Plan
  pub run : Run m (nothing m) n o tables
  pub prices : ps ≡ prices_of tables

abbrev pub BestOf : Market → Outcome → Type 0
BestOf m o =
    (p : Outcome) → Feasible m p →
    worth m.buys p.bought + costs m o ≤ worth m.buys o.bought + costs m p

pub record Promised (m : Market) (n : ℕ) (o : Outcome) (ps : List ℕ) : Type 0 where
  pub feasible : Feasible m o
  pub settled : Settled m o ps
  pub lowest : Lowest m ps
  pub best : BestOf m o
  pub no_regret : NoRegrets m o ps
  pub pushes : StepsSound m (nothing m) o n
  pub few : n ≤ top m
