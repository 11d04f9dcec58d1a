-- What the checker promises, each a statement whose proof a contract of this crate asks for. Assumes nothing.
--
--   AcceptedBest         what the checker accepts is worth no less than any other outcome that can be carried out
--   Published bs o ps    an hour, with an outcome that can be carried out and prices that settle it, lists long enough
--   PublishedAccepted    such a result is accepted
--   LowestFound          if its prices are the lowest, the answer about them is that they are
--   outcome_left new     the outcome that stands in the slices of the entry
--   HouseAccepted        what the entry on an hour's bytes leaves of an hour that it cleared is accepted
--   HouseLowest          and its prices are found the lowest
--   HouseText            whatever is reported of the text that the house publishes of an hour is: accepted, and lowest
--   Answers ..           an answer about prices, with the marks that are left, meets the contract
--   OneLowness           one answer about prices, with one list of marks, meets the contract
--   OneReport            of an hour's bytes and a text one thing is reported
--   table_of t s         what a text says of a sort
--   Says m o ps n t      a text says the amounts, the prices, the money of each row, the worth and the count of pushes
--   ReadsBack m o ps n   the text of an outcome is read, and says that
--   ReadBack             what is published of an outcome and its prices is read as just that
--   WithinLimits n       no more zones, buys, sells and lines than an hour may have
--   NoLonger             no text in the form has more bytes than longest_text
--   FrontRead            what is read of a text with more bytes is what is read of any front of it that has more
--   FrontReported        what is reported of such a text is what is reported of such a front
--
-- Of two sides of an order, what is subtracted stands on the other side: naturals only.
use Rattle.std.specs.Prelude.{◌≡◌, ℕ, ◌+◌, ◌^◌, ◌<◌, ◌≤◌, ◌↔◌, List, ◌++◌, length, None, Ok, Option, Result}
use Rattle.hour.specs.Bytes.{market_of, refusal_of}
use Rattle.hour.specs.Listed.{listed}
use Rattle.hour.specs.Market.{Market, Outcome, Feasible, Settled, at, worth, costs, count_of}
use Rattle.hour.specs.Rules.{KeepsRules, max_zones, max_bids, max_lines}
use Rattle.hour.specs.declared.refusals.Sort.{Sort}
use Rattle.hour.specs.declared.refusals.Sort.TheVariants as sorts
use Rattle.network.specs.Network.{carried}
use Rattle.network.specs.Prices.{Lowest}
use Rattle.network.specs.Tables.{outcome_in}
use Rattle.ledger.specs.Entry.{Slices, Answer}
use Rattle.network.specs.Given.{item}
use Rattle.ledger.specs.Money.{money, worth_by, Payable}
use Rattle.ledger.specs.Published as texts
use Rattle.ledger.specs.Text.{result_of}
use Rattle.checker.specs.Acceptance.{verdict_of}
use Rattle.checker.specs.Follows.{counts_in}
use Rattle.checker.specs.Form.{Saying, Table, text_at, longest_text}
use Rattle.checker.specs.Marks.{lowness_of, Left}
use Rattle.checker.specs.Telling.{Reports}
use Rattle.checker.specs.declared.form.Counts.{Counts}
use Rattle.checker.specs.declared.reports.Report.{Report}
use Rattle.checker.specs.declared.reports.Report.TheVariants as reports
use Rattle.checker.specs.declared.verdict.Objection.{Objection}

abbrev pub AcceptedBest : Type 0
AcceptedBest =
    (bs : List ℕ) (o p : Outcome) (ps : List ℕ) → verdict_of bs o ps ≡ Ok tt → Feasible (market_of bs) p →
    worth (market_of bs).buys p.bought + costs (market_of bs) o
    ≤ worth (market_of bs).buys o.bought + costs (market_of bs) p

pub record Published (bs : List ℕ) (o : Outcome) (ps : List ℕ) : Type 0 where
  pub hour : refusal_of bs ≡ None
  pub bought : length (market_of bs).buys ≤ length o.bought
  pub sold : length (market_of bs).sells ≤ length o.sold
  pub flow : length (market_of bs).lines ≤ length o.flow
  pub prices : (market_of bs).zones ≤ length ps
  pub feasible : Feasible (market_of bs) o
  pub settled : Settled (market_of bs) o ps

abbrev pub PublishedAccepted : Type 0
PublishedAccepted = (bs : List ℕ) (o : Outcome) (ps : List ℕ) → Published bs o ps → verdict_of bs o ps ≡ Ok tt

abbrev pub LowestFound : Type 0
LowestFound =
    (bs : List ℕ) (o : Outcome) (ps old new : List ℕ) → Published bs o ps → Lowest (market_of bs) ps →
    (market_of bs).zones ≤ length old → Left bs o ps old new → lowness_of bs o ps (length old) new ≡ Ok None

abbrev pub outcome_left : Slices → Outcome
outcome_left new = outcome_in new.bought new.sold new.flow

abbrev pub HouseAccepted : Type 0
HouseAccepted =
    (bs : List ℕ) (old new : Slices) (n : ℕ) → Answer bs old (Ok n) new →
    verdict_of bs (outcome_left new) new.price ≡ Ok tt

abbrev pub HouseLowest : Type 0
HouseLowest =
    (bs : List ℕ) (old new : Slices) (n : ℕ) → Answer bs old (Ok n) new → (marks after : List ℕ) →
    (market_of bs).zones ≤ length marks → Left bs (outcome_left new) new.price marks after →
    lowness_of bs (outcome_left new) new.price (length marks) after ≡ Ok None

pub record Answers (bs : List ℕ) (o : Outcome) (ps old new : List ℕ) (r : Result (Option ℕ) Objection) : Type 0 where
  pub answer : r ≡ lowness_of bs o ps (length old) new
  pub left : Left bs o ps old new

abbrev pub OneLowness : Type 0
OneLowness =
    (bs : List ℕ) (o : Outcome) (ps old new other : List ℕ) (r s : Result (Option ℕ) Objection) → Answers bs o ps old new r →
    Answers bs o ps old other s → (new ≡ other) × (r ≡ s)

abbrev pub OneReport : Type 0
OneReport = (bs text : List ℕ) (r s : Report) → Reports bs text r → Reports bs text s → r ≡ s

abbrev pub table_of : Saying → Sort → Table
table_of t sorts.Buy = t.buys
table_of t sorts.Sell = t.sells
table_of t sorts.Line = t.lines

pub record Says (m : Market) (o : Outcome) (ps : List ℕ) (pushes : ℕ) (t : Saying) : Type 0 where
  pub worth : t.worth ≡ worth_by m o
  pub pushes_said : t.pushes ≡ pushes
  pub prices : t.zones.prices ≡ listed m.zones (at ps)
  pub amounts : (s : Sort) → (table_of t s).amounts ≡ listed (count_of m s) (λ k. carried o (item s k))
  pub moneys : (s : Sort) → (table_of t s).moneys ≡ listed (count_of m s) (λ k. money m o ps (item s k))

pub record ReadsBack (m : Market) (o : Outcome) (ps : List ℕ) (pushes : ℕ) : Type 0 where
  pub said : Saying
  pub read : text_at (counts_in m) (result_of m o ps pushes) ≡ Ok said
  pub says : Says m o ps pushes said

abbrev pub ReadBack : Type 0
ReadBack =
    (m : Market) (o : Outcome) (ps : List ℕ) (pushes : ℕ) → KeepsRules m → Payable m o ps → pushes < 2 ^ 64 →
    ReadsBack m o ps pushes

abbrev pub HouseText : Type 0
HouseText =
    (bs text : List ℕ) (r : Report) → refusal_of bs ≡ None → texts.Published bs text → Reports bs text r →
    r ≡ reports.Accepted None

pub record WithinLimits (n : Counts) : Type 0 where
  pub zones : n.zones ≤ max_zones
  pub buys : n.buys ≤ max_bids
  pub sells : n.sells ≤ max_bids
  pub lines : n.lines ≤ max_lines

abbrev pub NoLonger : Type 0
NoLonger = (n : Counts) (bs : List ℕ) (t : Saying) → WithinLimits n → text_at n bs ≡ Ok t → length bs ≤ longest_text

abbrev pub FrontRead : Type 0
FrontRead =
    (n : Counts) (front more : List ℕ) → WithinLimits n → longest_text < length front →
    text_at n (front ++ more) ≡ text_at n front

abbrev pub FrontReported : Type 0
FrontReported =
    (bs front more : List ℕ) (r : Report) → longest_text < length front → (Reports bs (front ++ more) r ↔ Reports bs front r)
