-- What is said of a text that was published for an hour. Assumes nothing: these are definitions.
--
--   LowerSaid m o ps l     no list that settles is lower anywhere; or the first zone that could be lower
--   AcceptedWith           a result is accepted, with what is true of its prices
--   JudgedAs               a broken rule, or else a row that does not follow, or else that a result is accepted
--   RowsAs, SaidAs         what is said of amounts, prices and the rows of a text; of all that a text says
--   ReadAs                 the same of a text that may have a line that is not in the form
--   ReportedAs             the same of an hour that may be refused
--   Reports bs text r      r is what is said of the text for the hour that the bytes say: refused, unreadable, broken, a wrong
--                          row, and only if none of these: accepted
use Rattle.std.specs.Prelude.{◌≡◌, ℕ, List, Some, None, Ok, Err, Option, Result}
use Rattle.hour.specs.Bytes.{market_of, refusal_of}
use Rattle.hour.specs.Market.{Market, Outcome}
use Rattle.hour.specs.declared.refusals.Refusal.{Refusal}
use Rattle.network.specs.Prices.{Lowest}
use Rattle.checker.specs.Acceptance.{broken_of}
use Rattle.checker.specs.Follows.{counts_in, outcome_said, wrong_in}
use Rattle.checker.specs.Form.{Saying, text_at}
use Rattle.checker.specs.Holding.{FirstLower}
use Rattle.checker.specs.declared.verdict.Broken.{Broken}
use Rattle.checker.specs.declared.reports.Report.{Report}
use Rattle.checker.specs.declared.reports.Report.TheVariants as reports
use Rattle.checker.specs.declared.reports.Wrong.{Wrong}

abbrev pub LowerSaid : Market → Outcome → List ℕ → Option ℕ → Type 0
LowerSaid m o ps None = Lowest m ps
LowerSaid m o ps (Some zone) = FirstLower m o ps zone

pub record AcceptedWith (m : Market) (o : Outcome) (ps : List ℕ) (r : Report) : Type 0 where
  pub lower : Option ℕ
  pub report : r ≡ reports.Accepted lower
  pub said : LowerSaid m o ps lower

abbrev pub JudgedAs : Market → Outcome → List ℕ → Option Broken → Option Wrong → Report → Type 0
JudgedAs m o ps (Some broken) wrong r = r ≡ reports.Broken broken
JudgedAs m o ps None (Some wrong) r = r ≡ reports.Wrong wrong
JudgedAs m o ps None None r = AcceptedWith m o ps r

abbrev pub RowsAs : Market → Outcome → List ℕ → Saying → Report → Type 0
RowsAs m o ps t r = JudgedAs m o ps (broken_of m o ps) (wrong_in m o ps t) r

abbrev pub SaidAs : Market → Saying → Report → Type 0
SaidAs m t r = RowsAs m (outcome_said t) t.zones.prices t r

abbrev pub ReadAs : Market → Result Saying ℕ → Report → Type 0
ReadAs m (Err line) r = r ≡ reports.Unreadable line
ReadAs m (Ok t) r = SaidAs m t r

abbrev pub ReportedAs : Option Refusal → Market → Result Saying ℕ → Report → Type 0
ReportedAs (Some refusal) m read r = r ≡ reports.Refused refusal
ReportedAs None m read r = ReadAs m read r

abbrev pub Reports : List ℕ → List ℕ → Report → Type 0
Reports bs text r = ReportedAs (refusal_of bs) (market_of bs) (text_at (counts_in (market_of bs)) text) r
