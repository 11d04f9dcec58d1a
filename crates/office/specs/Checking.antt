-- Checking a published result from two readers to a writer. Assumes nothing: these are definitions.
--
--   TextCame known left front   the front of a text was read that tells what is to be said of the whole
--   check_hint r head front     what may be wrong with an hour that begins with the head and is refused, or with a text that begins with
--                               the front and is not in the form
--   CheckedTo ..                what was answered about a published text for an hour, where the bytes of both are known: a report of
--                               them is on its way to the writer; and what is left of both
--   CheckFaulted fault ..       what a fault leaves: nothing was written, or a front of a report where writing failed
use Rattle.std.specs.Prelude.{◌≡◌, ℕ, ◌+◌, false, List, [], ◌∷◌, take, drop, Some, None, Option, IfSome}
use Rattle.std.specs.Io.KnownBytes.{Keeps}
use Rattle.hour.specs.Text.{row}
use Rattle.checker.specs.Form.{longest_text}
use Rattle.checker.specs.Reports.{report_shown, stands_test}
use Rattle.checker.specs.Telling.{Reports}
use Rattle.checker.specs.declared.reports.Report.{Report}
use Rattle.checker.specs.declared.reports.Report.TheVariants as reports
use Rattle.office.specs.Hints.{hour_hint, text_hint}
use Rattle.office.specs.Reading.{unread}
use Rattle.office.specs.Writing.{Wrote}
use Rattle.office.specs.declared.clearing.Answer.{Answer}
use Rattle.office.specs.declared.faults.Fault.{Fault}
use Rattle.office.specs.declared.faults.Fault.TheVariants as faults
use Rattle.office.specs.declared.hints.Hint.{Hint}

pub record TextLeft (ts : List ℕ) (left : Option (List ℕ)) (front : List ℕ) : Type 0 where
  pub front_is : front ≡ take (longest_text + 1) ts
  pub left_is : left ≡ Some (drop (longest_text + 1) ts)

abbrev pub TextCame : Option (List ℕ) → Option (List ℕ) → List ℕ → Type 0
TextCame known left front = IfSome known (λ ts. TextLeft ts left front)

abbrev pub check_hint : Report → List ℕ → List ℕ → Option Hint
check_hint (reports.Refused refusal) head front = hour_hint head
check_hint (reports.Unreadable line) head front = text_hint front
check_hint (reports.Broken broken) head front = None
check_hint (reports.Wrong wrong) head front = None
check_hint (reports.Accepted lower) head front = None

-- of the bytes bs and the text ts
pub record CheckOf (bs ts : List ℕ) (hour_left text_left : Option (List ℕ)) (report : Report) (hint : Option Hint) : Type 0 where
  pub reported : Reports bs ts report
  pub hint_is : hint ≡ check_hint report (take 7 bs) (take (longest_text + 1) ts)
  pub hour_left_is : hour_left ≡ Some (unread bs)
  pub text_left_is : text_left ≡ Some (drop (longest_text + 1) ts)

pub record CheckedTo
    (hour hour_left text text_left : Option (List ℕ)) (answer : Answer) (old new : Option (List ℕ)) : Type 0
  where
    pub report : Report
    pub checked : IfSome hour (λ bs. IfSome text (λ ts. CheckOf bs ts hour_left text_left report answer.hint))
    pub good_is : answer.good ≡ stands_test report
    pub written : Wrote old new (row (report_shown report ∷ [])) answer.whole

-- a report of the bytes, of which a front was written
pub record ReportFront (hour text : Option (List ℕ)) (old new : Option (List ℕ)) : Type 0 where
  pub report : Report
  pub reported : IfSome hour (λ bs. IfSome text (λ ts. Reports bs ts report))
  pub written : Wrote old new (row (report_shown report ∷ [])) false

abbrev pub CheckFaulted : Option (List ℕ) → Option (List ℕ) → Fault → Option (List ℕ) → Option (List ℕ) → Type 0
CheckFaulted hour text (faults.Answer error) old new = ReportFront hour text old new
CheckFaulted hour text (faults.Hour error) old new = Keeps old new
CheckFaulted hour text (faults.Published error) old new = Keeps old new
CheckFaulted hour text faults.Memory old new = Keeps old new
