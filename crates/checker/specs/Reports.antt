-- What is said of a published text, as text. Assumes nothing: these are definitions.
--
--   place_word b     buy, sell or line of a broken rule, and zone where it is a zone
--   broken_shown b   a broken rule by its number and its place: broken 21 buy 3
--   figure_word f    the word before a number that does not follow: worth, pays, gets or earns
--   lower_shown o    that prices are the lowest, or the first zone that could be lower
--   wrong_shown w    a number that does not follow: wrong at line 4: pays -4996000, not -4996001
--   report_shown r   a report in one or two lines
--   stands_test r    whether a result is accepted, its prices are the lowest and all its rows follow
use Rattle.std.specs.Prelude.{ℕ, Bool, true, false, List, [], ◌∷◌, ◌++◌, Some, None, codes, decimal, Option}
use Rattle.std.specs.Fmt.{signed_decimal}
use Rattle.hour.specs.Text.{words, refused, sort_word}
use Rattle.hour.specs.declared.refusals.Sort.{Sort}
use Rattle.hour.specs.declared.refusals.Sort.TheVariants as sorts
use Rattle.checker.specs.Breach.{rule_of, number_of}
use Rattle.checker.specs.declared.verdict.Broken.{Broken}
use Rattle.checker.specs.declared.verdict.Broken.TheVariants.{TooLarge, NotAllowed, Unbalanced}
use Rattle.checker.specs.declared.reports.Report.{Report}
use Rattle.checker.specs.declared.reports.Report.TheVariants as reports
use Rattle.checker.specs.declared.reports.Wrong.{Wrong}

abbrev pub place_word : Broken → List ℕ
place_word (TooLarge sort number) = sort_word sort
place_word (NotAllowed sort number) = sort_word sort
place_word (Unbalanced zone) = codes "zone"

abbrev pub broken_shown : Broken → List ℕ
broken_shown b = words (codes "broken" ∷ decimal (rule_of b) ∷ place_word b ∷ decimal (number_of b) ∷ [])

abbrev pub figure_word : Option Sort → List ℕ
figure_word None = codes "worth"
figure_word (Some sorts.Buy) = codes "pays"
figure_word (Some sorts.Sell) = codes "gets"
figure_word (Some sorts.Line) = codes "earns"

abbrev pub lower_shown : Option ℕ → List ℕ
lower_shown None = codes "lowest"
lower_shown (Some zone) = words (codes "zone" ∷ decimal zone ∷ codes "could" ∷ codes "be" ∷ codes "lower" ∷ [])

abbrev pub wrong_shown : Wrong → List ℕ
wrong_shown w =
    codes "wrong at line "
    ++ (decimal w.line
    ++ (codes ": "
    ++ (figure_word w.figure ++ (32 ∷ (signed_decimal w.follows ++ (codes ", not " ++ signed_decimal w.written))))))

abbrev pub report_shown : Report → List ℕ
report_shown (reports.Refused refusal) = refused refusal
report_shown (reports.Unreadable line) =
    words (codes "unreadable" ∷ codes "at" ∷ codes "line" ∷ decimal line ∷ [])
report_shown (reports.Broken broken) = broken_shown broken
report_shown (reports.Wrong wrong) = wrong_shown wrong
report_shown (reports.Accepted lower) = codes "accepted" ++ (10 ∷ lower_shown lower)

abbrev pub stands_test : Report → Bool
stands_test (reports.Refused refusal) = false
stands_test (reports.Unreadable line) = false
stands_test (reports.Broken broken) = false
stands_test (reports.Wrong wrong) = false
stands_test (reports.Accepted (Some zone)) = false
stands_test (reports.Accepted None) = true
