-- The number, the sort and the place by which a broken rule is published. Assumes nothing: these are definitions.
--
--   rule_of b     20: too large, 21: not what the prices allow, 22: a zone out of balance
--   sort_of b     a buy, a sell or a line; none of them where it is a zone
--   number_of b   the number of the buy, the sell, the line or the zone, counted from 0
use Rattle.std.specs.Prelude.{ℕ, Some, None, Option}
use Rattle.hour.specs.declared.refusals.Sort.{Sort}
use Rattle.checker.specs.declared.verdict.Broken.{Broken}
use Rattle.checker.specs.declared.verdict.Broken.TheVariants.{TooLarge, NotAllowed, Unbalanced}

abbrev pub rule_of : Broken → ℕ
rule_of (TooLarge sort number) = 20
rule_of (NotAllowed sort number) = 21
rule_of (Unbalanced zone) = 22

abbrev pub sort_of : Broken → Option Sort
sort_of (TooLarge sort number) = Some sort
sort_of (NotAllowed sort number) = Some sort
sort_of (Unbalanced zone) = None

abbrev pub number_of : Broken → ℕ
number_of (TooLarge sort number) = number
number_of (NotAllowed sort number) = number
number_of (Unbalanced zone) = zone
