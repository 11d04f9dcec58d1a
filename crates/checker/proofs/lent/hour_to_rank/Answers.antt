use Rattle.std.proofs.Common.{◌≡◌, Some, ◌∙◌, sym, rules}
use Rattle.std.specs.Result.{result_err}
use Rattle.hour.specs.First.{◌else◌}
use Rattle.hour.specs.Rules.{lent_fault}
use Rattle.hour.specs.declared.reading.Head.{Head}
use Rattle.network.specs.Given.{outcome_given}
use Rattle.checker.specs.Acceptance.{lent_refusal}
use Rattle.checker.proofs.Lending.{head_refused, slice_refused, item_refused}
use Rattle.checker.proofs.lent.hour_to_rank.Goals as goal

pub returns-in_err-head-clause-refused : goal.returns-in_err-head-clause-refused
returns-in_err-head-clause-refused c =
    let is : result_err c.from_residual.result ≡ Some c.in_err-head.field-0.0 = search rules in
    is ∙ head_refused c.args.bytes.now _ _ (sym c.in_err-head.ensures)

pub returns-in_err-check_slices_and_marks-clause-refused : goal.returns-in_err-check_slices_and_marks-clause-refused
returns-in_err-check_slices_and_marks-clause-refused c =
    let lent = λ (head : Head).
    lent_refusal head (outcome_given c.args.amounts) c.args.prices.now else lent_fault 4 c.args.lent head.zones in
    let slices = c.in_err-check_slices_and_marks in
    let is : result_err c.from_residual-in_err-check_slices_and_marks.result ≡ Some slices.field-0.0 = search rules in
    is ∙ slice_refused c.args.bytes.now lent _ (sym c.in_ok-head.ensures) _ slices.ensures

pub returns-in_err-check_items-clause-refused : goal.returns-in_err-check_items-clause-refused
returns-in_err-check_items-clause-refused c =
    let lent = λ (head : Head).
    lent_refusal head (outcome_given c.args.amounts) c.args.prices.now else lent_fault 4 c.args.lent head.zones in
    let items = c.in_err-check_items in
    let is : result_err c.from_residual-in_err-check_items.result ≡ Some items.field-0.0 = search rules in
    is
    ∙ item_refused c.args.bytes.now lent _ (sym c.in_ok-head.ensures) _ c.in_ok-check_slices_and_marks.ensures items.ensures
