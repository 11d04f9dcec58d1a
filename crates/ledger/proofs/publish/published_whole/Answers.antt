-- What was cleared and booked in the lent slices is read from the vectors again.
use Rattle.std.proofs.Common.{refl, rules}
use Rattle.ledger.proofs.Publishing.{again, shown}
use Rattle.ledger.proofs.publish.published_whole.Goals as goal

pub invariant_of-cleared : goal.invariant_of-cleared
invariant_of-cleared c =
    let done = c.in-Ok.ensures in
    let all = c.clear-cleared.auto in
    let there = shown c.requires (search rules) done.refusal done.found done.rows c.of.ensures
    (again _ all.bought c.as_mut_slice.ensures.len c.as_slice.ensures.value)
    (again _ all.sold c.as_mut_slice-2.ensures.len c.as_slice-in-Ok.ensures.value)
    (again _ all.flow c.as_mut_slice-3.ensures.len c.as_slice-in-Ok-2.ensures.value)
    (again _ all.price c.as_mut_slice-4.ensures.len c.as_slice-in-Ok-3.ensures.value) refl in
    record { payable = there.payable }

pub result_text-requires-clause-ledger : goal.result_text-requires-clause-ledger
result_text-requires-clause-ledger c =
    let done = c.in-Ok.ensures in
    let all = c.clear-cleared.auto in
    let ledger = again _ all.ledger c.as_mut_slice-5.ensures.len c.as_slice-in-Ok-4.ensures.value in
    let there = shown c.requires (search rules) done.refusal done.found done.rows c.of.ensures
    (again _ all.bought c.as_mut_slice.ensures.len c.as_slice.ensures.value)
    (again _ all.sold c.as_mut_slice-2.ensures.len c.as_slice-in-Ok.ensures.value)
    (again _ all.flow c.as_mut_slice-3.ensures.len c.as_slice-in-Ok-2.ensures.value)
    (again _ all.price c.as_mut_slice-4.ensures.len c.as_slice-in-Ok-3.ensures.value) ledger.same in
    there.booked

pub returns-clause-text : goal.returns-clause-text
returns-clause-text c =
    let done = c.in-Ok.ensures in
    let all = c.clear-cleared.auto in
    let there = shown c.requires (search rules) done.refusal done.found done.rows c.of.ensures
    (again _ all.bought c.as_mut_slice.ensures.len c.as_slice.ensures.value)
    (again _ all.sold c.as_mut_slice-2.ensures.len c.as_slice-in-Ok.ensures.value)
    (again _ all.flow c.as_mut_slice-3.ensures.len c.as_slice-in-Ok-2.ensures.value)
    (again _ all.price c.as_mut_slice-4.ensures.len c.as_slice-in-Ok-3.ensures.value) refl in
    there.says _ c.in_ok-text-in-Ok.ensures.of_outcome
