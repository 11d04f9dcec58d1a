use Rattle.std.proofs.Common.{sym, ◌∙◌, arith}
use Rattle.network.proofs.Rows.{plain_in}
use Rattle.circulation.proofs.Turns.{turn_sound, turn_runs, turn_few, turn_rises, turns_end, turns_settle}
use Rattle.circulation.proofs.run.circulate.Goals as goal

pub overflow_add-pushes : goal.overflow_add-pushes
overflow_add-pushes c =
    let few =
    turn_few _ c.requires.tables.proper (plain_in _ _ _ _) _ _ _ _ c.find_ways.ensures.planned _ c.find_ways.ensures.answer
    c.loop-t.invariant.0 c.loop-t.invariant.1 _ _
    (sym c.is_some.ensures ∙ c.loop-t-test.true) c.sweep-pushes.ensures
    in
    omega (arith, few, c.requires.few)

pub loop-t-smaller : goal.loop-t-smaller
loop-t-smaller c =
    turn_rises _ c.requires.tables.proper (plain_in _ _ _ _) _ _ _ _ c.find_ways.ensures.planned _ c.find_ways.ensures.answer
    c.loop-t.invariant.0 c.loop-t.invariant.1 _ _
    (sym c.is_some.ensures ∙ c.loop-t-test.true) c.sweep-pushes.ensures

pub loop-t-preserved : goal.loop-t-preserved
loop-t-preserved c =
    let some = sym c.is_some.ensures ∙ c.loop-t-test.true in (
      turn_runs _ c.requires.tables.proper (plain_in _ _ _ _) _ _ _ _ c.find_ways.ensures.planned _ c.find_ways.ensures.answer
          c.loop-t.invariant.0 c.loop-t.invariant.1 _ _ some c.sweep-pushes.ensures,
      turn_sound _ c.requires.tables.proper (plain_in _ _ _ _) _ _ _ _ c.find_ways.ensures.planned _ c.find_ways.ensures.answer
          c.loop-t.invariant.0 c.loop-t.invariant.1 _ _ some c.sweep-pushes.ensures,
    )

pub returns : goal.returns
returns c =
    let none = sym c.is_some.ensures ∙ c.loop-t-test.false in
    let best =
    turns_settle _ c.requires.tables.proper (plain_in _ _ _ _) _ _ _ _ c.find_ways.ensures.planned _ c.find_ways.ensures.answer
    c.loop-t.invariant.0 c.loop-t.invariant.1 none c.requires.feasible
    in
    record {
      run =
          turns_end _ c.requires.tables.proper (plain_in _ _ _ _) _ _ _ _ c.find_ways.ensures.planned _ c.find_ways.ensures.answer
          c.loop-t.invariant.0 c.loop-t.invariant.1 none;
      pushes = c.loop-t.invariant.1;
      settled = best.0;
      lowest = best.1;
    }
