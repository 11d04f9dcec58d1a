use Rattle.std.proofs.Common.{◌∙◌}
use Rattle.paths.proofs.Ends.{forward_in, backward_in, forward_done, backward_done, is_taken, is_passed}
use Rattle.paths.proofs.Rounds.{line_done}
use Rattle.paths.proofs.relax.relax.Goals as goal
use Rattle.paths.proofs.relax.relax.Goals.{then-flow-line, else-flow-line, then-flow-gt0, else-flow-gt0}

pub raise-forth-requires : goal.raise-forth-requires
raise-forth-requires c = forward_in c.args.given.sound c.requires.within c.row_in-line.ensures _ c.requires.settling

pub raise-back-requires : goal.raise-back-requires
raise-back-requires c =
    let forth =
    forward_done c.args.given.sound c.requires.within c.row_in-line.ensures _ c.requires.settling
    (elim c.if-flow-line.branch [
      | then-flow-line w ↦
          is_taken w.if-flow-line.true (w.forth-is ∙ w.raise-forth.ensures.answer) (w.ways-is ∙ w.raise-forth.ensures.ways)
      | else-flow-line w ↦ is_passed w.if-flow-line.false w.forth-is w.ways-is
    ])
    in
    backward_in c.args.given.sound c.requires.within c.row_in-line.ensures _ forth.raised.settling

pub returns : goal.returns
returns c =
    let forth =
    forward_done c.args.given.sound c.requires.within c.row_in-line.ensures _ c.requires.settling
    (elim c.if-flow-line.branch [
      | then-flow-line w ↦
          is_taken w.if-flow-line.true (w.forth-is ∙ w.raise-forth.ensures.answer) (w.ways-is ∙ w.raise-forth.ensures.ways)
      | else-flow-line w ↦ is_passed w.if-flow-line.false w.forth-is w.ways-is
    ])
    in
    rw (c.from.ensures, c.from-2.ensures)
    (line_done forth
    (backward_done c.args.given.sound c.requires.within c.row_in-line.ensures _ forth.raised.settling
    (elim c.if-flow-gt0.branch [
      | then-flow-gt0 w ↦
          is_taken w.if-flow-gt0.true (w.back-is ∙ w.raise-back.ensures.answer) (w.ways-is ∙ w.raise-back.ensures.ways)
      | else-flow-gt0 w ↦ is_passed w.if-flow-gt0.false w.back-is w.ways-is
    ])))
