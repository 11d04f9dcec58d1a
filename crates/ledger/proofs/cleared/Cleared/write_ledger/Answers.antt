-- Three sorts of rows and the sums.
use Rattle.std.proofs.Common.{ℕ, List, ◌++◌, ap, ◌∙◌, arith}
use Rattle.ledger.proofs.Writing.{ledger_written, kept_behind}
use Rattle.ledger.proofs.cleared.Cleared.write_ledger.Goals as goal

pub returns-clause-ledger : goal.returns-clause-ledger
returns-clause-ledger c =
    ledger_written c.args.self _ _ _ _ _ _ _ _ _ _
    c.write_rows-paid.ensures c.write_rows-got.ensures c.write_rows-earned.ensures (omega arith) (omega arith)
    (omega arith) (omega arith) c.cast_unsigned.ensures c.cast_unsigned-2.ensures c.cast_unsigned-3.ensures

pub returns-clause-behind : goal.returns-clause-behind
returns-clause-behind c =
    kept_behind c.args.self _ _ _ _ _ _ _ _ _ _
    c.write_rows-paid.ensures c.write_rows-got.ensures c.write_rows-earned.ensures (omega arith) (omega arith)
    (omega arith) (omega arith) c.cast_unsigned.ensures c.cast_unsigned-2.ensures c.cast_unsigned-3.ensures
    c.split_at_mut-buys.result.0.now c.split_at_mut-sells.result.0.now c.split_at_mut-lines.result.0.now _
    (omega arith) (omega arith) (omega arith)
    (c.split_at_mut-buys.ensures.value
    ∙ ap (λ (xs : List ℕ). c.split_at_mut-buys.result.0.now ++ xs)
    (c.split_at_mut-sells.ensures.value
    ∙ ap (λ (xs : List ℕ). c.split_at_mut-sells.result.0.now ++ xs) c.split_at_mut-lines.ensures.value))
