-- A sum that was wrapped already, and one more number, wraps to what the whole sum wraps to.
use Rattle.std.proofs.Common.{◌%◌, ◌^◌, ◌+◌, get_or, take, sum, ◌∙◌, ap, sym}
use Rattle.std.proofs.Math.Nat.{mod-add-mod}
use Rattle.std.proofs.lemmas.List.Sums.{fold_more}
use Rattle.lent.proofs.sum_of.Goals as goal

pub loop-money-preserved : goal.loop-money-preserved
loop-money-preserved c =
    let xs = c.args.numbers.now in
    let i = c.loop-money.money-index in
    let x = get_or xs i 0 in
    ap (λ s. (s + x) % 2 ^ 64) c.loop-money.invariant
    ∙ mod-add-mod (sum (take i xs)) (2 ^ 64) x
    ∙ ap (λ s. s % 2 ^ 64) (sym (fold_more ◌+◌ 0 xs i 0 c.loop-money-test.true))
