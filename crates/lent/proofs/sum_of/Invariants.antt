use Rattle.std.proofs.Common.{◌≡◌, take}
use Rattle.lent.specs.Lending.{sum_of}
use Rattle.lent.proofs.sum_of.Given as goal

abbrev pub invariant-loop-money : goal.invariant-loop-money
invariant-loop-money l = l.sum ≡ sum_of (take l.money-index l.numbers)
