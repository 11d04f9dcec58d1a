use Rattle.std.proofs.Common.{◌≡◌, ◌*◌, take}
use lib.Seq.{paste}
use Rattle.std.specs.List.{flat_map}
use Rattle.hour.proofs.writing.put_each.Given as goal

abbrev pub invariant-loop-k : goal.invariant-loop-k
invariant-loop-k g l =
    let e = g.E.Entry in
    l.out ≡ paste l.initial.out (e.place l.bids 0) (flat_map e.written (take l.k l.list)) (e.size * l.k)
