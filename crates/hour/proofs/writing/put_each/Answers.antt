use Rattle.std.proofs.Common.{◌≡◌, ◌+◌, ◌*◌, get_or, ◌∙◌, arith, rules}
use Rattle.std.proofs.lemmas.List.{get_or_read}
use lib.Seq.{paste}
use Rattle.hour.proofs.Pasted.{joined_next}
use Rattle.hour.proofs.writing.put_each.Goals as goal

pub loop-k-preserved : goal.loop-k-preserved
loop-k-preserved g c =
    let e = g.E.Entry in
    let law = g.met.E.Entry in
    let start = e.place c.args.bids 0 in
    let place : c.place.result ≡ start + e.size * c.loop-k.k = c.place.ensures ∙ law.in_order c.args.bids c.loop-k.k in
    let item = get_or_read c.args.list.now c.loop-k.k _ c.loop-k-test.true c.index-list-k.is e.absent in
    let put : c.put.new.out ≡ paste c.loop-k.out (start + e.size * c.loop-k.k) (e.written (get_or c.args.list.now c.loop-k.k e.absent)) e.size = search rules in
    joined_next e.written e.size law.long _ _ _ start c.loop-k.k c.args.list.now e.absent
    c.loop-k-test.true (omega arith) c.loop-k.invariant put
