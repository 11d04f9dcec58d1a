use Rattle.hour.specs.Books.{market_in}
use Rattle.hour.proofs.Pasted.{paste_hour}
use Rattle.hour.proofs.writing.put_hour.Goals as goal

pub returns-clause-bytes : goal.returns-clause-bytes
returns-clause-bytes c =
    paste_hour (market_in c.args.book) _ _ _ _ _
    c.put_head.ensures c.put_each.ensures c.put_each-2.ensures c.put_each-3.ensures
