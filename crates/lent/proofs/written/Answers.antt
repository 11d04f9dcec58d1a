use Rattle.std.proofs.Common.{◌∙◌}
use Rattle.hour.specs.Books.{market_in}
use Rattle.lent.proofs.Whole.{taken_whole}
use Rattle.lent.proofs.written.Goals as goal

pub returns-clause-whole : goal.returns-clause-whole
returns-clause-whole c = λ kept.
    taken_whole (market_in c.args.book) _ _ _ _ _ kept (c.in_ok-bytes.ensures.len ∙ c.size_of.ensures) c.as_mut_slice.ensures.len
    c.write.ensures.answer c.write.ensures.bytes
