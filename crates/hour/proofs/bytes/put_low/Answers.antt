use Rattle.std.proofs.Common.{◌∙◌, sym, arith}
use Rattle.std.proofs.lemmas.Slice.{put_mid-paste}
use Rattle.hour.proofs.Numbers.{low_of_all}
use Rattle.hour.proofs.Pasted.{length_low_bytes}
use Rattle.hour.proofs.bytes.put_low.Goals as goal

pub returns : goal.returns
returns c =
    let width = c.args.width in
    let number = c.args.number in
    let bytes = rw c.to_le_bytes.ensures at c.copy_from_slice.ensures.after in
    let low = low_of_all 0 8 width number number c.requires.few (omega arith) in
    put_mid-paste c.args.at _ c.args.out.now _ _ width (bytes ∙ low) (omega arith) (sym (length_low_bytes width number))
