use Rattle.std.proofs.Common.{◌≡◌, rules}
use Rattle.std.proofs.lemmas.Slice.Eq.{strip_prefix_is}
use Rattle.checker.proofs.Words.{after_from_strip}
use Rattle.checker.proofs.reading.after.Goals as goal
use Rattle.std.proofs.lemmas.Bool.Decides.{Decides-eqb}

pub returns : goal.returns
returns c =
    let same : c.as_bytes.result.now ≡ c.args.word.now = search rules in
    rw (← same)
    (after_from_strip c.args.bytes.now c.as_bytes.result.now c.strip_prefix.result
    (strip_prefix_is Decides-eqb c.args.bytes.now c.as_bytes.result.now c.strip_prefix.result c.strip_prefix.ensures.cases))
