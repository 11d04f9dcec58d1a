use Rattle.hour.proofs.First.{is_none}
use Rattle.hour.proofs.Kept.{kept, plain_said}
use Rattle.hour.specs.Bytes.{market_of}
use Rattle.prices.proofs.Bounds.{kept_laid}
use Rattle.prices.proofs.clearing.clear_hour.Goals as goal

pub circulate_from_nothing-requires-clause-kept : goal.circulate_from_nothing-requires-clause-kept
circulate_from_nothing-requires-clause-kept c =
    let bytes = c.args.hour.bytes.now in
    let laid = c.lay_hour.ensures in
    kept_laid _ _ _ _ (market_of bytes) c.zones.ensures laid.buys laid.sells laid.lines (plain_said bytes).unsupplied
    (kept bytes (is_none _ c.args.hour.kept))
