use Rattle.std.proofs.Common.{arith}
use Rattle.hour.proofs.First.{is_none}
use Rattle.hour.proofs.Kept.{kept, plain_said}
use Rattle.hour.specs.Bytes.{market_of}
use Rattle.prices.proofs.Bounds.{kept_laid}
use Rattle.prices.proofs.hours.clear_laid.Goals as goal

pub clear_slices-requires : goal.clear_slices-requires
clear_slices-requires c =
    let bytes = c.args.hour.bytes.now in
    record {
      kept =
          kept_laid _ _ _ _ (market_of bytes) c.zones.ensures c.lay_hour.ensures.buys c.lay_hour.ensures.sells
          c.lay_hour.ensures.lines (plain_said bytes).unsupplied (kept bytes (is_none _ c.args.hour.kept));
      room =
          record {
            bought_room = omega arith;
            sold_room = omega arith;
            flow_room = omega arith;
            price_room = omega (arith, c.zones.ensures);
          };
    }
