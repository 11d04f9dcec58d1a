-- What an hour that is not refused is known to keep. Assumes nothing.
use Rattle.std.proofs.Common.{◌≡◌, ℕ, false, List, is_some, None}
use Rattle.hour.specs.Bytes.{market_of, refusal_of}
use Rattle.hour.specs.Market.{Market, Proper}
use Rattle.hour.specs.Rules.{KeepsRules}
use Rattle.hour.proofs.First.{is_none}
use Rattle.hour.proofs.Kept.{kept}

pub proper_kept : (m : Market) → KeepsRules m → Proper m
proper_kept m rules =
    record {
      buys = λ k h. (rules.each_buy k h).zone;
      sells = λ k h. (rules.each_sell k h).zone;
      from = λ k h. (rules.each_line k h).from;
      to = λ k h. (rules.each_line k h).to;
    }

pub proper_hour : (bs : List ℕ) → refusal_of bs ≡ None → Proper (market_of bs)
proper_hour bs none = proper_kept (market_of bs) (kept bs none)

pub proper_seen : (bs : List ℕ) → is_some (refusal_of bs) ≡ false → Proper (market_of bs)
proper_seen bs free = proper_hour bs (is_none (refusal_of bs) free)
