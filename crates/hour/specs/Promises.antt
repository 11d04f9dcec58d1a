-- What reading and writing promise of whole hours. Each is a statement; promises.rt has the functions whose contracts they are.
-- Assumes nothing.
--
--   ByteString bs   every number of bs is a byte
--   ReadBack        an hour that keeps the rules is written as bytes that are not refused and say this very hour
--   WrittenBack     bytes that are not refused say an hour that keeps the rules, and it is written as these very bytes
--   OnlyHours       bytes are refused unless they are those of an hour that keeps the rules, and then they are not
--   FrontTells      whatever follows them, bytes that are long enough for a head are refused by the limits that it breaks; and
--                   where it breaks none, more bytes than the longest hour has are refused for their length
use Rattle.std.specs.Prelude.{◌≡◌, ℕ, ◌<◌, ◌≤◌, List, ◌++◌, length, Some, None, slice_index}
use Rattle.hour.specs.Bytes.{market_of, limits_fault, refusal_of, bytes_of}
use Rattle.hour.specs.Market.{Market}
use Rattle.hour.specs.Rules.{KeepsRules, longest_hour}
use Rattle.hour.specs.declared.refusals.Refusal.{Refusal}
use Rattle.hour.specs.declared.refusals.Refusal.TheVariants.{Length}

abbrev pub ByteString : List ℕ → Type 0
ByteString bs = (i : ℕ) → slice_index bs i < 256

abbrev pub ReadBack : Type 0
ReadBack = (m : Market) → KeepsRules m → (refusal_of (bytes_of m) ≡ None) × (market_of (bytes_of m) ≡ m)

abbrev pub WrittenBack : Type 0
WrittenBack =
    (bs : List ℕ) → ByteString bs → refusal_of bs ≡ None →
    KeepsRules (market_of bs) × (bytes_of (market_of bs) ≡ bs)

abbrev pub OnlyHours : Type 0
OnlyHours =
    (bs : List ℕ) → ByteString bs →
    (refusal_of bs ≡ None → (m : Market) × KeepsRules m × (bytes_of m ≡ bs))
    × ((m : Market) → KeepsRules m → bytes_of m ≡ bs → refusal_of bs ≡ None)

abbrev pub FrontTells : Type 0
FrontTells =
    (front rest : List ℕ) → 7 ≤ length front →
    ((r : Refusal) → limits_fault front ≡ Some r → refusal_of (front ++ rest) ≡ Some r)
    × (limits_fault front ≡ None → longest_hour < length (front ++ rest) →
    refusal_of (front ++ rest) ≡ Some (Length (length (front ++ rest))))
