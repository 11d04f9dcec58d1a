-- Numbers and their bytes, low byte first. Assumes nothing.
use Rattle.std.proofs.Common.{◌≡◌, ℕ, zero, suc, ◌+◌, ◌*◌, ◌/◌, ◌%◌, ◌^◌, ◌<◌, ◌≤◌, [], ◌∷◌, take, refl, ap, ◌∙◌, ap₂, arith}
use Rattle.std.proofs.Math.Nat.{pow-suc, div-div-eq-div-mul}
use Rattle.std.specs.Int.{byte_at, bytes_low_first}
use Rattle.hour.specs.Bytes.{low_bytes}

-- a number below 256, 256 * 256 or 256 * 256 * 256 is the sum of its bytes
pub one_from_low : (v : ℕ) → v < 256 → v % 256 ≡ v
one_from_low v small = omega arith

pub two_from_low : (v : ℕ) → v < 65536 → v % 256 + 256 * (v / 256 % 256) ≡ v
two_from_low v small = omega arith

pub three_from_low :
    (v : ℕ) → v < 16777216 → v % 256 + 256 * (v / 256 % 256) + 65536 * (v / 256 / 256 % 256) ≡ v
three_from_low v small = omega arith

-- and bytes are the bytes of their sum
pub low_from_one : (a : ℕ) → a < 256 → low_bytes 1 a ≡ a ∷ []
low_from_one a small = ap (λ (x : ℕ). x ∷ []) (omega arith)

pub low_from_two : (a b : ℕ) → a < 256 → b < 256 → low_bytes 2 (a + 256 * b) ≡ a ∷ b ∷ []
low_from_two a b low high =
    let here : (a + 256 * b) % 256 ≡ a = omega arith in
    let rest : (a + 256 * b) / 256 ≡ b = omega arith in
    ap₂ ◌∷◌ here (ap (low_bytes 1) rest ∙ low_from_one b high)

pub low_from_three :
    (a b c : ℕ) → a < 256 → b < 256 → c < 256 → low_bytes 3 (a + 256 * b + 65536 * c) ≡ a ∷ b ∷ c ∷ []
low_from_three a b c low middle high =
    let here : (a + 256 * b + 65536 * c) % 256 ≡ a = omega arith in
    let rest : (a + 256 * b + 65536 * c) / 256 ≡ b + 256 * c = omega arith in
    ap₂ ◌∷◌ here (ap (low_bytes 2) rest ∙ low_from_two b c middle high)

-- the lowest bytes, the first of all that a number has: v is what is left of it from byte i on
byte_here : (i n v : ℕ) → v ≡ n / 256 ^ i → byte_at i n ≡ v % 256
byte_here zero n v left = omega (arith, left)
byte_here (suc i) n v left = rw left refl

pub low_of_all :
    (i k width n v : ℕ) → width ≤ k → v ≡ n / 256 ^ i → take width (bytes_low_first i k n) ≡ low_bytes width v
low_of_all i k zero n v within left = refl
low_of_all i zero (suc width) n v within left = absurd (omega arith)
low_of_all i (suc k) (suc width) n v within left =
    let rest : v / 256 ≡ n / 256 ^ suc i = rw (left, pow-suc 256 i) (div-div-eq-div-mul n (256 ^ i) 256) in
    ap₂ ◌∷◌ (byte_here i n v left) (low_of_all (suc i) k width n (v / 256) (omega arith) rest)
