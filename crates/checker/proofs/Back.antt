-- What was written is read back. Assumes nothing.
use Rattle.std.proofs.Common.{◌≡◌, ℕ, zero, suc, ◌+◌, ◌-◌, ◌*◌, ◌/◌, ◌%◌, ◌^◌, ◌<◌, ◌≤◌, Bool, true, false, cond, eqb, ltb, List, [], ◌∷◌, ◌++◌, ℤ, pos, negsuc, Some, None, codes, decimal, sym, refl, ap, ◌∙◌, append_assoc, arith, ltb-false, ltb-true, eq-eqb, ne_eqb, le-leb}
use lib.Signed.{mag}
use Rattle.std.proofs.lemmas.Fmt.{decimal_by_steps, decimal_digit}
use Rattle.std.specs.Char.{is_ascii_digit}
use Rattle.std.specs.Fmt.{signed_decimal}
use Rattle.hour.specs.Text as text
use Rattle.checker.specs.Reading.{Read, after, digits, number, whole, index, digit, widest, largest}
use Rattle.checker.specs.Reading.{hundredths, price}

digit_is : (d : ℕ) → d < 10 → is_ascii_digit (48 + d) ≡ true
digit_is d small = grind arith

-- what is read next where the number n stands before a text
abbrev onward : ℕ → ℕ → List ℕ → Read ℕ
onward limit n rest = cond (eqb n 0) (Some (0, rest)) (digits limit n rest)

onward_some : (limit n : ℕ) (rest : List ℕ) → (n ≡ 0 → ⊥) → onward limit n rest ≡ digits limit n rest
onward_some limit n rest is = rw (ne_eqb n 0 is)

-- one digit more
digits_more :
    (limit n d : ℕ) (rest : List ℕ) → d < 10 → n * 10 + d ≤ limit →
    digits limit n ((48 + d) ∷ rest) ≡ digits limit (n * 10 + d) rest
digits_more limit n d rest small within =
    let same : 48 + d - 48 ≡ d = omega arith in
    rw (digit_is d small, same, le-leb (n * 10 + d) limit within)

number_first : (limit n : ℕ) (rest : List ℕ) → n < 10 → number limit ((48 + n) ∷ rest) ≡ onward limit n rest
number_first limit zero rest small = refl
number_first limit (suc n) rest small =
    let other : 48 + suc n ≡ 48 → ⊥ = λ e. omega arith in
    let same : 48 + suc n - 48 ≡ suc n = omega arith in
    rw (ne_eqb (48 + suc n) 48 other, digit_is (suc n) small, same)
    (sym (onward_some limit (suc n) rest (λ e. omega arith)))

number_onward :
    (limit n : ℕ) → n < 2 ^ 64 → (rest : List ℕ) → n ≤ limit → number limit (decimal n ++ rest) ≡ onward limit n rest
number_onward limit =
    decimal_by_steps (λ n ds. (rest : List ℕ) → n ≤ limit → number limit (ds ++ rest) ≡ onward limit n rest)
    (λ n small rest within. number_first limit n rest small)
    (λ n ds large before rest within.
    let q : n / 10 * 10 + n % 10 ≡ n = omega arith in
    let some : n / 10 ≡ 0 → ⊥ = λ e. omega arith in
    let more : n ≡ 0 → ⊥ = λ e. omega arith in
    ap (number limit) (append_assoc ds ((48 + n % 10) ∷ []) rest)
    ∙ (before ((48 + n % 10) ∷ rest) (omega arith)
    ∙ (onward_some limit (n / 10) _ some
    ∙ (digits_more limit (n / 10) (n % 10) rest (omega arith) (omega arith)
    ∙ (ap (λ (k : ℕ). digits limit k rest) q ∙ sym (onward_some limit n rest more))))))

-- a number before something that is no digit
pub number_decimal :
    (limit n c : ℕ) (rest : List ℕ) → n < 2 ^ 64 → n ≤ limit → is_ascii_digit c ≡ false →
    number limit (decimal n ++ (c ∷ rest)) ≡ Some (n, c ∷ rest)
number_decimal limit zero c rest small within stop = number_onward limit 0 small (c ∷ rest) within
number_decimal limit (suc n) c rest small within stop =
    number_onward limit (suc n) small (c ∷ rest) within
    ∙ (onward_some limit (suc n) (c ∷ rest) (λ e. omega arith) ∙ rw stop refl)

pub index_decimal :
    (k c : ℕ) (rest : List ℕ) → k < 2 ^ 64 → is_ascii_digit c ≡ false → index k (decimal k ++ (c ∷ rest)) ≡ Some (c ∷ rest)
index_decimal k c rest small stop =
    rw (number_decimal largest k c rest small (omega arith) stop, eq-eqb k k refl) refl

-- a number does not begin with a minus
no_minus : (n : ℕ) → n < 2 ^ 64 → (rest : List ℕ) → after (codes "-") (decimal n ++ rest) ≡ None
no_minus =
    decimal_by_steps (λ n ds. (rest : List ℕ) → after (codes "-") (ds ++ rest) ≡ None)
    (λ n small rest. let other : 45 ≡ 48 + n → ⊥ = λ e. omega arith in rw (ne_eqb 45 (48 + n) other) refl)
    (λ n ds large before rest.
    ap (after (codes "-")) (append_assoc ds ((48 + n % 10) ∷ []) rest) ∙ before ((48 + n % 10) ∷ rest))

pub whole_signed :
    (z : ℤ) (c : ℕ) (rest : List ℕ) → mag z < 2 ^ 63 → is_ascii_digit c ≡ false →
    whole (signed_decimal z ++ (c ∷ rest)) ≡ Some (z, c ∷ rest)
whole_signed (pos n) c rest small stop =
    rw (no_minus n (omega arith) (c ∷ rest), number_decimal widest n c rest (omega arith) (omega arith) stop) refl
whole_signed (negsuc n) c rest small stop =
    rw (number_decimal widest (suc n) c rest (omega arith) (omega arith) stop, ne_eqb (suc n) 0 (λ e. omega arith)) refl

-- units, a point and two digits
digit_decimal : (d : ℕ) (rest : List ℕ) → d < 10 → digit (decimal d ++ rest) ≡ Some (d, rest)
digit_decimal d rest small =
    let same : 48 + d - 48 ≡ d = omega arith in
    rw (decimal_digit d small, digit_is d small, same) refl

hundredths_shown :
    (n c : ℕ) (rest : List ℕ) → n < 2 ^ 64 → hundredths (text.hundredths n ++ (c ∷ rest)) ≡ Some (n, c ∷ rest)
hundredths_shown n c rest small =
    let behind_point = decimal (n / 10 % 10) ++ (decimal (n % 10) ++ (c ∷ rest)) in
    let split : text.hundredths n ++ (c ∷ rest) ≡ decimal (n / 100) ++ (46 ∷ behind_point) = simp append_assoc in
    let sum : n / 100 * 100 + n / 10 % 10 * 10 + n % 10 ≡ n = omega arith in
    rw (
      split,
      number_decimal largest (n / 100) 46 behind_point (omega arith) (omega arith) refl,
      digit_decimal (n / 10 % 10) (decimal (n % 10) ++ (c ∷ rest)) (omega arith),
      digit_decimal (n % 10) (c ∷ rest) (omega arith),
      sum,
    ) refl

pub price_money :
    (p c : ℕ) (rest : List ℕ) → p < 2 ^ 64 → price (text.money p ++ (c ∷ rest)) ≡ Some (p, c ∷ rest)
price_money p c rest small = go (ltb p 50000) refl
  where
    go :
        (t : Bool) → ltb p 50000 ≡ t →
        price (cond t (codes "-" ++ text.hundredths (50000 - p)) (text.hundredths (p - 50000)) ++ (c ∷ rest)) ≡ Some (p, c ∷ rest)
    go true is =
        let less = ltb-true p 50000 is in
        let some : 50000 - p ≡ 0 → ⊥ = λ e. omega arith in
        let back : 50000 - (50000 - p) ≡ p = omega arith in
        rw (
          hundredths_shown (50000 - p) c rest (omega arith),
          ne_eqb (50000 - p) 0 some,
          le-leb (50000 - p) 50000 (omega arith),
          back,
        ) refl
    go false is =
        let more = ltb-false p 50000 is in
        let back : 50000 + (p - 50000) ≡ p = omega arith in
        let none : after (codes "-") (text.hundredths (p - 50000) ++ (c ∷ rest)) ≡ None =
        ap (after (codes "-")) (append_assoc (decimal ((p - 50000) / 100)) _ (c ∷ rest))
        ∙ no_minus ((p - 50000) / 100) (omega arith) _
        in
        rw (none, hundredths_shown (p - 50000) c rest (omega arith), back, le-leb p largest (omega arith)) refl
