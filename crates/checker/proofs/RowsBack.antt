-- Rows that were written are read back. Assumes nothing.
use Rattle.std.proofs.Common.{◌≡◌, ℕ, zero, suc, ◌+◌, ◌^◌, ◌<◌, List, [], ◌∷◌, ◌++◌, ℤ, Some, Ok, codes, decimal, Result, sym, refl, ap, ◌∙◌, append_assoc, add-one, arith}
use lib.Signed.{mag}
use Rattle.std.proofs.lemmas.List.FromFn.{map-range_with_len_more}
use Rattle.std.specs.Fmt.{signed_decimal}
use Rattle.hour.specs.Listed.{listed}
use Rattle.hour.specs.Text.{rows, money}
use Rattle.hour.specs.declared.refusals.Sort.{Sort}
use Rattle.hour.specs.declared.refusals.Sort.TheVariants as sorts
use Rattle.ledger.specs.Text.{Wording, wording, worth_row, zone_row, item_row}
use Rattle.checker.specs.Reading.{largest}
use Rattle.checker.specs.Form.{Phrasing, phrasing, worth_at, zone_at, row_at, item_at, ◌ok_then◌, Prices, priced, zone_step}
use Rattle.checker.specs.Form.{zones_at, Table, table, item_step, items_at}
use Rattle.checker.proofs.Back.{number_decimal, index_decimal, whole_signed, price_money}
use Rattle.checker.proofs.Steps.{one_price_some, one_more_some}
use Rattle.checker.proofs.Words.{after_append}

pub worth_back :
    (w : ℤ) (n : ℕ) (rest : List ℕ) → mag w < 2 ^ 63 → n < 2 ^ 64 → worth_at (worth_row w n ++ rest) ≡ Some ((w, n), rest)
worth_back w n rest small count =
    let split : worth_row w n ++ rest ≡ codes "worth " ++ (signed_decimal w ++ (codes " pushes " ++ (decimal n ++ (10 ∷ rest)))) =
    simp append_assoc
    in
    ap worth_at split
    ∙ rw (
      whole_signed w 32 (codes "pushes " ++ (decimal n ++ (10 ∷ rest))) small refl,
      number_decimal largest n 10 rest count (omega arith) refl,
    ) refl

pub zone_back :
    (z p : ℕ) (rest : List ℕ) → z < 2 ^ 64 → p < 2 ^ 64 → zone_at z (zone_row z p ++ rest) ≡ Some (p, rest)
zone_back z p rest small dear =
    let split : zone_row z p ++ rest ≡ codes "zone " ++ (decimal z ++ (codes " price " ++ (money p ++ (10 ∷ rest)))) =
    simp append_assoc
    in
    ap (zone_at z) split
    ∙ rw (index_decimal z 32 (codes "price " ++ (money p ++ (10 ∷ rest))) small refl, price_money p 10 rest dear) refl

-- the words of a row, with the spaces around them
abbrev spaced : Wording → Phrasing
spaced w =
    record {
      sort = w.sort ++ (32 ∷ []);
      has = 32 ∷ (w.has ++ (32 ∷ []));
      pays = 32 ∷ (w.pays ++ (32 ∷ []));
    }

spaced_is : (s : Sort) → phrasing s ≡ spaced (wording s)
spaced_is sorts.Buy = refl
spaced_is sorts.Sell = refl
spaced_is sorts.Line = refl

module _ (w : Wording) (k x : ℕ) (d : ℤ) (rest : List ℕ) (small : k < 2 ^ 64) (fits : x < 2 ^ 64) (size : mag d < 2 ^ 63) where
  abbrev behind_pays : List ℕ
  behind_pays = (w.pays ++ (32 ∷ [])) ++ (signed_decimal d ++ (10 ∷ rest))

  abbrev behind_has : List ℕ
  behind_has = (w.has ++ (32 ∷ [])) ++ (decimal x ++ (32 ∷ behind_pays))

  row_back : row_at (spaced w) k (item_row w k x d ++ rest) ≡ Some ((x, d), rest)
  row_back =
      let split : item_row w k x d ++ rest ≡ (w.sort ++ (32 ∷ [])) ++ (decimal k ++ (32 ∷ behind_has)) =
      simp append_assoc
      in
      rw (
        split,
        after_append (w.sort ++ (32 ∷ [])) (decimal k ++ (32 ∷ behind_has)),
        index_decimal k 32 behind_has small refl,
        after_append (w.has ++ (32 ∷ [])) (decimal x ++ (32 ∷ behind_pays)),
        number_decimal largest x 32 behind_pays fits (omega arith) refl,
        after_append (w.pays ++ (32 ∷ [])) (signed_decimal d ++ (10 ∷ rest)),
        whole_signed d 10 rest size refl,
      ) refl

pub item_back :
    (s : Sort) (k x : ℕ) (d : ℤ) (rest : List ℕ) → k < 2 ^ 64 → x < 2 ^ 64 → mag d < 2 ^ 63 →
    item_at s k (item_row (wording s) k x d ++ rest) ≡ Some ((x, d), rest)
item_back s k x d rest small fits size =
    ap (λ (v : Phrasing). row_at v k (item_row (wording s) k x d ++ rest)) (spaced_is s)
    ∙ row_back (wording s) k x d rest small fits size

listed_suc : {A : Type 0} (n : ℕ) (f : ℕ → A) → listed (suc n) f ≡ listed n f ++ (f n ∷ [])
listed_suc n f = ap (λ (k : ℕ). listed k f) (sym (add-one n)) ∙ map-range_with_len_more f 0 n n (omega arith)

pub items_back :
    (s : Sort) (line : ℕ) (x : ℕ → ℕ) (d : ℕ → ℤ) (n : ℕ) (rest : List ℕ) →
    ((k : ℕ) → k < n → (k < 2 ^ 64) × (x k < 2 ^ 64) × (mag (d k) < 2 ^ 63)) →
    items_at s line n (rows n (λ k. item_row (wording s) k (x k) (d k)) ++ rest) ≡ Ok (table (listed n x) (listed n d) rest)
items_back s line x d zero rest fit = refl
items_back s line x d (suc n) rest fit =
    let row = item_row (wording s) n (x n) (d n) in
    let here = fit n (omega arith) in
    ap (items_at s line (suc n)) (append_assoc (rows n (λ k. item_row (wording s) k (x k) (d k))) row rest)
    ∙ (ap (λ (r : Result Table ℕ). r ok_then item_step s line n)
    (items_back s line x d n (row ++ rest) (λ k h. fit k (omega arith)))
    ∙ one_more_some (line + n) (table (listed n x) (listed n d) (row ++ rest)) _ (x n) (d n) rest _ _
    (sym (item_back s n (x n) (d n) rest here.0 here.1 here.2)) (listed_suc n x) (listed_suc n d))

pub zones_back :
    (line : ℕ) (p : ℕ → ℕ) (n : ℕ) (rest : List ℕ) → ((z : ℕ) → z < n → (z < 2 ^ 64) × (p z < 2 ^ 64)) →
    zones_at line n (rows n (λ z. zone_row z (p z)) ++ rest) ≡ Ok (priced (listed n p) rest)
zones_back line p zero rest fit = refl
zones_back line p (suc n) rest fit =
    let row = zone_row n (p n) in
    let here = fit n (omega arith) in
    ap (zones_at line (suc n)) (append_assoc (rows n (λ z. zone_row z (p z))) row rest)
    ∙ (ap (λ (r : Result Prices ℕ). r ok_then zone_step line n) (zones_back line p n (row ++ rest) (λ z h. fit z (omega arith)))
    ∙ one_price_some (line + n) (priced (listed n p) (row ++ rest)) _ (p n) rest _
    (sym (zone_back n (p n) rest here.0 here.1)) (listed_suc n p))
