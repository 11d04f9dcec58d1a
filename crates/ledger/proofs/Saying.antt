-- The rows of a sort as a loop writes them; the text of a ledger has every money by its definition. Assumes nothing.
use Rattle.std.proofs.Common.{◌≡◌, ℕ, zero, suc, ◌+◌, ◌^◌, ◌<◌, List, ◌++◌, ℤ, nat_abs, length, take, sym, refl, ap, ◌∙◌, ap₂, append_assoc, zero-add, arith, w64, to_z, of_z}
use Rattle.std.proofs.lemmas.List.{get_or-take}
use Rattle.hour.proofs.Rows.{row_added}
use Rattle.hour.specs.Market.{Market, Outcome, at, count_of}
use Rattle.hour.specs.Rules.{KeepsRules}
use Rattle.hour.specs.Text.{rows}
use Rattle.hour.specs.declared.refusals.Sort.{Sort}
use Rattle.hour.specs.declared.refusals.Sort.TheVariants as sorts
use Rattle.network.specs.Network.{carried}
use Rattle.hour.specs.Seen.{market_seen}
use Rattle.network.specs.Given.{outcome_given, item}
use Rattle.ledger.specs.Money.{first_row, worth_by, LedgerOf, Payable}
use Rattle.ledger.specs.Cleared.{LedgerIn, text_in, text_from}
use Rattle.ledger.specs.declared.cleared.Cleared.{Cleared}
use Rattle.ledger.specs.Promises.{TextSays}
use Rattle.ledger.specs.Text.{Wording, wording, item_row, item_rows, sort_rows, worth_row, zone_row, zone_rows}
use Rattle.ledger.proofs.Limits.{rules_of, read_as_money, worth_small}
use Rattle.ledger.proofs.Size.{number_back, read_back}

-- one more row of a sort
pub item_added :
    (xs l begin : List ℕ) (w : Wording) (k : ℕ) (z : ℤ) (before after : List ℕ) → at l k < 2 ^ 64 →
    z ≡ to_z w64 (at l k) → before ≡ begin ++ item_rows w k xs l 0 →
    after ≡ before ++ item_row w k (at xs k) (to_z w64 (of_z w64 z)) → after ≡ begin ++ item_rows w (k + 1) xs l 0
item_added xs l begin w k z before after fits is so_far adds =
    row_added (λ j. item_row w j (at xs j) (to_z w64 (at l (0 + j)))) begin before after k so_far
    (adds
    ∙ ap (λ (d : ℤ). before ++ item_row w k (at xs k) d)
    (read_back (at l k) z fits is ∙ ap (λ (j : ℕ). to_z w64 (at l j)) (sym (zero-add k))))

pub rows_same : (n : ℕ) (f g : ℕ → List ℕ) → ((k : ℕ) → k < n → f k ≡ g k) → rows n f ≡ rows n g
rows_same zero f g same = refl
rows_same (suc n) f g same = ap₂ ◌++◌ (rows_same n f g (λ k h. same k (omega arith))) (same n (omega arith))

module _
    (m : Market) (o : Outcome) (ps l : List ℕ) (rules : KeepsRules m) (pay : Payable m o ps) (kept : LedgerOf m o ps l)
  where
    rows_say :
        (s : Sort) →
        rows (count_of m s) (λ k. item_row (wording s) k (carried o (item s k)) (to_z w64 (at l (first_row m s + k))))
        ≡ sort_rows m o ps s
    rows_say s =
        rows_same (count_of m s) _ _
        (λ k h. ap (item_row (wording s) k (carried o (item s k))) ((read_as_money m o ps l rules pay kept).rows s k h))

pub text_says : TextSays
text_says m o ps l pushes rules pay kept =
    let begin = worth_row (worth_by m o) pushes ++ zone_rows m.zones ps in
    ap₂ ◌++◌
    (ap₂ ◌++◌ (ap (λ (bs : List ℕ). begin ++ bs) (rows_say m o ps l rules pay kept sorts.Buy))
    (rows_say m o ps l rules pay kept sorts.Sell))
    (rows_say m o ps l rules pay kept sorts.Line)

-- five parts of a text, one behind the other
pub five_parts :
    (t₀ t₁ t₂ t₃ t₄ t₅ w z b s l W Z B S L : List ℕ) → t₁ ≡ t₀ ++ w → t₂ ≡ t₁ ++ z → t₃ ≡ t₂ ++ b → t₄ ≡ t₃ ++ s →
    t₅ ≡ t₄ ++ l → w ≡ W → z ≡ Z → b ≡ B → s ≡ S → l ≡ L → t₅ ≡ t₀ ++ ((((W ++ Z) ++ B) ++ S) ++ L)
five_parts t₀ t₁ t₂ t₃ t₄ t₅ w z b s l W Z B S L one two three four five w_is z_is b_is s_is l_is =
    rw (five, four, three, two, one, w_is, z_is, b_is, s_is, l_is) (simp append_assoc)

pub zone_rows_say :
    (n : ℕ) (ps zs : List ℕ) → length zs ≡ n → zs ≡ take n ps → zone_rows (length zs) zs ≡ zone_rows n ps
zone_rows_say n ps zs long is =
    rw long (rows_same n _ _ (λ z h. ap (zone_row z) (ap (λ (xs : List ℕ). at xs z) is ∙ get_or-take n ps z 0 h)))

-- the rows of a sort, of fronts of its amounts and of its part of a ledger
item_rows_are :
    (s : Sort) (n i : ℕ) (xs ys l : List ℕ) (amount : ℕ → ℕ) → length xs ≡ n →
    ((k : ℕ) → k < n → at xs k ≡ amount k) → ((k : ℕ) → k < n → at ys k ≡ at l (i + k)) →
    item_rows (wording s) (length xs) xs ys 0
    ≡ rows n (λ k. item_row (wording s) k (amount k) (to_z w64 (at l (i + k))))
item_rows_are s n i xs ys l amount long amounts moneys =
    rw long (rows_same n _ _
    (λ k h.
    ap₂ (item_row (wording s) k) (amounts k h)
    (ap (λ (j : ℕ). to_z w64 (at ys j)) (zero-add k) ∙ ap (to_z w64) (moneys k h))))

-- the parts of a cleared hour, each with its front of a list of amounts and its rows of the ledger
pub item_rows_same :
    (s : Sort) (n i : ℕ) (xs ys zs l : List ℕ) → length xs ≡ n → ((k : ℕ) → k < n → at xs k ≡ at zs k) →
    ((k : ℕ) → k < n → at ys k ≡ at l (i + k)) →
    item_rows (wording s) (length xs) xs ys 0 ≡ item_rows (wording s) n zs l i
item_rows_same s n i xs ys zs l = item_rows_are s n i xs ys l (at zs)

-- the same where the ledger has every money: each row has the money of the hour's own outcome
pub item_rows_say :
    (c : Cleared) (l : List ℕ) → LedgerIn c l → (s : Sort) (xs ys : List ℕ) →
    length xs ≡ count_of (market_seen c.hour) s →
    ((k : ℕ) → k < count_of (market_seen c.hour) s → at xs k ≡ carried (outcome_given c.amounts) (item s k)) →
    ((k : ℕ) → k < count_of (market_seen c.hour) s → at ys k ≡ at l (first_row (market_seen c.hour) s + k)) →
    item_rows (wording s) (length xs) xs ys 0
    ≡ sort_rows (market_seen c.hour) (outcome_given c.amounts) c.prices.now s
item_rows_say c l kept s xs ys long amounts moneys =
    let m = market_seen c.hour in
    let o = outcome_given c.amounts in
    item_rows_are s (count_of m s) (first_row m s) xs ys l (λ k. carried o (item s k)) long amounts moneys
    ∙ rows_say m o c.prices.now l (rules_of c.hour) c.payable kept s

pub worth_says :
    (c : Cleared) (z : ℤ) (n : ℕ) → z ≡ worth_by (market_seen c.hour) (outcome_given c.amounts) →
    worth_row (to_z w64 (of_z w64 z)) n ≡ worth_row (worth_by (market_seen c.hour) (outcome_given c.amounts)) n
worth_says c z n is =
    let small = (worth_small (market_seen c.hour) (outcome_given c.amounts) (rules_of c.hour) c.payable.feasible).whole in
    ap (λ (w : ℤ). worth_row w n) (number_back z (omega (arith, ap nat_abs is)) ∙ is)

-- the text of a cleared hour whose ledger has every money is that of its outcome
pub ledger_says : (c : Cleared) (n : ℕ) (l : List ℕ) → LedgerIn c l → text_from c n l ≡ text_in c n
ledger_says c n l kept =
    text_says (market_seen c.hour) (outcome_given c.amounts) c.prices.now l n (rules_of c.hour) c.payable kept
