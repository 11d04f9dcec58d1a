-- Rows written one after another make a ledger. Assumes nothing.
use Rattle.std.proofs.Common.{◌≡◌, ℕ, ◌+◌, ◌-◌, ◌<◌, ◌≤◌, ◌≢◌, List, ◌++◌, length, drop, set, ◌*◌, ◌^◌, refl, ℤ, ◌+ℤ◌, nat_abs, sym, ap, ◌∙◌, subst, ap₂, inl, inr, add-mul, add-one, zero-add, arith, w64, to_z, of_z}
use Rattle.std.proofs.lemmas.List.{length-append, length-set, get_or-set_same, get_or-set_other, get_or_append_left, get_or-append-add}
use Rattle.std.proofs.lemmas.Bool.{cases_lt}
use Rattle.hour.specs.Market.{Market, at, count_of}
use Rattle.hour.specs.declared.refusals.Sort.{Sort}
use Rattle.hour.specs.declared.refusals.Sort.TheVariants as sorts
use Rattle.hour.specs.declared.items.Item.{Item}
use Rattle.ledger.proofs.Booked.{behind_kept}
use Rattle.ledger.proofs.Limits.{rules_of, running_small, size_row, sum_bits, widest_fits}
use Rattle.ledger.proofs.Size.{bits_back, number_back, size_add, sum_back}
use Rattle.ledger.specs.Cleared.{money_in, LedgerIn}
use Rattle.hour.specs.Seen.{market_seen}
use Rattle.network.specs.Given.{outcome_given, item}
use Rattle.ledger.specs.Money.{sumℤ, first_row, row_count, sum_row}
use Rattle.ledger.specs.Written.{widest, Rows}
use Rattle.ledger.specs.declared.cleared.Cleared.{Cleared}

module _ (c : Cleared) (s : Sort) where
  pub money_small : (k : ℕ) → k < count_of (market_seen c.hour) s → nat_abs (money_in c (item s k)) ≤ widest s
  money_small k below =
      size_row (market_seen c.hour) (outcome_given c.amounts) c.prices.now (rules_of c.hour) c.payable s k below

  -- the same passed on by its bits
  pub money_kept :
      (k : ℕ) (i : Item) (z : ℤ) → k < count_of (market_seen c.hour) s → z ≡ money_in c i → i ≡ item s k →
      nat_abs (to_z w64 (of_z w64 z)) ≤ widest s
  money_kept k i z below is here =
      let stands = is ∙ ap (money_in c) here in
      let small = money_small k below in
      omega (arith, ap nat_abs (number_back z (omega (arith, ap nat_abs stands, widest_fits s))), ap nat_abs stands)

  -- one more row, and a sum with it; a sort has few rows, so the sum stays small
  pub rows_more :
      (n bits cell : ℕ) (l : List ℕ) (more : ℤ) → Rows c s n l (to_z w64 bits) → more ≡ money_in c (item s n) →
      nat_abs more ≤ widest s → n < count_of (market_seen c.hour) s → n < length l →
      cell ≡ of_z w64 (to_z w64 (of_z w64 more)) →
      Rows c s (n + 1) (set l n cell) (to_z w64 (of_z w64 (to_z w64 bits +ℤ to_z w64 (of_z w64 more))))
  rows_more n bits cell l more so_far is row_small below room written =
      record {
        rows = λ k h. elim (cases_lt k n) [
          | inl earlier ↦ let other : k ≢ n = omega arith in get_or-set_other l n k cell 0 other ∙ so_far.rows k earlier
          | inr last ↦
              let same : k ≡ n = omega arith in
              ap (at (set l n cell)) same ∙ get_or-set_same l n cell 0 room ∙ written
              ∙ bits_back more (omega (arith, small))
              ∙ ap (of_z w64) (is ∙ ap (λ (j : ℕ). money_in c (item s j)) (sym same))
        ];
        total =
            added ∙ ap₂ ◌+ℤ◌ so_far.total is
            ∙ sym (ap (λ (j : ℕ). sumℤ j (λ k. money_in c (item s k))) (add-one n));
        small = omega (arith, ap nat_abs added, size_add (to_z w64 bits) more, so_far.small, add-mul n 1 (widest s));
      }
    where
      small : nat_abs (to_z w64 bits) + nat_abs more < 2 ^ 63
      small = running_small (market_seen c.hour) (rules_of c.hour) s n (nat_abs (to_z w64 bits)) _ below so_far.small row_small

      added : to_z w64 (of_z w64 (to_z w64 bits +ℤ to_z w64 (of_z w64 more))) ≡ to_z w64 bits +ℤ more
      added = sum_back bits (to_z w64 bits) more refl small

-- the rows of three sorts, one behind the other, and what stands behind them
module _
    (m : Market) (b s l t : List ℕ) (buys : length b ≡ length m.buys) (sells : length s ≡ length m.sells)
    (lines : length l ≡ length m.lines)
  where
    abbrev pub joined : List ℕ
    joined = b ++ (s ++ (l ++ t))

    past : (xs ys : List ℕ) (n j k : ℕ) → length xs ≡ n → n + j ≡ k → at (xs ++ ys) k ≡ at ys j
    past xs ys n j k long is =
        let place : length xs + j ≡ k = omega arith in
        ap (at (xs ++ ys)) (sym place) ∙ get_or-append-add xs ys j 0

    pub past_buys : (j k : ℕ) → length m.buys + j ≡ k → at joined k ≡ at (s ++ (l ++ t)) j
    past_buys j k is = past b (s ++ (l ++ t)) (length m.buys) j k buys is

    pub past_sells : (j k : ℕ) → length m.buys + length m.sells + j ≡ k → at joined k ≡ at (l ++ t) j
    past_sells j k is =
        past_buys (length m.sells + j) k (omega arith)
        ∙ past s (l ++ t) (length m.sells) j (length m.sells + j) sells (omega arith)

    pub past_lines : (j k : ℕ) → row_count m + j ≡ k → at joined k ≡ at t j
    past_lines j k is =
        past_sells (length m.lines + j) k (omega arith)
        ∙ past l t (length m.lines) j (length m.lines + j) lines (omega arith)

-- the same with their sums
module _
    (c : Cleared) (b s l t : List ℕ) (paid got earned : ℤ) (p g e : ℕ) (buys : Rows c sorts.Buy (length b) b paid)
    (sells : Rows c sorts.Sell (length s) s got) (lines : Rows c sorts.Line (length l) l earned)
    (b_long : length b ≡ length (market_seen c.hour).buys) (s_long : length s ≡ length (market_seen c.hour).sells)
    (l_long : length l ≡ length (market_seen c.hour).lines) (room : 3 ≤ length t)
    (p_is : p ≡ of_z w64 (to_z w64 (of_z w64 paid))) (g_is : g ≡ of_z w64 (to_z w64 (of_z w64 got)))
    (e_is : e ≡ of_z w64 (to_z w64 (of_z w64 earned)))
  where
    abbrev pub m : Market
    m = market_seen c.hour

    abbrev pub sums : List ℕ
    sums = set (set (set t 0 p) 1 g) 2 e

    abbrev pub written : List ℕ
    written = joined m b s l sums b_long s_long l_long

    abbrev pub sum_to : Sort → ℕ → ℤ
    sum_to o n = sumℤ n (λ k. money_in c (item o k))

    row_written :
        (o : Sort) (k : ℕ) → k < count_of m o → at written (first_row m o + k) ≡ of_z w64 (money_in c (item o k))
    row_written sorts.Buy k h =
        ap (at written) (zero-add k)
        ∙ get_or_append_left b (s ++ (l ++ sums)) 0 k (omega arith) ∙ buys.rows k (omega arith)
    row_written sorts.Sell k h =
        past_buys m b s l sums b_long s_long l_long k _ refl
        ∙ get_or_append_left s (l ++ sums) 0 k (omega arith) ∙ sells.rows k (omega arith)
    row_written sorts.Line k h =
        past_sells m b s l sums b_long s_long l_long k _ refl
        ∙ get_or_append_left l sums 0 k (omega arith) ∙ lines.rows k (omega arith)

    bits :
        (o : Sort) (n : ℕ) (z : ℤ) → n ≡ count_of m o → nat_abs z ≤ n * widest o →
        of_z w64 (to_z w64 (of_z w64 z)) ≡ of_z w64 z
    bits o n z same small = sum_bits m (rules_of c.hour) o z (subst (λ (i : ℕ). nat_abs z ≤ i * widest o) same small)

    total_is : (o : Sort) (n : ℕ) (z : ℤ) → n ≡ count_of m o → z ≡ sum_to o n → z ≡ sum_to o (count_of m o)
    total_is o n z same is = is ∙ ap (sum_to o) same

    sum_written : (o : Sort) → at written (sum_row m o) ≡ of_z w64 (sum_to o (count_of m o))
    sum_written sorts.Buy =
        past_lines m b s l sums b_long s_long l_long 0 _ (omega arith)
        ∙ get_or-set_other (set (set t 0 p) 1 g) 2 0 e 0 (omega arith)
        ∙ get_or-set_other (set t 0 p) 1 0 g 0 (omega arith)
        ∙ get_or-set_same t 0 p 0 (omega arith)
        ∙ p_is ∙ bits sorts.Buy _ paid b_long buys.small
        ∙ ap (of_z w64) (total_is sorts.Buy _ paid b_long buys.total)
    sum_written sorts.Sell =
        past_lines m b s l sums b_long s_long l_long 1 _ refl
        ∙ get_or-set_other (set (set t 0 p) 1 g) 2 1 e 0 (omega arith)
        ∙ get_or-set_same (set t 0 p) 1 g 0 (omega (arith, length-set t 0 p))
        ∙ g_is ∙ bits sorts.Sell _ got s_long sells.small
        ∙ ap (of_z w64) (total_is sorts.Sell _ got s_long sells.total)
    sum_written sorts.Line =
        past_lines m b s l sums b_long s_long l_long 2 _ refl
        ∙ get_or-set_same (set (set t 0 p) 1 g) 2 e 0 (omega (arith, length-set t 0 p, length-set (set t 0 p) 1 g))
        ∙ e_is ∙ bits sorts.Line _ earned l_long lines.small
        ∙ ap (of_z w64) (total_is sorts.Line _ earned l_long lines.total)

    pub ledger_written : LedgerIn c written
    ledger_written = record { rows = row_written; sums = sum_written }

    -- what stood behind them stays
    pub kept_behind :
        (b' s' l' before : List ℕ) → length b' ≡ length m.buys → length s' ≡ length m.sells → length l' ≡ length m.lines →
        before ≡ b' ++ (s' ++ (l' ++ t)) → drop (row_count m + 3) written ≡ drop (row_count m + 3) before
    kept_behind b' s' l' before bl sl ll is =
        behind_kept (row_count m + 3) _ before
        (omega (arith, ap length is, length-append {A = ℕ}, length-set {A = ℕ}))
        (λ k past.
        let j = k - row_count m in
        let place : row_count m + j ≡ k = omega arith in
        past_lines m b s l sums b_long s_long l_long j k place
        ∙ get_or-set_other (set (set t 0 p) 1 g) 2 j e 0 (omega arith)
        ∙ get_or-set_other (set t 0 p) 1 j g 0 (omega arith)
        ∙ get_or-set_other t 0 j p 0 (omega arith)
        ∙ sym (ap (λ (xs : List ℕ). at xs k) is ∙ past_lines m b' s' l' t bl sl ll j k place))
