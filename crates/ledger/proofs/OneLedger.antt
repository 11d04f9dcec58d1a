-- The rows of a ledger, all of them, are said by its definition. Assumes nothing.
use Rattle.std.proofs.Common.{◌≡◌, ℕ, ◌+◌, ◌-◌, ◌<◌, ◌≤◌, length, sym, ◌∙◌, subst, inl, inr, arith}
use Rattle.std.proofs.lemmas.List.{ext_get_or}
use Rattle.std.proofs.lemmas.Bool.{cases_lt}
use Rattle.hour.specs.Market.{Market, at, count_of}
use Rattle.hour.specs.declared.refusals.Sort.{Sort}
use Rattle.hour.specs.declared.refusals.Sort.TheVariants as sorts
use Rattle.ledger.specs.Money.{first_row, sum_row, row_count}
use Rattle.ledger.specs.Promises.{OneLedger}

-- a row of a ledger is that of an item, or a sum
module _
    (m : Market) (P : ℕ → Type 0) (rows : (s : Sort) (k : ℕ) → k < count_of m s → P (first_row m s + k))
    (sums : (s : Sort) → P (sum_row m s))
  where
    row_of : (s : Sort) (k : ℕ) → first_row m s ≤ k → k < first_row m s + count_of m s → P k
    row_of s k from to =
        let place : first_row m s + (k - first_row m s) ≡ k = omega arith in
        subst P place (rows s (k - first_row m s) (omega arith))

    sum_at : (s : Sort) (k : ℕ) → k ≡ sum_row m s → P k
    sum_at s k is = subst P (sym is) (sums s)

    by_sum : (k : ℕ) → row_count m ≤ k → k < row_count m + 3 → P k
    by_sum k from to =
        elim (cases_lt k (row_count m + 1)) [
          | inl buys ↦ sum_at sorts.Buy k (omega arith)
          | inr past ↦
              elim (cases_lt k (row_count m + 2)) [
                | inl sells ↦ sum_at sorts.Sell k (omega arith)
                | inr rest ↦ sum_at sorts.Line k (omega arith)
              ]
        ]

    pub by_row : (k : ℕ) → k < row_count m + 3 → P k
    by_row k h =
        elim (cases_lt k (length m.buys)) [
          | inl buy ↦ row_of sorts.Buy k (omega arith) (omega arith)
          | inr past_buys ↦
              elim (cases_lt k (length m.buys + length m.sells)) [
                | inl sell ↦ row_of sorts.Sell k past_buys sell
                | inr past_sells ↦
                    elim (cases_lt k (row_count m)) [
                      | inl line ↦ row_of sorts.Line k past_sells line
                      | inr past_lines ↦ by_sum k past_lines h
                    ]
              ]
        ]

pub one_ledger : OneLedger
one_ledger m o ps l l' a b =
    record {
      rows = same;
      whole = λ n k. ext_get_or 0 l l' (n ∙ sym k) (λ i h. same i (omega arith));
    }
  where
    same : (k : ℕ) → k < row_count m + 3 → at l k ≡ at l' k
    same =
        by_row m (λ k. at l k ≡ at l' k)
        (λ s k h. a.rows s k h ∙ sym (b.rows s k h)) (λ s. a.sums s ∙ sym (b.sums s))
