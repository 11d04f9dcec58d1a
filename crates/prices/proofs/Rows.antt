-- Rows of a table, written one after another. Assumes nothing.
use Rattle.std.proofs.Common.{◌≡◌, ℕ, ◌+◌, ◌-◌, ◌*◌, ◌<◌, ◌≤◌, List, length, get_or, sym, ap, ◌∙◌, inl, inr, arith, rules}
use borrow.Rule.Slice.PartMut.{put_mid}
use Rattle.std.proofs.lemmas.Bool.{cases_lt}
use Rattle.std.proofs.lemmas.List.{places}
use Rattle.hour.proofs.ReadBack.{listed_same}
use Rattle.hour.specs.Market.{bid, line}
use Rattle.hour.specs.declared.items.Bid.{Bid}
use Rattle.hour.specs.declared.items.Line.{Line}
use Rattle.network.specs.Tables.{cell, items, bids_in, lines_in}
use Rattle.prices.specs.Laid.{Laid, bid_numbers, line_numbers}

module _ (n : ℕ) (t r : List ℕ) (room : 3 * n + 3 ≤ length t) (three : length r ≡ 3) where
  abbrev pub put : List ℕ
  put = put_mid (3 * n) (3 * n + 3 - 3 * n) t r

  earlier : (i : ℕ) → i < 3 * n → get_or put i 0 ≡ get_or t i 0
  earlier i below = search (rules, places)

  here : (j : ℕ) → j < 3 → get_or put (3 * n + j) 0 ≡ get_or r j 0
  here j below = search (rules, places)

  cell_earlier : (k i : ℕ) → k < n → i < 3 → cell put k i ≡ cell t k i
  cell_earlier k i below within = earlier (3 * k + i) (omega arith)

  laid_here : Laid put n r
  laid_here = record { first = here 0 (omega arith); second = here 1 (omega arith); third = here 2 (omega arith) }

  laid_earlier : (k : ℕ) (x : List ℕ) → k < n → Laid t k x → Laid put k x
  laid_earlier k x below laid =
      record {
        first = cell_earlier k 0 below (omega arith) ∙ laid.first;
        second = cell_earlier k 1 below (omega arith) ∙ laid.second;
        third = cell_earlier k 2 below (omega arith) ∙ laid.third;
      }

  -- one row more, of which P holds
  pub laid_more :
      (P : ℕ → List ℕ → Type 0) → ((k : ℕ) → k < n → (x : List ℕ) × P k x × Laid t k x) → P n r → (k : ℕ) → k < n + 1 →
      (x : List ℕ) × P k x × Laid put k x
  laid_more P before holds k below =
      elim (cases_lt k n) [
        | inl less ↦ let e = before k less in (e.0, e.1, laid_earlier k e.0 less e.2)
        | inr last ↦ let same : k ≡ n = omega arith in rw same (r, holds, laid_here)
      ]

-- a table whose rows are laid has the bids of a list, or its lines, if these cost nothing
pub bids_laid :
    (t : List ℕ) (n : ℕ) (bs : List Bid) → length t ≡ 3 * n → n ≡ length bs →
    ((k : ℕ) → k < n → (x : List ℕ) × (x ≡ bid_numbers (bid bs k)) × Laid t k x) → bids_in t ≡ bs
bids_laid t n bs long count laid =
    let rows : items t ≡ n = omega arith in
    listed_same (items t) _ bs _ (rows ∙ count)
    (λ k below.
    let e = laid k (omega arith) in
    let zone = e.2.first ∙ ap (λ (x : List ℕ). get_or x 0 0) e.1 in
    let price = e.2.second ∙ ap (λ (x : List ℕ). get_or x 1 0) e.1 in
    let amount = e.2.third ∙ ap (λ (x : List ℕ). get_or x 2 0) e.1 in
    λ i. record { zone = zone i; price = price i; amount = amount i })

pub lines_laid :
    (t : List ℕ) (n : ℕ) (ls : List Line) → length t ≡ 3 * n → n ≡ length ls →
    ((k : ℕ) → k < length ls → (line ls k).cost ≡ 0) →
    ((k : ℕ) → k < n → (x : List ℕ) × (x ≡ line_numbers (line ls k)) × Laid t k x) → lines_in t ≡ ls
lines_laid t n ls long count costless laid =
    let rows : items t ≡ n = omega arith in
    listed_same (items t) _ ls _ (rows ∙ count)
    (λ k below.
    let e = laid k (omega arith) in
    let from = e.2.first ∙ ap (λ (x : List ℕ). get_or x 0 0) e.1 in
    let to = e.2.second ∙ ap (λ (x : List ℕ). get_or x 1 0) e.1 in
    let capacity = e.2.third ∙ ap (λ (x : List ℕ). get_or x 2 0) e.1 in
    let cost = sym (costless k (omega arith)) in
    λ i. record { from = from i; to = to i; capacity = capacity i; cost = cost i })
