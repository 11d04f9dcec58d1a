-- Settled, item by item: buys first, then sells, then lines. Assumes nothing.
use Rattle.std.proofs.Common.{◌≡◌, ℕ, ◌+◌, ◌-◌, ◌<◌, Bool, true, false, List, length, get_or, Decides, refl, ◌∙◌, subst, inl, inr, arith, zero-add, le-ltb, lt-ltb}
use mathlib.Core.Path.{subst⁻¹}
use Rattle.std.proofs.lemmas.Bool.{cases_lt}
use Rattle.std.proofs.lemmas.Bool.{false≢true}
use Rattle.std.proofs.lemmas.List.FromFn.{get_or-range_with_len, length-range_with_len}
use Rattle.std.specs.Bool.{MatchBool}
use Rattle.std.specs.List.{AllWithin, HoldsAt, range_with_len}
use Rattle.hour.specs.Market.{Market, Outcome, Settled}
use Rattle.network.specs.Network.{Among, nth, ContentItem}
use Rattle.hour.specs.declared.items.Item.{Item}
use Rattle.hour.specs.declared.items.Item.TheVariants.{Buy, Sell, Line}

pub nth_buy : (b s k : ℕ) → k < b → nth b s k ≡ Buy k
nth_buy b s k h = rw (lt-ltb k b h)

pub nth_sell : (b s k j : ℕ) → k ≡ b + j → j < s → nth b s k ≡ Sell j
nth_sell b s k j e h =
    let past = le-ltb k b (omega arith) in
    let place : k - b ≡ j = omega arith in
    rw (past, place, lt-ltb j s h)

pub nth_line : (b s k j : ℕ) → k ≡ b + s + j → nth b s k ≡ Line j
nth_line b s k j e =
    let past = le-ltb k b (omega arith) in
    let past_sells = le-ltb (k - b) s (omega arith) in
    let place : k - b - s ≡ j = omega arith in
    rw (past, past_sells, place)

-- the numbers of buys, sells and lines of m are b, s and l
abbrev pub Counts : Market → ℕ → ℕ → ℕ → Type 0
Counts m b s l = (length m.buys ≡ b) × (length m.sells ≡ s) × (length m.lines ≡ l)

pub nth_among : (m : Market) (b s l k : ℕ) → Counts m b s l → k < b + s + l → Among m (nth b s k)
nth_among m b s l k n h =
    elim (cases_lt k b) [
      | inl buy ↦ subst⁻¹ (Among m) (nth_buy b s k buy) (omega arith)
      | inr past ↦
          elim (cases_lt (k - b) s) [
            | inl sell ↦ subst⁻¹ (Among m) (nth_sell b s k (k - b) (omega arith) sell) (omega arith)
            | inr rest ↦ subst⁻¹ (Among m) (nth_line b s k (k - b - s) (omega arith)) (omega arith)
          ]
    ]

pub settled_by_items :
    (m : Market) (o : Outcome) (ps : List ℕ) (b s l : ℕ) → Counts m b s l →
    ((k : ℕ) → k < b + s + l → ContentItem m o ps (nth b s k)) → Settled m o ps
settled_by_items m o ps b s l n each = record { content = content }
  where
    content : (i : Item) → Among m i → ContentItem m o ps i
    content (Buy k) h = subst (ContentItem m o ps) (nth_buy b s k (omega arith)) (each k (omega arith))
    content (Sell k) h = subst (ContentItem m o ps) (nth_sell b s (b + k) k refl (omega arith)) (each (b + k) (omega arith))
    content (Line k) h = subst (ContentItem m o ps) (nth_line b s (b + s + k) k refl) (each (b + s + k) (omega arith))

-- a look at each item in turn, that ends at the first that is not content
module _ (m : Market) (o : Outcome) (ps : List ℕ) (b s l n : ℕ) (counts : Counts m b s l) (all : n ≡ b + s + l) where
  number : (k : ℕ) → k < n → get_or (range_with_len 0 n) k 0 ≡ k
  number k below = get_or-range_with_len 0 n k 0 below ∙ zero-add k

  pub settled_by_each :
      (r : Bool) →
      MatchBool r (AllWithin (λ k. ContentItem m o ps (nth b s k)) (range_with_len 0 n) 0 (length (range_with_len 0 n)))
      ((k : ℕ) × (k < length (range_with_len 0 n)) × HoldsAt (λ k. ContentItem m o ps (nth b s k) → ⊥) (range_with_len 0 n) k) →
      Decides r (Settled m o ps)
  settled_by_each true each = (
    λ yes_r.
        settled_by_items m o ps b s l counts (λ k below.
        subst (λ j. ContentItem m o ps (nth b s j)) (number k (omega arith))
        (each k 0 (omega arith) (omega (arith, length-range_with_len 0 n)))),
    λ settled. refl,
  )
  settled_by_each false (k, below, off) = (
    λ e. absurd (false≢true e),
    λ settled.
        let inside : k < n = omega (arith, length-range_with_len 0 n) in
        absurd
        (subst (λ j. ContentItem m o ps (nth b s j) → ⊥) (number k inside) (off 0)
        (settled.content (nth b s k) (nth_among m b s l k counts (omega arith)))),
  )
