-- The laws of a sum over all items of a market: each is the law of a sum by index, for the three sorts at once.
-- Assumes nothing.
use Rattle.std.proofs.Common.{◌≡◌, ℕ, ◌+◌, ◌*◌, ◌≤◌, length, mul-add, arith}
use Rattle.hour.specs.Total.{total}
use Rattle.hour.specs.Market.{Market}
use Rattle.hour.proofs.Total.{total_add, total_scale, total_same, total_le, total_tight, total_total}
use Rattle.network.specs.Network.{Among, sum}
use Rattle.hour.specs.declared.items.Item.{Item}
use Rattle.hour.specs.declared.items.Item.TheVariants.{Buy, Sell, Line}

module _ (m : Market) where
  pub sum_add : (f g : Item → ℕ) → sum m (λ i. f i + g i) ≡ sum m f + sum m g
  sum_add f g =
      omega (
        arith,
        total_add (length m.buys) (λ k. f (Buy k)) (λ k. g (Buy k)),
        total_add (length m.sells) (λ k. f (Sell k)) (λ k. g (Sell k)),
        total_add (length m.lines) (λ k. f (Line k)) (λ k. g (Line k)),
      )

  pub sum_scale : (c : ℕ) (f : Item → ℕ) → sum m (λ i. c * f i) ≡ c * sum m f
  sum_scale c f =
      let b = total (length m.buys) (λ k. f (Buy k)) in
      let s = total (length m.sells) (λ k. f (Sell k)) in
      let l = total (length m.lines) (λ k. f (Line k)) in
      omega (
        arith,
        total_scale (length m.buys) c (λ k. f (Buy k)),
        total_scale (length m.sells) c (λ k. f (Sell k)),
        total_scale (length m.lines) c (λ k. f (Line k)),
        mul-add c (b + s) l,
        mul-add c b s,
      )

  pub sum_same : (f g : Item → ℕ) → ((i : Item) → Among m i → f i ≡ g i) → sum m f ≡ sum m g
  sum_same f g same =
      omega (
        arith,
        total_same (length m.buys) (λ k. f (Buy k)) (λ k. g (Buy k)) (λ k. same (Buy k)),
        total_same (length m.sells) (λ k. f (Sell k)) (λ k. g (Sell k)) (λ k. same (Sell k)),
        total_same (length m.lines) (λ k. f (Line k)) (λ k. g (Line k)) (λ k. same (Line k)),
      )

  pub sum_le : (f g : Item → ℕ) → ((i : Item) → Among m i → f i ≤ g i) → sum m f ≤ sum m g
  sum_le f g le =
      omega (
        arith,
        total_le (length m.buys) (λ k. f (Buy k)) (λ k. g (Buy k)) (λ k. le (Buy k)),
        total_le (length m.sells) (λ k. f (Sell k)) (λ k. g (Sell k)) (λ k. le (Sell k)),
        total_le (length m.lines) (λ k. f (Line k)) (λ k. g (Line k)) (λ k. le (Line k)),
      )

  -- sums that are equal, of parts in order, have equal parts
  pub sum_tight :
      (f g : Item → ℕ) → ((i : Item) → Among m i → f i ≤ g i) → sum m g ≤ sum m f →
      (i : Item) → Among m i → f i ≡ g i
  sum_tight f g le sums =
      let buys = total_le (length m.buys) (λ k. f (Buy k)) (λ k. g (Buy k)) (λ k. le (Buy k)) in
      let sells = total_le (length m.sells) (λ k. f (Sell k)) (λ k. g (Sell k)) (λ k. le (Sell k)) in
      let lines = total_le (length m.lines) (λ k. f (Line k)) (λ k. g (Line k)) (λ k. le (Line k)) in
      elim [
        | Buy k ↦ total_tight _ (λ k. f (Buy k)) (λ k. g (Buy k)) (λ k. le (Buy k)) (omega arith) k
        | Sell k ↦ total_tight _ (λ k. f (Sell k)) (λ k. g (Sell k)) (λ k. le (Sell k)) (omega arith) k
        | Line k ↦ total_tight _ (λ k. f (Line k)) (λ k. g (Line k)) (λ k. le (Line k)) (omega arith) k
      ]

  -- a sum over items and a sum by index change places
  pub sum_total :
      (n : ℕ) (f : Item → ℕ → ℕ) → sum m (λ i. total n (λ z. f i z)) ≡ total n (λ z. sum m (λ i. f i z))
  sum_total n f =
      let b : ℕ → ℕ = λ z. total (length m.buys) (λ k. f (Buy k) z) in
      let s : ℕ → ℕ = λ z. total (length m.sells) (λ k. f (Sell k) z) in
      let l : ℕ → ℕ = λ z. total (length m.lines) (λ k. f (Line k) z) in
      omega (
        arith,
        total_total (length m.buys) n (λ k z. f (Buy k) z),
        total_total (length m.sells) n (λ k z. f (Sell k) z),
        total_total (length m.lines) n (λ k z. f (Line k) z),
        total_add n (λ z. b z + s z) l,
        total_add n b s,
      )
