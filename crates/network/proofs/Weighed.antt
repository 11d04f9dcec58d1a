-- What an outcome carries, weighed: how weights add, how nodes sum up, and what one change does. Assumes nothing.
use Rattle.std.proofs.Common.{◌≡◌, ℕ, zero, suc, ◌+◌, ◌*◌, ◌<◌, Bool, true, false, cond, eqb, ◌≢◌, List, [], ◌∷◌, length, set, sym, refl, ap, ◌∙◌, add-mul, mul-zero, arith}
use Rattle.hour.specs.Total.{total}
use Rattle.hour.specs.Market.{Market, Outcome, at}
use Rattle.hour.proofs.Total.{total_same, total_change, total_pick}
use Rattle.network.specs.Network.{Among, carried, weighed, tag}
use Rattle.network.specs.Ways.{put, carry}
use Rattle.hour.specs.declared.items.Item.{Item}
use Rattle.hour.specs.declared.items.Item.TheVariants.{Buy, Sell, Line}
use Rattle.network.proofs.Sum.{sum_add, sum_scale, sum_same, sum_total}

pub weighed_same :
    (m : Market) (v w : Item → ℕ) (o : Outcome) → ((i : Item) → Among m i → v i ≡ w i) → weighed m v o ≡ weighed m w o
weighed_same m v w o same = sum_same m _ _ (λ i h. ap (λ u. u * carried o i) (same i h))

pub weighed_add :
    (m : Market) (v w : Item → ℕ) (o : Outcome) → weighed m (λ i. v i + w i) o ≡ weighed m v o + weighed m w o
weighed_add m v w o =
    sum_same m _ _ (λ i h. add-mul (v i) (w i) (carried o i))
    ∙ sum_add m (λ i. v i * carried o i) (λ i. w i * carried o i)

-- a weight of 1 or 0 picks or drops
pub cond_mul : (b : Bool) (x : ℕ) → cond b 1 0 * x ≡ cond b x 0
cond_mul true x = omega arith
cond_mul false x = omega arith

mul_cond : (b : Bool) (c x : ℕ) → c * cond b x 0 ≡ cond b (c * x) 0
mul_cond true c x = refl
mul_cond false c x = mul-zero c

-- Idea: the number at a node is the sum over all nodes of those numbers, tagged; then the two sums change places.
pub weighed_by_node :
    (m : Market) (o : Outcome) (n : ℕ) (key : Item → ℕ) (φ : ℕ → ℕ) → ((i : Item) → Among m i → key i < n) →
    weighed m (λ i. φ (key i)) o ≡ total n (λ z. φ z * weighed m (λ i. tag (key i) z) o)
weighed_by_node m o n key φ below =
    sum_same m _ _ spread
    ∙ sum_total m n (λ i z. φ z * (tag (key i) z * carried o i))
    ∙ total_same n _ _ (λ z h. sum_scale m (φ z) (λ i. tag (key i) z * carried o i))
  where
    tagged_once : (v z x : ℕ) → cond (eqb v z) (φ z * x) 0 ≡ φ z * (tag v z * x)
    tagged_once v z x = sym (ap (λ y. φ z * y) (cond_mul (eqb v z) x) ∙ mul_cond (eqb v z) (φ z) x)

    spread :
        (i : Item) → Among m i → φ (key i) * carried o i ≡ total n (λ z. φ z * (tag (key i) z * carried o i))
    spread i h =
        sym (total_pick n (key i) (λ z. φ z * carried o i) (below i h))
        ∙ total_same n _ _ (λ z l. tagged_once (key i) z (carried o i))

pub at_put_same : (xs : List ℕ) (k x : ℕ) → at (put xs k x) k ≡ x
at_put_same [] zero x = refl
at_put_same [] (suc k) x = at_put_same [] k x
at_put_same (y ∷ ys) zero x = refl
at_put_same (y ∷ ys) (suc k) x = at_put_same ys k x

pub at_put_other : (xs : List ℕ) (k x j : ℕ) → j ≢ k → at (put xs k x) j ≡ at xs j
at_put_other [] zero x zero ne = absurd (ne refl)
at_put_other [] zero x (suc j) ne = refl
at_put_other [] (suc k) x zero ne = refl
at_put_other [] (suc k) x (suc j) ne = at_put_other [] k x j (λ e. ne (ap suc e))
at_put_other (y ∷ ys) zero x zero ne = absurd (ne refl)
at_put_other (y ∷ ys) zero x (suc j) ne = refl
at_put_other (y ∷ ys) (suc k) x zero ne = refl
at_put_other (y ∷ ys) (suc k) x (suc j) ne = at_put_other ys k x j (λ e. ne (ap suc e))

-- within a list, to put is to set
pub put_set : (xs : List ℕ) (k x : ℕ) → k < length xs → put xs k x ≡ set xs k x
put_set [] k x l = let never : ⊥ = omega arith in absurd never
put_set (y ∷ ys) zero x l = refl
put_set (y ∷ ys) (suc k) x l = ap (λ zs. y ∷ zs) (put_set ys k x (omega arith))

total_put :
    (n : ℕ) (v : ℕ → ℕ) (xs : List ℕ) (k x : ℕ) → k < n →
    total n (λ j. v j * at (put xs k x) j) + v k * at xs k ≡ total n (λ j. v j * at xs j) + v k * x
total_put n v xs k x h =
    let others : (j : ℕ) → j ≢ k → v j * at (put xs k x) j ≡ v j * at xs j =
    λ j ne. ap (λ y. v j * y) (at_put_other xs k x j ne) in
    omega (
      arith,
      total_change n k (λ j. v j * at xs j) (λ j. v j * at (put xs k x) j) h others,
      ap (λ y. v k * y) (at_put_same xs k x),
    )

pub weighed_carry :
    (m : Market) (w : Item → ℕ) (o : Outcome) (i : Item) (x : ℕ) → Among m i →
    weighed m w (carry o i x) + w i * carried o i ≡ weighed m w o + w i * x
weighed_carry m w o (Buy k) x h = omega (arith, total_put (length m.buys) (λ j. w (Buy j)) o.bought k x h)
weighed_carry m w o (Sell k) x h = omega (arith, total_put (length m.sells) (λ j. w (Sell j)) o.sold k x h)
weighed_carry m w o (Line k) x h = omega (arith, total_put (length m.lines) (λ j. w (Line j)) o.flow k x h)
