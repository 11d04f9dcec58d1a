-- What a push along a way does to limits, balances and worth. Assumes nothing.
use Rattle.std.proofs.Common.{◌≡◌, ℕ, ◌+◌, ◌-◌, ◌*◌, ◌<◌, ◌≤◌, ◌≢◌, ◌⊎◌, List, [], ◌∷◌, sym, refl, ap, ◌∙◌, inl, inr, mul-le-mul_right, add-mul, mul-add, sub-add_cancel, arith}
use Rattle.std.specs.List.{AllByRecursion}
use Rattle.std.proofs.lemmas.Bool.{cases_eq}
use Rattle.hour.specs.Market.{Market, Outcome, at, worth, costs}
use Rattle.network.specs.Network.{Among, tail, head, capacity, cost, gain, carried, weighed, tag, inflow, outflow}
use Rattle.network.specs.Ways.{start, room, Fits, Links, Once, way_cost, way_gain, put, carry, moved, pushed}
use Rattle.network.specs.Promises.{Push}
use Rattle.hour.specs.declared.items.Item.{Item}
use Rattle.hour.specs.declared.items.Item.TheVariants.{Buy, Sell, Line}
use Rattle.network.specs.declared.arcs.Step.{Step}
use Rattle.network.specs.declared.arcs.Step.TheVariants.{Forward, Backward}
use Rattle.network.proofs.Weighed.{at_put_same, at_put_other, weighed_carry}
use Rattle.network.proofs.Market.{within, worth_gained, costs_spent, balanced_arcs, feasible_by_arcs}

-- an item carries what it was given, or what it carried before
abbrev pub Carries : Outcome → Item → ℕ → Item → Type 0
Carries o i x j = ((i ≡ j) × (carried (carry o i x) j ≡ x)) ⊎ (carried (carry o i x) j ≡ carried o j)

put_carries :
    (sort : ℕ → Item) (xs : List ℕ) (k x j : ℕ) →
    ((sort k ≡ sort j) × (at (put xs k x) j ≡ x)) ⊎ (at (put xs k x) j ≡ at xs j)
put_carries sort xs k x j =
    elim (cases_eq j k) [
      | inl e ↦ inl (ap sort (sym e), ap (at (put xs k x)) e ∙ at_put_same xs k x)
      | inr ne ↦ inr (at_put_other xs k x j ne)
    ]

pub carries : (o : Outcome) (i : Item) (x : ℕ) (j : Item) → Carries o i x j
carries o (Buy k) x (Buy j) = put_carries Buy o.bought k x j
carries o (Buy k) x (Sell j) = inr refl
carries o (Buy k) x (Line j) = inr refl
carries o (Sell k) x (Buy j) = inr refl
carries o (Sell k) x (Sell j) = put_carries Sell o.sold k x j
carries o (Sell k) x (Line j) = inr refl
carries o (Line k) x (Buy j) = inr refl
carries o (Line k) x (Sell j) = inr refl
carries o (Line k) x (Line j) = put_carries Line o.flow k x j

-- a step takes no room from any step that leaves another node
room_moved :
    (m : Market) (o : Outcome) (d : ℕ) (s t : Step) → start m t ≢ start m s → room m o t ≤ room m (moved o s d) t
room_moved m o d (Forward i) (Forward j) apart =
    elim (carries o i (carried o i + d) j)
    [ inl (e, is) ↦ absurd (apart (ap (tail m) (sym e))) | inr same ↦ omega arith ]
room_moved m o d (Forward i) (Backward j) apart =
    elim (carries o i (carried o i + d) j) [ inl (e, is) ↦ omega (arith, ap (carried o) e) | inr same ↦ omega arith ]
room_moved m o d (Backward i) (Forward j) apart =
    elim (carries o i (carried o i - d) j) [ inl (e, is) ↦ omega (arith, ap (carried o) e) | inr same ↦ omega arith ]
room_moved m o d (Backward i) (Backward j) apart =
    elim (carries o i (carried o i - d) j)
    [ inl (e, is) ↦ absurd (apart (ap (head m) (sym e))) | inr same ↦ omega arith ]

fits_moved :
    (m : Market) (o : Outcome) (d : ℕ) (s t : Step) → start m t ≢ start m s → Fits m o d t → Fits m (moved o s d) d t
fits_moved m o d s t apart f =
    record { among = f.among; fits = omega (arith, f.fits, room_moved m o d s t apart) }

pub fits_rest :
    (m : Market) (o : Outcome) (d : ℕ) (s : Step) (ts : List Step) →
    AllByRecursion (λ t. start m t ≢ start m s) ts → AllByRecursion (Fits m o d) ts → AllByRecursion (Fits m (moved o s d) d) ts
fits_rest m o d s [] apart fits = tt
fits_rest m o d s (t ∷ ts) apart fits =
    (fits_moved m o d s t apart.0 fits.0, fits_rest m o d s ts apart.1 fits.1)

abbrev Within : Market → Outcome → Type 0
Within m o = (i : Item) → Among m i → carried o i ≤ capacity m i

within_moved : (m : Market) (o : Outcome) (d : ℕ) (s : Step) → Within m o → Fits m o d s → Within m (moved o s d)
within_moved m o d (Forward i) limits f j h =
    elim (carries o i (carried o i + d) j) [
      | inl (e, is) ↦ omega (arith, f.fits, limits i f.among, ap (capacity m) e)
      | inr same ↦ omega (arith, limits j h)
    ]
within_moved m o d (Backward i) limits f j h =
    elim (carries o i (carried o i - d) j)
    [ inl (e, is) ↦ omega (arith, limits i f.among, ap (capacity m) e) | inr same ↦ omega (arith, limits j h) ]

pub within_pushed :
    (m : Market) (d : ℕ) (ss : List Step) (o : Outcome) → Within m o → Once m ss → AllByRecursion (Fits m o d) ss →
    Within m (pushed o ss d)
within_pushed m d [] o limits once fits = limits
within_pushed m d (s ∷ ss) o limits once fits =
    within_pushed m d ss (moved o s d) (within_moved m o d s limits fits.0) once.1
    (fits_rest m o d s ss once.0 fits.1)

-- the weights of the items that steps raise, and of those that they lower
abbrev up : (Item → ℕ) → Step → ℕ
up w (Forward i) = w i
up w (Backward i) = 0

abbrev down : (Item → ℕ) → Step → ℕ
down w (Forward i) = 0
down w (Backward i) = w i

abbrev pub raised : (Item → ℕ) → List Step → ℕ
raised w [] = 0
raised w (s ∷ ss) = up w s + raised w ss

abbrev pub lowered : (Item → ℕ) → List Step → ℕ
lowered w [] = 0
lowered w (s ∷ ss) = down w s + lowered w ss

weighed_moved :
    (m : Market) (w : Item → ℕ) (o : Outcome) (d : ℕ) (s : Step) → Fits m o d s →
    weighed m w (moved o s d) + down w s * d ≡ weighed m w o + up w s * d
weighed_moved m w o d (Forward i) f =
    omega (arith, weighed_carry m w o i (carried o i + d) f.among, mul-add (w i) (carried o i) d)
weighed_moved m w o d (Backward i) f =
    let back = ap (λ x. w i * x) (sub-add_cancel f.fits) in
    omega (arith, weighed_carry m w o i (carried o i - d) f.among, mul-add (w i) (carried o i - d) d, back)

pub weighed_pushed :
    (m : Market) (w : Item → ℕ) (d : ℕ) (ss : List Step) (o : Outcome) → Once m ss → AllByRecursion (Fits m o d) ss →
    weighed m w (pushed o ss d) + lowered w ss * d ≡ weighed m w o + raised w ss * d
weighed_pushed m w d [] o once fits = refl
weighed_pushed m w d (s ∷ ss) o once fits =
    omega (
      arith,
      weighed_moved m w o d s fits.0,
      weighed_pushed m w d ss (moved o s d) once.1 (fits_rest m o d s ss once.0 fits.1),
      add-mul (up w s) (raised w ss) d,
      add-mul (down w s) (lowered w ss) d,
    )

pub way_cost_weights : (m : Market) (ss : List Step) → way_cost m ss ≡ raised (cost m) ss + lowered (gain m) ss
way_cost_weights m [] = refl
way_cost_weights m (Forward i ∷ ss) = omega (arith, way_cost_weights m ss)
way_cost_weights m (Backward i ∷ ss) = omega (arith, way_cost_weights m ss)

pub way_gain_weights : (m : Market) (ss : List Step) → way_gain m ss ≡ raised (gain m) ss + lowered (cost m) ss
way_gain_weights m [] = refl
way_gain_weights m (Forward i ∷ ss) = omega (arith, way_gain_weights m ss)
way_gain_weights m (Backward i ∷ ss) = omega (arith, way_gain_weights m ss)

-- Idea: each step takes the number at one node off and puts that at the next on; between the ends all cancel.
pub linked_weights :
    (m : Market) (φ : ℕ → ℕ) (a : ℕ) (ss : List Step) (b : ℕ) → Links m a ss b →
    raised (λ i. φ (head m i)) ss + lowered (λ i. φ (tail m i)) ss + φ a
    ≡ raised (λ i. φ (tail m i)) ss + lowered (λ i. φ (head m i)) ss + φ b
linked_weights m φ a [] b links = omega (arith, ap φ links)
linked_weights m φ a (Forward i ∷ ss) b links =
    omega (arith, linked_weights m φ (head m i) ss b links.1, ap φ links.0)
linked_weights m φ a (Backward i ∷ ss) b links =
    omega (arith, linked_weights m φ (tail m i) ss b links.1, ap φ links.0)

-- Idea: every step raises or lowers one arc, so an imbalance moves along the way and is gone where the way closes.
pub push : Push
push m o a d ss f links once fits =
    let p = pushed o ss d in
    record {
      feasible = feasible_by_arcs m p (within_pushed m d ss o (within m o f) once fits) balance;
      changes = changes;
      rises = λ some pays. omega (arith, changes, mul-le-mul_right d pays, add-mul (way_cost m ss) 1 d);
    }
  where
    balance : (z : ℕ) → z < m.zones → inflow m (pushed o ss d) z + at m.supplies z ≡ outflow m (pushed o ss d) z
    balance z h =
        let heads : Item → ℕ = λ i. tag (head m i) z in
        let tails : Item → ℕ = λ i. tag (tail m i) z in
        omega (
          arith,
          weighed_pushed m heads d ss o once fits,
          weighed_pushed m tails d ss o once fits,
          balanced_arcs m o f z h,
          ap (λ n. n * d) (linked_weights m (λ v. tag v z) a ss a links),
          add-mul (raised heads ss + lowered tails ss) (tag a z) d,
          add-mul (raised heads ss) (lowered tails ss) d,
          add-mul (raised tails ss + lowered heads ss) (tag a z) d,
          add-mul (raised tails ss) (lowered heads ss) d,
        )

    changes :
        worth m.buys (pushed o ss d).bought + costs m o + way_cost m ss * d
        ≡ worth m.buys o.bought + costs m (pushed o ss d) + way_gain m ss * d
    changes =
        omega (
          arith,
          weighed_pushed m (gain m) d ss o once fits,
          weighed_pushed m (cost m) d ss o once fits,
          ap (λ n. n * d) (way_cost_weights m ss) ∙ add-mul (raised (cost m) ss) (lowered (gain m) ss) d,
          ap (λ n. n * d) (way_gain_weights m ss) ∙ add-mul (raised (gain m) ss) (lowered (cost m) ss) d,
          worth_gained m o,
          worth_gained m (pushed o ss d),
          costs_spent m o,
          costs_spent m (pushed o ss d),
        )
