-- As much goes into a set of zones, with its supply, as comes out of it. Assumes nothing.
use Rattle.std.proofs.Common.{◌≡◌, ℕ, ◌+◌, ◌*◌, ◌≤◌, Bool, true, false, cond, not, ◌&&◌, List, refl, ap, arith, le-ltb}
use Rattle.std.specs.Prelude.{IsTrue}
use Rattle.hour.specs.Market.{Market, Outcome, Proper, Feasible, at}
use Rattle.hour.proofs.Total.{total_same}
use Rattle.network.specs.Network.{Among, hub, tail, head, carried, sum}
use Rattle.network.specs.Cut.{inside, enters, leaves, entering, leaving, supply_in}
use Rattle.network.specs.Promises.{Cut}
use Rattle.hour.specs.declared.items.Item.{Item}
use Rattle.network.proofs.Sum.{sum_add, sum_le, sum_same, sum_tight}
use Rattle.network.proofs.Weighed.{cond_mul}
use Rattle.network.proofs.Level.{supply_by, level_by}

-- what an arc carries, where it ends inside, and where it begins inside: what does not cross counts on both sides
crossing :
    (h t : Bool) (x : ℕ) →
    cond h 1 0 * x + cond (t && not h) x 0 ≡ cond t 1 0 * x + cond (h && not t) x 0
crossing true true x = omega arith
crossing true false x = omega arith
crossing false true x = omega arith
crossing false false x = omega arith

-- what is nothing where it counts is nothing in the sum
uncounted : (b : Bool) (x : ℕ) → (IsTrue b → x ≡ 0) → cond b x 0 ≤ 0
uncounted true x none = omega (arith, none refl)
uncounted false x none = omega arith

module _ (m : Market) (o : Outcome) (ws : List ℕ) where
  abbrev weight : ℕ → ℕ
  weight n = cond (inside m ws n) 1 0

  abbrev into_set : Item → ℕ
  into_set i = cond (enters m ws i) (carried o i) 0

  abbrev out_of_set : Item → ℕ
  out_of_set i = cond (leaves m ws i) (carried o i) 0

  weight_hub : weight (hub m) ≡ 0
  weight_hub = rw (le-ltb m.zones m.zones (omega arith))

  -- Idea: each zone of the set weighs 1; lines inside the set begin and end at this weight, and cancel.
  cut_even : Proper m → Feasible m o → entering m ws o + supply_in m ws ≡ leaving m ws o
  cut_even proper f =
      let supply : supply_by m weight ≡ supply_in m ws =
      total_same m.zones _ _ (λ z h. cond_mul (inside m ws z) (at m.supplies z)) in
      let heads : Item → ℕ = λ i. weight (head m i) * carried o i in
      let tails : Item → ℕ = λ i. weight (tail m i) * carried o i in
      omega (
        arith,
        level_by m o weight proper f weight_hub,
        supply,
        sum_same m (λ i. heads i + out_of_set i) (λ i. tails i + into_set i)
            (λ i h. crossing (inside m ws (head m i)) (inside m ws (tail m i)) (carried o i)),
        sum_add m heads out_of_set,
        sum_add m tails into_set,
      )

  -- Idea: what leaves in all is what enters in all, which is nothing; so no part of it is more.
  cut_shut :
      Proper m → Feasible m o → supply_in m ws ≡ 0 →
      ((i : Item) → Among m i → IsTrue (enters m ws i) → carried o i ≡ 0) → (i : Item) → Among m i → IsTrue (leaves m ws i) → carried o i ≡ 0
  cut_shut proper f dry none i h leaving_it =
      let nothing : Item → ℕ = λ j. 0 in
      let enters_none = sum_le m into_set nothing (λ j k. uncounted (enters m ws j) (carried o j) (none j k)) in
      let sums : sum m out_of_set ≤ sum m nothing = omega (arith, cut_even proper f) in
      omega (
        arith,
        sum_tight m nothing out_of_set (λ j k. omega arith) sums i h,
        ap (λ b. cond b (carried o i) 0) leaving_it,
      )

pub cut : Cut
cut m o ws proper f = record { even = cut_even m o ws proper f; shut = cut_shut m o ws proper f }
