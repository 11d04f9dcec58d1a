-- Zones are marked one after the other, until none without a mark is held up. Assumes nothing.
use Rattle.std.proofs.Common.{◌≡◌, ℕ, ◌-◌, ◌<◌, ◌≤◌, true, eqb, ◌≢◌, ◌⊎◌, List, length, set, is_some, Some, None, refl, ap, ◌∙◌, inl, inr, arith, get_or-set_other, get_or-set_same}
use Rattle.std.proofs.lemmas.List.{length-set}
use Rattle.std.proofs.lemmas.Bool.{cases_eq, and_parts, and_from, or_cases, or_left, or_right, both_ways, eqb-true, eq-eqb, ltb-true, lt-ltb}
use Rattle.hour.specs.Market.{Market, Outcome, Proper, at, line}
use Rattle.hour.specs.Total.{total}
use Rattle.hour.specs.declared.refusals.Sort.TheVariants.{Buy, Sell, Line}
use Rattle.hour.proofs.Total.{total_change}
use Rattle.checker.specs.Holding.{BuyHolds, SellHolds, LineOut, LineIn, Held}
use Rattle.checker.specs.Holding.Held.{at_none, by_buy, by_sell, by_line_out, by_line_in}
use Rattle.checker.specs.Seeking.{buy_test, sell_test, out_test, in_test, sort_test, holder, held_test, new_test}
use Rattle.checker.specs.Marks.{Marks}
use Rattle.checker.specs.Seeking.{next_held}
use Rattle.checker.proofs.Firsts.{none_passes, found, some_found, some_passes}

-- a zone has no mark yet, or has one and is held up; the other numbers are as they were
pub record Sofar (m : Market) (o : Outcome) (ps old marks : List ℕ) : Type 0 where
  pub long : length marks ≡ length old
  pub zones : (z : ℕ) → z < m.zones → (at marks z ≡ 0) ⊎ ((at marks z ≡ 1) × Held m o ps z)
  pub past : (k : ℕ) → m.zones ≤ k → at marks k ≡ at old k

-- what the tests tell of a bid, and of a line to a marked zone
module _ (m : Market) (o : Outcome) (ps : List ℕ) (z k : ℕ) where
  buy_tells : k < length m.buys → buy_test m o ps z k ≡ true → BuyHolds m o ps z k
  buy_tells among passes =
      let zone = and_parts _ _ passes in
      let price = and_parts _ _ zone.1 in
      record {
        among = among;
        zone = eqb-true _ _ zone.0;
        price = eqb-true _ _ price.0;
        room = ltb-true _ _ price.1;
      }

  buy_passes : BuyHolds m o ps z k → buy_test m o ps z k ≡ true
  buy_passes h =
      and_from _ _ (eq-eqb _ _ h.zone) (and_from _ _ (eq-eqb _ _ h.price) (lt-ltb _ _ h.room))

  sell_tells : k < length m.sells → sell_test m o ps z k ≡ true → SellHolds m o ps z k
  sell_tells among passes =
      let zone = and_parts _ _ passes in
      let price = and_parts _ _ zone.1 in
      record {
        among = among;
        zone = eqb-true _ _ zone.0;
        price = eqb-true _ _ price.0;
        some = ltb-true _ _ price.1;
      }

  sell_passes : SellHolds m o ps z k → sell_test m o ps z k ≡ true
  sell_passes h =
      and_from _ _ (eq-eqb _ _ h.zone) (and_from _ _ (eq-eqb _ _ h.price) (lt-ltb _ _ h.some))

  module _ (marks : List ℕ) where
    out_tells :
        k < length m.lines → out_test m o ps marks z k ≡ true →
        LineOut m o ps z (line m.lines k).to k × (at marks (line m.lines k).to ≡ 1)
    out_tells among passes =
        let zone = and_parts _ _ passes in
        let room = and_parts _ _ zone.1 in
        let level = and_parts _ _ room.1 in (
          record {
            among = among;
            from = eqb-true _ _ zone.0;
            to = refl;
            price = eqb-true _ _ level.1;
            room = ltb-true _ _ room.0;
          },
          eqb-true _ _ level.0,
        )

    in_tells :
        k < length m.lines → in_test m o ps marks z k ≡ true →
        LineIn m o ps z (line m.lines k).from k × (at marks (line m.lines k).from ≡ 1)
    in_tells among passes =
        let zone = and_parts _ _ passes in
        let some = and_parts _ _ zone.1 in
        let level = and_parts _ _ some.1 in (
          record {
            among = among;
            from = refl;
            to = eqb-true _ _ zone.0;
            price = eqb-true _ _ level.1;
            some = ltb-true _ _ some.0;
          },
          eqb-true _ _ level.0,
        )

    out_passes : (w : ℕ) → LineOut m o ps z w k → at marks w ≡ 1 → out_test m o ps marks z k ≡ true
    out_passes w h marked =
        let to = h.to in
        and_from _ _ (eq-eqb _ _ h.from)
        (and_from _ _ (lt-ltb _ _ h.room)
        (and_from _ _ (eq-eqb _ _ (ap (at marks) to ∙ marked)) (eq-eqb _ _ (ap (at ps) to ∙ h.price))))

    in_passes : (w : ℕ) → LineIn m o ps z w k → at marks w ≡ 1 → in_test m o ps marks z k ≡ true
    in_passes w h marked =
        let from = h.from in
        and_from _ _ (eq-eqb _ _ h.to)
        (and_from _ _ (lt-ltb _ _ h.some)
        (and_from _ _ (eq-eqb _ _ (ap (at marks) from ∙ marked)) (eq-eqb _ _ (ap (at ps) from ∙ h.price))))

module _ (m : Market) (o : Outcome) (ps marks : List ℕ) (z : ℕ) where
  -- the test passes where the price is 0, or something holds it
  passes_none : at ps z ≡ 0 → held_test m o ps marks z ≡ true
  passes_none none = or_left _ _ (eq-eqb _ _ none)

  passes_buy : (k : ℕ) → BuyHolds m o ps z k → held_test m o ps marks z ≡ true
  passes_buy k h =
      or_right _ _ (or_left _ _ (some_found (sort_test m o ps marks z Buy) _ k h.among (buy_passes m o ps z k h)))

  passes_sell : (k : ℕ) → SellHolds m o ps z k → held_test m o ps marks z ≡ true
  passes_sell k h =
      or_right (eqb (at ps z) 0) _
      (or_right (is_some (holder m o ps marks z Buy)) _
      (or_left _ _ (some_found (sort_test m o ps marks z Sell) _ k h.among (sell_passes m o ps z k h))))

  passes_line : (l : ℕ) → l < length m.lines → sort_test m o ps marks z Line l ≡ true → held_test m o ps marks z ≡ true
  passes_line l among passes =
      or_right (eqb (at ps z) 0) _
      (or_right (is_some (holder m o ps marks z Buy)) _
      (or_right _ _ (some_found (sort_test m o ps marks z Line) _ l among passes)))

  -- and where it passes, the price is held up, if every mark is that of a zone that is held up
  held_tested :
      Proper m → ((w : ℕ) → w < m.zones → at marks w ≡ 1 → Held m o ps w) → held_test m o ps marks z ≡ true → Held m o ps z
  held_tested proper sound passes =
      elim (or_cases _ _ passes) [
        | inl none ↦ at_none (eqb-true _ _ none)
        | inr rest ↦
            elim (or_cases _ _ rest) [
              | inl buy ↦ by_buy_found buy
              | inr others ↦
                  elim (or_cases _ _ others) [
                    | inl sell ↦ by_sell_found sell
                    | inr line ↦ by_line_found line
                  ]
            ]
      ]
    where
      by_buy_found : is_some (holder m o ps marks z Buy) ≡ true → Held m o ps z
      by_buy_found some =
          let k = some_passes (sort_test m o ps marks z Buy) _ some in
          by_buy k.0 (buy_tells m o ps z k.0 k.1.below k.1.passes)

      by_sell_found : is_some (holder m o ps marks z Sell) ≡ true → Held m o ps z
      by_sell_found some =
          let k = some_passes (sort_test m o ps marks z Sell) _ some in
          by_sell k.0 (sell_tells m o ps z k.0 k.1.below k.1.passes)

      by_line_found : is_some (holder m o ps marks z Line) ≡ true → Held m o ps z
      by_line_found some =
          let found = some_passes (sort_test m o ps marks z Line) _ some in
          let l = found.0 in
          let among = found.1.below in
          elim (or_cases _ _ found.1.passes) [
            | inl out ↦
                let leads = out_tells m o ps z l marks among out in
                by_line_out l leads.0 (sound _ (proper.to l among) leads.1)
            | inr inward ↦
                let leads = in_tells m o ps z l marks among inward in
                by_line_in l leads.0 (sound _ (proper.from l among) leads.1)
          ]

module _ (m : Market) (o : Outcome) (ps old marks : List ℕ) (sofar : Sofar m o ps old marks) where
  sound : (w : ℕ) → w < m.zones → at marks w ≡ 1 → Held m o ps w
  sound w h marked =
      elim (sofar.zones w h) [ inl none ↦ absurd (omega arith) | inr held ↦ held.1 ]

  -- one more mark
  pub marked_more :
      Proper m → m.zones ≤ length old → (z : ℕ) → next_held m o ps marks ≡ Some z → Sofar m o ps old (set marks z 1)
  marked_more proper enough z next =
      let new = found (new_test m o ps marks) m.zones z next in
      let here : z < length marks = omega (arith, new.below, sofar.long) in
      record {
        long = length-set marks z 1 ∙ sofar.long;
        zones = λ w h.
            elim (cases_eq w z) [
              | inl same ↦
                  inr (
                    ap (at (set marks z 1)) same ∙ get_or-set_same marks z 1 0 here,
                    held_tested m o ps marks w proper sound
                        (ap (held_test m o ps marks) same ∙ (and_parts (eqb (at marks z) 0) _ new.passes).1),
                  )
              | inr other ↦
                  let as_it_was : at (set marks z 1) w ≡ at marks w = get_or-set_other marks z w 1 0 other in
                  elim (sofar.zones w h) [
                    | inl none ↦ inl (as_it_was ∙ none)
                    | inr held ↦ inr (as_it_was ∙ held.0, held.1)
                  ]
            ];
        past = λ k h.
            let other : k ≢ z = omega (arith, new.below) in
            get_or-set_other marks z k 1 0 other ∙ sofar.past k h;
      }

  -- Idea: what holds a zone up passes the test, once the zone that it may rest on has its mark.
  marked : Proper m → next_held m o ps marks ≡ None → {z : ℕ} → Held m o ps z → z < m.zones → at marks z ≡ 1
  marked proper none {z} held h = go held h
    where
      tested : (z : ℕ) → z < m.zones → held_test m o ps marks z ≡ true → at marks z ≡ 1
      tested z h passes =
          elim (sofar.zones z h) [
            | inl bare ↦
                absurd
                (both_ways (new_test m o ps marks z) (none_passes (new_test m o ps marks) m.zones none z h)
                (and_from _ _ (eq-eqb _ _ bare) passes))
            | inr held ↦ held.0
          ]

      go : {z : ℕ} → Held m o ps z → z < m.zones → at marks z ≡ 1
      go {z} (at_none price) h = tested z h (passes_none m o ps marks z price)
      go {z} (by_buy k buy) h = tested z h (passes_buy m o ps marks z k buy)
      go {z} (by_sell k sell) h = tested z h (passes_sell m o ps marks z k sell)
      go {z} (by_line_out {w = w} l leads held) h =
          let other : w < m.zones = omega (arith, proper.to l leads.among, leads.to) in
          tested z h
          (passes_line m o ps marks z l leads.among
          (or_left _ _ (out_passes m o ps z l marks w leads (go held other))))
      go {z} (by_line_in {w = w} l leads held) h =
          let other : w < m.zones = omega (arith, proper.from l leads.among, leads.from) in
          tested z h
          (passes_line m o ps marks z l leads.among
          (or_right (out_test m o ps marks z l) _ (in_passes m o ps z l marks w leads (go held other))))

  -- no zone without a mark is held up
  pub marked_all : Proper m → next_held m o ps marks ≡ None → Marks m o ps old marks
  marked_all proper none =
      record {
        long = sofar.long;
        zones = λ z h.
            elim (sofar.zones z h) [
              | inl bare ↦ inr (bare, λ held. omega (arith, marked proper none held h))
              | inr held ↦ inl held
            ];
        past = sofar.past;
      }

-- how many zones have no mark
abbrev pub bare : Market → List ℕ → ℕ
bare m marks = total m.zones (λ z. 1 - at marks z)

pub bare_falls :
    (m : Market) (o : Outcome) (ps marks : List ℕ) (z : ℕ) → m.zones ≤ length marks → next_held m o ps marks ≡ Some z →
    bare m (set marks z 1) < bare m marks
bare_falls m o ps marks z enough next =
    let new = found (new_test m o ps marks) m.zones z next in
    let here : z < length marks = omega (arith, new.below) in
    let none : at marks z ≡ 0 = eqb-true _ _ (and_parts (eqb (at marks z) 0) _ new.passes).0 in
    let one = get_or-set_same marks z 1 0 here in
    let others : (j : ℕ) → j ≢ z → 1 - at (set marks z 1) j ≡ 1 - at marks j =
    λ j other. ap (λ n. 1 - n) (get_or-set_other marks z j 1 0 other)
    in
    omega (arith, total_change m.zones z (λ j. 1 - at marks j) (λ j. 1 - at (set marks z 1) j) new.below others)
