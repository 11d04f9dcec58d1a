-- The zones that are not held up can all be one lower together. Assumes nothing.
use Rattle.std.proofs.Common.{◌≡◌, ℕ, ◌+◌, ◌-◌, ◌<◌, ◌≤◌, ◌⊎◌, List, length, refl, ◌∙◌, inl, inr, arith}
use Rattle.std.proofs.lemmas.List.FromFn.{length-map-range_with_len, get_or-map-range_with_len}
use Rattle.std.proofs.lemmas.Bool.{cases_lt}
use Rattle.hour.specs.Listed.{listed}
use Rattle.hour.specs.Market.{Market, Outcome, Proper, Plain, Feasible, Settled, Content, Among, carried, terms, at, bid, line}
use Rattle.hour.specs.declared.items.Item.{Item}
use Rattle.hour.specs.declared.items.Item.TheVariants.{Buy, Sell, Line}
use Rattle.hour.specs.declared.items.Terms.{Terms}
use Rattle.checker.specs.Holding.{LineOut, LineIn, Held, LowerAt}
use Rattle.checker.specs.Holding.Held.{at_none, by_buy, by_sell, by_line_out, by_line_in}
use Rattle.checker.specs.Marks.{Marks}

-- a zone's price in a list qs: as it was where it is held up, and else one lower
abbrev pub Lowering : Market → Outcome → List ℕ → List ℕ → ℕ → Type 0
Lowering m o ps qs z =
    (Held m o ps z × (at qs z ≡ at ps z)) ⊎ ((Held m o ps z → ⊥) × (at qs z + 1 ≡ at ps z))

-- an amount that is content on some terms is content on others with the same limit, if a unit brings more than it costs, or less, by
-- these only where it does by those, or where there is no room, or nothing
content_carried :
    (t u : Terms) (x : ℕ) → Content t x → x ≤ t.limit → t.limit ≡ u.limit → (u.cost < u.value → x < t.limit → t.cost < t.value) →
    (u.value < u.cost → 0 < x → t.value < t.cost) → Content u x
content_carried t u x c within same whole none =
    record {
      whole = λ l. elim (cases_lt x t.limit) [ inl room ↦ c.whole (whole l room) ∙ same | inr full ↦ omega arith ];
      none = λ l. elim (cases_lt 0 x) [ inl some ↦ c.none (none l some) | inr nothing ↦ omega arith ];
    }

module _
    (m : Market) (o : Outcome) (ps qs : List ℕ) (proper : Proper m) (plain : Plain m) (f : Feasible m o)
    (s : Settled m o ps) (lowering : (z : ℕ) → z < m.zones → Lowering m o ps qs z)
  where
    -- Idea: a bid at exactly the old price holds it where it has room, or something; other bids do not see the change.
    buys : (k : ℕ) → k < length m.buys → Content (terms m qs (Buy k)) (at o.bought k)
    buys k h =
        let z = (bid m.buys k).zone in
        content_carried (terms m ps (Buy k)) _ _ (s.content (Buy k) h) (f.buys k h) refl
        (λ l room. elim (lowering z (proper.buys k h)) [
          | inl held ↦ omega (arith, held.1)
          | inr free ↦
              elim (cases_lt (at ps z) (bid m.buys k).price) [
                | inl less ↦ less
                | inr more ↦
                    absurd
                    (free.0
                    (by_buy k (record { among = h; zone = refl; price = omega (arith, free.1); room = room })))
              ]
        ])
        (λ l some. elim (lowering z (proper.buys k h)) [ inl held ↦ omega (arith, held.1) | inr free ↦ omega (arith, free.1) ])

    sells : (k : ℕ) → k < length m.sells → Content (terms m qs (Sell k)) (at o.sold k)
    sells k h =
        let z = (bid m.sells k).zone in
        content_carried (terms m ps (Sell k)) _ _ (s.content (Sell k) h) (f.sells k h) refl
        (λ l room. elim (lowering z (proper.sells k h)) [ inl held ↦ omega (arith, held.1) | inr free ↦ omega (arith, free.1) ])
        (λ l some. elim (lowering z (proper.sells k h)) [
          | inl held ↦ omega (arith, held.1)
          | inr free ↦
              elim (cases_lt (at ps z) (bid m.sells k).price) [
                | inl less ↦ less
                | inr more ↦
                    absurd
                    (free.0
                    (by_sell k (record { among = h; zone = refl; price = omega (arith, free.1); some = some })))
              ]
        ])

    -- where two zones' prices come to be in another order, they were the same, and only the dearer is held up
    parted :
        (a b : ℕ) → a < m.zones → b < m.zones → at qs a < at qs b → at ps b ≤ at ps a →
        (Held m o ps a → ⊥) × Held m o ps b × (at ps b ≡ at ps a)
    parted a b a_in b_in less above =
        elim (lowering a a_in) [
          | inl held ↦
              elim (lowering b b_in) [
                | inl other ↦ absurd (omega (arith, held.1, other.1))
                | inr free ↦ absurd (omega (arith, held.1, free.1))
              ]
          | inr free ↦
              elim (lowering b b_in) [
                | inl held ↦ (free.0, held.0, omega (arith, free.1, held.1))
                | inr other ↦ absurd (omega (arith, free.1, other.1))
              ]
        ]

    -- Idea: a line between zones of one price, of which one is held up, holds up the other where it has room, or something.
    lines : (l : ℕ) → l < length m.lines → Content (terms m qs (Line l)) (at o.flow l)
    lines l h =
        let a = (line m.lines l).from in
        let b = (line m.lines l).to in
        let costless = plain.costless l h in
        content_carried (terms m ps (Line l)) _ _ (s.content (Line l) h) (f.lines l h) refl
        (λ less room. elim (cases_lt (at ps a) (at ps b)) [
          | inl below ↦ omega (arith, costless)
          | inr above ↦
              let apart = parted a b (proper.from l h) (proper.to l h) (omega (arith, less, costless)) above in
              let leads : LineOut m o ps a b l = record { among = h; from = refl; to = refl; price = apart.2; room = room } in
              absurd (apart.0 (by_line_out l leads apart.1))
        ])
        (λ more some. elim (cases_lt (at ps b) (at ps a)) [
          | inl below ↦ omega (arith, costless)
          | inr above ↦
              let apart = parted b a (proper.to l h) (proper.from l h) (omega (arith, more, costless)) above in
              let leads : LineIn m o ps b a l = record { among = h; from = refl; to = refl; price = apart.2; some = some } in
              absurd (apart.0 (by_line_in l leads apart.1))
        ])

    pub settled_lowered : Settled m o qs
    settled_lowered = record { content = content }
      where
        content : (i : Item) → Among m i → Content (terms m qs i) (carried o i)
        content (Buy k) h = buys k h
        content (Sell k) h = sells k h
        content (Line k) h = lines k h

-- the prices, one lower where there is no mark
abbrev pub lowered : Market → List ℕ → List ℕ → List ℕ
lowered m ps marks = listed m.zones (λ z. at ps z - (1 - at marks z))

at_lowered :
    (m : Market) (ps marks : List ℕ) (z : ℕ) → z < m.zones → at (lowered m ps marks) z ≡ at ps z - (1 - at marks z)
at_lowered m ps marks z h = get_or-map-range_with_len (λ v. at ps v - (1 - at marks v)) 0 m.zones z z 0 h (omega arith)

lowering_marked :
    (m : Market) (o : Outcome) (ps old new : List ℕ) → Marks m o ps old new →
    (z : ℕ) → z < m.zones → Lowering m o ps (lowered m ps new) z
lowering_marked m o ps old new marks z h =
    let is = at_lowered m ps new z h in
    elim (marks.zones z h) [
      | inl held ↦ inl (held.1, omega (arith, held.0))
      | inr free ↦
          elim (cases_lt 0 (at ps z)) [
            | inl some ↦ inr (free.1, omega (arith, free.0))
            | inr none ↦ absurd (free.1 (at_none (omega arith)))
          ]
    ]

-- a zone without a mark is lower in a list that settles
pub unmarked_lower :
    (m : Market) (o : Outcome) (ps old new : List ℕ) → Proper m → Plain m → Feasible m o → Settled m o ps → Marks m o ps old new →
    (z : ℕ) → z < m.zones → at new z ≡ 0 → LowerAt m o ps z
unmarked_lower m o ps old new proper plain f s marks z h none =
    let lowering = lowering_marked m o ps old new marks in
    record {
      prices = lowered m ps new;
      long = length-map-range_with_len (λ v. at ps v - (1 - at new v)) 0 m.zones;
      settled = settled_lowered m o ps (lowered m ps new) proper plain f s lowering;
      lower =
          elim (marks.zones z h) [
            | inl held ↦ omega (arith, held.0)
            | inr free ↦
                elim (lowering z h) [ inl held ↦ absurd (free.1 held.0) | inr lower ↦ omega (arith, lower.1) ]
          ];
    }
