-- One arc by itself: what an amount brings at a price, and when it brings as much as any could. Assumes nothing.
use Rattle.std.proofs.Common.{◌≡◌, ℕ, ◌+◌, ◌-◌, ◌*◌, ◌<◌, ◌≤◌, ap, inl, inr, zero-mul, mul-zero, add-mul, mul-le-mul_left, arith}
use Rattle.std.proofs.Math.Nat.{mul-le-mul_right, le_of_mul-le-mul_left, le_of_mul-le-mul_right}
use Rattle.std.proofs.lemmas.Bool.{cases_order, cases_lt}
use Rattle.hour.specs.Market.{Content}
use Rattle.hour.specs.declared.items.Terms.{Terms}
use Rattle.network.specs.Prices.{Highest}

-- no amount brings more than what it costs and what a unit's surplus is on the whole limit
pub brings_le : (t : Terms) (x : ℕ) → x ≤ t.limit → t.value * x ≤ t.cost * x + (t.value - t.cost) * t.limit
brings_le t x within =
    let above : t.value ≤ t.cost + (t.value - t.cost) = omega arith in
    omega (
      arith,
      mul-le-mul_right x above,
      add-mul t.cost (t.value - t.cost) x,
      mul-le-mul_left (t.value - t.cost) within,
    )

-- a content amount brings as much
pub content_brings : (t : Terms) (x : ℕ) → Content t x → t.value * x ≡ t.cost * x + (t.value - t.cost) * t.limit
content_brings t x c =
    let none : t.value ≤ t.cost → (t.value - t.cost) * t.limit ≡ 0 =
    λ le. (let e : t.value - t.cost ≡ 0 = omega arith in omega (arith, ap (λ n. n * t.limit) e, zero-mul t.limit)) in
    elim (cases_order t.cost t.value) [
      | inl e ↦ omega (arith, ap (λ n. n * x) e, none (omega arith))
      | inr (inl l) ↦
          let e : t.value ≡ t.cost + (t.value - t.cost) = omega arith in
          omega (
            arith,
            ap (λ n. n * x) e,
            add-mul t.cost (t.value - t.cost) x,
            ap (λ n. (t.value - t.cost) * n) (c.whole l),
          )
      | inr (inr l) ↦
          omega (
            arith,
            ap (λ n. t.value * n) (c.none l),
            ap (λ n. t.cost * n) (c.none l),
            mul-zero t.value,
            mul-zero t.cost,
            none (omega arith),
          )
    ]

-- Idea: an amount that brings as much is the whole limit where a unit has a surplus, and nothing where it has a loss.
pub brings_content :
    (t : Terms) (x : ℕ) → x ≤ t.limit → t.value * x ≡ t.cost * x + (t.value - t.cost) * t.limit → Content t x
brings_content t x within even =
    record {
      whole = λ l.
          let e : t.value ≡ t.cost + (t.value - t.cost) = omega arith in
          let full : (t.value - t.cost) * t.limit ≤ (t.value - t.cost) * x =
          omega (arith, ap (λ n. n * x) e, add-mul t.cost (t.value - t.cost) x) in
          omega (arith, le_of_mul-le-mul_left full (omega arith));
      none = λ l. elim (cases_lt 0 x) [
        | inl some ↦
            let worse : t.cost * x ≤ t.value * x = omega arith in
            omega (arith, le_of_mul-le-mul_right worse some)
        | inr none ↦ omega arith
      ];
    }

pub content_highest : (t : Terms) (x : ℕ) → Content t x → Highest t x
content_highest t x c y within = omega (arith, brings_le t y within, content_brings t x c)

-- an amount above 0 says that a unit brings what it costs; one with room, that a unit brings no more
pub runs : {t : Terms} {x : ℕ} → Content t x → 0 < x → t.cost ≤ t.value
runs {t} {x} c some = elim (cases_lt t.value t.cost) [ inl l ↦ omega (arith, c.none l) | inr le ↦ le ]

pub has_room : {t : Terms} {x : ℕ} → Content t x → x < t.limit → t.value ≤ t.cost
has_room {t} {x} c less = elim (cases_lt t.cost t.value) [ inl l ↦ omega (arith, c.whole l) | inr le ↦ le ]
