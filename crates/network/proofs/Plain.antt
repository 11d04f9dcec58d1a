-- What costs and supplies come to in a market without them: nothing. Assumes nothing.
use Rattle.std.proofs.Common.{◌≡◌, ℕ, zero, ◌*◌, Bool, true, false, cond, eqb, List, [], length, ap, refl, ◌∙◌, inl, inr, zero-mul, mul-zero, arith}
use Rattle.std.proofs.lemmas.Bool.{cases_lt}
use Rattle.std.proofs.lemmas.List.{get_or_past}
use Rattle.hour.specs.Total.{total, tagged}
use Rattle.hour.specs.Market.{Market, Outcome, Feasible, Plain, at, bid, line, no_line, worth, costs}
use Rattle.hour.proofs.Total.{total_same, total_none}
use Rattle.network.specs.Prices.{supplied}
use Rattle.network.specs.Promises.{PlainStart}
use Rattle.hour.specs.declared.items.Line.{Line}

module _ (m : Market) (plain : Plain m) where
  -- past the last line there is none, and that costs nothing either
  pub line_cost : (k : ℕ) → (line m.lines k).cost ≡ 0
  line_cost k =
      elim (cases_lt k (length m.lines)) [
        | inl below ↦ plain.costless k below
        | inr past ↦ ap (λ (l : Line). l.cost) (get_or_past m.lines k no_line past)
      ]

  pub supply_none : (z : ℕ) → at m.supplies z ≡ 0
  supply_none z = ap (λ ss. at ss z) plain.unsupplied

  pub costs_none : (x : ℕ → ℕ) → total (length m.lines) (λ k. (line m.lines k).cost * x k) ≡ 0
  costs_none x =
      total_same (length m.lines) _ _ (λ k h. ap (λ c. c * x k) (plain.costless k h) ∙ zero-mul (x k))
      ∙ total_none (length m.lines)

  pub costs_plain : (o : Outcome) → costs m o ≡ worth m.sells o.sold
  costs_plain o = omega (arith, costs_none (at o.flow))

  pub supplied_none : (ps : List ℕ) → supplied m ps ≡ 0
  supplied_none ps =
      total_same m.zones _ _ (λ z h. ap (λ s. at ps z * s) (supply_none z) ∙ mul-zero (at ps z)) ∙ total_none m.zones

tagged_none : (n : ℕ) (key : ℕ → ℕ) (z : ℕ) → tagged n key z (at []) ≡ 0
tagged_none n key z = total_same n _ _ (λ k h. dropped (eqb (key k) z)) ∙ total_none n
  where
    dropped : (b : Bool) → cond b 0 0 ≡ zero
    dropped true = refl
    dropped false = refl

abbrev pub nothing : Outcome
nothing = record { bought = []; sold = []; flow = [] }

pub nothing_feasible : (m : Market) → Plain m → Feasible m nothing
nothing_feasible m plain =
    record {
      buys = λ k h. omega arith;
      sells = λ k h. omega arith;
      lines = λ k h. omega arith;
      balance = λ z h. omega (
        arith,
        tagged_none (length m.buys) (λ k. (bid m.buys k).zone) z,
        tagged_none (length m.sells) (λ k. (bid m.sells k).zone) z,
        tagged_none (length m.lines) (λ k. (line m.lines k).from) z,
        tagged_none (length m.lines) (λ k. (line m.lines k).to) z,
        supply_none m plain z,
      );
    }

pub plain_start : PlainStart
plain_start m plain =
    record {
      start = nothing;
      feasible = nothing_feasible m plain;
      sold = λ k h. refl;
      bought = λ k h some. absurd (omega (arith, some));
      flow = λ k h some. absurd (omega (arith, some));
    }
