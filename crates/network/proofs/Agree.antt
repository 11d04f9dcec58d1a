-- Outcomes that agree on every item of a market, and prices that agree on every zone, say the same. Assumes nothing.
--
--   Agree m o p          o and p give every item of m the same
--   AgreePrices m ps qs ps and qs give every zone of m the same price
use Rattle.std.proofs.Common.{◌≡◌, ℕ, ◌+◌, ◌<◌, cond, eqb, List, length, take, sym, refl, ap, ◌∙◌, ap₂, arith}
use Rattle.std.proofs.lemmas.List.{get_or-take}
use Rattle.hour.proofs.Total.{total_same}
use Rattle.hour.specs.Market.{Market, Outcome, Proper, Feasible, Settled, at, line}
use Rattle.hour.specs.Total.{tagged}
use Rattle.network.specs.Network.{Among, carried, unit_cost, unit_value}
use Rattle.network.specs.Prices.{Lowest}
use Rattle.network.specs.Tables.{outcome_in}
use Rattle.hour.specs.declared.items.Item.{Item}
use Rattle.hour.specs.declared.items.Item.TheVariants.{Buy, Sell, Line}
use Rattle.network.proofs.Market.{limit_is}

abbrev pub Agree : Market → Outcome → Outcome → Type 0
Agree m o p = (i : Item) → Among m i → carried o i ≡ carried p i

abbrev pub AgreePrices : Market → List ℕ → List ℕ → Type 0
AgreePrices m ps qs = (z : ℕ) → z < m.zones → at ps z ≡ at qs z

tagged_same :
    (n : ℕ) (key : ℕ → ℕ) (v : ℕ) (f g : ℕ → ℕ) → ((k : ℕ) → k < n → f k ≡ g k) → tagged n key v f ≡ tagged n key v g
tagged_same n key v f g same =
    total_same n _ _ (λ k below. ap (λ (x : ℕ). cond (eqb (key k) v) x 0) (same k below))

pub feasible_agree : (m : Market) (o p : Outcome) → Agree m o p → Feasible m o → Feasible m p
feasible_agree m o p same feasible =
    record {
      buys = λ k below. omega (arith, same (Buy k) below, feasible.buys k below);
      sells = λ k below. omega (arith, same (Sell k) below, feasible.sells k below);
      lines = λ k below. omega (arith, same (Line k) below, feasible.lines k below);
      balance = λ z below.
          sym (ap₂ (λ sold flow. sold + flow + at m.supplies z)
          (tagged_same (length m.sells) _ z (at o.sold) (at p.sold) (λ k. same (Sell k)))
          (tagged_same (length m.lines) _ z (at o.flow) (at p.flow) (λ k. same (Line k))))
          ∙ (feasible.balance z below
          ∙ ap₂ ◌+◌
          (tagged_same (length m.buys) _ z (at o.bought) (at p.bought) (λ k. same (Buy k)))
          (tagged_same (length m.lines) _ z (at o.flow) (at p.flow) (λ k. same (Line k))));
    }

module _ (m : Market) (ps qs : List ℕ) (proper : Proper m) (same : AgreePrices m ps qs) where
  cost_agree : (i : Item) → Among m i → unit_cost m ps i ≡ unit_cost m qs i
  cost_agree (Buy k) among = same _ (proper.buys k among)
  cost_agree (Sell k) among = refl
  cost_agree (Line k) among = ap (λ p. p + (line m.lines k).cost) (same _ (proper.from k among))

  value_agree : (i : Item) → Among m i → unit_value m ps i ≡ unit_value m qs i
  value_agree (Buy k) among = refl
  value_agree (Sell k) among = same _ (proper.sells k among)
  value_agree (Line k) among = same _ (proper.to k among)

  pub settled_agree : (o p : Outcome) → Agree m o p → Settled m o ps → Settled m p qs
  settled_agree o p alike settled =
      record {
        content = λ i among.
            let c = settled.content i among in
            let cost = cost_agree i among in
            let value = value_agree i among in
            let limit = limit_is m ps i ∙ sym (limit_is m qs i) in
            record {
              whole = λ less. sym (alike i among) ∙ c.whole (omega arith) ∙ limit;
              none = λ less. sym (alike i among) ∙ c.none (omega arith);
            };
      }

  -- lowest prices are lowest by any list that has the same
  pub lowest_agree : Lowest m ps → Lowest m qs
  lowest_agree low =
      record {
        outcome = low.outcome;
        feasible = low.feasible;
        settled = settled_agree low.outcome low.outcome (λ i among. refl) low.settled;
        below = λ o rs feasible settled z within. omega (arith, low.below o rs feasible settled z within, same z within);
      }

-- lists agree with their fronts
pub fronts_agree :
    (m : Market) (bought sold flow : List ℕ) →
    Agree m (outcome_in (take (length m.buys) bought) (take (length m.sells) sold) (take (length m.lines) flow))
    (outcome_in bought sold flow)
fronts_agree m bought sold flow (Buy k) among = get_or-take _ bought k 0 among
fronts_agree m bought sold flow (Sell k) among = get_or-take _ sold k 0 among
fronts_agree m bought sold flow (Line k) among = get_or-take _ flow k 0 among

pub front_prices : (m : Market) (ps : List ℕ) → AgreePrices m (take m.zones ps) ps
front_prices m ps z below = get_or-take _ ps z 0 below
