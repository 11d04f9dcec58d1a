-- An hour that keeps the rules fits the bounds of the search, and nothing can always be carried out. Assumes nothing.
use Rattle.std.proofs.Common.{◌≡◌, ℕ, ◌-◌, ◌^◌, ◌<◌, ◌≤◌, cond, eqb, List, [], length, replicate, sym, refl, ap, ◌∙◌, inl, inr, arith}
use mathlib.Core.Path.{subst⁻¹}
use Rattle.std.proofs.lemmas.List.{length-replicate, get_or-replicate, ext_get_or, get_or_past, length-map, get_or-map}
use Rattle.std.proofs.lemmas.Bool.{cases_lt}
use Rattle.hour.proofs.Total.{total_same, total_none}
use Rattle.hour.specs.Market.{Market, Proper, Plain, Feasible, at, bid, line}
use Rattle.hour.specs.Rules.{KeepsRules}
use Rattle.hour.specs.Total.{tagged}
use Rattle.network.proofs.Rows.{length_bids_in, length_lines_in}
use Rattle.network.proofs.Plain.{supply_none}
use Rattle.network.specs.Network.{Among, capacity}
use Rattle.network.specs.Tables.{bids_in, lines_in, market_in, outcome_in}
use Rattle.hour.specs.declared.items.Item.{Item}
use Rattle.hour.specs.declared.items.Item.TheVariants.{Buy, Sell, Line}
use Rattle.network.specs.declared.tables.Tables.{Tables}
use Rattle.paths.proofs.Zones.{worth_is}
use Rattle.paths.specs.Promises.{prices_of}
use Rattle.network.specs.Given.{market_given}
use Rattle.paths.specs.Search.{Bounded}
use Rattle.paths.specs.Ways.{way_at, worths, plan_of}
use Rattle.paths.specs.declared.ways.Way.{Way}
use Rattle.prices.specs.Laid.{nothing}

pub filled_with : (n : ℕ) (xs : List ℕ) (k : ℕ) → xs ≡ replicate n 0 → n ≡ k → xs ≡ replicate k 0
filled_with n xs k zeros same = zeros ∙ ap (λ (j : ℕ). replicate j 0) same

-- a price laid for each way
pub prices_laid :
    (ways : List Way) (price : List ℕ) (n : ℕ) → length price ≡ length ways → length ways ≤ n →
    ((k : ℕ) → k < n → at price k ≡ (way_at ways k).worth - 1) → price ≡ prices_of (plan_of ways)
prices_laid ways price n long all each =
    ext_get_or 0 price (prices_of (plan_of ways))
    (long ∙ sym (length-map (worths ways) (λ c. c - 1) ∙ length-map ways (λ (w : Way). w.worth)))
    (λ k below.
    each k (omega arith)
    ∙ sym (get_or-map (λ (c : ℕ). c - 1) (worths ways) k 0 0 (omega (arith, length-map ways (λ (w : Way). w.worth)))
    ∙ ap (λ (c : ℕ). c - 1) (worth_is ways k)))

pub proper_kept : (m : Market) → KeepsRules m → Proper m
proper_kept m kept =
    record {
      buys = λ k below. (kept.each_buy k below).zone;
      sells = λ k below. (kept.each_sell k below).zone;
      from = λ k below. (kept.each_line k below).from;
      to = λ k below. (kept.each_line k below).to;
    }

small_capacity : (m : Market) → KeepsRules m → (i : Item) → Among m i → capacity m i < 2 ^ 63
small_capacity m kept (Buy k) among = omega (arith, (kept.each_buy k among).amount)
small_capacity m kept (Sell k) among = omega (arith, (kept.each_sell k among).amount)
small_capacity m kept (Line l) among = omega (arith, (kept.each_line l among).capacity)

pub bounded_kept : (t : Tables) → KeepsRules (market_given t) → Bounded t
bounded_kept t kept =
    let buys = length_bids_in t.buys.now in
    let sells = length_bids_in t.sells.now in
    let lines = length_lines_in t.lines.now in
    record {
      proper = proper_kept (market_given t) kept;
      zones = omega (arith, kept.zones);
      buys = omega (arith, kept.buys, buys);
      sells = omega (arith, kept.sells, sells);
      lines = omega (arith, kept.lines, lines);
      buy_prices = λ k below. omega (arith, (kept.each_buy k (omega arith)).price);
      sell_prices = λ k below. omega (arith, (kept.each_sell k (omega arith)).price);
      capacities = small_capacity (market_given t) kept;
    }

at_zeros : (n k : ℕ) → at (replicate n 0) k ≡ 0
at_zeros n k =
    elim (cases_lt k n) [
      | inl below ↦ get_or-replicate n k 0 0 below
      | inr past ↦ get_or_past (replicate n 0) k 0 (omega (arith, length-replicate {A = ℕ} n 0))
    ]

cond_zero : (b : mathlib.Core.Bool.Bool) (x : ℕ) → x ≡ 0 → cond b x 0 ≡ 0
cond_zero mathlib.Core.Bool.true x none = none
cond_zero mathlib.Core.Bool.false x none = refl

no_part : (n : ℕ) (key : ℕ → ℕ) (v c : ℕ) → tagged n key v (at (replicate c 0)) ≡ 0
no_part n key v c =
    total_same n _ (λ k. 0) (λ k below. cond_zero (eqb (key k) v) (at (replicate c 0) k) (at_zeros c k)) ∙ total_none n

pub nothing_feasible : (m : Market) → Plain m → Feasible m (nothing m)
nothing_feasible m plain =
    record {
      buys = λ k below. omega (arith, at_zeros (length m.buys) k);
      sells = λ k below. omega (arith, at_zeros (length m.sells) k);
      lines = λ k below. omega (arith, at_zeros (length m.lines) k);
      balance = λ z below. omega (
        arith,
        no_part (length m.sells) (λ k. (bid m.sells k).zone) z (length m.sells),
        no_part (length m.lines) (λ k. (line m.lines k).to) z (length m.lines),
        no_part (length m.buys) (λ k. (bid m.buys k).zone) z (length m.buys),
        no_part (length m.lines) (λ k. (line m.lines k).from) z (length m.lines),
        supply_none m plain z,
      );
    }

pub zeros_feasible :
    (m : Market) → Plain m → (bought sold flow : List ℕ) → bought ≡ replicate (length m.buys) 0 →
    sold ≡ replicate (length m.sells) 0 → flow ≡ replicate (length m.lines) 0 →
    Feasible m (outcome_in bought sold flow)
zeros_feasible m plain bought sold flow b s f = rw (b, s, f) (nothing_feasible m plain)

-- tables that say the market m: what is said of it and of their market is the same
module _
    (z : ℕ) (buys sells lines : List ℕ) (m : Market) (zones_are : z ≡ m.zones) (buys_are : bids_in buys ≡ m.buys)
    (sells_are : bids_in sells ≡ m.sells) (lines_are : lines_in lines ≡ m.lines)
    (dry : m.supplies ≡ [])
  where
    pub market_laid : market_in z buys sells lines ≡ m
    market_laid =
        let supplies_are : [] ≡ m.supplies = sym dry in
        λ i. record {
          zones = zones_are i;
          buys = buys_are i;
          sells = sells_are i;
          lines = lines_are i;
          supplies = supplies_are i;
        }

    pub kept_laid : KeepsRules m → KeepsRules (market_in z buys sells lines)
    kept_laid kept = subst⁻¹ KeepsRules market_laid kept
