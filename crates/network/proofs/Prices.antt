-- What prices that settle promise: Best, Even, MoneyBounded, NoRegret, Exchange and one lowest list. Assumes nothing.
use Rattle.std.proofs.Common.{◌≡◌, ℕ, zero, suc, ◌+◌, ◌*◌, ◌<◌, ◌≤◌, List, length, sym, ap, ◌∙◌, inl, inr, mul-zero, zero-mul, add-mul, arith}
use Rattle.std.proofs.Math.Nat.{mul-le-mul_right}
use Rattle.std.proofs.lemmas.Bool.{cases_eq, cases_lt}
use Rattle.std.proofs.lemmas.List.{ext_get_or}
use Rattle.hour.specs.Total.{total}
use Rattle.hour.specs.Market.{Market, Outcome, Proper, Feasible, at, bid, line, worth, costs}
use Rattle.hour.proofs.Total.{total_same, total_none, total_add, total_le}
use Rattle.network.specs.Network.{hub, price}
use Rattle.network.specs.Prices.{Lowest, paid, sent, arrived, surplus, supplied}
use Rattle.network.specs.Promises.{Best, Even, MoneyBounded, NoRegret, Exchange, OneLowest}
use Rattle.hour.specs.declared.items.Item.TheVariants.{Buy, Line}
use Rattle.network.proofs.Market.{price_zone, price_hub}
use Rattle.network.proofs.Level.{level}
use Rattle.network.proofs.Content.{content_highest, runs}
use Rattle.network.proofs.Dual.{dual}

-- Idea: at the prices that settle o, what all items could gain is what o is worth, and at least what any other is.
pub best : Best
best m o p ps proper f s g = omega (arith, (dual m o ps proper f).settled s, (dual m p ps proper g).within)

-- Idea: at either list, what all items could gain is what its outcome is worth and at least what the other is; so at
-- both it is the same, which is what o is worth.
pub exchange : Exchange
exchange m o p ps qs proper f g s t =
    let even : worth m.buys o.bought ≡ costs m o + surplus m qs + supplied m qs =
    omega (
      arith,
      (dual m o ps proper f).settled s,
      (dual m p qs proper g).settled t,
      (dual m p ps proper g).within,
      (dual m o qs proper f).within,
    ) in
    (dual m o qs proper f).settles even

pub no_regret : NoRegret
no_regret m o ps f s = record { highest = λ i h. content_highest _ _ (s.content i h) }

priced :
    (m : Market) (ps : List ℕ) (n : ℕ) (key x : ℕ → ℕ) → ((k : ℕ) → k < n → key k < m.zones) →
    total n (λ k. price m ps (key k) * x k) ≡ total n (λ k. at ps (key k) * x k)
priced m ps n key x zones = total_same n _ _ (λ k h. ap (λ q. q * x k) (price_zone m ps (key k) (zones k h)))

unpriced : (m : Market) (ps : List ℕ) (n : ℕ) (x : ℕ → ℕ) → total n (λ k. price m ps (hub m) * x k) ≡ 0
unpriced m ps n x =
    total_same n _ _ (λ k h. ap (λ q. q * x k) (price_hub m ps) ∙ zero-mul (x k)) ∙ total_none n

-- Idea: the prices at the heads, with the supplies at theirs, sum up to those at the tails, whatever the prices are.
pub paid_level :
    (m : Market) (o : Outcome) (ps : List ℕ) → Proper m → Feasible m o →
    paid ps m.buys o.bought + sent ps m.lines o.flow
    ≡ paid ps m.sells o.sold + arrived ps m.lines o.flow + supplied m ps
paid_level m o ps proper f =
    omega (
      arith,
      level m o ps proper f,
      unpriced m ps (length m.buys) (at o.bought),
      unpriced m ps (length m.sells) (at o.sold),
      priced m ps (length m.buys) (λ k. (bid m.buys k).zone) (at o.bought) proper.buys,
      priced m ps (length m.sells) (λ k. (bid m.sells k).zone) (at o.sold) proper.sells,
      priced m ps (length m.lines) (λ k. (line m.lines k).from) (at o.flow) proper.from,
      priced m ps (length m.lines) (λ k. (line m.lines k).to) (at o.flow) proper.to,
    )

-- Idea: a line's surplus is at least that of no flow.
pub even : Even
even m o ps proper f s =
    record {
      even = omega (arith, paid_level m o ps proper f);
      lines = λ k h.
          let begin = at ps (line m.lines k).from in
          let end = at ps (line m.lines k).to in
          let own = (line m.lines k).cost in
          omega (
            arith,
            (no_regret m o ps f s).highest (Line k) h 0 (omega arith),
            mul-zero (begin + own),
            mul-zero end,
            add-mul begin own (at o.flow k),
          );
    }

-- where no part is above another's, one part's difference is no more than all together
apart_le :
    (n : ℕ) (f g : ℕ → ℕ) → ((j : ℕ) → j < n → f j ≤ g j) → (k : ℕ) → k < n → total n f + g k ≤ total n g + f k
apart_le zero f g le k h = let never : ⊥ = omega arith in absurd never
apart_le (suc n) f g le k h =
    elim (cases_eq k n) [
      | inl e ↦ omega (arith, total_le n f g (λ j l. le j (omega arith)), ap f e, ap g e)
      | inr ne ↦ omega (arith, apart_le n f g (λ j l. le j (omega arith)) k (omega arith), le n (omega arith))
    ]

-- Idea: a buyer that has something pays no more than its bid; and of what buyers pay, sellers and lines get parts that are not
-- below nothing.
pub money_bounded : MoneyBounded
money_bounded m o ps proper f s =
    let money = even m o ps proper f s in
    let sends : ℕ → ℕ = λ k. at ps (line m.lines k).from * at o.flow k in
    let own : ℕ → ℕ = λ k. (line m.lines k).cost * at o.flow k in
    let arrives : ℕ → ℕ = λ k. at ps (line m.lines k).to * at o.flow k in
    let begins = total_add (length m.lines) sends own in
    let rises = total_le (length m.lines) (λ k. sends k + own k) arrives money.lines in
    record {
      buys = total_le (length m.buys) _ _ pays_less;
      sells = omega (arith, money.even, begins, rises);
      lines = λ k h. omega (
        arith,
        money.even,
        begins,
        apart_le (length m.lines) (λ j. sends j + own j) arrives money.lines k h,
      );
    }
  where
    pays_less :
        (k : ℕ) → k < length m.buys → at ps (bid m.buys k).zone * at o.bought k ≤ (bid m.buys k).price * at o.bought k
    pays_less k h =
        let price = (bid m.buys k).price in
        let asked = at ps (bid m.buys k).zone in
        elim (cases_lt 0 (at o.bought k)) [
          | inl some ↦ mul-le-mul_right (at o.bought k) (runs (s.content (Buy k) h) some)
          | inr none ↦
              let nothing : at o.bought k ≡ 0 = omega arith in
              omega (arith, ap (λ n. asked * n) nothing, ap (λ n. price * n) nothing, mul-zero asked, mul-zero price)
        ]

-- Idea: two lists that are each at or below the other are one; by exchange, what settles any outcome settles this one.
pub one_lowest : OneLowest
one_lowest m proper =
    record {
      agree = agree;
      same = λ ps qs n k p q. ext_get_or 0 ps qs (n ∙ sym k) (λ z h. agree ps qs p q z (omega arith));
      any = λ o ps f low.
          record {
            outcome = o;
            feasible = f;
            settled = low.settled;
            below = λ p qs g t. low.below qs (exchange m o p ps qs proper f g low.settled t);
          };
    }
  where
    agree : (ps qs : List ℕ) → Lowest m ps → Lowest m qs → (z : ℕ) → z < m.zones → at ps z ≡ at qs z
    agree ps qs p q z h =
        let down = p.below q.outcome qs q.feasible q.settled z h in
        let up = q.below p.outcome ps p.feasible p.settled z h in
        omega arith
