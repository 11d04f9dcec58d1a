-- How the zones that are held up are found, one after the other. Assumes nothing: these are definitions.
--
--   marked f c              f of the market, the outcome, the prices and the marks of a claim with marks
--   buy_test, sell_test     whether a bid holds the price of zone z
--   level_test              whether a zone has a mark and the price of z
--   out_test, in_test       whether a line joins z to a marked zone of the same price
--   sort_test               one of these, by sort
--   holder                  the first buy, sell or line that holds the price of z up
--   held_test               the price of z is 0, or something holds it up
--   new_test                a zone has no mark, and is held up
--   next_held               the first zone without a mark that is held up
--   Wiped n old new         the first n numbers at 0, and the others as they were
--   LeftIn                  what is left in the marks of an hour that is not refused
use Rattle.std.specs.Prelude.{◌≡◌, ℕ, ◌<◌, ◌≤◌, Bool, ◌&&◌, ◌||◌, List, is_some, Some, None, Option, ◌==◌, nat_lt}
use Rattle.hour.specs.First.{when, first}
use Rattle.hour.specs.Market.{Market, Outcome, at, bid, line, count_of}
use Rattle.hour.specs.declared.refusals.Sort.{Sort}
use Rattle.hour.specs.declared.refusals.Sort.TheVariants as sorts
use Rattle.checker.specs.declared.claim.Marked.{Marked}
use Rattle.checker.specs.declared.verdict.Broken.{Broken}
use Rattle.checker.specs.Acceptance.{claimed, broken_of}
use Rattle.checker.specs.Marks.{Marks}

abbrev pub marked : {A : Type 0} → (Market → Outcome → List ℕ → List ℕ → A) → Marked → A
marked f c = claimed f c.claim c.marks.now

abbrev pub buy_test : Market → Outcome → List ℕ → ℕ → ℕ → Bool
buy_test m o ps z k =
    ((bid m.buys k).zone == z)
    && ((bid m.buys k).price == at ps z && nat_lt (at o.bought k) (bid m.buys k).amount)

abbrev pub sell_test : Market → Outcome → List ℕ → ℕ → ℕ → Bool
sell_test m o ps z k =
    ((bid m.sells k).zone == z)
    && ((bid m.sells k).price == at ps z && nat_lt 0 (at o.sold k))

-- zone w has a mark and the price of z
abbrev pub level_test : List ℕ → List ℕ → ℕ → ℕ → Bool
level_test ps marks z w = at marks w == 1 && at ps w == at ps z

abbrev pub out_test : Market → Outcome → List ℕ → List ℕ → ℕ → ℕ → Bool
out_test m o ps marks z l =
    ((line m.lines l).from == z)
    && (nat_lt (at o.flow l) (line m.lines l).capacity && level_test ps marks z (line m.lines l).to)

abbrev pub in_test : Market → Outcome → List ℕ → List ℕ → ℕ → ℕ → Bool
in_test m o ps marks z l =
    ((line m.lines l).to == z) && (nat_lt 0 (at o.flow l) && level_test ps marks z (line m.lines l).from)

abbrev pub sort_test : Market → Outcome → List ℕ → List ℕ → ℕ → Sort → ℕ → Bool
sort_test m o ps marks z sorts.Buy k = buy_test m o ps z k
sort_test m o ps marks z sorts.Sell k = sell_test m o ps z k
sort_test m o ps marks z sorts.Line k = out_test m o ps marks z k || in_test m o ps marks z k

abbrev pub holder : Market → Outcome → List ℕ → List ℕ → ℕ → Sort → Option ℕ
holder m o ps marks z sort = first (count_of m sort) (λ k. when (sort_test m o ps marks z sort k) k)

abbrev pub held_test : Market → Outcome → List ℕ → List ℕ → ℕ → Bool
held_test m o ps marks z =
    (at ps z == 0)
    || (is_some (holder m o ps marks z sorts.Buy)
    || (is_some (holder m o ps marks z sorts.Sell) || is_some (holder m o ps marks z sorts.Line)))

abbrev pub new_test : Market → Outcome → List ℕ → List ℕ → ℕ → Bool
new_test m o ps marks z = at marks z == 0 && held_test m o ps marks z

abbrev pub next_held : Market → Outcome → List ℕ → List ℕ → Option ℕ
next_held m o ps marks = first m.zones (λ z. when (new_test m o ps marks z) z)

-- the first n numbers are 0 afterwards, and the others as they were
pub record Wiped (n : ℕ) (old new : List ℕ) : Type 0 where
  pub front : (k : ℕ) → k < n → at new k ≡ 0
  pub past : (k : ℕ) → n ≤ k → at new k ≡ at old k

-- what is left in the marks of an hour that is not refused: as they were where a rule is broken
pub record LeftIn (m : Market) (o : Outcome) (ps old new : List ℕ) : Type 0 where
  pub kept : (b : Broken) → broken_of m o ps ≡ Some b → new ≡ old
  pub marked : broken_of m o ps ≡ None → Marks m o ps old new
