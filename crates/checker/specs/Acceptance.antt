-- When a published result is accepted, and the first rule that it breaks. Assumes nothing: these are definitions.
--
--   claimed f c            f of the market, the outcome and the prices of a claim
--   content_test t x       whether x is content on the terms t, as Content says
--   terms_broken s k t x   the rule that the k-th of a sort breaks, with the terms t and the amount x: too large comes before not
--                          allowed
--   item_broken m o ps s k the same of the k-th of a sort; first_broken the first of them
--   comes, goes            what is sold in a zone, flows in and is supplied; what is bought there and flows out
--   side_total             one of the four sums of a zone's balance: of side_count items, each of them in its side_zone, with an
--                          amount in side_amounts
--   side_counted           the amount of item k of a side where it counts in a zone, and else nothing
--   zone_broken            a zone out of balance
--   broken_of m o ps       the first rule broken: buys, sells, lines, zones, each by number
--   lent_refusal h o ps    the first lent slice too short for an hour with the head h: amounts bought 0, sold 1, flows 2,
--                          prices 3
--   refusal_to_check       what is refused: the head and the length of the hour, lent slices, the hour's items
--   objection_to           what there is against a result, given what is refused and what is broken
--   unless e x             x where there is no error, else the error
--   verdict_of bs o ps     the verdict on an outcome and prices of the hour that the bytes say
--   Stands bs o ps         nothing is refused, the outcome can be carried out, and the prices settle it
--   Exactly P Q            each of two follows from the other
--
-- Lists may be longer than needed. Prices are any numbers.
use Rattle.std.specs.Prelude.{◌≡◌, ℕ, ◌+◌, Bool, true, cond, not, List, length, Some, None, Ok, Err, Option, Result, ◌==◌, nat_lt}
use Rattle.hour.specs.Bytes.{head_of, market_of, refusal_with}
use Rattle.hour.specs.First.{when, ◌else◌, first}
use Rattle.hour.specs.Items.{item}
use Rattle.hour.specs.Market.{Market, Outcome, Feasible, Settled, at, bid, line, terms, carried, count_of, in_zone, into, out_of}
use Rattle.hour.specs.Rules.{lent_fault}
use Rattle.hour.specs.Seen.{market_seen}
use Rattle.hour.specs.Total.{tagged}
use Rattle.hour.specs.declared.items.Terms.{Terms}
use Rattle.hour.specs.declared.reading.Head.{Head}
use Rattle.hour.specs.declared.refusals.Refusal.{Refusal}
use Rattle.hour.specs.declared.refusals.Sort.{Sort}
use Rattle.hour.specs.declared.refusals.Sort.TheVariants as sorts
use Rattle.network.specs.Given.{outcome_given}
use Rattle.checker.specs.declared.verdict.Broken.{Broken}
use Rattle.checker.specs.declared.verdict.Broken.TheVariants.{TooLarge, NotAllowed, Unbalanced}
use Rattle.checker.specs.declared.verdict.Objection.{Objection}
use Rattle.checker.specs.declared.verdict.Objection.TheVariants as objections
use Rattle.checker.specs.declared.claim.Claim.{Claim}
use Rattle.checker.specs.declared.balance.Side.{Side}
use Rattle.checker.specs.declared.balance.Side.TheVariants.{Sold, Into, Bought, OutOf}

abbrev pub claimed {ℓ} : {A : Type ℓ} → (Market → Outcome → List ℕ → A) → Claim → A
claimed f c = f (market_seen c.hour) (outcome_given c.amounts) c.prices.now

abbrev pub content_test : Terms → ℕ → Bool
content_test t x =
    cond (nat_lt t.cost t.value) (x == t.limit) (cond (nat_lt t.value t.cost) (x == 0) true)

abbrev pub terms_broken : Sort → ℕ → Terms → ℕ → Option Broken
terms_broken sort number t x =
    when (nat_lt t.limit x) (TooLarge sort number) else when (not (content_test t x)) (NotAllowed sort number)

abbrev pub item_broken : Market → Outcome → List ℕ → Sort → ℕ → Option Broken
item_broken m o ps sort k = terms_broken sort k (terms m ps (item sort k)) (carried o (item sort k))

abbrev pub first_broken : Market → Outcome → List ℕ → Sort → Option Broken
first_broken m o ps sort = first (count_of m sort) (item_broken m o ps sort)

abbrev pub comes : Market → Outcome → ℕ → ℕ
comes m o z = in_zone z m.sells o.sold + into z m.lines o.flow + at m.supplies z

abbrev pub goes : Market → Outcome → ℕ → ℕ
goes m o z = in_zone z m.buys o.bought + out_of z m.lines o.flow

abbrev pub side_count : Market → Side → ℕ
side_count m Sold = length m.sells
side_count m Into = length m.lines
side_count m Bought = length m.buys
side_count m OutOf = length m.lines

abbrev pub side_zone : Market → Side → ℕ → ℕ
side_zone m Sold k = (bid m.sells k).zone
side_zone m Into k = (line m.lines k).to
side_zone m Bought k = (bid m.buys k).zone
side_zone m OutOf k = (line m.lines k).from

abbrev pub side_amounts : Outcome → Side → List ℕ
side_amounts o Sold = o.sold
side_amounts o Into = o.flow
side_amounts o Bought = o.bought
side_amounts o OutOf = o.flow

abbrev pub side_counted : Market → Outcome → Side → ℕ → ℕ → ℕ
side_counted m o side z k = cond (side_zone m side k == z) (at (side_amounts o side) k) 0

abbrev pub side_total : Market → Outcome → Side → ℕ → ℕ
side_total m o side z = tagged (side_count m side) (side_zone m side) z (at (side_amounts o side))

abbrev pub zone_broken : Market → Outcome → ℕ → Option Broken
zone_broken m o z = when (not (comes m o z == goes m o z)) (Unbalanced z)

abbrev pub broken_of : Market → Outcome → List ℕ → Option Broken
broken_of m o ps =
    first_broken m o ps sorts.Buy
    else first_broken m o ps sorts.Sell
    else first_broken m o ps sorts.Line
    else first m.zones (zone_broken m o)

abbrev pub lent_refusal : Head → Outcome → List ℕ → Option Refusal
lent_refusal head o ps =
    lent_fault 0 (length o.bought) head.buys
    else lent_fault 1 (length o.sold) head.sells
    else lent_fault 2 (length o.flow) head.lines
    else lent_fault 3 (length ps) head.zones

abbrev pub refusal_to_check : List ℕ → Outcome → List ℕ → Option Refusal
refusal_to_check bs o ps = refusal_with bs (lent_refusal (head_of bs) o ps)

-- what is refused comes before what is broken
abbrev pub objection_to : Option Refusal → Option Broken → Option Objection
objection_to (Some refusal) broken = Some (objections.Refused refusal)
objection_to None (Some broken) = Some (objections.Broken broken)
objection_to None None = None

abbrev pub unless : {A E : Type 0} → Option E → A → Result A E
unless (Some e) x = Err e
unless None x = Ok x

abbrev pub verdict_of : List ℕ → Outcome → List ℕ → Result (Unit {0}) Objection
verdict_of bs o ps = unless (objection_to (refusal_to_check bs o ps) (broken_of (market_of bs) o ps)) tt

pub record Stands (bs : List ℕ) (o : Outcome) (ps : List ℕ) : Type 0 where
  pub taken : refusal_to_check bs o ps ≡ None
  pub feasible : Feasible (market_of bs) o
  pub settled : Settled (market_of bs) o ps

abbrev pub Exactly : Type 0 → Type 0 → Type 0
Exactly P Q = (P → Q) × (Q → P)
