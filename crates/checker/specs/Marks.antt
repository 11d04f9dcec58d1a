-- The marks of the zones that are held up, and the answer that they give. Assumes nothing: these are definitions.
--
--   Mark m o ps z x         the mark x of zone z is 1 where z is held up, and else 0
--   Marks m o ps old new    a mark for each zone, and the other numbers as they were
--   unmarked                the first zone without a mark
--   refusal_to_mark         what is refused: as in refusal_to_check, and marks that are too short are the slice 4
--   lowness_of              the answer that marks give, where so many numbers were lent for them
--   Answerable              nothing is refused, the outcome can be carried out, and the prices settle it
--   Left bs o ps old new    what is left in the lent marks: as they were, unless the question has an answer
--   LowerFirst              the question has an answer, and z is the first zone that could be lower
--   LowestAll               the question has an answer, and no list that settles is lower anywhere
use Rattle.std.specs.Prelude.{◌≡◌, ℕ, ◌<◌, ◌≤◌, ◌⊎◌, List, length, None, Option, Result, ◌==◌}
use Rattle.hour.specs.Bytes.{head_of, market_of, refusal_with}
use Rattle.hour.specs.First.{when, ◌else◌, first}
use Rattle.hour.specs.Market.{Market, Outcome, Feasible, Settled, at}
use Rattle.hour.specs.Rules.{lent_fault}
use Rattle.hour.specs.declared.refusals.Refusal.{Refusal}
use Rattle.network.specs.Prices.{Lowest}
use Rattle.checker.specs.declared.verdict.Objection.{Objection}
use Rattle.checker.specs.Acceptance.{lent_refusal, broken_of, objection_to, unless}
use Rattle.checker.specs.Holding.{Held, FirstLower}

abbrev pub unmarked : Market → List ℕ → Option ℕ
unmarked m marks = first m.zones (λ z. when (at marks z == 0) z)

abbrev pub Mark : Market → Outcome → List ℕ → ℕ → ℕ → Type 0
Mark m o ps z x = ((x ≡ 1) × Held m o ps z) ⊎ ((x ≡ 0) × (Held m o ps z → ⊥))

pub record Marks (m : Market) (o : Outcome) (ps old new : List ℕ) : Type 0 where
  pub long : length new ≡ length old
  pub zones : (z : ℕ) → z < m.zones → Mark m o ps z (at new z)
  pub past : (k : ℕ) → m.zones ≤ k → at new k ≡ at old k

abbrev pub refusal_to_mark : List ℕ → Outcome → List ℕ → ℕ → Option Refusal
refusal_to_mark bs o ps lent =
    refusal_with bs (lent_refusal (head_of bs) o ps else lent_fault 4 lent (head_of bs).zones)

abbrev pub lowness_of : List ℕ → Outcome → List ℕ → ℕ → List ℕ → Result (Option ℕ) Objection
lowness_of bs o ps lent marks =
    unless (objection_to (refusal_to_mark bs o ps lent) (broken_of (market_of bs) o ps)) (unmarked (market_of bs) marks)

pub record Answerable (bs : List ℕ) (o : Outcome) (ps : List ℕ) (lent : ℕ) : Type 0 where
  pub taken : refusal_to_mark bs o ps lent ≡ None
  pub feasible : Feasible (market_of bs) o
  pub settled : Settled (market_of bs) o ps

pub record Left (bs : List ℕ) (o : Outcome) (ps old new : List ℕ) : Type 0 where
  pub kept : (Answerable bs o ps (length old) → ⊥) → new ≡ old
  pub marked : Answerable bs o ps (length old) → Marks (market_of bs) o ps old new

-- what the two answers about prices say
abbrev pub LowerFirst : List ℕ → Outcome → List ℕ → ℕ → ℕ → Type 0
LowerFirst bs o ps lent z = Answerable bs o ps lent × FirstLower (market_of bs) o ps z

abbrev pub LowestAll : List ℕ → Outcome → List ℕ → ℕ → Type 0
LowestAll bs o ps lent = Answerable bs o ps lent × Lowest (market_of bs) ps
