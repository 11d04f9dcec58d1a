-- Clearing an hour from a reader to a writer. Assumes nothing: these are definitions.
--
--   PublicationOf bs text c   the text is what is published of the bytes bs, and c says whether they were cleared
--   HourAnswered bs left ..   what is answered of the bytes bs, and what is left of them: the text that is published of them, whether
--                             they were cleared, and what they look like where they were refused
--   Routed c text whole ..    a text goes to the first of two writers if c says so, and else to the second; the other stays as it was
--   ClearedTo known ..        the same of an hour's bytes, where they are known, with the text on its way to a writer
--   NoAnswer fault            a fault that came before anything was written
--   WroteFront known ..       a front of the text that is published was written
--   Faulted known fault ..    what a fault leaves: nothing was written, or a front of the text that is published where writing failed
use Rattle.std.specs.Prelude.{◌≡◌, ℕ, Bool, true, false, cond, List, take, Some, None, Option, IfSome, is_none, ⊤}
use Rattle.std.specs.Io.KnownBytes.{Keeps}
use Rattle.hour.specs.Bytes.{refusal_of}
use Rattle.ledger.specs.Published.{Published}
use Rattle.office.specs.Hints.{hour_hint}
use Rattle.office.specs.Reading.{unread}
use Rattle.office.specs.Writing.{Wrote}
use Rattle.office.specs.declared.clearing.Answer.{Answer}
use Rattle.office.specs.declared.faults.Fault.{Fault}
use Rattle.office.specs.declared.faults.Fault.TheVariants as faults
use Rattle.office.specs.declared.hints.Hint.{Hint}

pub record PublicationOf (bs text : List ℕ) (cleared : Bool) : Type 0 where
  pub published : Published bs text
  pub cleared_is : cleared ≡ is_none (refusal_of bs)

pub record HourAnswered (bs : List ℕ) (left : Option (List ℕ)) (text : List ℕ) (cleared : Bool) (hint : Option Hint) : Type 0 where
  pub publication : PublicationOf bs text cleared
  pub hint_is : hint ≡ cond cleared None (hour_hint (take 7 bs))
  pub left_is : left ≡ Some (unread bs)

abbrev pub Routed : Bool → List ℕ → Bool → Option (List ℕ) → Option (List ℕ) → Option (List ℕ) → Option (List ℕ) → Type 0
Routed true text whole first first' second second' = Wrote first first' text whole × Keeps second second'
Routed false text whole first first' second second' = Keeps first first' × Wrote second second' text whole

pub record ClearedTo (known left : Option (List ℕ)) (answer : Answer) (first first' second second' : Option (List ℕ)) : Type 0 where
  pub text : List ℕ
  pub answered : IfSome known (λ bs. HourAnswered bs left text answer.good answer.hint)
  pub written : Routed answer.good text answer.whole first first' second second'

abbrev pub NoAnswer : Fault → Type 0
NoAnswer (faults.Answer error) = ⊥
NoAnswer (faults.Hour error) = ⊤
NoAnswer (faults.Published error) = ⊤
NoAnswer faults.Memory = ⊤

pub record WroteFront (known : Option (List ℕ)) (first first' second second' : Option (List ℕ)) : Type 0 where
  pub text : List ℕ
  pub cleared : Bool
  pub published : IfSome known (λ bs. PublicationOf bs text cleared)
  pub written : Routed cleared text false first first' second second'

abbrev pub Faulted : Option (List ℕ) → Fault → Option (List ℕ) → Option (List ℕ) → Option (List ℕ) → Option (List ℕ) → Type 0
Faulted known (faults.Answer error) first first' second second' = WroteFront known first first' second second'
Faulted known (faults.Hour error) first first' second second' = Keeps first first' × Keeps second second'
Faulted known (faults.Published error) first first' second second' = Keeps first first' × Keeps second second'
Faulted known faults.Memory first first' second second' = Keeps first first' × Keeps second second'
