-- Why a program has no answer, said of the files that it was called with. Assumes nothing: these are definitions.
--
--   MadeOf b f n t     t is f of what has the bytes n, where b says which bytes it has; or memory is wanting for the name
--   InputIs n f t' t   t is f of the name n, for the input of that name; standard input, `-`, has none, and there t is t'
--   NamedIs h p t' t   t is t' with the name h of the hour, or p of the published result, where that could not be read
use Rattle.std.specs.Prelude.{◌≡◌, ◌⊎◌, ℕ, List, codes, string_bytes}
use Rattle.office.specs.declared.faults.Fault.TheVariants as faults
use Rattle.office.specs.declared.troubles.Trouble.{Trouble}
use Rattle.office.specs.declared.troubles.Trouble.TheVariants.{Unread, Unwritten, Kept, Fault, Other}

abbrev pub MadeOf : {S : Type 0} → (S → List ℕ) → (S → Trouble) → List ℕ → Trouble → Type 0
MadeOf {S} bytes make name t = (t ≡ Fault faults.Memory) ⊎ ((named : S) × ((bytes named ≡ name) × (t ≡ make named)))

abbrev pub InputIs : {S : Type 0} → (S → List ℕ) → (S → Trouble) → List ℕ → Trouble → Trouble → Type 0
InputIs bytes make name before after =
    (name ≡ codes "-" → after ≡ before) × ((name ≡ codes "-" → ⊥) → MadeOf bytes make name after)

abbrev pub NamedIs : List ℕ → List ℕ → Trouble → Trouble → Type 0
NamedIs hour published (Unread named error) after = after ≡ Unread named error
NamedIs hour published (Unwritten named error) after = after ≡ Unwritten named error
NamedIs hour published (Kept named reason) after = after ≡ Kept named reason
NamedIs hour published (Fault (faults.Hour why)) after =
    InputIs string_bytes (λ named. Unread named why) hour (Fault (faults.Hour why)) after
NamedIs hour published (Fault (faults.Published why)) after =
    InputIs string_bytes (λ named. Unread named why) published (Fault (faults.Published why)) after
NamedIs hour published (Fault (faults.Answer error)) after = after ≡ Fault (faults.Answer error)
NamedIs hour published (Fault faults.Memory) after = after ≡ Fault faults.Memory
NamedIs hour published (Other error) after = after ≡ Other error
