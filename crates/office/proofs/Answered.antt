-- What is answered of an hour of which something came. Assumes nothing.
use Rattle.std.proofs.Common.{◌≡◌, ℕ, Bool, cond, List, take, Some, None, Option, IfSome, ap, ◌∙◌}
use Rattle.hour.specs.declared.refusals.Refusal.{Refusal}
use Rattle.office.specs.Clearing.{PublicationOf, HourAnswered}
use Rattle.office.specs.Hints.{hour_hint}
use Rattle.office.specs.Reading.{CameOf, HourSaid}
use Rattle.office.specs.declared.hints.Hint.{Hint}

pub hour_answered :
    (known left : Option (List ℕ)) (front text : List ℕ) (refusal : Option Refusal) (cleared : Bool) (hint : Option Hint) →
    IfSome known (λ bs. CameOf bs left front refusal) → ((bs : List ℕ) → HourSaid bs refusal front → PublicationOf bs text cleared) →
    hint ≡ cond cleared None (hour_hint (take 7 front)) → IfSome known (λ bs. HourAnswered bs left text cleared hint)
hour_answered None left front text refusal cleared hint came publication looks = tt
hour_answered (Some bs) left front text refusal cleared hint came publication looks =
    record {
      publication = publication bs came.said;
      hint_is = looks ∙ ap (λ (head : List ℕ). cond cleared None (hour_hint head)) came.head;
      left_is = came.left_is;
    }
