-- What the first bytes tell of all of them. Assumes nothing.
use Rattle.std.proofs.Common.{◌≡◌, ℕ, ◌+◌, ◌*◌, ◌<◌, ◌≤◌, cond, Bool, false, leb, eqb, List, ◌++◌, length, Some, None, Option, sym, ap, ap₂, ◌∙◌, arith}
use Rattle.std.proofs.lemmas.Bool.{le-leb, ne_eqb, not_from_false}
use Rattle.std.proofs.lemmas.List.{length-append, get_or_append_left}
use Rattle.hour.specs.First.{when, ◌else◌}
use Rattle.hour.specs.Rules.{longest_hour, zones_fault, count_fault}
use Rattle.hour.specs.Bytes.{byte, two, in_first, limits_fault, head_fault, size_said}
use Rattle.hour.specs.Promises.{FrontTells}
use Rattle.hour.specs.declared.refusals.Refusal.{Refusal}
use Rattle.hour.specs.declared.refusals.Refusal.TheVariants.{Length}
use Rattle.hour.specs.declared.refusals.Sort.{Sort}
use Rattle.hour.specs.declared.refusals.Sort.TheVariants as sorts
use Rattle.hour.proofs.First.{else_none}
use Rattle.hour.proofs.Heads.{limited_head}

module _ (front rest : List ℕ) (long : 7 ≤ length front) where
  byte_front : (i : ℕ) → i < 7 → byte (front ++ rest) i ≡ byte front i
  byte_front i within = get_or_append_left front rest 0 i (omega arith)

  two_front : (i : ℕ) → i < 6 → two (front ++ rest) i ≡ two front i
  two_front i within = ap₂ (λ (a b : ℕ). a + 256 * b) (byte_front i (omega arith)) (byte_front (i + 1) (omega arith))

  came_front : (n : ℕ) → n ≤ 7 → leb n (length (front ++ rest)) ≡ leb n (length front)
  came_front n within =
      le-leb n (length (front ++ rest)) (omega (arith, length-append front rest))
      ∙ sym (le-leb n (length front) (omega arith))

  part : (n : ℕ) (f g : Option Refusal) → n ≤ 7 → f ≡ g → in_first n (front ++ rest) f ≡ in_first n front g
  part n f g within same =
      ap₂ (λ (came : Bool) (fault : Option Refusal). cond came fault None) (came_front n within) same

  count_part :
      (sort : Sort) (n : ℕ) → n ≤ 5 →
      in_first (n + 2) (front ++ rest) (count_fault sort (two (front ++ rest) n))
      ≡ in_first (n + 2) front (count_fault sort (two front n))
  count_part sort n within = part (n + 2) _ _ (omega arith) (ap (count_fault sort) (two_front n (omega arith)))

  limits_front : limits_fault (front ++ rest) ≡ limits_fault front
  limits_front =
      ap₂ ◌else◌ (part 1 _ _ (omega arith) (ap zones_fault (byte_front 0 (omega arith))))
      (ap₂ ◌else◌ (count_part sorts.Buy 1 (omega arith))
      (ap₂ ◌else◌ (count_part sorts.Sell 3 (omega arith)) (count_part sorts.Line 5 (omega arith))))

  whole_long : 7 ≤ length (front ++ rest)
  whole_long = omega (arith, length-append front rest)

  -- the head says of no hour within the limits that it is so long
  overlong :
      limits_fault front ≡ None → longest_hour < length (front ++ rest) →
      head_fault (front ++ rest) ≡ Some (Length (length (front ++ rest)))
  overlong none longer =
      let bs = front ++ rest in
      let none_whole : limits_fault bs ≡ None = limits_front ∙ none in
      let limited = limited_head bs whole_long none_whole in
      let shorter : size_said bs < length bs = omega (arith, limited.buys, limited.sells, limited.lines, longer) in
      let other : eqb (length bs) (size_said bs) ≡ false = ne_eqb _ _ (λ (same : length bs ≡ size_said bs). absurd (omega arith)) in
      else_none _ _ none_whole
      ∙ ap (λ (wrong : Bool). when wrong (Length (length bs))) (not_from_false _ other)

pub front_tells : FrontTells
front_tells front rest long = (
  λ r fault.
      let limits : limits_fault (front ++ rest) ≡ Some r = limits_front front rest long ∙ fault in
      else_whole _ _ r (else_whole _ _ r limits),
  λ none longer. else_whole _ _ _ (overlong front rest long none longer),
)
  where
    else_whole : (o p : Option Refusal) (r : Refusal) → o ≡ Some r → (o else p) ≡ Some r
    else_whole o p r some = ap (λ (q : Option Refusal). q else p) some
