-- What is left in a slice of the right length, of an hour that keeps the rules: its bytes. Assumes nothing.
use Rattle.std.proofs.Common.{◌≡◌, ℕ, ◌≤◌, List, ◌++◌, length, take, sym, Some, None, Ok, Err, Option, Result, ◌∙◌, ap, arith}
use Rattle.std.proofs.lemmas.Bool.{ne_eqb, le-ltb, or_from}
use Rattle.std.proofs.lemmas.List.{drop_all, append-nil}
use Rattle.std.proofs.Math.Seq.{take-append_seam}
use Rattle.hour.specs.Books.{size_of, write_fault, written, left_by}
use Rattle.hour.specs.Bytes.{bytes_of}
use Rattle.hour.specs.Market.{Market}
use Rattle.hour.specs.Rules.{shape_fault, KeepsRules}
use Rattle.hour.specs.declared.refusals.Refusal.{Refusal}
use Rattle.hour.proofs.First.{else_none, when_false}
use Rattle.hour.proofs.Kept.{items_free}
use Rattle.hour.proofs.Pasted.{length_bytes_of}

shape_free : (m : Market) → KeepsRules m → shape_fault m ≡ None
shape_free m kept =
    let some : m.zones ≡ 0 → ⊥ = λ (e : m.zones ≡ 0). absurd (omega (arith, kept.some_zone)) in
    else_none _ _ (when_false _ _ (or_from _ _ (ne_eqb m.zones 0 some) (le-ltb _ _ kept.zones)))
    ∙ (else_none _ _ (when_false _ _ (le-ltb _ _ kept.buys))
    ∙ (else_none _ _ (when_false _ _ (le-ltb _ _ kept.sells))
    ∙ when_false _ _ (le-ltb _ _ kept.lines)))

no_fault : (m : Market) (n : ℕ) → KeepsRules m → size_of m ≤ n → write_fault m n ≡ None
no_fault m n kept room =
    else_none _ _ (shape_free m kept)
    ∙ (else_none _ _ (when_false _ _ (le-ltb _ _ room))
    ∙ items_free m kept)

written_whole : (m : Market) (n : ℕ) → KeepsRules m → size_of m ≤ n → written m n ≡ Ok (size_of m)
written_whole m n kept room =
    ap (λ (fault : Option Refusal). elim fault [ Some refusal ↦ Err refusal | None ↦ Ok (size_of m) ]) (no_fault m n kept room)

whole :
    (m : Market) (answer : Result ℕ Refusal) (old new : List ℕ) → KeepsRules m → length old ≡ size_of m →
    answer ≡ written m (length old) → new ≡ left_by m answer old → new ≡ bytes_of m
whole m answer old new kept size answered left =
    left
    ∙ (ap (λ r. left_by m r old) (answered ∙ written_whole m (length old) kept (omega (arith, size)))
    ∙ (ap (λ rest. bytes_of m ++ rest) (drop_all (size_of m) old (omega (arith, size)))
    ∙ append-nil (bytes_of m)))

-- the same of a vector that was lent whole
pub taken_whole :
    (m : Market) (answer : Result ℕ Refusal) (n : ℕ) (old new rest : List ℕ) → KeepsRules m → n ≡ size_of m → length old ≡ n →
    answer ≡ written m (length old) → new ≡ left_by m answer old → take n (new ++ rest) ≡ bytes_of m
taken_whole m answer n old new rest kept size lent answered left =
    let same : new ≡ bytes_of m = whole m answer old new kept (lent ∙ size) answered left in
    let long : n ≡ length new = size ∙ (length_bytes_of m ∙ ap length (sym same)) in
    ap (λ k. take k (new ++ rest)) long ∙ (take-append_seam new rest ∙ same)
