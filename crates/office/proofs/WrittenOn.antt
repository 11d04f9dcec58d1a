-- Writing on, write by write. Assumes nothing.
use Rattle.std.proofs.Common.{◌≡◌, ℕ, ◌-◌, false, List, [], ◌++◌, length, take, drop, Option, refl, sym, ap, ◌∙◌, append_assoc, take-append-drop, arith}
use Rattle.std.proofs.KnownBytes.{Appends-nil, Appends-trans}
use Rattle.std.specs.Io.KnownBytes.{Appends}
use Rattle.std.proofs.lemmas.Bool.{false≢true}
use Rattle.std.proofs.lemmas.List.{take_all, length-drop}
use Rattle.std.proofs.Math.Seq.{take-append_seam}
use Rattle.office.specs.Writing.{Wrote}

-- so far a front of the text was written, and the rest is left
pub record Sofar (old new : Option (List ℕ)) (text rest : List ℕ) : Type 0 where
  pub front : List ℕ
  pub put : Appends old new front
  pub whole : text ≡ front ++ rest

pub nothing_yet : (old : Option (List ℕ)) (text : List ℕ) → Sofar old old text text
nothing_yet old text = record { front = []; put = Appends-nil old; whole = refl }

-- what a slice of the text from n on holds
pub behind : (n : ℕ) (xs : List ℕ) → take (length xs - n) (drop n xs) ≡ drop n xs
behind n xs = take_all _ _ (omega (arith, length-drop n xs))

pub one_more :
    (old mid new : Option (List ℕ)) (text rest rest' : List ℕ) (n : ℕ) → Sofar old mid text rest → Appends mid new (take n rest) →
    rest' ≡ drop n rest → Sofar old new text rest'
one_more old mid new text rest rest' n sofar step is =
    record {
      front = sofar.front ++ take n rest;
      put = Appends-trans old mid new sofar.front (take n rest) sofar.put step;
      whole =
          sofar.whole ∙ ap (λ (xs : List ℕ). sofar.front ++ xs) (sym (take-append-drop n rest))
          ∙ sym (append_assoc sofar.front (take n rest) (drop n rest))
          ∙ ap (λ (xs : List ℕ). (sofar.front ++ take n rest) ++ xs) (sym is);
    }

pub wrote_front : (old new : Option (List ℕ)) (text rest : List ℕ) → Sofar old new text rest → Wrote old new text false
wrote_front old new text rest sofar =
    record {
      front = sofar.front;
      put = sofar.put;
      of_text = ap (take (length sofar.front)) sofar.whole ∙ take-append_seam sofar.front rest;
      all = λ never. absurd (false≢true never);
    }
