-- A word at the front of a text. Assumes nothing.
use Rattle.std.proofs.Common.{◌≡◌, ℕ, Bool, true, false, cond, eqb, List, [], ◌∷◌, ◌++◌, Some, None, Option, sym, refl, ap, ◌∙◌, Bor, eq-eqb, eqb-true, MatchOption}
use Rattle.checker.specs.Reading.{rest_seen, after}

pub after_append : (w rest : List ℕ) → after w (w ++ rest) ≡ Some rest
after_append [] rest = refl
after_append (b ∷ w) rest = rw (eq-eqb b b refl) (after_append w rest)

pub after_back : (w bs rest : List ℕ) → after w bs ≡ Some rest → bs ≡ w ++ rest
after_back [] bs rest is = let same : bs ≡ rest = cc in same
after_back (b ∷ w) [] rest is = absurd (cc)
after_back (b ∷ w) (c ∷ bs) rest is = go (after_back w bs rest) (eqb b c) refl is
  where
    go :
        (after w bs ≡ Some rest → bs ≡ w ++ rest) → (t : Bool) → eqb b c ≡ t → cond t (after w bs) None ≡ Some rest →
        c ∷ bs ≡ (b ∷ w) ++ rest
    go ih true same is = let tail = ih is in let head = eqb-true b c same in cc
    go ih false other is = absurd (cc)

pub after_none : (w bs : List ℕ) → ((rest : List ℕ) → bs ≡ w ++ rest → ⊥) → after w bs ≡ None
after_none w bs never = go (after w bs) refl
  where
    go : (o : Option (List ℕ)) → after w bs ≡ o → after w bs ≡ None
    go None is = is
    go (Some rest) is = absurd (never rest (after_back w bs rest is))

pub after_from_strip :
    (bs w : List ℕ) (r : Option (Bor (List ℕ))) →
    MatchOption r ((rest : List ℕ) → bs ≡ w ++ rest → ⊥) (λ rest. bs ≡ w ++ rest.now) → rest_seen r ≡ after w bs
after_from_strip bs w None never = sym (after_none w bs never)
after_from_strip bs w (Some rest) is = sym (ap (after w) is ∙ after_append w rest.now)
