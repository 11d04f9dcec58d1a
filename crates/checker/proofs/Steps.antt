-- Rows that are read one after the other. Assumes nothing.
use Rattle.std.proofs.Common.{◌≡◌, ℕ, zero, suc, ◌+◌, ◌<◌, ◌≤◌, leb, List, [], ◌∷◌, ◌++◌, length, ℤ, Some, None, Ok, Err, Result, refl, ap, ◌∙◌, inl, inr, add-one, arith, leb-false, leb-true}
use Rattle.std.proofs.lemmas.Bool.{cases_Bool}
use Rattle.checker.specs.Reading.{Read}
use Rattle.hour.specs.declared.refusals.Sort.TheVariants as sorts
use Rattle.checker.specs.Form.{Table, Prices, Saying, table, priced, saying, one_more, one_price, ◌ok_then◌, steps}
use Rattle.checker.specs.Form.{worth_at, zones_at, items_at, first_line, last_line, ended, text_at}
use Rattle.checker.specs.declared.form.Counts.{Counts}

module _ {A : Type 0} (f : ℕ → A → Result A ℕ) (t : A) where
  pub steps_more : (k : ℕ) (u : A) (v : Result A ℕ) → steps f t k ≡ Ok u → f k u ≡ v → steps f t (k + 1) ≡ v
  steps_more k u v before here = rw add-one (ap (λ (r : Result A ℕ). r ok_then f k) before ∙ here)

  -- a step that fails is the last
  pub steps_kept : (k n e : ℕ) → steps f t k ≡ Err e → k ≤ n → steps f t n ≡ Err e
  steps_kept k zero e stopped within = let same : k ≡ 0 = omega arith in rw same at stopped
  steps_kept k (suc n) e stopped within =
      elim (cases_Bool (leb k n)) [
        | inl below ↦ ap (λ (r : Result A ℕ). r ok_then f n) (steps_kept k n e stopped (leb-true k n below))
        | inr above ↦ let same : k ≡ suc n = omega (arith, leb-false k n above) in rw same at stopped
      ]

  pub steps_stop :
      (k n e : ℕ) (u : A) → steps f t k ≡ Ok u → f k u ≡ Err e → k < n → steps f t n ≡ Err e
  steps_stop k n e u before here below = steps_kept (k + 1) n e (steps_more k u (Err e) before here) (omega arith)

-- one row more, or a row that is not in the form
pub one_more_some :
    (line : ℕ) (t : Table) (o : Read (ℕ × ℤ)) (x : ℕ) (d : ℤ) (rest amounts : List ℕ) (moneys : List ℤ) →
    Some ((x, d), rest) ≡ o → amounts ≡ t.amounts ++ (x ∷ []) → moneys ≡ t.moneys ++ (d ∷ []) →
    one_more line t o ≡ Ok (table amounts moneys rest)
one_more_some line t o x d rest amounts moneys is amount money = rw (← is, amount, money)

pub one_more_none : (line : ℕ) (t : Table) (o : Read (ℕ × ℤ)) → None ≡ o → one_more line t o ≡ Err line
one_more_none line t o is = rw (← is)

pub one_price_some :
    (line : ℕ) (t : Prices) (o : Read ℕ) (p : ℕ) (rest prices : List ℕ) →
    Some (p, rest) ≡ o → prices ≡ t.prices ++ (p ∷ []) → one_price line t o ≡ Ok (priced prices rest)
one_price_some line t o p rest prices is price = rw (← is, price)

pub one_price_none : (line : ℕ) (t : Prices) (o : Read ℕ) → None ≡ o → one_price line t o ≡ Err line
one_price_none line t o is = rw (← is)

-- something behind the last row
pub ended_more : {A : Type 0} (line : ℕ) (rest : List ℕ) (x : A) → (length rest ≡ 0 → ⊥) → ended line rest x ≡ Err line
ended_more line [] x more = absurd (more refl)
ended_more line (b ∷ rest) x more = refl

-- a text is read from what its parts say
module _ (n : Counts) (bs : List ℕ) (w : (ℤ × ℕ) × List ℕ) (z : Prices) (b s l : Table) where
  pub text_read :
      (v : Result Saying ℕ) → Some w ≡ worth_at bs → zones_at 2 n.zones w.1 ≡ Ok z →
      items_at sorts.Buy (first_line n sorts.Buy) n.buys z.rest ≡ Ok b →
      items_at sorts.Sell (first_line n sorts.Sell) n.sells b.rest ≡ Ok s →
      items_at sorts.Line (first_line n sorts.Line) n.lines s.rest ≡ Ok l →
      ended (last_line n) l.rest (saying w.0 z b s l) ≡ v → text_at n bs ≡ v
  text_read v worth zones buys sells lines end = rw (← worth, zones, buys, sells, lines) end
