-- A text that is longer than any in the form is read as its front is. Assumes nothing.
--
-- Idea: each reader takes at most so many bytes. Of a front that has more, it reads the same as of the whole text, and hands on what
-- is left of the front, with the same text behind it. So the first row that is not in the form is the same for both, and there is
-- one, since a text in the form leaves nothing behind its last row.
use Rattle.std.proofs.Common.{◌≡◌, ℕ, zero, suc, ◌+◌, ◌-◌, ◌*◌, ◌^◌, ◌<◌, ◌≤◌, Bool, true, false, cond, eqb, leb, List, [], ◌∷◌, ◌++◌, length, ℤ, pos, neg_ℤ, Some, None, Ok, Err, codes, Option, Result, sym, refl, ◌∙◌, inl, inr, arith, leb-true}
use Rattle.std.proofs.Math.Nat.{pow-succ', mul-le-mul_right}
use Rattle.std.proofs.lemmas.Bool.{and_parts, cases_lt, eqb-false}
use Rattle.std.specs.Char.{is_ascii_digit}
use Rattle.hour.specs.Bytes.{market_of, refusal_of}
use Rattle.hour.specs.Market.{Market}
use Rattle.hour.specs.Text.{zero_price}
use Rattle.hour.specs.declared.refusals.Refusal.{Refusal}
use Rattle.hour.specs.declared.refusals.Sort.{Sort}
use Rattle.hour.specs.declared.refusals.Sort.TheVariants as sorts
use Rattle.hour.proofs.Kept.{kept}
use Rattle.checker.specs.Reading.{Read, ◌then◌, after, digits, number, largest, widest, below, above, behind, whole, index}
use Rattle.checker.specs.Reading.{digit, hundredths, owed_price, paid_price, price}
use Rattle.checker.specs.Form.{Phrasing, phrasing, worth_at, zone_at, row_at, item_at, ◌ok_then◌, steps, Prices, priced}
use Rattle.checker.specs.Form.{one_price, zone_step, zones_at, Table, table, one_more, item_step, items_at, Saying}
use Rattle.checker.specs.Form.{worth_line, ended, first_line, last_line, text_at, longest_row, longest_text}
use Rattle.checker.specs.Follows.{counts_in}
use Rattle.checker.specs.Promises.{WithinLimits, NoLonger, FrontRead, FrontReported}
use Rattle.checker.specs.Telling.{ReportedAs}
use Rattle.checker.specs.declared.form.Counts.{Counts}
use Rattle.checker.specs.declared.reports.Report.{Report}

-- values with a text that is left: that text, and the value with more text behind it
record Carrier (A : Type 0) : Type 0 where
  pub left : A → List ℕ
  pub longer : A → A

-- what is read of a front and of the whole text, where more than b bytes of the front are left
data Alike {A : Type 0} (c : Carrier A) (b : ℕ) : Option A → Option A → Type 0 where
  nothing : Alike c b None None
  something : (x : A) → b < length (c.left x) → Alike c b (Some x) (Some (c.longer x))

-- the same of rows
data AlikeRows {A : Type 0} (c : Carrier A) (b : ℕ) : Result A ℕ → Result A ℕ → Type 0 where
  stopped : (line : ℕ) → AlikeRows c b (Err line) (Err line)
  went_on : (x : A) → b < length (c.left x) → AlikeRows c b (Ok x) (Ok (c.longer x))

-- one step after the other: the second reads what the first has left of the front
then_alike :
    {A B : Type 0} {c : Carrier A} {d : Carrier B} {b : ℕ} {o p : Option A} (e : ℕ) (g : A → Option B) → Alike c b o p →
    ((x : A) → b < length (c.left x) → Alike d e (g x) (g (c.longer x))) → Alike d e (o then g) (p then g)
then_alike e g nothing next = nothing
then_alike e g (something x more) next = next x more

cond_alike :
    {A : Type 0} {c : Carrier A} {b : ℕ} {o p q r : Option A} (t : Bool) → Alike c b o p → Alike c b q r →
    Alike c b (cond t o q) (cond t p r)
cond_alike true on_true on_false = on_true
cond_alike false on_true on_false = on_false

ok_then_alike :
    {A B : Type 0} {c : Carrier A} {d : Carrier B} {b : ℕ} {o p : Result A ℕ} (e : ℕ) (g h : A → Result B ℕ) →
    AlikeRows c b o p → ((x : A) → b < length (c.left x) → AlikeRows d e (g x) (h (c.longer x))) →
    AlikeRows d e (o ok_then g) (p ok_then h)
ok_then_alike e g h (stopped line) next = stopped line
ok_then_alike e g h (went_on x more) next = next x more

-- rows that have at most w bytes each
steps_alike :
    {A : Type 0} (c : Carrier A) (f : ℕ → A → Result A ℕ) (w : ℕ) →
    ((k e : ℕ) (x : A) → w + e < length (c.left x) → AlikeRows c e (f k x) (f k (c.longer x))) → (n b : ℕ) (t : A) →
    w * n + b < length (c.left t) → AlikeRows c b (steps f t n) (steps f (c.longer t) n)
steps_alike c f w step zero b t long = went_on t (omega arith)
steps_alike c f w step (suc n) b t long =
    ok_then_alike b (f n) (f n) (steps_alike c f w step n (w + b) t (omega arith)) (λ x more. step n b x more)

-- a number that can take at most k digits more within a limit can take one less once it has one of them
record Fewer (limit m k : ℕ) : Type 0 where
  pub digits : ℕ
  pub one_less : suc digits ≡ k
  pub small : limit < m * 10 ^ suc digits

fewer : (limit n m k : ℕ) → limit < n * 10 ^ suc k → n * 10 ≤ m → m ≤ limit → Fewer limit m k
fewer limit n m zero small more within = absurd (omega arith)
fewer limit n m (suc k) small more within =
    let wide : 10 ^ suc (suc k) ≡ 10 * 10 ^ suc k = pow-succ' 10 (suc k) in
    let below : limit < n * (10 * 10 ^ suc k) = rw wide at small in
    record { digits = k; one_less = refl; small = omega (arith, mul-le-mul_right (10 ^ suc k) more) }

first_digit : (x : ℕ) → is_ascii_digit x ≡ true → eqb x 48 ≡ false → 1 ≤ x - 48
first_digit x is other =
    omega (arith, leb-true 48 x (and_parts (leb 48 x) (leb x 57) is).0, eqb-false x 48 other)

-- what is read of a front, and of the front with more text behind it
module _ (more : List ℕ) where
  abbrev bare : Carrier (List ℕ)
  bare = record { left = λ bs. bs; longer = λ bs. bs ++ more }

  abbrev valued : (A : Type 0) → Carrier (A × List ℕ)
  valued A = record { left = λ r. r.1; longer = λ r. (r.0, r.1 ++ more) }

  after_alike :
      (w xs : List ℕ) (b : ℕ) → length w + b < length xs → Alike bare b (after w xs) (after w (xs ++ more))
  after_alike [] xs b long = something xs (omega arith)
  after_alike (w ∷ ws) [] b long = absurd (omega arith)
  after_alike (w ∷ ws) (x ∷ xs) b long =
      cond_alike (eqb w x) (after_alike ws xs b (omega arith)) nothing

  digits_alike :
      (limit n : ℕ) (xs : List ℕ) (k b : ℕ) → limit < n * 10 ^ suc k → k + b < length xs →
      Alike (valued ℕ) b (digits limit n xs) (digits limit n (xs ++ more))
  digits_alike limit n [] k b small long = absurd (omega arith)
  digits_alike limit n (x ∷ xs) k b small long =
      let m = n * 10 + (x - 48) in
      cond_alike (is_ascii_digit x)
      (go m (omega arith) (λ j small long. digits_alike limit m xs j b small long) (leb m limit) refl)
      (something (n, x ∷ xs) (omega arith))
    where
      go :
          (m : ℕ) → n * 10 ≤ m →
          ((j : ℕ) → limit < m * 10 ^ suc j → j + b < length xs →
          Alike (valued ℕ) b (digits limit m xs) (digits limit m (xs ++ more))) →
          (t : Bool) → leb m limit ≡ t →
          Alike (valued ℕ) b (cond t (digits limit m xs) None) (cond t (digits limit m (xs ++ more)) None)
      go m grown ih true within =
          let next = fewer limit n m k small grown (leb-true m limit within) in
          ih next.digits next.small (omega (arith, next.one_less))
      go m grown ih false within = nothing

  number_alike :
      (limit k : ℕ) (xs : List ℕ) (b : ℕ) → limit < 10 ^ suc k → suc k + b < length xs →
      Alike (valued ℕ) b (number limit xs) (number limit (xs ++ more))
  number_alike limit k [] b small long = absurd (omega arith)
  number_alike limit k (x ∷ xs) b small long = go (eqb x 48) refl
    where
      some :
          (t : Bool) → is_ascii_digit x ≡ t → eqb x 48 ≡ false →
          Alike (valued ℕ) b (cond t (digits limit (x - 48) xs) None) (cond t (digits limit (x - 48) (xs ++ more)) None)
      some true is other =
          digits_alike limit (x - 48) xs k b
          (omega (arith, mul-le-mul_right (10 ^ suc k) (first_digit x is other))) (omega arith)
      some false is other = nothing

      go :
          (t : Bool) → eqb x 48 ≡ t →
          Alike (valued ℕ) b
          (cond t (Some (0, xs)) (cond (is_ascii_digit x) (digits limit (x - 48) xs) None))
          (cond t (Some (0, xs ++ more)) (cond (is_ascii_digit x) (digits limit (x - 48) (xs ++ more)) None))
      go true is = something (0, xs) (omega arith)
      go false other = some (is_ascii_digit x) refl other

  behind_alike :
      {A : Type 0} {c : Carrier (A × List ℕ)} {b : ℕ} {o p : Option (List ℕ)} {q r : Read A} (e : ℕ) (f : List ℕ → Read A) →
      Alike bare b o p → ((xs : List ℕ) → b < length xs → Alike c e (f xs) (f (xs ++ more))) → Alike c e q r →
      Alike c e (behind o f q) (behind p f r)
  behind_alike e f nothing there absent = absent
  behind_alike e f (something xs long) there absent = there xs long

  -- a number of 64 bits has at most 20 digits, the number behind a sign at most 39
  largest_alike :
      (xs : List ℕ) (b : ℕ) → 20 + b < length xs → Alike (valued ℕ) b (number largest xs) (number largest (xs ++ more))
  largest_alike xs b long = number_alike largest 19 xs b (omega arith) (omega arith)

  widest_alike :
      (xs : List ℕ) (b : ℕ) → 39 + b < length xs → Alike (valued ℕ) b (number widest xs) (number widest (xs ++ more))
  widest_alike xs b long = number_alike widest 38 xs b (omega arith) (omega arith)

  below_alike : (xs : List ℕ) (b : ℕ) → 39 + b < length xs → Alike (valued ℤ) b (below xs) (below (xs ++ more))
  below_alike xs b long =
      then_alike b _ (widest_alike xs b long) (λ p still. cond_alike (eqb p.0 0) nothing (something (neg_ℤ (pos p.0), p.1) still))

  above_alike : (xs : List ℕ) (b : ℕ) → 39 + b < length xs → Alike (valued ℤ) b (above xs) (above (xs ++ more))
  above_alike xs b long = then_alike b _ (widest_alike xs b long) (λ p still. something (pos p.0, p.1) still)

  whole_alike : (xs : List ℕ) (b : ℕ) → 40 + b < length xs → Alike (valued ℤ) b (whole xs) (whole (xs ++ more))
  whole_alike xs b long =
      behind_alike b below (after_alike (codes "-") xs (39 + b) (omega arith)) (λ ys still. below_alike ys b still)
      (above_alike xs b (omega arith))

  index_alike : (k : ℕ) (xs : List ℕ) (b : ℕ) → 20 + b < length xs → Alike bare b (index k xs) (index k (xs ++ more))
  index_alike k xs b long =
      then_alike b _ (largest_alike xs b long) (λ p still. cond_alike (eqb p.0 k) (something p.1 still) nothing)

  digit_alike : (xs : List ℕ) (b : ℕ) → 1 + b < length xs → Alike (valued ℕ) b (digit xs) (digit (xs ++ more))
  digit_alike [] b long = absurd (omega arith)
  digit_alike (x ∷ xs) b long = cond_alike (is_ascii_digit x) (something (x - 48, xs) (omega arith)) nothing

  hundredths_alike :
      (xs : List ℕ) (b : ℕ) → 23 + b < length xs → Alike (valued ℕ) b (hundredths xs) (hundredths (xs ++ more))
  hundredths_alike xs b long =
      then_alike b _ (largest_alike xs (3 + b) (omega arith)) (λ units l₁.
      then_alike b _ (after_alike (codes ".") units.1 (2 + b) (omega arith)) (λ point l₂.
      then_alike b _ (digit_alike point (1 + b) (omega arith)) (λ tens l₃.
      then_alike b _ (digit_alike tens.1 b (omega arith)) (λ ones l₄.
      something (units.0 * 100 + tens.0 * 10 + ones.0, ones.1) l₄))))

  owed_alike : (xs : List ℕ) (b : ℕ) → 23 + b < length xs → Alike (valued ℕ) b (owed_price xs) (owed_price (xs ++ more))
  owed_alike xs b long =
      then_alike b _ (hundredths_alike xs b long) (λ p still.
      cond_alike (eqb p.0 0) nothing
      (cond_alike (leb p.0 zero_price) (something (zero_price - p.0, p.1) still) nothing))

  paid_alike : (xs : List ℕ) (b : ℕ) → 23 + b < length xs → Alike (valued ℕ) b (paid_price xs) (paid_price (xs ++ more))
  paid_alike xs b long =
      then_alike b _ (hundredths_alike xs b long) (λ p still.
      cond_alike (leb (zero_price + p.0) largest) (something (zero_price + p.0, p.1) still) nothing)

  price_alike : (xs : List ℕ) (b : ℕ) → 24 + b < length xs → Alike (valued ℕ) b (price xs) (price (xs ++ more))
  price_alike xs b long =
      behind_alike b owed_price (after_alike (codes "-") xs (23 + b) (omega arith)) (λ ys still. owed_alike ys b still)
      (paid_alike xs b (omega arith))

  worth_alike : (xs : List ℕ) (b : ℕ) → 75 + b < length xs → Alike (valued (ℤ × ℕ)) b (worth_at xs) (worth_at (xs ++ more))
  worth_alike xs b long =
      then_alike b _ (after_alike (codes "worth ") xs (69 + b) (omega arith)) (λ xs₁ l₁.
      then_alike b _ (whole_alike xs₁ (29 + b) (omega arith)) (λ w l₂.
      then_alike b _ (after_alike (codes " pushes ") w.1 (21 + b) (omega arith)) (λ xs₂ l₃.
      then_alike b _ (largest_alike xs₂ (1 + b) (omega arith)) (λ n l₄.
      then_alike b _ (after_alike (codes "\n") n.1 b (omega arith)) (λ xs₃ l₅.
      something ((w.0, n.0), xs₃) l₅)))))

  zone_alike : (z : ℕ) (xs : List ℕ) (b : ℕ) → 57 + b < length xs → Alike (valued ℕ) b (zone_at z xs) (zone_at z (xs ++ more))
  zone_alike z xs b long =
      then_alike b _ (after_alike (codes "zone ") xs (52 + b) (omega arith)) (λ xs₁ l₁.
      then_alike b _ (index_alike z xs₁ (32 + b) (omega arith)) (λ xs₂ l₂.
      then_alike b _ (after_alike (codes " price ") xs₂ (25 + b) (omega arith)) (λ xs₃ l₃.
      then_alike b _ (price_alike xs₃ (1 + b) (omega arith)) (λ p l₄.
      then_alike b _ (after_alike (codes "\n") p.1 b (omega arith)) (λ xs₄ l₅.
      something (p.0, xs₄) l₅)))))

  row_alike :
      (w : Phrasing) (k : ℕ) (xs : List ℕ) (b : ℕ) → length w.sort + length w.has + length w.pays + 81 + b < length xs →
      Alike (valued (ℕ × ℤ)) b (row_at w k xs) (row_at w k (xs ++ more))
  row_alike w k xs b long =
      then_alike b _ (after_alike w.sort xs (length w.has + length w.pays + 81 + b) (omega arith)) (λ xs₁ l₁.
      then_alike b _ (index_alike k xs₁ (length w.has + length w.pays + 61 + b) (omega arith)) (λ xs₂ l₂.
      then_alike b _ (after_alike w.has xs₂ (length w.pays + 61 + b) (omega arith)) (λ xs₃ l₃.
      then_alike b _ (largest_alike xs₃ (length w.pays + 41 + b) (omega arith)) (λ x l₄.
      then_alike b _ (after_alike w.pays x.1 (41 + b) (omega arith)) (λ xs₄ l₅.
      then_alike b _ (whole_alike xs₄ (1 + b) (omega arith)) (λ d l₆.
      then_alike b _ (after_alike (codes "\n") d.1 b (omega arith)) (λ xs₅ l₇.
      something ((x.0, d.0), xs₅) l₇)))))))

  item_alike :
      (s : Sort) (k : ℕ) (xs : List ℕ) (b : ℕ) → longest_row + b < length xs →
      Alike (valued (ℕ × ℤ)) b (item_at s k xs) (item_at s k (xs ++ more))
  item_alike sorts.Buy k xs b long = row_alike (phrasing sorts.Buy) k xs b (omega arith)
  item_alike sorts.Sell k xs b long = row_alike (phrasing sorts.Sell) k xs b (omega arith)
  item_alike sorts.Line k xs b long = row_alike (phrasing sorts.Line) k xs b (omega arith)

  abbrev of_zones : Carrier Prices
  of_zones = record { left = λ t. t.rest; longer = λ t. priced t.prices (t.rest ++ more) }

  abbrev of_sort : Carrier Table
  of_sort = record { left = λ t. t.rest; longer = λ t. table t.amounts t.moneys (t.rest ++ more) }

  one_price_alike :
      (line : ℕ) (t : Prices) {b : ℕ} {o p : Read ℕ} → Alike (valued ℕ) b o p →
      AlikeRows of_zones b (one_price line t o) (one_price line (of_zones.longer t) p)
  one_price_alike line t nothing = stopped line
  one_price_alike line t (something r still) = went_on (priced (t.prices ++ (r.0 ∷ [])) r.1) still

  one_more_alike :
      (line : ℕ) (t : Table) {b : ℕ} {o p : Read (ℕ × ℤ)} → Alike (valued (ℕ × ℤ)) b o p →
      AlikeRows of_sort b (one_more line t o) (one_more line (of_sort.longer t) p)
  one_more_alike line t nothing = stopped line
  one_more_alike line t (something r still) =
      went_on (table (t.amounts ++ (r.0.0 ∷ [])) (t.moneys ++ (r.0.1 ∷ [])) r.1) still

  zones_alike :
      (line n : ℕ) (xs : List ℕ) (b : ℕ) → longest_row * n + b < length xs →
      AlikeRows of_zones b (zones_at line n xs) (zones_at line n (xs ++ more))
  zones_alike line n xs b long =
      steps_alike of_zones (zone_step line) longest_row
      (λ z e t still. one_price_alike (line + z) t (zone_alike z t.rest e (omega arith))) n b (priced [] xs) long

  items_alike :
      (s : Sort) (line n : ℕ) (xs : List ℕ) (b : ℕ) → longest_row * n + b < length xs →
      AlikeRows of_sort b (items_at s line n xs) (items_at s line n (xs ++ more))
  items_alike s line n xs b long =
      steps_alike of_sort (item_step s line) longest_row
      (λ k e t still. one_more_alike (line + k) t (item_alike s k t.rest e still)) n b (table [] [] xs) long

  worth_line_alike :
      {b : ℕ} {o p : Read (ℤ × ℕ)} → Alike (valued (ℤ × ℕ)) b o p →
      AlikeRows (valued (ℤ × ℕ)) b (worth_line o) (worth_line p)
  worth_line_alike nothing = stopped 1
  worth_line_alike (something w still) = went_on w still

-- values that leave nothing: of a front that is too long there are none
abbrev leaves_none : {A : Type 0} → Carrier A
leaves_none = record { left = λ x. []; longer = λ x. x }

ended_alike :
    {A : Type 0} (more xs : List ℕ) (line : ℕ) (x y : A) → 0 < length xs →
    AlikeRows leaves_none 0 (ended line xs x) (ended line (xs ++ more) y)
ended_alike more [] line x y long = absurd (omega arith)
ended_alike more (b ∷ xs) line x y long = stopped line

-- both stop at the same line
record Stops {A : Type 0} (o p : Result A ℕ) : Type 0 where
  pub line : ℕ
  pub front : o ≡ Err line
  pub whole : p ≡ Err line

stops : {A : Type 0} {o p : Result A ℕ} → AlikeRows leaves_none 0 o p → Stops o p
stops (stopped line) = record { line = line; front = refl; whole = refl }
stops (went_on x long) = absurd (omega arith)

text_stops :
    (n : Counts) (front more : List ℕ) → WithinLimits n → longest_text < length front →
    Stops (text_at n front) (text_at n (front ++ more))
text_stops n front more within long =
    let behind_sells = longest_row * n.lines in
    let behind_buys = longest_row * n.sells + behind_sells in
    let behind_zones = longest_row * n.buys + behind_buys in
    stops
    (ok_then_alike 0 _ _
    (worth_line_alike more (worth_alike more front (longest_row * n.zones + behind_zones) (omega arith)))
    (λ w l₁.
    ok_then_alike 0 _ _ (zones_alike more 2 n.zones w.1 behind_zones l₁) (λ z l₂.
    ok_then_alike 0 _ _ (items_alike more sorts.Buy (first_line n sorts.Buy) n.buys z.rest behind_buys l₂) (λ b l₃.
    ok_then_alike 0 _ _ (items_alike more sorts.Sell (first_line n sorts.Sell) n.sells b.rest behind_sells l₃) (λ s l₄.
    ok_then_alike 0 _ _ (items_alike more sorts.Line (first_line n sorts.Line) n.lines s.rest 0 (omega arith)) (λ l l₅.
    ended_alike more l.rest (last_line n) _ _ l₅))))))

pub no_longer : NoLonger
no_longer n bs t within is =
    elim (cases_lt longest_text (length bs)) [
      | inl long ↦ let stop = text_stops n bs [] within long in let front = stop.front in absurd (cc)
      | inr rest ↦ omega arith
    ]

pub front_read : FrontRead
front_read n front more within long =
    let stop = text_stops n front more within long in
    stop.whole ∙ sym stop.front

limits_kept : (bs : List ℕ) → refusal_of bs ≡ None → WithinLimits (counts_in (market_of bs))
limits_kept bs none =
    let rules = kept bs none in
    record { zones = rules.zones; buys = rules.buys; sells = rules.sells; lines = rules.lines }

reported_same :
    (refusal : Option Refusal) (m : Market) (a b : Result Saying ℕ) (r : Report) → (refusal ≡ None → a ≡ b) →
    ReportedAs refusal m a r → ReportedAs refusal m b r
reported_same (Some refusal) m a b r same is = is
reported_same None m a b r same is = rw (← same refl) is

pub front_reported : FrontReported
front_reported bs front more r long =
    let m = market_of bs in
    let n = counts_in m in
    let same : refusal_of bs ≡ None → text_at n (front ++ more) ≡ text_at n front =
    λ none. front_read n front more (limits_kept bs none) long
    in (
      reported_same (refusal_of bs) m (text_at n (front ++ more)) (text_at n front) r same,
      reported_same (refusal_of bs) m (text_at n front) (text_at n (front ++ more)) r (λ none. sym (same none)),
    )
