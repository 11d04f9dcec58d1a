-- What the library's sum of a mapped range is. Assumes nothing.
use Rattle.std.proofs.Common.{◌≡◌, ℕ, zero, suc, ◌+◌, ◌*◌, ◌<◌, ◌≤◌, List, min, sum, map, refl, ap, ◌∙◌, mul-add, arith}
use Rattle.std.proofs.iter.Yields.{nat_range_steps}
use Rattle.std.proofs.lemmas.Iterator.{YieldsList, YieldsList-from_range, YieldsList-from_map, maps}
use Rattle.std.proofs.lemmas.Iterator.Consumers.{YieldsList-at, sum_from_yields_List, fits_from_yields_list}
use Rattle.std.proofs.lemmas.List.FromFn.{sum_by-map-range_with_len_more}
use Rattle.std.specs.Fn.{Called}
use Rattle.std.specs.Iterator.{Drains}
use Rattle.std.specs.Iterator.Adapters.{map_source, map_callee}
use Rattle.std.specs.Iterator.Runs.{EachRunFrom}
use Rattle.std.specs.List.{fold, range_with_len}
use Rattle.std.specs.declared.iter.Map.{Map}
use Rattle.std.specs.declared.ops.Range.{Range}
use denote.Param.Members.{Mut}
use Rattle.hour.specs.Total.{total}

total_is : (n : ℕ) (h : ℕ → ℕ) → sum (map h (range_with_len 0 n)) ≡ total n h
total_is zero h = refl
total_is (suc n) h =
    let more : suc n ≡ n + 1 = omega arith in
    ap (λ (k : ℕ). sum (map h (range_with_len 0 k))) more
    ∙ sum_by-map-range_with_len_more (λ (x : ℕ). x) h 0 n n (omega arith)
    ∙ ap (λ (t : ℕ). t + h n) (total_is n h)

total_limited : (n most : ℕ) (h : ℕ → ℕ) → total n (λ k. min (h k) most) ≤ most * n
total_limited zero most h = omega arith
total_limited (suc n) most h = omega (arith, total_limited n most h, mul-add most n 1)

-- a closure that answers h k for each k below n, and never more than `most`
module _
    {F : Type 0} {g : Mut F (ℕ × Unit {0}) ℕ} {s : Map (Range ℕ) F} {f : F} (n most : ℕ) (h : ℕ → ℕ)
    (source : map_source s ≡ record { start = 0; end = n }) (callee : map_callee s ≡ f)
    (calls : (x r : ℕ) (q : F) → Called g f (x, tt) r q → (q ≡ f) × ((r ≡ h x) × (r ≤ most)))
  where
    yields : YieldsList (maps nat_range_steps g) (λ x. x) s (map h (range_with_len 0 n))
    yields =
        YieldsList-from_map g h (YieldsList-at source (YieldsList-from_range 0 n n refl (omega arith))) callee
        (λ x r q call. let is = calls x r q call in (is.0, is.1.0))

    yields_few : YieldsList (maps nat_range_steps g) (λ x. x) s (map (λ k. min (h k) most) (range_with_len 0 n))
    yields_few =
        YieldsList-from_map g (λ k. min (h k) most) (YieldsList-at source (YieldsList-from_range 0 n n refl (omega arith))) callee
        (λ x r q call. let is = calls x r q call in (is.0, omega (arith, is.1.0, is.1.1)))

    few : sum (map (λ k. min (h k) most) (range_with_len 0 n)) ≤ most * n
    few = omega (arith, total_is n (λ k. min (h k) most), total_limited n most h)

    -- the sum may be taken
    pub sum_fits :
        (top : ℕ) → most * n < top → EachRunFrom (maps nat_range_steps g) s (λ p. fold (λ a x. a + x) 0 p.items < top)
    sum_fits top below = fits_from_yields_list s top yields_few (omega (arith, few))

    -- what it is, and how large
    pub sum_both :
        (r : ℕ) → ((xs : List ℕ) × (Unit {0} → Drains (maps nat_range_steps g) s xs) × (r ≡ fold (λ a x. a + x) 0 xs)) →
        (r ≡ total n h) × (r ≤ most * n)
    sum_both r ran =
        (sum_from_yields_List s r ran yields ∙ total_is n h, omega (arith, sum_from_yields_List s r ran yields_few, few))
