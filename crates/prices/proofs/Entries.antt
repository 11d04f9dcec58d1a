-- What is left in slices that may be longer than needed. Assumes nothing.
use Rattle.std.proofs.Common.{◌≡◌, ℕ, ◌-◌, ◌≤◌, List, ◌++◌, length, take, drop, replicate, sym, ap, ◌∙◌, arith, rules}
use borrow.Rule.Slice.PartMut.{put_mid}
use Rattle.std.proofs.lemmas.List.{length-take-le, length-replicate, take_all, take-append-le}
use Rattle.std.proofs.lemmas.Slice.{overwrites}
use Rattle.hour.specs.Market.{Market}
use Rattle.network.specs.Tables.{outcome_in}
use Rattle.prices.specs.Found.{Found, result_in, prices_in}

pub front_long : {A : Type 0} (n : ℕ) (xs : List A) → n ≤ length xs → length (take (n - 0) xs) ≡ n
front_long n xs fits = search (rules, length-take-le)

-- as many numbers as stand in front
pub take_front : (n : ℕ) (xs ys : List ℕ) → length xs ≡ n → take n (xs ++ ys) ≡ xs
take_front n xs ys long = take-append-le n xs ys (omega arith) ∙ take_all n xs (omega arith)

-- what was found in the fronts of slices is found in the slices
pub found_front :
    (m : Market) (n : ℕ) (b s f p bs ss fs ps : List ℕ) → length b ≡ length m.buys → length s ≡ length m.sells →
    length f ≡ length m.lines → length p ≡ m.zones → Found m n (outcome_in b s f) p →
    Found m n (result_in m (b ++ bs) (s ++ ss) (f ++ fs)) (prices_in m (p ++ ps))
found_front m n b s f p bs ss fs ps buys sells lines zones found =
    rw (take_front _ b bs buys, take_front _ s ss sells, take_front _ f fs lines, take_front _ p ps zones) found

-- what is kept past one count is kept past the same count by another name
pub past_same : (k n : ℕ) (xs ys : List ℕ) → k ≡ n → drop k xs ≡ drop k ys → drop n xs ≡ drop n ys
past_same k n xs ys same kept = rw (sym same) kept

-- a front of n numbers, also called k, that comes back at zeros
pub wiped_front :
    (k n : ℕ) (xs ys : List ℕ) → k ≡ n → n ≤ length xs → ys ≡ replicate (length (take (n - 0) xs)) 0 →
    put_mid 0 (n - 0) xs ys ≡ replicate k 0 ++ drop k xs
wiped_front k n xs ys same fits zeros =
    let whole : ys ≡ replicate n 0 = zeros ∙ ap (λ (j : ℕ). replicate j 0) (front_long n xs fits) in
    let long = ap length zeros ∙ length-replicate (length (take (n - 0) xs)) 0 in
    rw (same, whole) (search (rules, overwrites))
