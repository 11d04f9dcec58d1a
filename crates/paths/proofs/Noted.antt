-- The best bid of each zone, noted bid by bid. Assumes nothing.
use Rattle.std.proofs.Common.{◌≡◌, ℕ, ◌+◌, ◌<◌, Bool, true, false, cond, ◌&&◌, ◌||◌, eqb, ltb, ◌≢◌, List, Some, None, Option, sym, refl, ap, ◌∙◌, ⊎_elim, add-one, arith}
use mathlib.Core.Path.{subst⁻¹}
use Rattle.std.proofs.lemmas.Bool.{cases_eq, lt-ltb, ne_eqb, and_left}
use Rattle.std.proofs.lemmas.Bool.Decides.{nat_tests}
use Rattle.hour.specs.Market.{Market, Outcome, at}
use Rattle.paths.specs.Best.{better, best, numbered}
use Rattle.paths.specs.Bids.{item_no, zone_of, price_of, worth_at, takes, gives, dearer, cheaper}
use Rattle.paths.specs.Search.{Noted, Takers, Givers}
use Rattle.paths.proofs.Zones.{Replaced}

-- the best so far asks for more than a bid, or there is none
abbrev pub lower : ℕ → ℕ → Bool
lower old new = eqb old 0 || ltb new old

-- Idea: the table's test between the old worth and the new one is the test by which the definition lets a bid beat another.
module _
    (m : Market) (beats : ℕ → ℕ → Bool) (wins : ℕ → ℕ → Bool)
    (first_wins : (p : ℕ) → wins 0 (p + 1) ≡ true)
    (better_wins : (n k : ℕ) → wins (worth_at m (Some k)) (price_of m (item_no m n) + 1) ≡ beats n k)
  where
    worth_noted :
        (n p w : ℕ) (b : Bool) (o : Option ℕ) → p ≡ price_of m (item_no m n) → w ≡ worth_at m o →
        cond (b && wins w (p + 1)) (p + 1) w ≡ worth_at m (cond b (better beats n o) o)
    worth_noted n p w false o price is = is
    worth_noted n p w true None price is =
        let won : wins w (p + 1) ≡ true = ap (λ (x : ℕ). wins x (p + 1)) is ∙ first_wins p in
        rw (won, price) (add-one (price_of m (item_no m n)))
    worth_noted n p w true (Some k) price is = rw (test) (go (beats n k))
      where
        test : wins w (p + 1) ≡ beats n k
        test = rw (is, price) (better_wins n k)

        go : (b : Bool) → cond b (p + 1) w ≡ worth_at m (cond b (Some n) (Some k))
        go true = rw price (add-one (price_of m (item_no m n)))
        go false = is

    number_noted :
        (n p w x : ℕ) (b : Bool) (o : Option ℕ) → p ≡ price_of m (item_no m n) → w ≡ worth_at m o → x ≡ numbered o →
        cond (b && wins w (p + 1)) (n + 1) x ≡ numbered (cond b (better beats n o) o)
    number_noted n p w x false o price is no_is = no_is
    number_noted n p w x true None price is no_is =
        let won : wins w (p + 1) ≡ true = ap (λ (y : ℕ). wins y (p + 1)) is ∙ first_wins p in
        rw won (add-one n)
    number_noted n p w x true (Some k) price is no_is = rw (test) (go (beats n k))
      where
        test : wins w (p + 1) ≡ beats n k
        test = rw (is, price) (better_wins n k)

        go : (b : Bool) → cond b (n + 1) x ≡ numbered (cond b (Some n) (Some k))
        go true = add-one n
        go false = no_is

    pub noted_more :
        (ok : ℕ → ℕ → Bool) (n zone p : ℕ) (ws xs ws' xs' : List ℕ) → Noted m ok beats n ws xs →
        p ≡ price_of m (item_no m n) → ((z : ℕ) → z ≢ zone → ok z n ≡ false) →
        Replaced zone (cond (ok zone n && wins (at ws zone) (p + 1)) (p + 1) (at ws zone)) ws ws' →
        Replaced zone (cond (ok zone n && wins (at ws zone) (p + 1)) (n + 1) (at xs zone)) xs xs' →
        Noted m ok beats (n + 1) ws' xs'
    noted_more ok n zone p ws xs ws' xs' sofar price elsewhere worth number =
        record {
          worth = λ z within. ⊎_elim (worth_here z within) (worth_there z within) (cases_eq z zone);
          number = λ z within. ⊎_elim (number_here z within) (number_there z within) (cases_eq z zone);
        }
      where
        skip : (z : ℕ) → z ≢ zone → best n (ok z) beats ≡ best (n + 1) (ok z) beats
        skip z other = rw (add-one n, elsewhere z other)

        more :
            best (n + 1) (ok zone) beats
            ≡ cond (ok zone n) (better beats n (best n (ok zone) beats)) (best n (ok zone) beats)
        more = rw (add-one n)

        Worth : ℕ → Type 0
        Worth z = at ws' z ≡ worth_at m (best (n + 1) (ok z) beats)

        Number : ℕ → Type 0
        Number z = at xs' z ≡ numbered (best (n + 1) (ok z) beats)

        worth_here : (z : ℕ) → z < m.zones → z ≡ zone → Worth z
        worth_here z within same =
            let inside : zone < m.zones = omega arith in
            subst⁻¹ Worth same
            (worth.here
            ∙ (worth_noted n p (at ws zone) (ok zone n) (best n (ok zone) beats) price (sofar.worth zone inside)
            ∙ ap (worth_at m) (sym more)))

        number_here : (z : ℕ) → z < m.zones → z ≡ zone → Number z
        number_here z within same =
            let inside : zone < m.zones = omega arith in
            subst⁻¹ Number same
            (number.here
            ∙ (number_noted n p (at ws zone) (at xs zone) (ok zone n) (best n (ok zone) beats)
            price (sofar.worth zone inside) (sofar.number zone inside)
            ∙ ap numbered (sym more)))

        worth_there : (z : ℕ) → z < m.zones → z ≢ zone → Worth z
        worth_there z within other =
            worth.elsewhere z other ∙ (sofar.worth z within ∙ ap (worth_at m) (skip z other))

        number_there : (z : ℕ) → z < m.zones → z ≢ zone → Number z
        number_there z within other =
            number.elsewhere z other ∙ (sofar.number z within ∙ ap numbered (skip z other))

-- A taker wins where its price is higher, a giver where it is lower or the first.
module _ (m : Market) (o : Outcome) (n zone p : ℕ) (price : p ≡ price_of m (item_no m n))
    (here : zone_of m (item_no m n) ≡ zone) where
  apart : (z : ℕ) → z ≢ zone → eqb (zone_of m (item_no m n)) z ≡ false
  apart z other = ne_eqb (zone_of m (item_no m n)) z (λ (e : zone_of m (item_no m n) ≡ z). other (sym e ∙ here))

  pub takers_more :
      (worth out worth' out' : List ℕ) → Takers m o n worth out →
      Replaced zone (cond (takes m o zone n && ltb (at worth zone) (p + 1)) (p + 1) (at worth zone)) worth worth' →
      Replaced zone (cond (takes m o zone n && ltb (at worth zone) (p + 1)) (n + 1) (at out zone)) out out' →
      Takers m o (n + 1) worth' out'
  takers_more worth out worth' out' sofar new new_out =
      noted_more m (dearer m) ltb (λ q. lt-ltb 0 (q + 1) (omega arith)) (λ j k. grind (arith, nat_tests))
      (takes m o) n zone p worth out worth' out' sofar price (λ z other. and_left _ _ (apart z other)) new new_out

  pub givers_more :
      (ask giver ask' giver' : List ℕ) → Givers m o n ask giver →
      Replaced zone (cond (gives m o zone n && lower (at ask zone) (p + 1)) (p + 1) (at ask zone)) ask ask' →
      Replaced zone (cond (gives m o zone n && lower (at ask zone) (p + 1)) (n + 1) (at giver zone)) giver giver' →
      Givers m o (n + 1) ask' giver'
  givers_more ask giver ask' giver' sofar new new_giver =
      noted_more m (cheaper m) lower (λ q. refl) (λ j k. grind (arith, nat_tests))
      (gives m o) n zone p ask giver ask' giver' sofar price (λ z other. and_left _ _ (apart z other)) new new_giver
