-- What a head that is not refused says of the length and the counts, and that the items are those of the market.
-- Assumes nothing.
use Rattle.std.proofs.Common.{◌≡◌, ℕ, ◌+◌, ◌<◌, ◌≤◌, Bool, true, false, cond, not, eqb, leb, List, length, get_or, Some, None, Ok, Err, Option, Result, sym, refl, ap, ◌∙◌, ap₂, zero-add, arith}
use Rattle.std.proofs.lemmas.List.FromFn.{length-map-range_with_len, get_or-map-range_with_len}
use Rattle.std.proofs.lemmas.Bool.{eqb-true, eqb-false, ltb-false, not-false, cond-true, le-leb, le-ltb, ne_eqb, eq-eqb, or_parts, or_from, not_from_true}
use Rattle.hour.specs.declared.reading.Head.{Head}
use Rattle.hour.specs.declared.refusals.Refusal.{Refusal}
use Rattle.hour.specs.First.{◌else◌, first}
use Rattle.hour.specs.Listed.{listed}
use Rattle.hour.specs.Market.{no_bid, no_line}
use Rattle.hour.specs.Rules.{item_fault, max_zones, max_bids, max_lines, bids_fault, all_lines_fault, bid_fault}
use Rattle.hour.specs.Rules.{line_fault, bid_place, line_place, zones_fault, count_fault}
use Rattle.hour.specs.declared.refusals.Sort.TheVariants as sorts
use Rattle.hour.specs.Bytes.{byte, two, size_said, limits_fault, head_fault, head_of, head_read, bids_read, lines_read, bids_said}
use Rattle.hour.specs.Bytes.{lines_said, bid_at, line_at, in_first, items_read, market_of}
use Rattle.hour.proofs.First.{first_same, else_none, else_none_left, else_none_right, when_none, when_false}

cond_same : {A : Type 0} (b : Bool) (x : A) → cond b x x ≡ x
cond_same true x = refl
cond_same false x = refl

-- what a sound head says
pub record Sound (bs : List ℕ) : Type 0 where
  pub some_zone : 0 < byte bs 0
  pub zones : byte bs 0 ≤ max_zones
  pub buys : two bs 1 ≤ max_bids
  pub sells : two bs 3 ≤ max_bids
  pub lines : two bs 5 ≤ max_lines
  pub size : length bs ≡ size_said bs

-- numbers of zones, buys, sells and lines within the limits
pub record Limited (bs : List ℕ) : Type 0 where
  pub some_zone : 0 < byte bs 0
  pub zones : byte bs 0 ≤ max_zones
  pub buys : two bs 1 ≤ max_bids
  pub sells : two bs 3 ≤ max_bids
  pub lines : two bs 5 ≤ max_lines

-- a head that has come whole and breaks no limit
pub limited_head : (bs : List ℕ) → 7 ≤ length bs → limits_fault bs ≡ None → Limited bs
limited_head bs long none =
    let after_zones = else_none_right (in_first 1 bs (zones_fault (byte bs 0))) _ none in
    let after_buys = else_none_right (in_first 3 bs (count_fault sorts.Buy (two bs 1))) _ after_zones in
    let after_sells = else_none_right (in_first 5 bs (count_fault sorts.Sell (two bs 3))) _ after_buys in
    let came : (n : ℕ) (fault : Option Refusal) → n ≤ 7 → in_first n bs fault ≡ None → fault ≡ None =
    λ n fault within at. sym (cond-true (leb n (length bs)) fault None (le-leb n (length bs) (omega arith))) ∙ at
    in
    let zones = or_parts (eqb (byte bs 0) 0) _ (when_none _ _ (came 1 _ (omega arith) (else_none_left _ _ none))) in
    record {
      some_zone = omega (arith, eqb-false _ _ zones.0);
      zones = ltb-false _ _ zones.1;
      buys = ltb-false _ _ (when_none _ _ (came 3 _ (omega arith) (else_none_left _ _ after_zones)));
      sells = ltb-false _ _ (when_none _ _ (came 5 _ (omega arith) (else_none_left _ _ after_buys)));
      lines = ltb-false _ _ (when_none _ _ (came 7 _ (omega arith) after_sells));
    }

pub limits_from_limited : (bs : List ℕ) → Limited bs → limits_fault bs ≡ None
limits_from_limited bs limited =
    let skip : (n : ℕ) (fault : Option Refusal) → fault ≡ None → in_first n bs fault ≡ None =
    λ n fault none. ap (λ (o : Option Refusal). in_first n bs o) none ∙ cond_same (leb n (length bs)) None
    in
    let zones : zones_fault (byte bs 0) ≡ None =
    when_false _ _
    (or_from _ _
    (ne_eqb (byte bs 0) 0 (λ (e : byte bs 0 ≡ 0). absurd (omega (arith, limited.some_zone))))
    (le-ltb _ _ limited.zones))
    in
    else_none _ _ (skip 1 _ zones)
    ∙ (else_none _ _ (skip 3 _ (when_false _ _ (le-ltb _ _ limited.buys)))
    ∙ (else_none _ _ (skip 5 _ (when_false _ _ (le-ltb _ _ limited.sells)))
    ∙ skip 7 _ (when_false _ _ (le-ltb _ _ limited.lines))))

pub sound_head : (bs : List ℕ) → head_fault bs ≡ None → Sound bs
sound_head bs none =
    let size : length bs ≡ size_said bs =
    eqb-true _ _ (not-false _ (when_none (not (eqb (length bs) (size_said bs))) _ (else_none_right (limits_fault bs) _ none)))
    in
    let limited = limited_head bs (omega arith) (else_none_left _ _ none) in
    record {
      some_zone = limited.some_zone;
      zones = limited.zones;
      buys = limited.buys;
      sells = limited.sells;
      lines = limited.lines;
      size = size;
    }

pub head_from_sound : (bs : List ℕ) → Sound bs → head_fault bs ≡ None
head_from_sound bs sound =
    let limited : Limited bs =
    record {
      some_zone = sound.some_zone;
      zones = sound.zones;
      buys = sound.buys;
      sells = sound.sells;
      lines = sound.lines;
    }
    in
    else_none _ _ (limits_from_limited bs limited) ∙ when_false _ _ (not_from_true _ (eq-eqb _ _ sound.size))

-- what was read of a head is its fault, or what it says
pub head_read_ok : (bs : List ℕ) (h : Head) → head_read bs ≡ Ok h → (head_fault bs ≡ None) × (h ≡ head_of bs)
head_read_ok bs h ok = go (head_fault bs) ok
  where
    go :
        (fault : Option Refusal) → ◌≡◌ {A = Result Head Refusal} (elim fault [ Some refusal ↦ Err refusal | None ↦ Ok (head_of bs) ]) (Ok h) →
        (fault ≡ None) × (h ≡ head_of bs)
    go None ok = (refl, cc)
    go (Some refusal) ok = let z : ◌≡◌ {A = ℕ} 0 1 = cc in absurd (omega arith)

pub head_read_err : (bs : List ℕ) (e : Refusal) → head_read bs ≡ Err e → head_fault bs ≡ Some e
head_read_err bs e err = go (head_fault bs) err
  where
    go :
        (fault : Option Refusal) → ◌≡◌ {A = Result Head Refusal} (elim fault [ Some refusal ↦ Err refusal | None ↦ Ok (head_of bs) ]) (Err e) →
        fault ≡ Some e
    go None err = let z : ◌≡◌ {A = ℕ} 0 1 = cc in absurd (omega arith)
    go (Some refusal) err = cc

-- the first fault of a list that is given by its places is that of what is said at these
module _ {X : Type 0} (said : ℕ → X) (fault : ℕ → X → Option Refusal) (absent : X) where
  faults_said :
      (count : ℕ) →
      first count (λ k. fault k (said k))
      ≡ first (length (listed count said)) (λ k. fault k (get_or (listed count said) k absent))
  faults_said count =
      rw (length-map-range_with_len said 0 count)
      (first_same _ _ count
      (λ k below. ap (fault k) (sym (get_or-map-range_with_len said 0 count k k absent below (zero-add k)))))

-- the first fault of the bids, and of the lines, that the bytes say
pub bids_fault_said :
    (z : ℕ) (bs : List ℕ) (before count : ℕ) →
    bids_fault z before (bids_said bs before count) ≡ bids_read z bs before count
bids_fault_said z bs before count =
    sym
    (faults_said (λ k. bid_at bs (bid_place (before + k))) (λ k. bid_fault z (bid_place (before + k))) no_bid count)

pub lines_fault_said :
    (z : ℕ) (bs : List ℕ) (bids count : ℕ) →
    all_lines_fault z bids (lines_said bs bids count) ≡ lines_read z bs bids count
lines_fault_said z bs bids count =
    sym (faults_said (λ k. line_at bs (line_place bids k)) (λ k. line_fault z (line_place bids k)) no_line count)

-- the items of the market, checked where they stand
pub items_said :
    (bs : List ℕ) →
    (bids_read (byte bs 0) bs 0 (two bs 1)
    else bids_read (byte bs 0) bs (two bs 1) (two bs 3)
    else lines_read (byte bs 0) bs (two bs 1 + two bs 3) (two bs 5))
    ≡ item_fault (market_of bs)
items_said bs =
    let z = byte bs 0 in
    let m = market_of bs in
    let buys : two bs 1 ≡ length m.buys = sym (length-map-range_with_len _ 0 (two bs 1)) in
    let sells : two bs 3 ≡ length m.sells = sym (length-map-range_with_len _ 0 (two bs 3)) in
    ap₂ ◌else◌ (sym (bids_fault_said z bs 0 (two bs 1)))
    (ap₂ ◌else◌
    (sym (bids_fault_said z bs (two bs 1) (two bs 3)) ∙ ap (λ (n : ℕ). bids_fault z n m.sells) buys)
    (sym (lines_fault_said z bs (two bs 1 + two bs 3) (two bs 5))
    ∙ ap₂ (λ (a b : ℕ). all_lines_fault z (a + b) m.lines) buys sells))

pub items_stand : (bs : List ℕ) (h : Head) → head_read bs ≡ Ok h → items_read bs h ≡ item_fault (market_of bs)
items_stand bs h ok = ap (items_read bs) (head_read_ok bs h ok).1 ∙ items_said bs
