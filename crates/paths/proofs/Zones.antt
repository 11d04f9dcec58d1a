-- A slice of ways, read as lists of numbers. Assumes nothing.
--
--   Replaced z x xs xs'    of two lists: the second has x in place z, and elsewhere what the first has
use Rattle.std.proofs.Common.{◌≡◌, ℕ, ◌<◌, Bool, ◌≢◌, List, length, get_or, map, set, replicate, is_some, Some, sym, refl, ap, ◌∙◌, inl, inr, arith}
use Rattle.std.proofs.Math.ListN.{get_or-map}
use Rattle.std.proofs.Math.Seq.{map-set_same}
use Rattle.std.proofs.lemmas.List.{length-replicate, get_or-replicate, get_or_past, length-map, map-set, get_or-set_same, get_or-set_other}
use Rattle.std.proofs.lemmas.List.Sums.{fails_before_first, passes_at_first}
use Rattle.std.proofs.lemmas.Bool.{cases_lt, cond-true, cond-false, lt-ltb, le-ltb}
use Rattle.std.specs.List.{position, position_or_len}
use Rattle.hour.proofs.First.{first_found, first_all, first_same, when_false}
use Rattle.hour.specs.First.{when, first}
use Rattle.hour.specs.Market.{at}
use Rattle.paths.specs.Plan.{nearer, pays}
use Rattle.paths.specs.Search.{KeepsBids, KeepsAllButOut}
use Rattle.paths.specs.Ways.{no_way, way_at, way_pays, way_nearer, over_line, worths, fars, outs, asks, givers, plan_of}
use Rattle.paths.specs.declared.ways.Way.{Way}

module _ (ws : List Way) (v : ℕ) where
  pub worth_is : at (worths ws) v ≡ (way_at ws v).worth
  worth_is = get_or-map (λ (w : Way). w.worth) ws v no_way

  pub far_is : at (fars ws) v ≡ (way_at ws v).far
  far_is = get_or-map (λ (w : Way). w.far) ws v no_way

  pub out_is : at (outs ws) v ≡ (way_at ws v).out
  out_is = get_or-map (λ (w : Way). w.out) ws v no_way

  pub ask_is : at (asks ws) v ≡ (way_at ws v).ask
  ask_is = get_or-map (λ (w : Way). w.ask) ws v no_way

  pub giver_is : at (givers ws) v ≡ (way_at ws v).giver
  giver_is = get_or-map (λ (w : Way). w.giver) ws v no_way

pub nearer_is : (ws : List Way) (v w : ℕ) → nearer (worths ws) (fars ws) v w ≡ way_nearer (way_at ws v) (way_at ws w)
nearer_is ws v w = rw (worth_is ws v, worth_is ws w, far_is ws v, far_is ws w)

-- where no zone has a way
pub none_there : (n v : ℕ) → way_at (replicate n no_way) v ≡ no_way
none_there n v =
    elim (cases_lt v n) [
      | inl below ↦ get_or-replicate n v no_way no_way below
      | inr past ↦ get_or_past (replicate n no_way) v no_way (omega (arith, length-replicate {A = Way} n no_way))
    ]

pub record Replaced (z x : ℕ) (xs xs' : List ℕ) : Type 0 where
  pub here : at xs' z ≡ x
  pub elsewhere : (y : ℕ) → y ≢ z → at xs' y ≡ at xs y

-- one way replaced, in one of the lists
pub replaced :
    (f : Way → ℕ) (ws : List Way) (v : ℕ) (w : Way) (x : ℕ) → v < length ws → f w ≡ x →
    Replaced v x (map f ws) (map f (set ws v w))
replaced f ws v w x below is =
    record {
      here =
          ap (λ xs. at xs v) (map-set f ws v w)
          ∙ (get_or-set_same (map f ws) v (f w) 0 (omega (arith, length-map ws f)) ∙ is);
      elsewhere = λ y other.
          ap (λ xs. at xs y) (map-set f ws v w) ∙ get_or-set_other (map f ws) v y (f w) 0 other;
    }

pub keeps_same : (ws : List Way) → KeepsBids ws ws
keeps_same ws = record { out = refl; ask = refl; giver = refl }

pub keeps_both : (ws us ys : List Way) → KeepsBids ws us → KeepsBids us ys → KeepsBids ws ys
keeps_both ws us ys first second =
    record {
      out = second.out ∙ first.out;
      ask = second.ask ∙ first.ask;
      giver = second.giver ∙ first.giver;
    }

-- another way taken over a line
pub keeps_over : (ws : List Way) (v : ℕ) (w : Way) → KeepsBids ws (set ws v (over_line (way_at ws v) w))
keeps_over ws v w =
    record {
      out = map-set_same (λ (x : Way). x.out) ws v _ no_way refl;
      ask = map-set_same (λ (x : Way). x.ask) ws v _ no_way refl;
      giver = map-set_same (λ (x : Way). x.giver) ws v _ no_way refl;
    }

pub out_set : (ws : List Way) (v x : ℕ) → outs (set ws v (record (way_at ws v) { out = x })) ≡ set (outs ws) v x
out_set ws v x = map-set (λ (w : Way). w.out) ws v _

-- another way out
pub keeps_out :
    (ws us : List Way) (v x : ℕ) → KeepsAllButOut ws us → KeepsAllButOut ws (set us v (record (way_at us v) { out = x }))
keeps_out ws us v x kept =
    record {
      worth = map-set_same (λ (w : Way). w.worth) us v _ no_way refl ∙ kept.worth;
      far = map-set_same (λ (w : Way). w.far) us v _ no_way refl ∙ kept.far;
      ask = map-set_same (λ (w : Way). w.ask) us v _ no_way refl ∙ kept.ask;
      giver = map-set_same (λ (w : Way). w.giver) us v _ no_way refl ∙ kept.giver;
    }

pub far_kept : (ws us : List Way) (v : ℕ) → KeepsAllButOut ws us → at (fars ws) v ≡ (way_at us v).far
far_kept ws us v kept = ap (λ xs. at xs v) (sym kept.far) ∙ far_is us v

module _ {X : Type 0} (p : X → Bool) (xs : List X) (d : X) where
  -- the first place at which a test holds
  pub position_first : position p xs ≡ first (length xs) (λ k. when (p (get_or xs k d)) k)
  position_first =
      elim (cases_lt (position_or_len p xs) (length xs)) [
        | inl below ↦
            let here : when (p (get_or xs (position_or_len p xs) d)) (position_or_len p xs) ≡ Some (position_or_len p xs) =
            ap (λ (b : Bool). when b (position_or_len p xs)) (passes_at_first p xs d below)
            in
            cond-true _ _ _ (lt-ltb _ _ below)
            ∙ sym
            (first_found (λ k. when (p (get_or xs k d)) k) (position_or_len p xs) (length xs) below
            (first_all _ (position_or_len p xs) (λ k less. when_false _ k (fails_before_first p xs k d less)))
            (ap is_some here) ∙ here)
        | inr past ↦
            cond-false _ _ _ (le-ltb _ _ past)
            ∙ sym (first_all _ (length xs) (λ k less. when_false _ k (fails_before_first p xs k d (omega arith))))
      ]

pub first_pays :
    (ws : List Way) (n : ℕ) → length ws ≡ n → position way_pays ws ≡ first n (λ v. when (pays (plan_of ws) v) v)
first_pays ws n each =
    position_first way_pays ws no_way
    ∙ (first_same _ _ (length ws) (λ v below. ap (λ (b : Bool). when b v) (sym (rw (worth_is ws v, ask_is ws v))))
    ∙ ap (λ (k : ℕ). first k (λ v. when (pays (plan_of ws) v) v)) each)
