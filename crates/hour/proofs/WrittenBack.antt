-- Bytes that are not refused, read and written back. Assumes nothing.
use Rattle.std.proofs.Common.{◌≡◌, ℕ, zero, suc, ◌+◌, ◌*◌, ◌<◌, ◌≤◌, List, [], ◌∷◌, ◌++◌, length, take, drop, sym, refl, ap, ◌∙◌, ap₂, mul-zero, mul-suc, add-one, arith, drop-drop, take-add}
use Rattle.std.proofs.lemmas.List.FromFn.{map-range_with_len_more}
use Rattle.std.proofs.lemmas.List.{length-take-le, length-drop, get_or-take, get_or-drop, flat_map_more, take_all}
use Rattle.std.specs.List.{flat_map}
use Rattle.hour.specs.Bytes.{byte, two, three, low_bytes, bid_at, line_at, bids_said, market_of, refusal_of, head_bytes}
use Rattle.hour.specs.Bytes.{bid_bytes, line_bytes, bytes_of}
use Rattle.hour.specs.Listed.{listed}
use Rattle.hour.specs.Promises.{ByteString, WrittenBack, OnlyHours}
use Rattle.hour.specs.Rules.{bid_place, line_place}
use Rattle.hour.proofs.Heads.{Sound}
use Rattle.hour.proofs.Kept.{head_free, kept, buys_count, sells_count, lines_count}
use Rattle.hour.proofs.Numbers.{low_from_one, low_from_two, low_from_three}
use Rattle.hour.proofs.ReadBack.{listed_same, read_back}

module _ (bs : List ℕ) (bytes : ByteString bs) where
  -- the bytes of a part, one by one
  part_listed : (p width : ℕ) → p + width ≤ length bs → listed width (λ j. byte bs (p + j)) ≡ take width (drop p bs)
  part_listed p width within =
      let long : width ≡ length (take width (drop p bs)) =
      sym (length-take-le width (drop p bs) (omega (arith, length-drop p bs)))
      in
      listed_same width _ (take width (drop p bs)) 0 long
      (λ j below. sym (get_or-take width (drop p bs) j 0 below ∙ get_or-drop p bs j 0))

  low_one : (i p j : ℕ) → i ≡ p + j → low_bytes 1 (byte bs i) ≡ byte bs (p + j) ∷ []
  low_one i p j here = rw here (low_from_one (byte bs (p + j)) (bytes (p + j)))

  low_three :
      (i p a b c : ℕ) → i ≡ p + a → i + 1 ≡ p + b → i + 2 ≡ p + c →
      low_bytes 3 (three bs i) ≡ byte bs (p + a) ∷ byte bs (p + b) ∷ byte bs (p + c) ∷ []
  low_three i p a b c low middle high =
      rw (middle, high, low)
      (low_from_three (byte bs (p + a)) (byte bs (p + b)) (byte bs (p + c)) (bytes (p + a)) (bytes (p + b)) (bytes (p + c)))

  bid_part : (p : ℕ) → p + 7 ≤ length bs → bid_bytes (bid_at bs p) ≡ take 7 (drop p bs)
  bid_part p within =
      ap₂ ◌++◌
      (ap₂ ◌++◌ (low_one p p 0 (omega arith)) (low_three (p + 1) p 1 2 3 refl (omega arith) (omega arith)))
      (low_three (p + 4) p 4 5 6 refl (omega arith) (omega arith))
      ∙ part_listed p 7 within

  line_part : (p : ℕ) → p + 5 ≤ length bs → line_bytes (line_at bs p) ≡ take 5 (drop p bs)
  line_part p within =
      ap₂ ◌++◌
      (ap₂ ◌++◌ (low_one p p 0 (omega arith)) (low_one (p + 1) p 1 refl))
      (low_three (p + 2) p 2 3 4 refl (omega arith) (omega arith))
      ∙ part_listed p 5 within

  -- one after another: what each is written as is its part of the bytes
  joined_parts :
      {X : Type 0} (f : X → List ℕ) (g : ℕ → X) (width p n : ℕ) →
      ((k : ℕ) → k < n → f (g k) ≡ take width (drop (p + width * k) bs)) →
      flat_map f (listed n g) ≡ take (width * n) (drop p bs)
  joined_parts f g width p zero parts = ap (λ (i : ℕ). take i (drop p bs)) (sym (mul-zero width))
  joined_parts f g width p (suc n) parts =
      let before = joined_parts f g width p n (λ k below. parts k (omega arith)) in
      let one_more : listed (suc n) g ≡ listed n g ++ (g n ∷ []) =
      ap (λ (i : ℕ). listed i g) (sym (add-one n)) ∙ map-range_with_len_more g 0 n n (omega arith)
      in
      let wider : width * suc n ≡ width * n + width = omega (arith, mul-suc width n) in
      ap (flat_map f) one_more
      ∙ (sym (flat_map_more f [] (listed n g) (g n))
      ∙ (ap₂ ◌++◌ before (parts n (omega arith) ∙ ap (take width) (sym (drop-drop (width * n) p bs)))
      ∙ (sym (take-add (width * n) width (drop p bs)) ∙ ap (λ (i : ℕ). take i (drop p bs)) (sym wider))))

  -- two parts, one behind the other
  parts_meet :
      (n m p : ℕ) (s t : List ℕ) → p ≡ n → s ≡ take n bs → t ≡ take m (drop p bs) → s ++ t ≡ take (n + m) bs
  parts_meet n m p s t here front back =
      ap₂ ◌++◌ front (back ∙ ap (λ (i : ℕ). take m (drop i bs)) here) ∙ sym (take-add n m bs)

  bids_part :
      (before count : ℕ) → bid_place (before + count) ≤ length bs →
      flat_map bid_bytes (bids_said bs before count) ≡ take (7 * count) (drop (bid_place before) bs)
  bids_part before count within =
      joined_parts bid_bytes _ 7 (bid_place before) count
      (λ k below.
      bid_part (bid_place (before + k)) (omega arith)
      ∙ ap (λ (i : ℕ). take 7 (drop i bs)) (omega arith))

  module _ (sound : Sound bs) where
    head_part : head_bytes (market_of bs) ≡ take 7 bs
    head_part =
        let counted : (n i : ℕ) → n ≡ two bs i → low_bytes 2 n ≡ byte bs i ∷ byte bs (i + 1) ∷ [] =
        λ n i is. rw is (low_from_two (byte bs i) (byte bs (i + 1)) (bytes i) (bytes (i + 1)))
        in
        ap₂ ◌++◌
        (ap₂ ◌++◌
        (ap₂ ◌++◌ (low_from_one (byte bs 0) (bytes 0)) (counted _ 1 (buys_count bs)))
        (counted _ 3 (sells_count bs)))
        (counted _ 5 (lines_count bs))
        ∙ part_listed 0 7 (omega (arith, sound.size))

    lines_part : flat_map line_bytes (market_of bs).lines ≡ take (5 * two bs 5) (drop (7 + 7 * (two bs 1 + two bs 3)) bs)
    lines_part =
        joined_parts line_bytes _ 5 (7 + 7 * (two bs 1 + two bs 3)) (two bs 5)
        (λ k below. line_part (line_place (two bs 1 + two bs 3) k) (omega (arith, sound.size)))

    pub written_again : bytes_of (market_of bs) ≡ bs
    written_again =
        let m = market_of bs in
        let hd = head_bytes m in
        let bb = flat_map bid_bytes m.buys in
        let sb = flat_map bid_bytes m.sells in
        let lb = flat_map line_bytes m.lines in
        let nb = 7 * two bs 1 in
        let ns = 7 * two bs 3 in
        let nl = 5 * two bs 5 in
        let with_buys = parts_meet 7 nb 7 hd bb refl head_part (bids_part 0 (two bs 1) (omega (arith, sound.size))) in
        let with_sells = parts_meet (7 + nb) ns (7 + nb) (hd ++ bb) sb refl with_buys
        (bids_part (two bs 1) (two bs 3) (omega (arith, sound.size))) in
        parts_meet (7 + nb + ns) nl _ (hd ++ bb ++ sb) lb (omega arith) with_sells lines_part
        ∙ take_all (7 + nb + ns + nl) bs (omega (arith, sound.size))

-- Idea: the places of all items cut the bytes into parts, and each is written as its own part.
pub written_back : WrittenBack
written_back bs bytes none = (kept bs none, written_again bs bytes (head_free bs none))

pub only_hours : OnlyHours
only_hours bs bytes = (
  (λ none. (market_of bs, kept bs none, written_again bs bytes (head_free bs none))),
  (λ m keeps is. ap refusal_of (sym is) ∙ (read_back m keeps).0),
)
