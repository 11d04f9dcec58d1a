-- An hour that keeps the rules, written and read back. Assumes nothing.
use Rattle.std.proofs.Common.{◌≡◌, ℕ, ◌+◌, ◌*◌, ◌/◌, ◌%◌, ◌<◌, ◌≤◌, List, [], ◌++◌, length, get_or, take, None, sym, refl, ap, ◌∙◌, ap₂, zero-add, arith}
use Rattle.std.proofs.lemmas.List.FromFn.{length-map-range_with_len, get_or-map-range_with_len}
use Rattle.std.proofs.lemmas.List.Concat.{get_or-flat_map}
use Rattle.std.proofs.lemmas.List.Folds.{length-flat_map-take}
use Rattle.std.proofs.lemmas.List.{length-take-le, append_assoc, append-nil, get_or_append_left, get_or-append-add, same_lists, get_or_default}
use Rattle.std.specs.List.{flat_map}
use Rattle.hour.specs.declared.items.Bid.{Bid}
use Rattle.hour.specs.declared.items.Line.{Line}
use Rattle.hour.specs.Books.{size_of}
use Rattle.hour.specs.Bytes.{size_said, byte, two, three, bid_at, line_at, bids_said, lines_said, market_of}
use Rattle.hour.specs.Bytes.{refusal_of, head_bytes, bid_bytes, line_bytes, bytes_of}
use Rattle.hour.specs.Listed.{listed}
use Rattle.hour.specs.Market.{Market, bid, line}
use Rattle.hour.specs.Promises.{ReadBack}
use Rattle.hour.specs.Rules.{item_fault, max_zones, bid_place, line_place, BidKept, LineKept, KeepsRules}
use Rattle.hour.proofs.Pasted.{length_joined, upto_buys, upto_sells, length_bytes_of}
use Rattle.hour.proofs.First.{else_none}
use Rattle.hour.proofs.Heads.{Sound, head_from_sound}
use Rattle.hour.proofs.Kept.{items_free}
use Rattle.hour.proofs.Numbers.{one_from_low, two_from_low, three_from_low}

-- Where a byte of the k-th stands, in a list of which each is written by `f` in `width` bytes.
module _ {X : Type 0} (f : X → List ℕ) (width : ℕ) (each : (x : X) → width ≡ length (f x)) where
  pub get_joined :
      (xs : List X) (rest : List ℕ) (k j : ℕ) (x : X) → k < length xs → j < width →
      get_or (flat_map f xs ++ rest) (width * k + j) 0 ≡ get_or (f (get_or xs k x)) j 0
  get_joined xs rest k j x below within =
      let front : width * k ≡ length (flat_map f (take k xs)) =
      ap (λ (n : ℕ). width * n) (sym (length-take-le k xs (omega arith))) ∙ length_joined f width each (take k xs)
      in
      let inside : j < length (f (get_or xs k x)) = omega (arith, each (get_or xs k x)) in
      let here : width * k + j < length (flat_map f xs) = omega (arith, length-flat_map-take f xs k x below) in
      get_or_append_left (flat_map f xs) rest 0 (width * k + j) here
      ∙ (ap (λ (n : ℕ). get_or (flat_map f xs) (n + j) 0) front ∙ get_or-flat_map f xs k j x 0 below inside)

  pub get_behind :
      (front : List ℕ) (at : ℕ) (xs : List X) (rest : List ℕ) (k j p : ℕ) (x : X) →
      at ≡ length front → k < length xs → j < width → p ≡ at + width * k →
      get_or (front ++ (flat_map f xs ++ rest)) (p + j) 0 ≡ get_or (f (get_or xs k x)) j 0
  get_behind front at xs rest k j p x start below within place =
      let there : p + j ≡ length front + (width * k + j) = omega arith in
      rw there
      (get_or-append-add front (flat_map f xs ++ rest) (width * k + j) 0 ∙ get_joined xs rest k j x below within)

three_from_bytes :
    (bs : List ℕ) (i v : ℕ) → v < 16777216 →
    byte bs i ≡ v % 256 → byte bs (i + 1) ≡ v / 256 % 256 → byte bs (i + 2) ≡ v / 256 / 256 % 256 → three bs i ≡ v
three_from_bytes bs i v small low middle high = omega (arith, low, middle, high, three_from_low v small)

-- a bid or a line from its bytes
module _ (bs : List ℕ) (p z : ℕ) (few : z ≤ max_zones) where
  at_place :
      (xs : List ℕ) → ((j : ℕ) → j < length xs → get_or bs (p + j) 0 ≡ get_or xs j 0) →
      (i j : ℕ) → i ≡ p + j → j < length xs → byte bs i ≡ get_or xs j 0
  at_place xs said i j same within = ap (λ (n : ℕ). get_or bs n 0) same ∙ said j within

  pub bid_from_bytes :
      (b : Bid) → BidKept z b →
      ((j : ℕ) → j < 7 → get_or bs (p + j) 0 ≡ get_or (bid_bytes b) j 0) → bid_at bs p ≡ b
  bid_from_bytes b kept said =
      let at : (i j : ℕ) → i ≡ p + j → j < 7 → byte bs i ≡ get_or (bid_bytes b) j 0 = at_place (bid_bytes b) said in
      let zone : byte bs p ≡ b.zone = at p 0 (omega arith) (omega arith) ∙ one_from_low b.zone (omega arith) in
      let price : three bs (p + 1) ≡ b.price =
      three_from_bytes bs (p + 1) b.price (omega arith)
      (at (p + 1) 1 refl (omega arith))
      (at (p + 1 + 1) 2 (omega arith) (omega arith))
      (at (p + 1 + 2) 3 (omega arith) (omega arith))
      in
      let amount : three bs (p + 4) ≡ b.amount =
      three_from_bytes bs (p + 4) b.amount (omega arith)
      (at (p + 4) 4 refl (omega arith))
      (at (p + 4 + 1) 5 (omega arith) (omega arith))
      (at (p + 4 + 2) 6 (omega arith) (omega arith))
      in
      λ i. record { zone = zone i; price = price i; amount = amount i }

  pub line_from_bytes :
      (l : Line) → LineKept z l → l.cost ≡ 0 →
      ((j : ℕ) → j < 5 → get_or bs (p + j) 0 ≡ get_or (line_bytes l) j 0) → line_at bs p ≡ l
  line_from_bytes l kept costless said =
      let at : (i j : ℕ) → i ≡ p + j → j < 5 → byte bs i ≡ get_or (line_bytes l) j 0 = at_place (line_bytes l) said in
      let from : byte bs p ≡ l.from = at p 0 (omega arith) (omega arith) ∙ one_from_low l.from (omega arith) in
      let to : byte bs (p + 1) ≡ l.to = at (p + 1) 1 refl (omega arith) ∙ one_from_low l.to (omega arith) in
      let capacity : three bs (p + 2) ≡ l.capacity =
      three_from_bytes bs (p + 2) l.capacity (omega arith)
      (at (p + 2) 2 refl (omega arith))
      (at (p + 2 + 1) 3 (omega arith) (omega arith))
      (at (p + 2 + 2) 4 (omega arith) (omega arith))
      in
      λ i. record { from = from i; to = to i; capacity = capacity i; cost = sym costless i }

-- a list by its places is the list, where each place has the same
pub listed_same :
    {X : Type 0} (n : ℕ) (f : ℕ → X) (xs : List X) (x : X) → n ≡ length xs →
    ((k : ℕ) → k < n → f k ≡ get_or xs k x) → listed n f ≡ xs
listed_same n f xs x long same =
    same_lists (listed n f) xs (length-map-range_with_len f 0 n ∙ long)
    (λ k d below.
    let within : k < n = rw (length-map-range_with_len f 0 n) at below in
    get_or-map-range_with_len f 0 n k k d within (zero-add k)
    ∙ (same k within ∙ get_or_default xs k x d (omega arith)))

-- a section of bids, or of lines, behind what stands before it
module _ (whole front rest : List ℕ) (z : ℕ) (few : z ≤ max_zones) where
  pub bids_back :
      (before : ℕ) (xs : List Bid) → ((k : ℕ) → k < length xs → BidKept z (bid xs k)) →
      bid_place before ≡ length front → whole ≡ front ++ (flat_map bid_bytes xs ++ rest) →
      bids_said whole before (length xs) ≡ xs
  bids_back before xs kept start is =
      listed_same (length xs) _ xs _ refl
      (λ k below.
      bid_from_bytes whole (bid_place (before + k)) z few (bid xs k) (kept k below)
      (λ j within.
      ap (λ (w : List ℕ). get_or w (bid_place (before + k) + j) 0) is
      ∙ get_behind bid_bytes 7 (λ x. refl) front (bid_place before) xs rest k j (bid_place (before + k)) _
      start below within (omega arith)))

  pub lines_back :
      (bids : ℕ) (xs : List Line) → ((k : ℕ) → k < length xs → LineKept z (line xs k)) →
      ((k : ℕ) → k < length xs → (line xs k).cost ≡ 0) →
      line_place bids 0 ≡ length front → whole ≡ front ++ (flat_map line_bytes xs ++ rest) →
      lines_said whole bids (length xs) ≡ xs
  lines_back bids xs kept costless start is =
      listed_same (length xs) _ xs _ refl
      (λ k below.
      line_from_bytes whole (line_place bids k) z few (line xs k) (kept k below) (costless k below)
      (λ j within.
      ap (λ (w : List ℕ). get_or w (line_place bids k + j) 0) is
      ∙ get_behind line_bytes 5 (λ x. refl) front (line_place bids 0) xs rest k j (line_place bids k) _
      start below within (omega arith)))

module _ (m : Market) (kept : KeepsRules m) where
  bs : List ℕ
  bs = bytes_of m

  zones_read : byte bs 0 ≡ m.zones
  unfolding bs
  zones_read = one_from_low m.zones (omega arith)

  buys_read : two bs 1 ≡ length m.buys
  unfolding bs
  buys_read = two_from_low (length m.buys) (omega arith)

  sells_read : two bs 3 ≡ length m.sells
  unfolding bs
  sells_read = two_from_low (length m.sells) (omega arith)

  lines_read : two bs 5 ≡ length m.lines
  unfolding bs
  lines_read = two_from_low (length m.lines) (omega arith)

  read_buys : bids_said bs 0 (length m.buys) ≡ m.buys
  unfolding bs
  read_buys =
      let hd = head_bytes m in
      let bb = flat_map bid_bytes m.buys in
      let sb = flat_map bid_bytes m.sells in
      let lb = flat_map line_bytes m.lines in
      bids_back (bytes_of m) hd (sb ++ lb) m.zones kept.zones 0 m.buys kept.each_buy refl
      (append_assoc (hd ++ bb) sb lb ∙ append_assoc hd bb (sb ++ lb))

  read_sells : bids_said bs (length m.buys) (length m.sells) ≡ m.sells
  unfolding bs
  read_sells =
      let hd = head_bytes m in
      let bb = flat_map bid_bytes m.buys in
      let sb = flat_map bid_bytes m.sells in
      let lb = flat_map line_bytes m.lines in
      bids_back (bytes_of m) (hd ++ bb) lb m.zones kept.zones (length m.buys) m.sells kept.each_sell
      (upto_buys m) (append_assoc (hd ++ bb) sb lb)

  read_lines : lines_said bs (length m.buys + length m.sells) (length m.lines) ≡ m.lines
  unfolding bs
  read_lines =
      let hd = head_bytes m in
      let bb = flat_map bid_bytes m.buys in
      let sb = flat_map bid_bytes m.sells in
      let lb = flat_map line_bytes m.lines in
      lines_back (bytes_of m) (hd ++ bb ++ sb) [] m.zones kept.zones (length m.buys + length m.sells)
      m.lines kept.each_line kept.plain.costless
      (omega (arith, upto_sells m)) (ap (λ (t : List ℕ). (hd ++ bb ++ sb) ++ t) (sym (append-nil lb)))

  market_back : market_of bs ≡ m
  unfolding bs
  market_back =
      let buys = ap (bids_said bs 0) buys_read ∙ read_buys in
      let sells = ap₂ (bids_said bs) buys_read sells_read ∙ read_sells in
      let lines = ap₂ (lines_said bs) (ap₂ ◌+◌ buys_read sells_read) lines_read ∙ read_lines in
      λ i. record { zones = zones_read i; buys = buys i; sells = sells i; lines = lines i; supplies = sym kept.plain.unsupplied i }

  sound : Sound bs
  unfolding bs
  sound =
      let size : size_said bs ≡ size_of m = ap₂ line_place (ap₂ ◌+◌ buys_read sells_read) lines_read in
      record {
        some_zone = rw zones_read kept.some_zone;
        zones = rw zones_read kept.zones;
        buys = rw buys_read kept.buys;
        sells = rw sells_read kept.sells;
        lines = rw lines_read kept.lines;
        size = sym (length_bytes_of m) ∙ sym size;
      }

  pub written_reads : (refusal_of (bytes_of m) ≡ None) × (market_of (bytes_of m) ≡ m)
  unfolding bs
  written_reads = (
    else_none _ _ (head_from_sound (bytes_of m) sound) ∙ (ap item_fault market_back ∙ items_free m kept),
    market_back,
  )

-- Idea: every byte of a bid or line stands at a place that the number of items before it fixes.
pub read_back : ReadBack
read_back m kept = written_reads m kept
