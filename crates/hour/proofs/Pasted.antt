-- How numbers, bids and lines lie in the bytes, and what writing one of them leaves. Assumes nothing.
use Rattle.std.proofs.Common.{◌≡◌, ℕ, zero, suc, ◌+◌, ◌*◌, ◌/◌, ◌<◌, ◌≤◌, List, [], ◌∷◌, ◌++◌, length, get_or, take, drop, sym, refl, ap, ◌∙◌, ap₂, mul-zero, mul-suc, mul-add, arith}
use lib.Seq.{paste}
use Rattle.std.proofs.lemmas.List.Edits.{paste-paste, paste_all}
use Rattle.std.proofs.lemmas.List.{length-append, length-take-le, take_more, flat_map_more}
use Rattle.std.specs.List.{flat_map}
use Rattle.hour.specs.declared.items.Bid.{Bid}
use Rattle.hour.specs.declared.items.Line.{Line}
use Rattle.hour.specs.Books.{size_of}
use Rattle.hour.specs.Bytes.{low_bytes, bid_bytes, line_bytes, head_bytes, bytes_of}
use Rattle.hour.specs.Market.{Market}
use Rattle.hour.specs.Rules.{bid_place, line_place}

pub length_low_bytes : (width v : ℕ) → length (low_bytes width v) ≡ width
length_low_bytes zero v = refl
length_low_bytes (suc width) v = ap suc (length_low_bytes width (v / 256))

-- a second write, right behind the first
pub paste_next :
    (d e f s t : List ℕ) (at n m : ℕ) → n ≡ length s → m ≡ length t → at ≤ length d →
    e ≡ paste d at s n → f ≡ paste e (at + n) t m → f ≡ paste d at (s ++ t) (n + m)
paste_next d e f s t at n m long_s long_t room first second =
    rw (second, first) (paste-paste d at s t n m long_s long_t room)

-- the same from the very start, with the second place as the code has it
paste_on :
    (d e f s t : List ℕ) (n m place : ℕ) → n ≡ length s → m ≡ length t → place ≡ n →
    e ≡ paste d 0 s n → f ≡ paste e place t m → f ≡ paste d 0 (s ++ t) (n + m)
paste_on d e f s t n m place long_s long_t here first second =
    let behind : place ≡ 0 + n = omega arith in
    paste_next d e f s t 0 n m long_s long_t (omega arith) first
    (second ∙ ap (λ (p : ℕ). paste e p t m) behind)

pub paste_bid :
    (d e f g : List ℕ) (at : ℕ) (b : Bid) → at ≤ length d →
    e ≡ paste d at (low_bytes 1 b.zone) 1 →
    f ≡ paste e (at + 1) (low_bytes 3 b.price) 3 →
    g ≡ paste f (at + 4) (low_bytes 3 b.amount) 3 →
    g ≡ paste d at (bid_bytes b) 7
paste_bid d e f g at b room zone price amount =
    paste_next d f g (low_bytes 1 b.zone ++ low_bytes 3 b.price) (low_bytes 3 b.amount) at 4 3 refl refl room
    (paste_next d e f (low_bytes 1 b.zone) (low_bytes 3 b.price) at 1 3 refl refl room zone price)
    amount

pub paste_line :
    (d e f g : List ℕ) (at : ℕ) (l : Line) → at ≤ length d →
    e ≡ paste d at (low_bytes 1 l.from) 1 →
    f ≡ paste e (at + 1) (low_bytes 1 l.to) 1 →
    g ≡ paste f (at + 2) (low_bytes 3 l.capacity) 3 →
    g ≡ paste d at (line_bytes l) 5
paste_line d e f g at l room from to capacity =
    paste_next d f g (low_bytes 1 l.from ++ low_bytes 1 l.to) (low_bytes 3 l.capacity) at 2 3 refl refl room
    (paste_next d e f (low_bytes 1 l.from) (low_bytes 1 l.to) at 1 1 refl refl room from to)
    capacity

-- One after another: each x is written by `f` in `width` bytes.
module _ {X : Type 0} (f : X → List ℕ) (width : ℕ) (each : (x : X) → width ≡ length (f x)) where
  pub length_joined : (xs : List X) → width * length xs ≡ length (flat_map f xs)
  length_joined [] = mul-zero width
  length_joined (x ∷ xs) =
      rw (length-append (f x) (flat_map f xs), ← length_joined xs, ← each x) (omega (arith, mul-suc width (length xs)))

  pub joined_next :
      (d out next : List ℕ) (at k : ℕ) (xs : List X) (x : X) → k < length xs → at ≤ length d →
      out ≡ paste d at (flat_map f (take k xs)) (width * k) →
      next ≡ paste out (at + width * k) (f (get_or xs k x)) width →
      next ≡ paste d at (flat_map f (take (k + 1) xs)) (width * (k + 1))
  joined_next d out next at k xs x below room before step =
      let upto : width * k ≡ length (flat_map f (take k xs)) =
      ap (λ (n : ℕ). width * n) (sym (length-take-le k xs (omega arith))) ∙ length_joined (take k xs)
      in
      let one_more : flat_map f (take k xs) ++ f (get_or xs k x) ≡ flat_map f (take (k + 1) xs) =
      flat_map_more f [] (take k xs) (get_or xs k x) ∙ ap (flat_map f) (sym (take_more xs k x below))
      in
      let wider : width * k + width ≡ width * (k + 1) = omega (arith, mul-add width k 1) in
      paste_next d out next _ _ at (width * k) width upto (each (get_or xs k x)) room before step
      ∙ ap₂ (λ (bs : List ℕ) (n : ℕ). paste d at bs n) one_more wider

-- how far the bytes of an hour reach: up to its buys, its sells, its lines
pub upto_buys : (m : Market) → 7 + 7 * length m.buys ≡ length (head_bytes m ++ flat_map bid_bytes m.buys)
upto_buys m =
    ap (λ (n : ℕ). 7 + n) (length_joined bid_bytes 7 (λ x. refl) m.buys)
    ∙ sym (length-append (head_bytes m) (flat_map bid_bytes m.buys))

pub upto_sells :
    (m : Market) →
    7 + 7 * length m.buys + 7 * length m.sells
    ≡ length (head_bytes m ++ flat_map bid_bytes m.buys ++ flat_map bid_bytes m.sells)
upto_sells m =
    ap₂ ◌+◌ (upto_buys m) (length_joined bid_bytes 7 (λ x. refl) m.sells)
    ∙ sym (length-append (head_bytes m ++ flat_map bid_bytes m.buys) (flat_map bid_bytes m.sells))

pub length_bytes_of : (m : Market) → size_of m ≡ length (bytes_of m)
length_bytes_of m =
    let front = head_bytes m ++ flat_map bid_bytes m.buys ++ flat_map bid_bytes m.sells in
    let lines_long : 5 * length m.lines ≡ length (flat_map line_bytes m.lines) =
    length_joined line_bytes 5 (λ x. refl) m.lines
    in
    omega (arith, upto_sells m, lines_long, length-append front (flat_map line_bytes m.lines))

-- the head, the buys, the sells and the lines, one after the other, are the hour's bytes
pub paste_hour :
    (m : Market) (d e f g h : List ℕ) →
    e ≡ paste d 0 (head_bytes m) 7 →
    f ≡ paste e (bid_place 0) (flat_map bid_bytes m.buys) (7 * length m.buys) →
    g ≡ paste f (bid_place (length m.buys + 0)) (flat_map bid_bytes m.sells) (7 * length m.sells) →
    h ≡ paste g (line_place (length m.buys + length m.sells) 0) (flat_map line_bytes m.lines) (5 * length m.lines) →
    h ≡ bytes_of m ++ drop (size_of m) d
paste_hour m d e f g h head buys sells lines =
    let nb = length m.buys in
    let ns = length m.sells in
    let nl = length m.lines in
    let bb = flat_map bid_bytes m.buys in
    let sb = flat_map bid_bytes m.sells in
    let lb = flat_map line_bytes m.lines in
    let buys_long = length_joined bid_bytes 7 (λ x. refl) m.buys in
    let sells_long = length_joined bid_bytes 7 (λ x. refl) m.sells in
    let lines_long = length_joined line_bytes 5 (λ x. refl) m.lines in
    let size : 7 + 7 * nb + 7 * ns + 5 * nl ≡ size_of m = omega arith in
    let with_buys = paste_on d e f (head_bytes m) bb 7 (7 * nb) 7 refl buys_long refl head buys in
    let with_sells =
    paste_on d f g (head_bytes m ++ bb) sb (7 + 7 * nb) (7 * ns) _ (upto_buys m) sells_long (omega arith) with_buys sells
    in
    paste_on d g h (head_bytes m ++ bb ++ sb) lb (7 + 7 * nb + 7 * ns) (5 * nl) _
    (upto_sells m) lines_long (omega arith) with_sells lines
    ∙ (paste_all d 0 (bytes_of m) (7 + 7 * nb + 7 * ns + 5 * nl) (size ∙ length_bytes_of m)
    ∙ ap (λ (n : ℕ). bytes_of m ++ drop n d) (omega (arith, size)))
