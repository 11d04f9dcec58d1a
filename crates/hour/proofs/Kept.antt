-- An hour that no rule refuses keeps the rules, and the other way round. Assumes nothing.
use Rattle.std.proofs.Common.{◌≡◌, ℕ, ◌+◌, ◌<◌, false, eqb, List, length, is_some, None, sym, refl, ap, ◌∙◌, pos_of_ne-zero, zero-add, arith}
use Rattle.std.proofs.lemmas.List.FromFn.{length-map-range_with_len, get_or-map-range_with_len}
use Rattle.std.proofs.lemmas.Bool.{eqb-false, ne_eqb, ltb-false, le-ltb, leb-false, lt-leb, or_parts, or_from}
use Rattle.hour.specs.declared.items.Bid.{Bid}
use Rattle.hour.specs.declared.items.Line.{Line}
use Rattle.hour.specs.Bytes.{byte, two, bid_at, line_at, head_fault, market_of, refusal_of}
use Rattle.hour.specs.Market.{Market, Plain, bid, line}
use Rattle.hour.specs.Rules.{bid_place, line_place, bid_fault, line_fault, bids_fault, all_lines_fault, item_fault}
use Rattle.hour.specs.Rules.{BidKept, LineKept, KeepsRules}
use Rattle.hour.proofs.First.{is_none, else_none, else_none_left, else_none_right, when_none, when_false, first_none, first_all}
use Rattle.hour.proofs.Heads.{Sound, sound_head}

pub bid_keeps : (z place : ℕ) (b : Bid) → bid_fault z place b ≡ None → BidKept z b
bid_keeps z place b none =
    let after_zone = else_none_right _ _ none in
    let amount = or_parts (eqb b.amount 0) _ (when_none _ _ (else_none_right _ _ after_zone)) in
    let nonzero = eqb-false b.amount 0 amount.0 in
    record {
      zone = leb-false z b.zone (when_none _ _ (else_none_left _ _ none));
      price = ltb-false _ _ (when_none _ _ (else_none_left _ _ after_zone));
      some = pos_of_ne-zero nonzero;
      amount = ltb-false _ _ amount.1;
    }

pub line_keeps : (z place : ℕ) (l : Line) → line_fault z place l ≡ None → LineKept z l
line_keeps z place l none =
    let after_from = else_none_right _ _ none in
    record {
      from = leb-false z l.from (when_none _ _ (else_none_left _ _ none));
      to = leb-false z l.to (when_none _ _ (else_none_left _ _ after_from));
      capacity = ltb-false _ _ (when_none _ _ (else_none_right _ _ after_from));
    }

-- and the other way round: what keeps the rules has no fault
pub bid_free : (z place : ℕ) (b : Bid) → BidKept z b → bid_fault z place b ≡ None
bid_free z place b kept =
    let some : b.amount ≡ 0 → ⊥ = λ (e : b.amount ≡ 0). absurd (omega (arith, kept.some)) in
    else_none _ _ (when_false _ _ (lt-leb z b.zone kept.zone))
    ∙ (else_none _ _ (when_false _ _ (le-ltb _ _ kept.price))
    ∙ when_false _ _ (or_from _ _ (ne_eqb b.amount 0 some) (le-ltb _ _ kept.amount)))

pub line_free : (z place : ℕ) (l : Line) → LineKept z l → line_fault z place l ≡ None
line_free z place l kept =
    else_none _ _ (when_false _ _ (lt-leb z l.from kept.from))
    ∙ (else_none _ _ (when_false _ _ (lt-leb z l.to kept.to))
    ∙ when_false _ _ (le-ltb _ _ kept.capacity))

pub items_free : (m : Market) → KeepsRules m → item_fault m ≡ None
items_free m kept =
    else_none _ _ (first_all _ (length m.buys) (λ k below. bid_free m.zones _ _ (kept.each_buy k below)))
    ∙ (else_none _ _ (first_all _ (length m.sells) (λ k below. bid_free m.zones _ _ (kept.each_sell k below)))
    ∙ first_all _ (length m.lines) (λ k below. line_free m.zones _ _ (kept.each_line k below)))

-- an hour's bytes that are not refused: the head is sound, and every item keeps its rules
pub head_free : (bs : List ℕ) → refusal_of bs ≡ None → Sound bs
head_free bs none = sound_head bs (else_none_left _ _ none)

pub buys_count : (bs : List ℕ) → length (market_of bs).buys ≡ two bs 1
buys_count bs = length-map-range_with_len _ 0 (two bs 1)

pub sells_count : (bs : List ℕ) → length (market_of bs).sells ≡ two bs 3
sells_count bs = length-map-range_with_len _ 0 (two bs 3)

pub lines_count : (bs : List ℕ) → length (market_of bs).lines ≡ two bs 5
lines_count bs = length-map-range_with_len _ 0 (two bs 5)

-- the k-th of each sort, where it stands in the bytes
pub buy_stands : (bs : List ℕ) (k : ℕ) → k < two bs 1 → bid_at bs (bid_place (0 + k)) ≡ bid (market_of bs).buys k
buy_stands bs k below = sym (get_or-map-range_with_len _ 0 (two bs 1) k k _ below (zero-add k))

pub sell_stands :
    (bs : List ℕ) (k : ℕ) → k < two bs 3 → bid_at bs (bid_place (two bs 1 + k)) ≡ bid (market_of bs).sells k
sell_stands bs k below = sym (get_or-map-range_with_len _ 0 (two bs 3) k k _ below (zero-add k))

pub line_stands :
    (bs : List ℕ) (k : ℕ) → k < two bs 5 →
    line_at bs (line_place (two bs 1 + two bs 3) k) ≡ line (market_of bs).lines k
line_stands bs k below = sym (get_or-map-range_with_len _ 0 (two bs 5) k k _ below (zero-add k))

-- bytes say no costs and no supplies
pub plain_said : (bs : List ℕ) → Plain (market_of bs)
plain_said bs =
    record {
      costless = λ k below.
          ap (λ (l : Line). l.cost) (sym (line_stands bs k (omega (arith, lines_count bs))));
      unsupplied = refl;
    }

-- no bid and no line of a list with no fault breaks a rule
pub bids_kept :
    (z before : ℕ) (bs : List Bid) → bids_fault z before bs ≡ None →
    (k : ℕ) → k < length bs → BidKept z (bid bs k)
bids_kept z before bs none k below = bid_keeps z _ (bid bs k) (first_none _ (length bs) none k below)

pub lines_kept :
    (z bids : ℕ) (ls : List Line) → all_lines_fault z bids ls ≡ None →
    (k : ℕ) → k < length ls → LineKept z (line ls k)
lines_kept z bids ls none k below = line_keeps z _ (line ls k) (first_none _ (length ls) none k below)

pub kept : (bs : List ℕ) → refusal_of bs ≡ None → KeepsRules (market_of bs)
kept bs none =
    let head = head_free bs none in
    let m = market_of bs in
    let items : item_fault m ≡ None = else_none_right (head_fault bs) _ none in
    let after_buys = else_none_right (bids_fault m.zones 0 m.buys) _ items in
    record {
      some_zone = head.some_zone;
      zones = head.zones;
      buys = rw (buys_count bs) head.buys;
      sells = rw (sells_count bs) head.sells;
      lines = rw (lines_count bs) head.lines;
      each_buy = bids_kept m.zones 0 m.buys (else_none_left _ _ items);
      each_sell = bids_kept m.zones (length m.buys) m.sells (else_none_left _ _ after_buys);
      each_line = lines_kept m.zones (length m.buys + length m.sells) m.lines (else_none_right _ _ after_buys);
      plain = plain_said bs;
    }

-- the k-th of each sort keeps its rules
module _ (bs : List ℕ) (free : is_some (refusal_of bs) ≡ false) (k : ℕ) where
  rules : KeepsRules (market_of bs)
  rules = kept bs (is_none (refusal_of bs) free)

  pub buy_kept : k < two bs 1 → BidKept (byte bs 0) (bid (market_of bs).buys k)
  buy_kept below = rules.each_buy k (omega (arith, buys_count bs))

  pub sell_kept : k < two bs 3 → BidKept (byte bs 0) (bid (market_of bs).sells k)
  sell_kept below = rules.each_sell k (omega (arith, sells_count bs))

  pub line_kept : k < two bs 5 → LineKept (byte bs 0) (line (market_of bs).lines k)
  line_kept below = rules.each_line k (omega (arith, lines_count bs))
