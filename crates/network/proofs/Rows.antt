-- What tables of numbers say, as sums over their items. Assumes nothing.
use Rattle.std.proofs.Common.{◌≡◌, ℕ, ◌+◌, ◌*◌, ◌<◌, ◌≤◌, cond, eqb, List, [], length, get_or, ap, refl, arith}
use Rattle.std.proofs.lemmas.List.FromFn.{length-map-range_with_len}
use Rattle.hour.specs.Total.{total, tagged}
use Rattle.hour.specs.declared.items.Bid.{Bid}
use Rattle.hour.specs.declared.items.Line.{Line}
use Rattle.hour.specs.Market.{Plain, at, bid, worth, in_zone, into, out_of}
use Rattle.hour.proofs.Total.{total_listed, total_more, total_part}
use Rattle.network.specs.Tables.{cell, items, triples, nth_row, bids_in, lines_in, market_in, zone_total}
use Rattle.network.proofs.Items.{Counts}
use Rattle.network.proofs.Triples.{row_made}

pub in_zone_in :
    (t xs : List ℕ) (z : ℕ) → in_zone z (bids_in t) xs ≡ zone_total t 0 z xs
in_zone_in t xs z = total_listed (items t) _ _ (λ k b. cond (eqb b.zone z) (at xs k) 0)

pub out_of_in :
    (t fs : List ℕ) (z : ℕ) → out_of z (lines_in t) fs ≡ zone_total t 0 z fs
out_of_in t fs z = total_listed (items t) _ _ (λ k l. cond (eqb l.from z) (at fs k) 0)

pub into_in :
    (t fs : List ℕ) (z : ℕ) → into z (lines_in t) fs ≡ zone_total t 1 z fs
into_in t fs z = total_listed (items t) _ _ (λ k l. cond (eqb l.to z) (at fs k) 0)

pub length_bids_in : (t : List ℕ) → length (bids_in t) ≡ items t
length_bids_in t = length-map-range_with_len _ 0 (items t)

pub length_lines_in : (t : List ℕ) → length (lines_in t) ≡ items t
length_lines_in t = length-map-range_with_len _ 0 (items t)

pub counts_in :
    (zones : ℕ) (buys sells lines : List ℕ) →
    Counts (market_in zones buys sells lines) (items buys) (items sells) (items lines)
counts_in zones buys sells lines = (length_bids_in buys, length_bids_in sells, length_lines_in lines)

-- a line of three numbers costs nothing
abbrev as_line : ℕ → ℕ → ℕ → Line
as_line from to capacity = record { from = from; to = to; capacity = capacity; cost = 0 }

pub row_costless : (t : List ℕ) (k : ℕ) → (nth_row as_line t k).cost ≡ 0
row_costless t k = ap (λ (l : Line). l.cost) (row_made as_line t k).0

pub plain_in : (zones : ℕ) (buys sells lines : List ℕ) → Plain (market_in zones buys sells lines)
plain_in zones buys sells lines = record { costless = λ k below. row_costless lines k; unsupplied = refl }

-- the worth of the first n bids, and a loop over the rows: one more, which is no more than all
abbrev pub worth_to : List Bid → List ℕ → ℕ → ℕ
worth_to bs xs n = total n (λ k. (bid bs k).price * at xs k)

-- a bid of three numbers
abbrev as_bid : ℕ → ℕ → ℕ → Bid
as_bid zone price amount = record { zone = zone; price = price; amount = amount }

module _ (t xs : List ℕ) (k : ℕ) (below : k < items t) where
  worth_more : worth_to (bids_in t) xs k + get_or (get_or (triples t) k []) 1 0 * at xs k ≡ worth_to (bids_in t) xs (k + 1)
  worth_more =
      let made = (row_made as_bid t k).0 in
      omega (arith, total_more k (λ j. (bid (bids_in t) j).price * at xs j), ap (λ (b : Bid). b.price * at xs k) made)

  worth_part : worth_to (bids_in t) xs (k + 1) ≤ worth (bids_in t) xs
  worth_part =
      total_part (k + 1) (length (bids_in t)) (λ j. (bid (bids_in t) j).price * at xs j) (omega (arith, length_bids_in t))

  pub worth_turn :
      (worth_to (bids_in t) xs k + get_or (get_or (triples t) k []) 1 0 * at xs k ≡ worth_to (bids_in t) xs (k + 1))
      × (worth_to (bids_in t) xs (k + 1) ≤ worth (bids_in t) xs)
  worth_turn = (worth_more, worth_part)

-- the amounts with the zone among the first n items
abbrev pub tagged_to : List ℕ → List ℕ → ℕ → ℕ → ℕ → ℕ
tagged_to t xs c z n = tagged n (λ k. cell t k c) z (at xs)
