-- How prices, refusals and hours are shown as text, in bytes. Assumes nothing: these are definitions.
--
--   Adds r s bs t    a write that answered r made the text t of s by putting bs behind it, if it went well
--   hundredths n     so many hundredths of the money unit, with two digits
--   zero_price       the price that stands for no money
--   money p          the price p as money with two digits: 20 is -499.80, 50000 is 0.00, 400000 is 3500.00
--   words, row       words with a space between each two; a row ends its line
--   refused r        a refusal by its number and its place: refused 4 at 14
--   sort_word s      a sort's word: buy, sell, line
--   zones_row z      the row for the number of zones; bid_row s k b, line_row k l those of the k-th bid of its sort, the k-th line
--   rows n f         f 0, f 1, .., f (n - 1) one after the other
--   nth_row m s k    the row of the k-th of a sort; sort_rows m s those of all of the sort; market_rows m all of an hour
--   listing_of bs    a row for the refusal of the bytes; or one for the zones and one for each buy, sell and line
use Rattle.std.specs.Prelude.{◌≡◌, ℕ, zero, suc, ◌-◌, ◌/◌, ◌%◌, cond, List, [], ◌∷◌, ◌++◌, Some, None, string_bytes, codes, decimal, Result, String, OnOk, nat_lt}
use Rattle.hour.specs.Bytes.{market_of, refusal_of}
use Rattle.hour.specs.Market.{Market, bid, line, count_of}
use Rattle.hour.specs.Refusals.{number_of, place_of}
use Rattle.hour.specs.declared.items.Bid.{Bid}
use Rattle.hour.specs.declared.items.Line.{Line}
use Rattle.hour.specs.declared.refusals.Refusal.{Refusal}
use Rattle.hour.specs.declared.refusals.Sort.{Sort}
use Rattle.hour.specs.declared.refusals.Sort.TheVariants as sorts

abbrev pub Adds : {X E Z : Type 0} → Result X E → String Z → List ℕ → String Z → Type 0
Adds r before bs after = OnOk r (string_bytes after ≡ string_bytes before ++ bs)

abbrev pub hundredths : ℕ → List ℕ
hundredths n = decimal (n / 100) ++ (codes "." ++ (decimal (n / 10 % 10) ++ decimal (n % 10)))

abbrev pub zero_price : ℕ
zero_price = 50000

abbrev pub money : ℕ → List ℕ
money p = cond (nat_lt p zero_price) (codes "-" ++ hundredths (zero_price - p)) (hundredths (p - zero_price))

abbrev pub words : List (List ℕ) → List ℕ
words [] = []
words (w ∷ []) = w
words (w ∷ v ∷ vs) = w ++ (32 ∷ words (v ∷ vs))

abbrev pub row : List (List ℕ) → List ℕ
row [] = 10 ∷ []
row (w ∷ []) = w ++ (10 ∷ [])
row (w ∷ v ∷ vs) = w ++ (32 ∷ row (v ∷ vs))

abbrev pub refused : Refusal → List ℕ
refused r = words (codes "refused" ∷ decimal (number_of r) ∷ codes "at" ∷ decimal (place_of r) ∷ [])

abbrev pub zones_row : ℕ → List ℕ
zones_row z = row (codes "zones" ∷ decimal z ∷ [])

abbrev pub sort_word : Sort → List ℕ
sort_word sorts.Buy = codes "buy"
sort_word sorts.Sell = codes "sell"
sort_word sorts.Line = codes "line"

abbrev pub bid_row : Sort → ℕ → Bid → List ℕ
bid_row sort k b =
    row (
    sort_word sort ∷ decimal k ∷ codes "zone" ∷ decimal b.zone
    ∷ codes "price" ∷ money b.price ∷ codes "amount" ∷ decimal b.amount ∷ []
    )

abbrev pub line_row : ℕ → Line → List ℕ
line_row k l =
    row (
    sort_word sorts.Line ∷ decimal k ∷ codes "from" ∷ decimal l.from
    ∷ codes "to" ∷ decimal l.to ∷ codes "capacity" ∷ decimal l.capacity ∷ []
    )

abbrev pub rows : ℕ → (ℕ → List ℕ) → List ℕ
rows zero f = []
rows (suc n) f = rows n f ++ f n

abbrev pub nth_row : Market → Sort → ℕ → List ℕ
nth_row m sorts.Buy k = bid_row sorts.Buy k (bid m.buys k)
nth_row m sorts.Sell k = bid_row sorts.Sell k (bid m.sells k)
nth_row m sorts.Line k = line_row k (line m.lines k)

abbrev pub sort_rows : Market → Sort → List ℕ
sort_rows m sort = rows (count_of m sort) (nth_row m sort)

abbrev pub market_rows : Market → List ℕ
market_rows m = zones_row m.zones ++ sort_rows m sorts.Buy ++ sort_rows m sorts.Sell ++ sort_rows m sorts.Line

abbrev pub listing_of : List ℕ → List ℕ
listing_of bs = elim (refusal_of bs) [ Some r ↦ row (refused r ∷ []) | None ↦ market_rows (market_of bs) ]
