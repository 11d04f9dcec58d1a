-- The market's words again, by recursion over two lists and with no index in a sum. Assumes nothing: these are definitions.
--
--   zone_amount z bs xs       the amounts xs of those bids that lie in zone z, together
--   flow_into z ls fs         what flows into zone z over the lines ls; flow_out_of z ls fs what flows out of it
--   at_bid_prices bs xs       the amounts at the bids' own prices
--   at_zone_prices ps bs xs   the amounts at the prices of the bids' zones
--   at_from_prices ps ls fs   the flows at the prices where the lines begin; at_to_prices ps ls fs where they end
--   Each xs P                 P k x holds of every x of the list xs, k being its place
--   BidsWithin bs xs          every amount is within its bid's
--   LinesWithin ls fs         every flow is within its line's capacity
--   FeasibleByLists m o       o can be carried out: limits kept, every zone in balance
--   ProperByLists m           every zone that is named is a zone
--   SettledByLists m o ps     who beats the price is served whole, who is beaten has nothing; a line is full where the price
--                             rises along it and empty where it falls
--   EvenMoney m o ps          buyers pay what sellers get and lines earn; no line earns less than nothing, nor do all together
--   Regretless m o ps         nobody's surplus is higher at another amount within the limit
--
-- A recursion takes the first number of its second list and goes on with the rest, `drop 1`. A number that a list lacks is 0.
-- Of two sides of an order, what is subtracted stands on the other side: a surplus is what an amount brings less what it costs.
use Rattle.std.specs.Prelude.{◌≡◌, ℕ, ◌+◌, ◌*◌, ◌<◌, ◌≤◌, cond, ◌==◌, List, [], ◌∷◌, length, drop, slice_index, slice_index_or}
use Rattle.hour.specs.declared.items.Bid.{Bid}
use Rattle.hour.specs.declared.items.Line.{Line}
use Rattle.hour.specs.Market.{Market, Outcome}

abbrev pub zone_amount : ℕ → List Bid → List ℕ → ℕ
zone_amount z [] xs = 0
zone_amount z (b ∷ bs) xs = cond (b.zone == z) (slice_index xs 0) 0 + zone_amount z bs (drop 1 xs)

abbrev pub flow_into : ℕ → List Line → List ℕ → ℕ
flow_into z [] fs = 0
flow_into z (l ∷ ls) fs = cond (l.to == z) (slice_index fs 0) 0 + flow_into z ls (drop 1 fs)

abbrev pub flow_out_of : ℕ → List Line → List ℕ → ℕ
flow_out_of z [] fs = 0
flow_out_of z (l ∷ ls) fs = cond (l.from == z) (slice_index fs 0) 0 + flow_out_of z ls (drop 1 fs)

abbrev pub at_bid_prices : List Bid → List ℕ → ℕ
at_bid_prices [] xs = 0
at_bid_prices (b ∷ bs) xs = b.price * slice_index xs 0 + at_bid_prices bs (drop 1 xs)

abbrev pub at_zone_prices : List ℕ → List Bid → List ℕ → ℕ
at_zone_prices ps [] xs = 0
at_zone_prices ps (b ∷ bs) xs = slice_index ps b.zone * slice_index xs 0 + at_zone_prices ps bs (drop 1 xs)

abbrev pub at_from_prices : List ℕ → List Line → List ℕ → ℕ
at_from_prices ps [] fs = 0
at_from_prices ps (l ∷ ls) fs = slice_index ps l.from * slice_index fs 0 + at_from_prices ps ls (drop 1 fs)

abbrev pub at_to_prices : List ℕ → List Line → List ℕ → ℕ
at_to_prices ps [] fs = 0
at_to_prices ps (l ∷ ls) fs = slice_index ps l.to * slice_index fs 0 + at_to_prices ps ls (drop 1 fs)

-- The default d stands for what is behind the list's end, of which nothing is said.
abbrev pub Each : {A : Type 0} → List A → (ℕ → A → Type 0) → Type 0
Each {A} xs P = (k : ℕ) (d : A) → k < length xs → P k (slice_index_or xs k d)

abbrev pub BidsWithin : List Bid → List ℕ → Type 0
BidsWithin bs xs = Each bs (λ k b. slice_index xs k ≤ b.amount)

abbrev pub LinesWithin : List Line → List ℕ → Type 0
LinesWithin ls fs = Each ls (λ k l. slice_index fs k ≤ l.capacity)

pub record FeasibleByLists (m : Market) (o : Outcome) : Type 0 where
  pub buys : BidsWithin m.buys o.bought
  pub sells : BidsWithin m.sells o.sold
  pub lines : LinesWithin m.lines o.flow
  pub balance :
      (z : ℕ) → z < m.zones →
      zone_amount z m.sells o.sold + flow_into z m.lines o.flow
      ≡ zone_amount z m.buys o.bought + flow_out_of z m.lines o.flow

pub record ProperByLists (m : Market) : Type 0 where
  pub buys : Each m.buys (λ k b. b.zone < m.zones)
  pub sells : Each m.sells (λ k b. b.zone < m.zones)
  pub from : Each m.lines (λ k l. l.from < m.zones)
  pub to : Each m.lines (λ k l. l.to < m.zones)

pub record SettledByLists (m : Market) (o : Outcome) (ps : List ℕ) : Type 0 where
  pub buy_more : Each m.buys (λ k b. slice_index ps b.zone < b.price → slice_index o.bought k ≡ b.amount)
  pub buy_less : Each m.buys (λ k b. b.price < slice_index ps b.zone → slice_index o.bought k ≡ 0)
  pub sell_more : Each m.sells (λ k b. b.price < slice_index ps b.zone → slice_index o.sold k ≡ b.amount)
  pub sell_less : Each m.sells (λ k b. slice_index ps b.zone < b.price → slice_index o.sold k ≡ 0)
  pub rises :
      Each m.lines (λ k l. slice_index ps l.from < slice_index ps l.to → slice_index o.flow k ≡ l.capacity)
  pub falls : Each m.lines (λ k l. slice_index ps l.to < slice_index ps l.from → slice_index o.flow k ≡ 0)

pub record EvenMoney (m : Market) (o : Outcome) (ps : List ℕ) : Type 0 where
  pub even :
      at_zone_prices ps m.buys o.bought + at_from_prices ps m.lines o.flow
      ≡ at_zone_prices ps m.sells o.sold + at_to_prices ps m.lines o.flow
  pub lines : at_from_prices ps m.lines o.flow ≤ at_to_prices ps m.lines o.flow
  pub each_line :
      Each
      m.lines
      (λ k l. slice_index ps l.from * slice_index o.flow k ≤ slice_index ps l.to * slice_index o.flow k)

pub record Regretless (m : Market) (o : Outcome) (ps : List ℕ) : Type 0 where
  pub buys :
      Each m.buys (λ k b.
      (x : ℕ) → x ≤ b.amount →
      b.price * x + slice_index ps b.zone * slice_index o.bought k
      ≤ b.price * slice_index o.bought k + slice_index ps b.zone * x)
  pub sells :
      Each m.sells (λ k b.
      (x : ℕ) → x ≤ b.amount →
      slice_index ps b.zone * x + b.price * slice_index o.sold k
      ≤ slice_index ps b.zone * slice_index o.sold k + b.price * x)
  pub lines :
      Each m.lines (λ k l.
      (x : ℕ) → x ≤ l.capacity →
      slice_index ps l.to * x + slice_index ps l.from * slice_index o.flow k
      ≤ slice_index ps l.to * slice_index o.flow k + slice_index ps l.from * x)
