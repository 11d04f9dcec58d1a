-- A bid that is looked at: where it lies, and whether it takes or gives. Assumes nothing.
use Rattle.std.proofs.Common.{◌≡◌, ℕ, ◌+◌, ◌^◌, ◌<◌, Bool, true, false, cond, ltb, List, length, set, sym, refl, ap, ◌∙◌, arith}
use Rattle.std.proofs.Math.Seq.{map-set_same}
use Rattle.std.proofs.lemmas.List.{length-set}
use Rattle.std.proofs.lemmas.Bool.{eq-eqb}
use Rattle.hour.specs.Market.{at, bid}
use Rattle.hour.specs.declared.items.Bid.{Bid}
use Rattle.network.proofs.Items.{nth_buy, nth_sell}
use Rattle.network.proofs.Rows.{length_bids_in}
use Rattle.network.specs.Tables.{items}
use Rattle.network.specs.Ways.{room}
use Rattle.hour.specs.declared.items.Item.{Item}
use Rattle.hour.specs.declared.items.Item.TheVariants.{Buy, Sell}
use Rattle.network.specs.declared.tables.Amounts.{Amounts}
use Rattle.network.specs.declared.tables.Tables.{Tables}
use Rattle.paths.specs.Bids.{item_no, taking, giving, zone_of, price_of}
use Rattle.network.specs.Given.{market_given, outcome_given}
use Rattle.paths.specs.Search.{Sound, Looks, Looked}
use Rattle.paths.specs.Ways.{no_way, way_at, taker_noted, giver_noted}
use Rattle.paths.specs.declared.ways.Way.{Way}
use Rattle.paths.proofs.Noted.{takers_more, givers_more}
use Rattle.paths.proofs.Steps.{room_left}
use Rattle.paths.proofs.Zones.{worth_is, out_is, ask_is, giver_is, replaced}

-- bid n of all is the item i, with room each way as two tests say
module _
    (t : Tables) (o : Amounts) (n : ℕ) (i : Item) (b : Bid) (tk gv : Bool)
    (number : item_no (market_given t) n ≡ i) (takes : tk ≡ ltb 0 (room (market_given t) (outcome_given o) (taking i)))
    (gives : gv ≡ ltb 0 (room (market_given t) (outcome_given o) (giving i)))
  where
    item_looks :
        zone_of (market_given t) i ≡ b.zone → b.price ≡ price_of (market_given t) i → b.zone < t.zones →
        b.price < 2 ^ 32 → n < 2 ^ 34 → Looks t o n b tk gv
    item_looks zone price within small few =
        record {
          zone = ap (zone_of (market_given t)) number ∙ zone;
          price = price ∙ ap (price_of (market_given t)) (sym number);
          within = within;
          small = small;
          few = few;
          takes = rw (number, zone, eq-eqb b.zone b.zone refl) takes;
          gives = rw (number, zone, eq-eqb b.zone b.zone refl) gives;
        }

-- one of n bids in a table, as it was read
module _ (t : Tables) (o : Amounts) (sound : Sound t o) {n k : ℕ} {b : Bid} (within : k < n) where
  pub buy_looks :
      n ≡ items t.buys.now → b ≡ bid (market_given t).buys k →
      Looks t o k b (ltb (at o.bought.now k) b.amount) (ltb 0 (at o.bought.now k))
  buy_looks count is =
      let inside : k < items t.buys.now = omega arith in
      let below : k < length (market_given t).buys = omega (arith, length_bids_in t.buys.now) in
      rw is
      (item_looks t o k (Buy k) _ _ _ (nth_buy _ _ k below) (room_left _ _) refl refl refl
      (sound.tables.proper.buys k below) (sound.tables.buy_prices k inside) (omega (arith, sound.tables.buys)))

  pub sell_looks :
      (buys : ℕ) → buys ≡ items t.buys.now → n ≡ items t.sells.now → b ≡ bid (market_given t).sells k →
      Looks t o (buys + k) b (ltb 0 (at o.sold.now k)) (ltb (at o.sold.now k) b.amount)
  sell_looks buys first count is =
      let inside : k < items t.sells.now = omega arith in
      let below : k < length (market_given t).sells = omega (arith, length_bids_in t.sells.now) in
      let number : item_no (market_given t) (buys + k) ≡ Sell k =
      nth_sell _ _ (buys + k) k (omega (arith, length_bids_in t.buys.now)) below
      in
      rw is
      (item_looks t o (buys + k) (Sell k) _ _ _ number refl (room_left _ _) refl refl
      (sound.tables.proper.sells k below) (sound.tables.sell_prices k inside)
      (omega (arith, sound.tables.buys, sound.tables.sells)))

-- what is noted of a bid as a taker and as a giver, number by number
both_noted :
    (b c : Bool) (p n : ℕ) (w w₁ w₂ : Way) → w₁ ≡ cond b (record w { worth = p; out = n }) w →
    w₂ ≡ cond c (record w₁ { ask = p; giver = n }) w₁ →
    record {
      worth : w₂.worth ≡ cond b p w.worth;
      out : w₂.out ≡ cond b n w.out;
      ask : w₂.ask ≡ cond c p w.ask;
      giver : w₂.giver ≡ cond c n w.giver;
      far : w₂.far ≡ w.far;
      asked : w₁.ask ≡ w.ask;
    }
both_noted true true p n w w₁ w₂ taken given =
    rw (given, taken) (record { worth = refl; out = refl; ask = refl; giver = refl; far = refl; asked = refl })
both_noted true false p n w w₁ w₂ taken given =
    rw (given, taken) (record { worth = refl; out = refl; ask = refl; giver = refl; far = refl; asked = refl })
both_noted false true p n w w₁ w₂ taken given =
    rw (given, taken) (record { worth = refl; out = refl; ask = refl; giver = refl; far = refl; asked = refl })
both_noted false false p n w w₁ w₂ taken given =
    rw (given, taken) (record { worth = refl; out = refl; ask = refl; giver = refl; far = refl; asked = refl })

-- a bid's zone with what is noted of it
module _
    {t : Tables} {o : Amounts} {n : ℕ} {b : Bid} {tk gv : Bool} (looks : Looks t o n b tk gv) {ways : List Way}
    (looked : Looked t o n ways) {w₁ w₂ : Way} (taken : w₁ ≡ taker_noted tk b.price n (way_at ways b.zone))
    (given : w₂ ≡ giver_noted gv b.price n w₁)
  where
    pub bid_looked : Looked t o (n + 1) (set ways b.zone w₂)
    bid_looked =
        let inside : b.zone < length ways = omega (arith, looks.within, looked.zones) in
        let noted = both_noted _ _ (b.price + 1) (n + 1) (way_at ways b.zone) w₁ w₂ taken given in
        record {
          zones = length-set ways b.zone w₂ ∙ looked.zones;
          takers =
              takers_more (market_given t) (outcome_given o) n b.zone b.price looks.price looks.zone _ _ _ _ looked.takers
              (replaced (λ (x : Way). x.worth) ways b.zone w₂ _ inside
              (noted.worth ∙ rw (looks.takes, worth_is ways b.zone)))
              (replaced (λ (x : Way). x.out) ways b.zone w₂ _ inside
              (noted.out ∙ rw (looks.takes, worth_is ways b.zone, out_is ways b.zone)));
          givers =
              givers_more (market_given t) (outcome_given o) n b.zone b.price looks.price looks.zone _ _ _ _ looked.givers
              (replaced (λ (x : Way). x.ask) ways b.zone w₂ _ inside
              (noted.ask ∙ rw (noted.asked, looks.gives, ask_is ways b.zone)))
              (replaced (λ (x : Way). x.giver) ways b.zone w₂ _ inside
              (noted.giver ∙ rw (noted.asked, looks.gives, ask_is ways b.zone, giver_is ways b.zone)));
          near = λ v.
              ap (λ xs. at xs v) (map-set_same (λ (x : Way). x.far) ways b.zone w₂ no_way noted.far) ∙ looked.near v;
        }
