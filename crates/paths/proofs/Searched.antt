-- What a search has noted of the bids starts the labels, and what it leaves is a plan. Assumes nothing.
use Rattle.std.proofs.Common.{◌≡◌, ℕ, ◌+◌, ◌-◌, ◌^◌, ◌<◌, ◌≤◌, Bool, List, length, replicate, sym, ap, ◌∙◌, subst, subst₂, ap₂, inl, inr, arith}
use Rattle.std.proofs.lemmas.List.{length-map, length-replicate}
use Rattle.std.proofs.lemmas.Bool.{cases_lt}
use Rattle.hour.specs.Market.{at}
use Rattle.network.proofs.Rows.{length_bids_in}
use Rattle.network.specs.Tables.{items}
use Rattle.network.specs.declared.tables.Amounts.{Amounts}
use Rattle.network.specs.declared.tables.Tables.{Tables}
use Rattle.paths.specs.Bids.{bids, item_no, price_of}
use Rattle.paths.specs.Labels.{BestLabels}
use Rattle.paths.specs.Plan.{out_no, Planned}
use Rattle.network.specs.Given.{market_given, outcome_given}
use Rattle.paths.specs.Search.{Sound, Noted, Looked, KeepsBids, KeepsAllButOut, Settling, top}
use Rattle.paths.specs.Ways.{no_way, worths, fars, outs, plan_of}
use Rattle.paths.specs.declared.ways.Way.{Way}
use Rattle.paths.proofs.Bids.{buy_no, sell_no, own_limit}
use Rattle.paths.proofs.Raising.{reaching_start}
use Rattle.paths.proofs.Zones.{worth_is, far_is, out_is, ask_is, giver_is, none_there}

-- no way has a bid yet
pub nothing_looked :
    (t : Tables) (o : Amounts) (n : ℕ) (ways : List Way) → n ≡ t.zones → ways ≡ replicate n no_way → Looked t o 0 ways
nothing_looked t o n ways each none =
    rw none
    (record {
      zones = length-replicate n no_way ∙ each;
      takers =
          record {
            worth = λ v below. worth_is _ v ∙ ap (λ (w : Way). w.worth) (none_there n v);
            number = λ v below. out_is _ v ∙ ap (λ (w : Way). w.out) (none_there n v);
          };
      givers =
          record {
            worth = λ v below. ask_is _ v ∙ ap (λ (w : Way). w.ask) (none_there n v);
            number = λ v below. giver_is _ v ∙ ap (λ (w : Way). w.giver) (none_there n v);
          };
      near = λ v. far_is _ v ∙ ap (λ (w : Way). w.far) (none_there n v);
    })

-- what was noted of the bids of both tables is noted of all
pub all_noted :
    (t : Tables) {ok beats : ℕ → ℕ → Bool} {ws xs : List ℕ} →
    Noted (market_given t) ok beats (items t.buys.now + items t.sells.now) ws xs →
    Noted (market_given t) ok beats (bids (market_given t)) ws xs
all_noted t {ok} {beats} {ws} {xs} noted =
    subst (λ n. Noted (market_given t) ok beats n ws xs)
    (sym (ap₂ ◌+◌ (length_bids_in t.buys.now) (length_bids_in t.sells.now))) noted

module _ (t : Tables) (o : Amounts) (sound : Sound t o) where
  small_prices : (k : ℕ) → k < bids (market_given t) → price_of (market_given t) (item_no (market_given t) k) ≤ 2 ^ 32 - 1
  small_prices k below =
      let buys = length_bids_in t.buys.now in
      let sells = length_bids_in t.sells.now in
      elim (cases_lt k (length (market_given t).buys)) [
        | inl buy ↦ rw (buy_no (market_given t) k buy) (omega (arith, sound.tables.buy_prices k (omega arith)))
        | inr past ↦
            let j = k - length (market_given t).buys in
            let at_j : k ≡ length (market_given t).buys + j = omega arith in
            let inside : j < length (market_given t).sells = omega arith in
            rw (at_j, sell_no (market_given t) j inside) (omega (arith, sound.tables.sell_prices j (omega arith)))
      ]

  pub settling_start : (ways : List Way) → Looked t o (items t.buys.now + items t.sells.now) ways → Settling t o ways
  settling_start ways looked =
      reaching_start (market_given t) (outcome_given o) top (worths ways) (fars ways)
      (length-map ways (λ (w : Way). w.worth) ∙ looked.zones) (length-map ways (λ (w : Way). w.far) ∙ looked.zones)
      (all_noted t looked.takers).worth (λ v below. looked.near v)
      (λ v below. omega (arith, own_limit (market_given t) (outcome_given o) v (2 ^ 32 - 1) small_prices))

  -- ways with the bids that were looked at, labels on which no line is better, and ways out
  pub planned_ways :
      (seen settled ways : List Way) → length ways ≡ t.zones →
      Looked t o (items t.buys.now + items t.sells.now) seen →
      BestLabels (market_given t) (outcome_given o) (worths settled) (fars settled) → KeepsBids seen settled →
      ((v : ℕ) → v < t.zones → at (outs ways) v ≡ out_no (market_given t) (outcome_given o) (worths ways) (fars ways) v) →
      KeepsAllButOut settled ways → Planned (market_given t) (outcome_given o) (plan_of ways)
  planned_ways seen settled ways each looked labels bids out others =
      record {
        labels =
            subst₂ (λ ws fs. BestLabels (market_given t) (outcome_given o) ws fs) (sym others.worth) (sym others.far) labels;
        out = out;
        ask = λ v below.
            ap (λ xs. at xs v) (others.ask ∙ bids.ask) ∙ (all_noted t looked.givers).worth v below;
        giver = λ v below.
            ap (λ xs. at xs v) (others.giver ∙ bids.giver) ∙ (all_noted t looked.givers).number v below;
        worth_long = length-map ways (λ (w : Way). w.worth) ∙ each;
        far_long = length-map ways (λ (w : Way). w.far) ∙ each;
        out_long = length-map ways (λ (w : Way). w.out) ∙ each;
        ask_long = length-map ways (λ (w : Way). w.ask) ∙ each;
        giver_long = length-map ways (λ (w : Way). w.giver) ∙ each;
      }
