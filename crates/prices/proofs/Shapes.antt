-- Tables that break no rule are those of a market that keeps them. Assumes nothing.
use Rattle.std.proofs.Common.{◌≡◌, ℕ, ◌+◌, eqb, List, length, None, sym, pos_of_ne-zero}
use Rattle.std.proofs.lemmas.Bool.{eqb-false, ltb-false, or_parts}
use Rattle.hour.proofs.First.{else_none_left, else_none_right, when_none}
use Rattle.hour.proofs.Kept.{bids_kept, lines_kept}
use Rattle.hour.specs.First.{◌else◌}
use Rattle.hour.specs.Market.{Market, Plain}
use Rattle.hour.specs.Rules.{bids_fault, all_lines_fault, counts_fault, item_fault, KeepsRules}
use Rattle.hour.specs.declared.rules.Lengths.{Lengths}
use Rattle.network.proofs.Rows.{length_bids_in, length_lines_in, plain_in}
use Rattle.network.specs.Tables.{items, bids_in, lines_in, market_in}
use Rattle.prices.specs.Ended.{layout_fault, slices_fault, tables_fault}

-- the items' faults, with the counts as the tables have them
pub items_counted :
    (z : ℕ) (buys sells lines : List ℕ) (b s : ℕ) → b ≡ items buys → s ≡ items sells →
    (bids_fault z 0 (bids_in buys) else bids_fault z b (bids_in sells) else all_lines_fault z (b + s) (lines_in lines))
    ≡ item_fault (market_in z buys sells lines)
items_counted z buys sells lines b s buy_rows sell_rows =
    rw (buy_rows, sell_rows) (sym (rw (length_bids_in buys, length_bids_in sells)))

-- what counts and items that break no rule say of a market
pub rules_kept :
    (m : Market) → counts_fault m.zones (length m.buys) (length m.sells) (length m.lines) ≡ None →
    item_fault m ≡ None → Plain m → KeepsRules m
rules_kept m counts each plain =
    let zones = or_parts (eqb m.zones 0) _ (when_none _ _ (else_none_left _ _ counts)) in
    let after_zones = else_none_right _ _ counts in
    let after_buys = else_none_right _ _ after_zones in
    let later = else_none_right (bids_fault m.zones 0 m.buys) _ each in
    record {
      some_zone = pos_of_ne-zero (eqb-false m.zones 0 zones.0);
      zones = ltb-false _ _ zones.1;
      buys = ltb-false _ _ (when_none _ _ (else_none_left _ _ after_zones));
      sells = ltb-false _ _ (when_none _ _ (else_none_left _ _ after_buys));
      lines = ltb-false _ _ (when_none _ _ (else_none_right _ _ after_buys));
      each_buy = bids_kept m.zones 0 m.buys (else_none_left _ _ each);
      each_sell = bids_kept m.zones (length m.buys) m.sells (else_none_left _ _ later);
      each_line = lines_kept m.zones (length m.buys + length m.sells) m.lines (else_none_right _ _ later);
      plain = plain;
    }

pub tables_kept :
    (z : ℕ) (buys sells lines : List ℕ) (has : Lengths) (work : ℕ) →
    tables_fault z buys sells lines has work ≡ None → KeepsRules (market_in z buys sells lines)
tables_kept z buys sells lines has work none =
    let layout = else_none_left (layout_fault z buys sells lines) _ none in
    let later = else_none_right (layout_fault z buys sells lines) _ none in
    rules_kept (market_in z buys sells lines)
    (rw (length_bids_in buys, length_bids_in sells, length_lines_in lines) (else_none_left _ _ layout))
    (else_none_right (slices_fault z buys sells lines has work) _ later)
    (plain_in z buys sells lines)
