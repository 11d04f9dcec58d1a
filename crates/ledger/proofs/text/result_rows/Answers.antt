use Rattle.std.proofs.Common.{◌≡◌, ℕ, ◌+◌, length, refl, sym, ap, ◌∙◌, zero-add, arith}
use Rattle.std.proofs.lemmas.List.{get_or-take, length-take-le}
use Rattle.std.proofs.lemmas.Result.{on_ok_weaker}
use Rattle.hour.specs.declared.refusals.Sort.TheVariants.{Buy, Sell, Line}
use Rattle.hour.specs.Market.{at}
use Rattle.hour.specs.Seen.{market_seen}
use Rattle.ledger.specs.Text.{zone_rows}
use Rattle.ledger.proofs.Saying.{five_parts, worth_says, zone_rows_say, item_rows_same}
use Rattle.ledger.proofs.text.result_rows.Goals as goal

pub returns : goal.returns
returns c =
    let this = c.args.cleared in
    let l = c.args.ledger.now in
    let first = c.split_at.ensures.by_index in
    let second = c.split_at-2.ensures.by_index in
    let m = market_seen this.hour in
    let buys = c.buys-buys.result in
    let sells = c.sells-sells.result in
    let lines = c.lines-lines.result in
    let room = c.requires in
    on_ok_weaker c.item_rows-3.result
    (λ last.
    five_parts _ _ _ _ _ _ _ _ _ _ _ _ _ _ _ _
    c.in_ok-worth_row.ensures c.in_ok-zone_rows.ensures c.in_ok-item_rows.ensures c.in_ok-item_rows-2.ensures last
    (worth_says this c.worth_in.result c.args.pushes c.worth_in.ensures)
    (zone_rows_say c.zones-zones.result this.prices.now _ (length-take-le c.zones-zones.result _ (omega arith)) refl
    ∙ ap (λ (n : ℕ). zone_rows n this.prices.now) c.zones-zones.ensures)
    (item_rows_same Buy (length m.buys) 0 _ c.split_at.result.0.now this.amounts.bought.now l
    (length-take-le buys _ (omega arith) ∙ c.buys-buys.ensures.count)
    (λ k h. get_or-take buys _ k 0 (omega arith))
    (λ k h. first.1 k 0 (omega arith) ∙ ap (at l) (sym (zero-add k))))
    (item_rows_same Sell (length m.sells) (length m.buys) _ c.split_at-2.result.0.now this.amounts.sold.now l
    (length-take-le sells _ (omega arith) ∙ c.sells-sells.ensures.count)
    (λ k h. get_or-take sells _ k 0 (omega arith))
    (λ k h. second.1 k 0 (omega arith) ∙ first.2 k 0 ∙ ap (λ (n : ℕ). at l (n + k)) c.buys-buys.ensures.count))
    (item_rows_same Line (length m.lines) (length m.buys + length m.sells) _ _ this.amounts.flow.now l (length-take-le lines _ (omega arith) ∙ c.lines-lines.ensures.count)
    (λ k h. get_or-take lines _ k 0 (omega arith))
    (λ k h.
    let place : buys + (sells + k) ≡ length m.buys + length m.sells + k = omega arith in
    get_or-take lines _ k 0 (omega arith) ∙ second.2 k 0 ∙ first.2 (sells + k) 0 ∙ ap (at l) place)))
    c.item_rows-3.ensures
