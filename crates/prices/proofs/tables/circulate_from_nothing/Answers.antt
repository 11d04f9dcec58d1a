use Rattle.std.proofs.Common.{◌∙◌, sym, arith}
use Rattle.circulation.proofs.Few.{top_small}
use Rattle.network.proofs.Rows.{length_bids_in, length_lines_in, plain_in}
use Rattle.network.specs.Given.{market_given}
use Rattle.prices.proofs.Bounds.{bounded_kept, filled_with, zeros_feasible}
use Rattle.prices.proofs.tables.circulate_from_nothing.Goals as goal

pub circulate-requires : goal.circulate-requires
circulate-requires c =
    let t = c.args.t in
    let asked = c.requires in
    let buys = asked.bought ∙ sym (length_bids_in t.buys.now) in
    let sells = asked.sold ∙ sym (length_bids_in t.sells.now) in
    let lines = asked.flow ∙ sym (length_lines_in t.lines.now) in
    let bought = filled_with _ _ _ (c.fill.ensures.after (λ y same. same)) buys in
    let sold = filled_with _ _ _ (c.fill-2.ensures.after (λ y same. same)) sells in
    let flow = filled_with _ _ _ (c.fill-3.ensures.after (λ y same. same)) lines in
    record {
      tables = bounded_kept t asked.kept;
      spaced = omega (arith, c.fill.ensures.len, c.fill-2.ensures.len, c.fill-3.ensures.len);
      zones = asked.zones;
      few = omega (arith, top_small (market_given t) asked.kept);
      feasible = zeros_feasible (market_given t) (plain_in _ _ _ _) _ _ _ bought sold flow;
    }
