use Rattle.std.proofs.Common.{sym, ◌∙◌, arith}
use Rattle.network.proofs.Rows.{length_bids_in, length_lines_in}
use Rattle.paths.proofs.Exits.{leaves_own, leaves_found, leaves_nowhere}
use Rattle.paths.proofs.search.ways_out.Goals as goal

pub zones-preserved-then-ways-v-eq0 : goal.zones-preserved-then-ways-v-eq0
zones-preserved-then-ways-v-eq0 c =
    leaves_own c.requires.labels (omega arith) c.zones.invariant c.if-ways-v-eq0.true

pub zones-preserved-then-leads_onward : goal.zones-preserved-then-leads_onward
zones-preserved-then-leads_onward c =
    let t = c.args.given.tables in
    let inner = c.loop-l.invariant in
    leaves_found c.requires.labels (omega arith) inner.before
    (c.row_count-l-end.ensures ∙ sym (length_lines_in t.lines.now)) (omega arith) inner.away inner.none c.loop-l-test.true
    (sym c.leads_onward.ensures ∙ c.if-leads_onward.true)
    (omega (arith, c.row_count.ensures, c.row_count-2.ensures, length_bids_in t.buys.now, length_bids_in t.sells.now))

pub zones-preserved : goal.zones-preserved
zones-preserved c =
    let inner = c.loop-l.invariant in
    leaves_nowhere c.requires.labels (omega arith) inner.before
    (c.row_count-l-end.ensures ∙ sym (length_lines_in c.args.given.tables.lines.now)) (omega arith) inner.away inner.none
    c.loop-l-test.false (omega arith)
