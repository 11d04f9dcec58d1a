use Rattle.std.proofs.Common.{arith}
use Rattle.network.proofs.Rows.{length_bids_in, length_lines_in}
use Rattle.prices.proofs.Entries.{found_front}
use Rattle.prices.proofs.tables.clear_slices.Goals as goal

pub returns-clause-found : goal.returns-clause-found
returns-clause-found c =
    let t = c.args.t in
    found_front _ _ _ _ _ _ _ _ _ _ (omega (arith, length_bids_in t.buys.now)) (omega (arith, length_bids_in t.sells.now))
    (omega (arith, length_lines_in t.lines.now)) (omega arith) c.clear_fitted.ensures
