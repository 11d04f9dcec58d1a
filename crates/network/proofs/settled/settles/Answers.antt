-- All items are content, or the first that is not shows that the prices do not settle.
use Rattle.std.proofs.Common.{ℕ, refl, rules, arith}
use Rattle.std.proofs.lemmas.Iterator.{cases_from_all, YieldsList-from_range}
use borrow.Author.Tests.{tests}
use Rattle.network.specs.Network.{ContentItem, nth}
use Rattle.network.specs.Tables.{items, market_in, outcome_in}
use Rattle.network.proofs.Items.{settled_by_each}
use Rattle.network.proofs.Rows.{counts_in}
use Rattle.network.proofs.settled.settles.Goals as goal

pub returns : goal.returns
returns c =
    let t = c.args.t in
    let IsContent : ℕ → Type 0 =
    λ k.
    ContentItem (market_in t.zones t.buys.now t.sells.now t.lines.now)
    (outcome_in c.args.o.bought.now c.args.o.sold.now c.args.o.flow.now) c.args.prices.now
    (nth (items t.buys.now) (items t.sells.now) k)
    in
    settled_by_each _ _ _ _ _ _ c.item_count.result (counts_in t.zones t.buys.now t.sells.now t.lines.now)
    c.item_count.ensures c.all.result
    (cases_from_all _ _ _ IsContent (λ k. IsContent k → ⊥) c.all.ensures.ran
    (YieldsList-from_range 0 c.item_count.result c.item_count.result refl (omega arith))
    (λ x q k. search (rules, tests)) (λ x q k. search (rules, tests)))
