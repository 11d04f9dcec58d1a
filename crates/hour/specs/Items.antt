-- The items of a market by their sorts. Assumes nothing: this is a definition.
--
--   item s k   the k-th of a sort
use Rattle.std.specs.Prelude.{ℕ}
use Rattle.hour.specs.declared.items.Item.{Item}
use Rattle.hour.specs.declared.items.Item.TheVariants as items
use Rattle.hour.specs.declared.refusals.Sort.{Sort}
use Rattle.hour.specs.declared.refusals.Sort.TheVariants as sorts

abbrev pub item : Sort → ℕ → Item
item sorts.Buy k = items.Buy k
item sorts.Sell k = items.Sell k
item sorts.Line k = items.Line k
