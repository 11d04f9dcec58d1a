-- Labels: what each zone's best way to the hub is worth, and over how many lines. Assumes nothing: these are definitions.
--
--   Leads m o v w s      the step s is free and leads from zone v to zone w
--   Over m o l v w       line l leads from zone v to zone w, forward or backward, through what is left free
--   Along m o k v c      a way of k free lines leads from zone v to a zone whose own taker is worth c
--   NoBetter c k a b     a way worth c over k lines is no better than one worth a over b lines; a way is better if it is
--                        worth more, or as much over fewer lines
--   BestLabels m o worth far
--                        worth and far are what each zone's best way is worth and how many lines it takes; as a table has
--                        it: 0 and 0 where no free way leads to the hub, else one more than its worth, and its lines
--
-- In a plain market lines cost nothing, so a way is worth what its last step, along a taker's bid to the hub, is worth.
use Rattle.std.specs.Prelude.{◌≡◌, ℕ, zero, suc, ◌<◌, ◌≤◌, ◌⊎◌, List}
use Rattle.hour.specs.Market.{Market, Outcome, at}
use Rattle.network.specs.Ways.{Free, start, finish}
use Rattle.hour.specs.declared.items.Item.TheVariants.{Line}
use Rattle.network.specs.declared.arcs.Step.{Step}
use Rattle.network.specs.declared.arcs.Step.TheVariants.{Forward, Backward}
use Rattle.paths.specs.Bids.{own}

pub record Leads (m : Market) (o : Outcome) (v w : ℕ) (s : Step) : Type 0 where
  pub free : Free m o s
  pub from : start m s ≡ v
  pub to : finish m s ≡ w

abbrev pub Over : Market → Outcome → ℕ → ℕ → ℕ → Type 0
Over m o l v w = Leads m o v w (Forward (Line l)) ⊎ Leads m o v w (Backward (Line l))

abbrev pub Along : Market → Outcome → ℕ → ℕ → ℕ → Type 0
Along m o zero v c = own m o v ≡ c
Along m o (suc k) v c = (l : ℕ) × (w : ℕ) × Over m o l v w × Along m o k w c

pub record NoBetter (c k a b : ℕ) : Type 0 where
  pub worth : c ≤ a
  pub lines : c ≡ a → b ≤ k

pub record BestLabels (m : Market) (o : Outcome) (worth far : List ℕ) : Type 0 where
  pub way : (v : ℕ) → v < m.zones → 0 < at worth v → Along m o (at far v) v (at worth v)
  pub none : (v : ℕ) → v < m.zones → at worth v ≡ 0 → at far v ≡ 0
  pub own : (v : ℕ) → v < m.zones → 0 < own m o v → NoBetter (own m o v) 0 (at worth v) (at far v)
  pub over :
      (l v w : ℕ) → v < m.zones → w < m.zones → Over m o l v w → 0 < at worth w →
      NoBetter (at worth w) (suc (at far w)) (at worth v) (at far v)
