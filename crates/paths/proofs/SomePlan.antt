-- Every outcome has tables that a search would leave. Assumes nothing.
use Rattle.std.proofs.Common.{◌≡◌, ℕ, zero, suc, ◌+◌, ◌<◌, ◌≤◌, ◌⊎◌, List, length, set, inl, inr, arith}
use mathlib.Core.Path.{subst⁻¹}
use Rattle.std.proofs.lemmas.List.FromFn.{length-map-range_with_len, get_or-map-range_with_len}
use Rattle.std.proofs.lemmas.Bool.{cases_eq, cases_lt}
use Rattle.hour.specs.Listed.{listed}
use Rattle.hour.specs.Market.{Market, Outcome, Proper, at}
use Rattle.hour.specs.Total.{total}
use Rattle.hour.proofs.Total.{total_part}
use Rattle.network.specs.Network.{Among}
use Rattle.network.specs.Ways.{room, item, start, finish}
use Rattle.hour.specs.declared.items.Item.TheVariants.{Line}
use Rattle.network.specs.declared.arcs.Step.{Step}
use Rattle.network.specs.declared.arcs.Step.TheVariants.{Forward, Backward}
use Rattle.paths.specs.Best.{numbered}
use Rattle.paths.specs.Bids.{own, giver, worth_at}
use Rattle.paths.specs.Labels.{Over, BestLabels}
use Rattle.paths.specs.Plan.{out_no}
use Rattle.paths.specs.Promises.{SomePlan}
use Rattle.paths.specs.Keys.{Raises, left}
use Rattle.paths.proofs.Keys.{left_falls}
use Rattle.paths.proofs.Labels.{over_joins}
use Rattle.paths.specs.Search.{Reaching}
use Rattle.paths.proofs.Raising.{StepRaises, Unraised, reaching_start, reaching_raised}
use Rattle.paths.proofs.Raising.{unraised_line, best_unraised}
use Rattle.paths.proofs.Steps.{over_forward, over_backward}

-- one below n for which P holds, or Q for all
one_below :
    (P Q : ℕ → Type 0) (n : ℕ) → ((k : ℕ) → k < n → P k ⊎ Q k) → ((k : ℕ) × P k) ⊎ ((k : ℕ) → k < n → Q k)
one_below P Q zero decide = inr (λ k below. absurd (omega arith))
one_below P Q (suc n) decide =
    elim (decide n (omega arith)) [
      | inl here ↦ inl (n, here)
      | inr off ↦
          elim (one_below P Q n (λ k below. decide k (omega arith))) [
            | inl found ↦ inl found
            | inr none ↦
                inr (λ k below.
                elim (cases_eq k n) [ inl e ↦ subst⁻¹ Q e off | inr ne ↦ none k (omega arith) ])
          ]
    ]

-- line l raises the label of the zone where a step along it begins
record Raised (m : Market) (o : Outcome) (worth far : List ℕ) (l : ℕ) : Type 0 where
  from : ℕ
  to : ℕ
  over : Over m o l from to
  some : 0 < at worth to
  raises : Raises worth far from to

module _ (m : Market) (o : Outcome) (worth far : List ℕ) where
  cases_raises : (v w : ℕ) → Raises worth far v w ⊎ (Raises worth far v w → ⊥)
  cases_raises v w =
      elim (cases_lt (at worth v) (at worth w)) [
        | inl more ↦ inl (inl more)
        | inr le ↦
            elim (cases_eq (at worth v) (at worth w)) [
              | inl same ↦
                  elim (cases_lt (at far w + 1) (at far v))
                  [ inl nearer ↦ inl (inr (same, nearer)) | inr further ↦ inr (λ r. omega (arith, r)) ]
              | inr ne ↦ inr (λ r. omega (arith, r))
            ]
      ]

  cases_step : (s : Step) → Among m (item s) → StepRaises m o worth far s ⊎ (StepRaises m o worth far s → ⊥)
  cases_step s among =
      elim (cases_lt 0 (room m o s)) [
        | inl free ↦
            elim (cases_lt 0 (at worth (finish m s))) [
              | inl some ↦
                  elim (cases_raises (start m s) (finish m s)) [
                    | inl more ↦
                        inl (record { free = record { among = among; room = free }; some = some; raises = more })
                    | inr off ↦ inr (λ r. off r.raises)
                  ]
              | inr none ↦ inr (λ r. omega (arith, r.some))
            ]
        | inr full ↦ inr (λ r. omega (arith, r.free.room))
      ]

  raised_over :
      {l v w : ℕ} → Over m o l v w → 0 < at worth w → Raises worth far v w → Raised m o worth far l
  raised_over {l} {v} {w} over some raises =
      record { from = v; to = w; over = over; some = some; raises = raises }

  cases_line : (l : ℕ) → l < length m.lines → Raised m o worth far l ⊎ Unraised m o worth far l
  cases_line l below =
      elim (cases_step (Forward (Line l)) below) [
        | inl r ↦ inl (raised_over (over_forward m o l r.free) r.some r.raises)
        | inr ahead ↦
            elim (cases_step (Backward (Line l)) below) [
              | inl r ↦ inl (raised_over (over_backward m o l r.free) r.some r.raises)
              | inr back ↦ inr (unraised_line m o worth far l ahead back)
            ]
      ]

-- best labels of every zone
record Labelled (m : Market) (o : Outcome) : Type 0 where
  worth : List ℕ
  far : List ℕ
  best : BestLabels m o worth far
  worth_long : length worth ≡ m.zones
  far_long : length far ≡ m.zones

-- Idea: raise labels as long as a line raises one; what the keys have yet to grow falls each time.
labelled :
    (m : Market) (o : Outcome) (top n : ℕ) (worth far : List ℕ) → Proper m → Reaching m o top worth far →
    left m.zones top worth far < n → Labelled m o
labelled m o top zero worth far proper r enough = absurd (omega arith)
labelled m o top (suc n) worth far proper r enough =
    elim (one_below (Raised m o worth far) (Unraised m o worth far) (length m.lines) (cases_line m o worth far)) [
      | inl (l, raised) ↦
          let v = raised.from in
          let w = raised.to in
          let joins = over_joins m o l v w proper raised.over in
          let falls = left_falls m.zones top worth far v w r.keyed joins.from joins.to raised.raises in
          labelled m o top n (set worth v (at worth w)) (set far v (at far w + 1)) proper
          (reaching_raised m o top worth far l v w proper r raised.over raised.some raised.raises)
          (omega (arith, falls))
      | inr none ↦
          record {
            worth = worth;
            far = far;
            best = best_unraised m o top worth far proper r none;
            worth_long = r.keyed.worth_long;
            far_long = r.keyed.far_long;
          }
    ]

length_listed : (n : ℕ) (f : ℕ → ℕ) → length (listed n f) ≡ n
length_listed n f = length-map-range_with_len f 0 n

at_listed : (n : ℕ) (f : ℕ → ℕ) (v : ℕ) → v < n → at (listed n f) v ≡ f v
at_listed n f v below = get_or-map-range_with_len f 0 n v v 0 below (omega arith)

-- each part of a sum is no more than the sum
part_le : (n : ℕ) (f : ℕ → ℕ) (v : ℕ) → v < n → f v ≤ total n f
part_le n f v below = omega (arith, total_part (suc v) n f below)

some_labels : (m : Market) (o : Outcome) → Proper m → Labelled m o
some_labels m o proper =
    let n = m.zones in
    let top = total n (own m o) in
    let worth = listed n (own m o) in
    let far = listed n (λ v. 0) in
    labelled m o top (suc (left n top worth far)) worth far proper
    (reaching_start m o top worth far (length_listed n (own m o)) (length_listed n (λ v. 0)) (at_listed n (own m o))
    (at_listed n (λ v. 0)) (part_le n (own m o)))
    (omega arith)

pub some_plan : SomePlan
some_plan m o proper =
    let n = m.zones in
    let labels = some_labels m o proper in
    let outs = out_no m o labels.worth labels.far in
    let asks : ℕ → ℕ = λ v. worth_at m (giver m o v) in
    let givers : ℕ → ℕ = λ v. numbered (giver m o v) in (
      record {
        worth = labels.worth;
        far = labels.far;
        out = listed n outs;
        ask = listed n asks;
        giver = listed n givers;
      },
      record {
        labels = labels.best;
        out = at_listed n outs;
        ask = at_listed n asks;
        giver = at_listed n givers;
        worth_long = labels.worth_long;
        far_long = labels.far_long;
        out_long = length_listed n outs;
        ask_long = length_listed n asks;
        giver_long = length_listed n givers;
      },
    )
