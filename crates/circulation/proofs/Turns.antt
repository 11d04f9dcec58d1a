-- One search and one sweep more in a run, and its end. Assumes nothing.
use Rattle.std.proofs.Common.{◌≡◌, ℕ, ◌+◌, ◌-◌, ◌<◌, ◌≤◌, true, false, is_some, Option, sym, ap, ◌∙◌, subst, subst₂, arith}
use Rattle.hour.proofs.First.{is_none}
use Rattle.hour.specs.Market.{Market, Outcome, Proper, Plain, Feasible}
use Rattle.network.specs.Prices.{LowestOf, Lowest}
use Rattle.paths.specs.Plan.{Plan, Planned, first_paying}
use Rattle.paths.specs.Promises.{prices_of}
use Rattle.circulation.specs.Promises.{StepsSound, value, top}
use Rattle.circulation.specs.Run.{Run}
use Rattle.circulation.specs.Sweep.{Tally, tally, swept}
use Rattle.circulation.proofs.Few.{few_pushes}
use Rattle.circulation.proofs.Pushed.{sound_append}
use Rattle.circulation.proofs.Runs.{RunsOn, run_more, run_done, run_settles}
use Rattle.circulation.proofs.Swept.{swept_sound, some_pushes}
use Rattle.circulation.proofs.Value.{value_top}

module _
    (m : Market) (proper : Proper m) (plain : Plain m) (o q : Outcome) (s : Plan) (c : ℕ) (planned : Planned m q s)
    (found : Option ℕ) (answer : found ≡ first_paying m s) (on : RunsOn m o c q) (sound : StepsSound m o q c)
  where
    module _ (q' : Outcome) (r : ℕ) (some : is_some found ≡ true) (is : swept m s m.zones q ≡ tally q' r) where
      paying : is_some (first_paying m s) ≡ true
      paying = ap is_some (sym answer) ∙ some

      step : StepsSound m q q' r
      step =
          subst₂ (λ x n. StepsSound m q x n) (ap (λ (y : Tally). y.outcome) is) (ap (λ (y : Tally). y.pushes) is)
          (swept_sound m q s proper plain planned sound.feasible m.zones (omega arith))

      some_pushed : 0 < r
      some_pushed = subst (λ n. 0 < n) (ap (λ (y : Tally). y.pushes) is) (some_pushes m q s proper plain planned paying)

      pub turn_sound : StepsSound m o q' (c + r)
      turn_sound = sound_append m o q q' c r sound step

      pub turn_runs : RunsOn m o (c + r) q'
      turn_runs =
          subst (λ y. RunsOn m o (c + y.pushes) y.outcome) is (run_more m o q s c planned paying on)

      pub turn_few : c + r ≤ top m
      turn_few = few_pushes m o q' (c + r) turn_sound

      pub turn_rises : top m - value m q' < top m - value m q
      turn_rises = omega (arith, step.rises, some_pushed, value_top m q' step.feasible)

    pub turns_end : is_some found ≡ false → Run m o c q s
    turns_end none = run_done m o q s c planned (sym answer ∙ is_none found none) on

    pub turns_settle : is_some found ≡ false → Feasible m o → LowestOf m q (prices_of s) × Lowest m (prices_of s)
    turns_settle none feasible = run_settles m o q c s proper plain feasible (turns_end none)
