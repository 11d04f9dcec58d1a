-- Runs: sweep after sweep until no zone pays. Assumes nothing.
use Rattle.std.proofs.Common.{◌≡◌, ℕ, zero, suc, ◌+◌, ◌<◌, true, is_some, Some, None, Option, sym, refl, ap, ◌∙◌, subst, arith}
use Rattle.std.proofs.lemmas.Bool.{both_ways}
use Rattle.hour.specs.Market.{Market, Outcome, Proper, Plain, Feasible}
use Rattle.paths.specs.Plan.{Plan, Planned, first_paying}
use Rattle.paths.proofs.OnePlan.{one_plan}
use Rattle.paths.proofs.SomePlan.{some_plan}
use Rattle.paths.proofs.Shown.{lowest_labels}
use Rattle.circulation.specs.Sweep.{swept}
use Rattle.circulation.specs.Run.{Runs, Run}
use Rattle.circulation.specs.Promises.{value, top, StepsSound, SameRun, Ended}
use Rattle.circulation.specs.Promises.{PushByPush, RunSettles, OneRun, RunEnds}
use Rattle.circulation.proofs.Value.{value_top}
use Rattle.circulation.proofs.Pushed.{sound_none, sound_append}
use Rattle.circulation.proofs.Swept.{swept_sound, some_pushes}

-- what runs on from q, with c pushes more, is a run from o
abbrev pub RunsOn : Market → Outcome → ℕ → Outcome → Type 0
RunsOn m o c q = (n : ℕ) (p : Outcome) (t : Plan) → Run m q n p t → Run m o (c + n) p t

pub run_more :
    (m : Market) (o q : Outcome) (s : Plan) (c : ℕ) → Planned m q s → is_some (first_paying m s) ≡ true →
    RunsOn m o c q → RunsOn m o (c + (swept m s m.zones q).pushes) (swept m s m.zones q).outcome
run_more m o q s c planned some on n p t run =
    let j = (swept m s m.zones q).pushes in
    let longer : Run m q (j + n) p t = (suc run.0, (s, planned, some, (n, refl, run.1))) in
    let count : c + (j + n) ≡ c + j + n = omega arith in
    subst (λ i. Run m o i p t) count (on (j + n) p t longer)

pub run_done :
    (m : Market) (o q : Outcome) (t : Plan) (c : ℕ) → Planned m q t → first_paying m t ≡ None → RunsOn m o c q →
    Run m o c q t
run_done m o q t c planned none on =
    let count : c + 0 ≡ c = omega arith in
    subst (λ i. Run m o i q t) count (on 0 q t (0, (planned, none, refl, refl)))

-- where a run ends
pub record Reaches (m : Market) (o p : Outcome) (n : ℕ) (t : Plan) : Type 0 where
  pub sound : StepsSound m o p n
  pub planned : Planned m p t
  pub none_pays : first_paying m t ≡ None

-- Idea: each sweep is so many pushes; put them one behind the other.
runs_reach :
    (m : Market) → Proper m → Plain m → (k : ℕ) (o p : Outcome) (n : ℕ) (t : Plan) → Feasible m o → Runs m k o n p t →
    Reaches m o p n t
runs_reach m proper plain zero o p n t f (planned, none, count, same) =
    let here : Reaches m o o 0 t = record { sound = sound_none m o f; planned = planned; none_pays = none } in
    subst (λ q. Reaches m o q n t) (sym same) (subst (λ j. Reaches m o o j t) (sym count) here)
runs_reach m proper plain (suc k) o p n t f (s, planned, some, (j, count, rest)) =
    let q = (swept m s m.zones o).outcome in
    let i = (swept m s m.zones o).pushes in
    let sweep = swept_sound m o s proper plain planned f m.zones (omega arith) in
    let later = runs_reach m proper plain k q p j t sweep.feasible rest in
    record {
      sound = subst (StepsSound m o p) (sym count) (sound_append m o q p i j sweep later.sound);
      planned = later.planned;
      none_pays = later.none_pays;
    }

pub run_reaches :
    (m : Market) (o p : Outcome) (n : ℕ) (t : Plan) → Proper m → Plain m → Feasible m o → Run m o n p t → Reaches m o p n t
run_reaches m o p n t proper plain f run = runs_reach m proper plain run.0 o p n t f run.1

pub push_by_push : PushByPush
push_by_push m o p n t proper plain f run = (run_reaches m o p n t proper plain f run).sound

pub run_settles : RunSettles
run_settles m o p n t proper plain f run =
    let end = run_reaches m o p n t proper plain f run in
    lowest_labels m p t proper plain end.sound.feasible end.planned end.none_pays

end_here :
    (m : Market) (o : Outcome) (t : Plan) → Feasible m o → Planned m o t → first_paying m t ≡ None → Ended m o
end_here m o t f planned none =
    record {
      count = 0;
      end = o;
      tables = t;
      run = (0, (planned, none, refl, refl));
      few = omega (arith, value_top m o f);
    }

end_later :
    (m : Market) (o : Outcome) (s : Plan) → Proper m → Plain m → Feasible m o → Planned m o s →
    is_some (first_paying m s) ≡ true → Ended m (swept m s m.zones o).outcome → Ended m o
end_later m o s proper plain f planned some later =
    let sweep = swept_sound m o s proper plain planned f m.zones (omega arith) in
    record {
      count = (swept m s m.zones o).pushes + later.count;
      end = later.end;
      tables = later.tables;
      run = (suc later.run.0, (s, planned, some, (later.count, refl, later.run.1)));
      few = omega (arith, sweep.rises, later.few);
    }

-- Idea: while a zone pays a sweep raises the value, and the value has a top.
run_within :
    (m : Market) → Proper m → Plain m → (fuel : ℕ) (o : Outcome) → Feasible m o → top m < value m o + fuel →
    Ended m o
run_within m proper plain zero o f enough =
    let never : ⊥ = omega (arith, value_top m o f) in
    absurd never
run_within m proper plain (suc fuel) o f enough =
    go (first_paying m s) refl (run_within m proper plain fuel (swept m s m.zones o).outcome)
  where
    s : Plan
    s = (some_plan m o proper).0

    planned : Planned m o s
    planned = (some_plan m o proper).1

    q : Outcome
    q = (swept m s m.zones o).outcome

    go :
        (r : Option ℕ) → first_paying m s ≡ r → (Feasible m q → top m < value m q + fuel → Ended m q) → Ended m o
    go None e later = end_here m o s f planned e
    go (Some v) e later =
        let sweep = swept_sound m o s proper plain planned f m.zones (omega arith) in
        let some = ap is_some e in
        let grows = some_pushes m o s proper plain planned some in
        end_later m o s proper plain f planned some (later sweep.feasible (omega (arith, sweep.rises, grows)))

pub run_ends : RunEnds
run_ends m o proper plain f = run_within m proper plain (suc (top m)) o f (omega arith)

one_end :
    (m : Market) (t : Plan) → first_paying m t ≡ None → is_some (first_paying m t) ≡ true → ⊥
one_end m t none some = both_ways (is_some (first_paying m t)) (ap is_some none) some

-- Idea: the tables of an outcome are one, so both runs sweep alike, or both end.
pub runs_one :
    (m : Market) → Proper m → (k i : ℕ) (o p q : Outcome) (n j : ℕ) (s t : Plan) → Runs m k o n p s →
    Runs m i o j q t → SameRun n j p q s t
runs_one m proper zero zero o p q n j s t (planned, none, count, same) (planned', none', count', same') =
    record { count = omega arith; end = same ∙ sym same'; tables = one_plan m o s t proper planned planned' }
runs_one m proper zero (suc i) o p q n j s t (planned, none, count, same) (r, planned', some, rest) =
    absurd (one_end m r (subst (λ x. first_paying m x ≡ None) (one_plan m o s r proper planned planned') none) some)
runs_one m proper (suc k) zero o p q n j s t (r, planned, some, rest) (planned', none, count, same) =
    absurd (one_end m r (subst (λ x. first_paying m x ≡ None) (one_plan m o t r proper planned' planned) none) some)
runs_one m proper (suc k) (suc i) o p q n j s t (r, planned, some, more) (r', planned', some', more') =
    let (c, count, rest) = more in
    let (c', count', rest') = more' in
    let same = one_plan m o r' r proper planned' planned in
    let pushes = ap (λ x. (swept m x m.zones o).pushes) same in
    let on = subst (λ x. Runs m i (swept m x m.zones o).outcome c' q t) same rest' in
    let later = runs_one m proper k i (swept m r m.zones o).outcome p q c c' s t rest on in
    record { count = omega (arith, later.count); end = later.end; tables = later.tables }

pub one_run : OneRun
one_run m o p q n j s t proper run run' = runs_one m proper run.0 run'.0 o p q n j s t run.1 run'.1
