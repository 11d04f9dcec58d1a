-- The tables of a search are fixed by the market and the outcome. Assumes nothing.
use Rattle.std.proofs.Common.{◌≡◌, ℕ, ◌<◌, List, length, sym, ◌∙◌, ap₂, arith}
use Rattle.std.proofs.lemmas.List.{ext_get_or}
use Rattle.hour.specs.Market.{at}
use Rattle.paths.specs.Plan.{out_no}
use Rattle.paths.specs.Promises.{OnePlan}
use Rattle.paths.proofs.Labels.{labels_agree}

-- two tables of n numbers that agree at each place
same_table :
    (n : ℕ) (xs ys : List ℕ) → length xs ≡ n → length ys ≡ n → ((v : ℕ) → v < n → at xs v ≡ at ys v) → xs ≡ ys
same_table n xs ys xs_long ys_long same = ext_get_or 0 xs ys (xs_long ∙ sym ys_long) (λ v h. same v (omega arith))

-- Idea: labels agree in each zone, and the other tables are computed from them, the market and the outcome.
pub one_plan : OnePlan
one_plan m o s t proper p q =
    λ i. record { worth = worth i; far = far i; out = out i; ask = ask i; giver = giver i }
  where
    agree : (v : ℕ) → v < m.zones → (at s.worth v ≡ at t.worth v) × (at s.far v ≡ at t.far v)
    agree = labels_agree m o s.worth s.far t.worth t.far proper p.labels q.labels

    worth : s.worth ≡ t.worth
    worth = same_table m.zones _ _ p.worth_long q.worth_long (λ v h. (agree v h).0)

    far : s.far ≡ t.far
    far = same_table m.zones _ _ p.far_long q.far_long (λ v h. (agree v h).1)

    out : s.out ≡ t.out
    out =
        same_table m.zones _ _ p.out_long q.out_long
        (λ v h. p.out v h ∙ ap₂ (λ x y. out_no m o x y v) worth far ∙ sym (q.out v h))

    ask : s.ask ≡ t.ask
    ask = same_table m.zones _ _ p.ask_long q.ask_long (λ v h. p.ask v h ∙ sym (q.ask v h))

    giver : s.giver ≡ t.giver
    giver =
        same_table m.zones _ _ p.giver_long q.giver_long (λ v h. p.giver v h ∙ sym (q.giver v h))
