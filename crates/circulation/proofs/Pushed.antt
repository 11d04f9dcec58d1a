-- Pushes one after the other, each along a closed way that pays. Assumes nothing.
use Rattle.std.proofs.Common.{◌≡◌, ℕ, zero, suc, ◌+◌, List, sym, refl, subst, arith}
use Rattle.hour.specs.Market.{Market, Outcome, Feasible}
use Rattle.network.specs.Ways.{pushed}
use Rattle.network.specs.declared.arcs.Step.{Step}
use Rattle.network.proofs.Ways.{push}
use Rattle.circulation.specs.Run.{Pays, Pushes}
use Rattle.circulation.specs.Promises.{StepsSound}
use Rattle.circulation.proofs.Value.{value_push}

pub pushes_append :
    (m : Market) (n j : ℕ) (o p q : Outcome) → Pushes m n o p → Pushes m j p q → Pushes m (n + j) o q
pushes_append m zero j o p q same after =
    let count : j ≡ zero + j = omega arith in
    subst (λ i. Pushes m i o q) count (subst (λ r. Pushes m j r q) (sym same) after)
pushes_append m (suc n) j o p q (ss, d, pays, before) after =
    let count : suc (n + j) ≡ suc n + j = omega arith in
    subst (λ i. Pushes m i o q) count (ss, d, pays, pushes_append m n j (pushed o ss d) p q before after)

pub sound_none : (m : Market) (o : Outcome) → Feasible m o → StepsSound m o o 0
sound_none m o f = record { pushes = refl; feasible = f; rises = omega arith }

pub sound_append :
    (m : Market) (o p q : Outcome) (n j : ℕ) → StepsSound m o p n → StepsSound m p q j → StepsSound m o q (n + j)
sound_append m o p q n j before after =
    record {
      pushes = pushes_append m n j o p q before.pushes after.pushes;
      feasible = after.feasible;
      rises = omega (arith, before.rises, after.rises);
    }

-- one push
pub sound_push :
    (m : Market) (o : Outcome) (ss : List Step) (d : ℕ) → Feasible m o → Pays m o ss d →
    StepsSound m o (pushed o ss d) 1
sound_push m o ss d f pays =
    let done = push m o pays.node d ss f pays.closed pays.once pays.fits in
    record {
      pushes = (ss, d, pays, refl);
      feasible = done.feasible;
      rises = value_push m o (pushed o ss d) ss d f done pays.some pays.gains;
    }

pub sound_more :
    (m : Market) (o p : Outcome) (n : ℕ) (ss : List Step) (d : ℕ) → StepsSound m o p n → Pays m p ss d →
    StepsSound m o (pushed p ss d) (n + 1)
sound_more m o p n ss d sound pays =
    sound_append m o p (pushed p ss d) n 1 sound (sound_push m p ss d sound.feasible pays)
