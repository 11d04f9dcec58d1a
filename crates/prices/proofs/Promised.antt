-- What is found is promised; there is always something to find, and it is one. Assumes nothing.
use Rattle.std.proofs.Common.{ℕ, List, sym, refl, ap, ◌∙◌}
use mathlib.Core.Path.{subst⁻¹}
use Rattle.hour.specs.Market.{Settled}
use Rattle.network.proofs.Prices.{best, no_regret}
use Rattle.network.specs.Prices.{Lowest}
use Rattle.paths.specs.Promises.{prices_of}
use Rattle.circulation.proofs.Few.{few_pushes}
use Rattle.circulation.proofs.Runs.{push_by_push, run_settles, run_ends, one_run}
use Rattle.prices.specs.Laid.{nothing}
use Rattle.prices.specs.Promises.{FoundPromised, AlwaysFound, OneFound}
use Rattle.prices.proofs.Bounds.{nothing_feasible}

-- Idea: the run begins with nothing, which can be carried out; so each push keeps that, and the labels at its end settle.
pub found_promised : FoundPromised
found_promised m n o ps proper plain found =
    let sound = push_by_push m (nothing m) o n found.tables proper plain (nothing_feasible m plain) found.run in
    let settles = run_settles m (nothing m) o n found.tables proper plain (nothing_feasible m plain) found.run in
    let settled = subst⁻¹ (λ (qs : List ℕ). Settled m o qs) found.prices settles.0.settled in
    record {
      feasible = sound.feasible;
      settled = settled;
      lowest = subst⁻¹ (λ (qs : List ℕ). Lowest m qs) found.prices settles.1;
      best = λ p feasible. best m o p ps proper sound.feasible settled feasible;
      no_regret = no_regret m o ps sound.feasible settled;
      pushes = sound;
      few = few_pushes m (nothing m) o n sound;
    }

pub always_found : AlwaysFound
always_found m proper plain =
    let ended = run_ends m (nothing m) proper plain (nothing_feasible m plain) in
    record {
      count = ended.count;
      outcome = ended.end;
      prices = prices_of ended.tables;
      found = record { tables = ended.tables; run = ended.run; prices = refl };
    }

pub one_found : OneFound
one_found m n j o p ps qs proper found again =
    let same = one_run m (nothing m) o p n j found.tables again.tables proper found.run again.run in
    record {
      count = same.count;
      outcome = same.end;
      prices = found.prices ∙ (ap prices_of same.tables ∙ sym again.prices);
    }
