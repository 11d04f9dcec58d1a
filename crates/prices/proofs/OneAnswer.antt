-- What clearing answers and leaves in lent slices is one. Assumes nothing.
use Rattle.std.proofs.Common.{◌≡◌, ℕ, ◌+◌, ◌*◌, List, ◌++◌, length, take, drop, None, Ok, Err, Result, sym, refl, ap, ◌∙◌, ap₂, arith}
use Rattle.std.proofs.lemmas.List.{take-append-drop}
use Rattle.std.specs.Result.{result_err}
use Rattle.hour.specs.Market.{Market, Outcome, Proper}
use Rattle.hour.specs.declared.refusals.Refusal.{Refusal}
use Rattle.network.proofs.Rows.{length_bids_in, length_lines_in}
use Rattle.network.specs.Tables.{market_in}
use Rattle.prices.specs.Ended.{Lent, FoundIn, Left, Wiped, TablesAnswer}
use Rattle.prices.specs.Promises.{SameTablesAnswer, OneTablesAnswer}
use Rattle.prices.proofs.Bounds.{proper_kept}
use Rattle.prices.proofs.Promised.{one_found}
use Rattle.prices.proofs.Shapes.{tables_kept}

-- what the answer r to the market m leaves in slices that held old
pub record Leaves (m : Market) (old : Lent) (r : Result ℕ Refusal) (new : Lent) : Type 0 where
  pub found : FoundIn r m new.bought new.sold new.flow new.price
  pub bought : Left r (length m.buys) old.bought new.bought
  pub sold : Left r (length m.sells) old.sold new.sold
  pub flow : Left r (length m.lines) old.flow new.flow
  pub price : Left r m.zones old.price new.price
  pub work : Wiped r (64 * (length m.buys + length m.sells + length m.lines)) old.work new.work

-- two slices with one front, and the rest as it was
whole : (n : ℕ) (xs ys zs : List ℕ) → take n xs ≡ take n ys → drop n xs ≡ drop n zs → drop n ys ≡ drop n zs → xs ≡ ys
whole n xs ys zs front back also =
    sym (take-append-drop n xs) ∙ (ap₂ ◌++◌ front (back ∙ sym also) ∙ take-append-drop n ys)

same_lent :
    (new other : Lent) → new.bought ≡ other.bought → new.sold ≡ other.sold → new.flow ≡ other.flow →
    new.price ≡ other.price → new.work ≡ other.work → new ≡ other
same_lent new other bought sold flow price work = λ i.
    record { bought = bought i; sold = sold i; flow = flow i; price = price i; work = work i }

-- Idea: what is found is one, so the fronts are the same; the rest of every slice is as it was.
pub one_left :
    (m : Market) (old new other : Lent) (r s : Result ℕ Refusal) → result_err r ≡ result_err s →
    (result_err r ≡ None → Proper m) → Leaves m old r new → Leaves m old s other → SameTablesAnswer r s new other
one_left m old new other (Err x) (Err y) refused proper a b =
    let same : x ≡ y = cc in
    record {
      answer = ap Err same;
      slices =
          same_lent new other (a.bought ∙ sym b.bought) (a.sold ∙ sym b.sold) (a.flow ∙ sym b.flow)
          (a.price ∙ sym b.price) (a.work ∙ sym b.work);
    }
one_left m old new other (Err x) (Ok n) refused proper a b =
    let z : ◌≡◌ {A = ℕ} 0 1 = cc in
    absurd (omega arith)
one_left m old new other (Ok n) (Err y) refused proper a b =
    let z : ◌≡◌ {A = ℕ} 0 1 = cc in
    absurd (omega arith)
one_left m old new other (Ok n) (Ok j) refused proper a b =
    let same = one_found m n j _ _ _ _ (proper refl) a.found b.found in
    record {
      answer = ap Ok same.count;
      slices =
          same_lent new other
          (whole (length m.buys) _ _ _ (ap (λ (o : Outcome). o.bought) same.outcome) a.bought b.bought)
          (whole (length m.sells) _ _ _ (ap (λ (o : Outcome). o.sold) same.outcome) a.sold b.sold)
          (whole (length m.lines) _ _ _ (ap (λ (o : Outcome). o.flow) same.outcome) a.flow b.flow)
          (whole m.zones _ _ _ same.prices a.price b.price) (a.work ∙ sym b.work);
    }

-- the same, with the counts as the tables have them
leaves_in :
    (zones : ℕ) (buys sells lines : List ℕ) (old new : Lent) (r : Result ℕ Refusal) →
    TablesAnswer zones buys sells lines old r new → Leaves (market_in zones buys sells lines) old r new
leaves_in zones buys sells lines old new r a =
    record {
      found = a.found;
      bought = rw (length_bids_in buys) a.bought;
      sold = rw (length_bids_in sells) a.sold;
      flow = rw (length_lines_in lines) a.flow;
      price = a.price;
      work = rw (length_bids_in buys, length_bids_in sells, length_lines_in lines) a.work;
    }

pub one_tables_answer : OneTablesAnswer
one_tables_answer zones buys sells lines old new other r s a b =
    one_left (market_in zones buys sells lines) old new other r s (a.refusal ∙ sym b.refusal)
    (λ none. proper_kept _ (tables_kept zones buys sells lines _ _ (sym a.refusal ∙ none)))
    (leaves_in zones buys sells lines old new r a) (leaves_in zones buys sells lines old other s b)
