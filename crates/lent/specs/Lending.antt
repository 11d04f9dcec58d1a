-- What a trial lends, and what the calls on it answer. Assumes nothing: these are definitions.
--
--   slice_numbered n     the slice with number n: 0 bought, 1 sold, 2 flow, 3 price, 4 ledger, and above that work
--   part_of s all        what six have of the slice s
--   capped n             n, or the largest usize where n is larger
--   sizes_for h          how long slices have to be that are lent with an hour with the head h
--   shorter_at s sizes   the same sizes, that of the slice s less by one, or 0 as it was
--   longer sizes         each size more by one, or the largest as it was
--   held lent            the numbers of the six slices
--   marked sizes         six slices of these sizes that hold nothing but MARK
--   put_at s k v all     six slices, with v for number k of the slice s where it has one
--   Unchanged lent       each number of each slice is MARK
--   sum_of l             the sum of the numbers of l, modulo 2^64
--   Closes b s n l       in a ledger l with rows of b buys, s sells and n lines: what the buys pay is what the sells get and the
--                        lines earn, and the three numbers behind the rows are these sums
--
-- A row of a ledger is an i64, lent as the u64 of the same bits. Sums modulo 2^64 agree in both.
use Rattle.std.specs.Prelude.{◌≡◌, ℕ, zero, suc, ◌+◌, ◌*◌, ◌-◌, ◌^◌, ◌%◌, List, take, drop, min, sum, replicate, slice_index, slice_set}
use Rattle.std.specs.List.{All}
use Rattle.std.specs.Global.{Vec}
use Rattle.hour.specs.declared.reading.Head.{Head}
use Rattle.ledger.specs.Entry as entry
use Rattle.lent.specs.declared.Slice.{Slice}
use Rattle.lent.specs.declared.Slice.TheVariants.{Bought, Sold, Flow, Price, Ledger, Work}
use Rattle.lent.specs.declared.Slices.{Slices}
use Rattle.lent.specs.declared.TheConstants.{MARK}

abbrev pub slice_numbered : ℕ → Slice
slice_numbered zero = Bought
slice_numbered (suc zero) = Sold
slice_numbered (suc (suc zero)) = Flow
slice_numbered (suc (suc (suc zero))) = Price
slice_numbered (suc (suc (suc (suc zero)))) = Ledger
slice_numbered (suc (suc (suc (suc (suc n))))) = Work

abbrev pub part_of : {T : Type 0} → Slice → Slices T → T
part_of Bought all = all.bought
part_of Sold all = all.sold
part_of Flow all = all.flow
part_of Price all = all.price
part_of Ledger all = all.ledger
part_of Work all = all.work

abbrev pub capped : ℕ → ℕ
capped n = min n (2 ^ 64 - 1)

abbrev pub sizes_for : Head → Slices ℕ
sizes_for h =
    record {
      bought = h.buys;
      sold = h.sells;
      flow = h.lines;
      price = h.zones;
      ledger = capped (entry.head_size h + 3);
      work = capped (64 * entry.head_size h);
    }

abbrev pub shorter_at : Slice → Slices ℕ → Slices ℕ
shorter_at Bought sizes = record sizes { bought = sizes.bought - 1 }
shorter_at Sold sizes = record sizes { sold = sizes.sold - 1 }
shorter_at Flow sizes = record sizes { flow = sizes.flow - 1 }
shorter_at Price sizes = record sizes { price = sizes.price - 1 }
shorter_at Ledger sizes = record sizes { ledger = sizes.ledger - 1 }
shorter_at Work sizes = record sizes { work = sizes.work - 1 }

abbrev pub longer : Slices ℕ → Slices ℕ
longer sizes =
    record {
      bought = capped (sizes.bought + 1);
      sold = capped (sizes.sold + 1);
      flow = capped (sizes.flow + 1);
      price = capped (sizes.price + 1);
      ledger = capped (sizes.ledger + 1);
      work = capped (sizes.work + 1);
    }

abbrev pub held : Slices (Vec ℕ) → entry.Slices
held lent =
    entry.slices lent.bought.items lent.sold.items lent.flow.items lent.price.items lent.ledger.items lent.work.items

abbrev pub marked : Slices ℕ → entry.Slices
marked sizes =
    entry.slices (replicate sizes.bought MARK) (replicate sizes.sold MARK) (replicate sizes.flow MARK)
    (replicate sizes.price MARK) (replicate sizes.ledger MARK) (replicate sizes.work MARK)

abbrev pub put_at : Slice → ℕ → ℕ → entry.Slices → entry.Slices
put_at Bought k v all = record all { bought = slice_set all.bought k v }
put_at Sold k v all = record all { sold = slice_set all.sold k v }
put_at Flow k v all = record all { flow = slice_set all.flow k v }
put_at Price k v all = record all { price = slice_set all.price k v }
put_at Ledger k v all = record all { ledger = slice_set all.ledger k v }
put_at Work k v all = record all { work = slice_set all.work k v }

pub record Unchanged (lent : Slices (Vec ℕ)) : Type 0 where
  pub bought : All (λ n. n ≡ MARK) lent.bought.items
  pub sold : All (λ n. n ≡ MARK) lent.sold.items
  pub flow : All (λ n. n ≡ MARK) lent.flow.items
  pub price : All (λ n. n ≡ MARK) lent.price.items
  pub ledger : All (λ n. n ≡ MARK) lent.ledger.items
  pub work : All (λ n. n ≡ MARK) lent.work.items

abbrev pub sum_of : List ℕ → ℕ
sum_of l = sum l % 2 ^ 64

pub record Closes (b s n : ℕ) (l : List ℕ) : Type 0 where
  pub even : sum_of (take b l) ≡ (sum_of (take s (drop b l)) + sum_of (take n (drop (b + s) l))) % 2 ^ 64
  pub paid : slice_index l (b + s + n) ≡ sum_of (take b l)
  pub got : slice_index l (b + s + n + 1) ≡ sum_of (take s (drop b l))
  pub earned : slice_index l (b + s + n + 2) ≡ sum_of (take n (drop (b + s) l))
