-- What is published is read as what it says. Assumes nothing.
use Rattle.std.proofs.Common.{◌≡◌, ℕ, ◌^◌, ◌<◌, ◌≤◌, List, [], ◌++◌, ℤ, pos, negsuc, nat_abs, Ok, sym, refl, ap, ◌∙◌, append_assoc, append-nil, arith}
use lib.Signed.{mag}
use Rattle.hour.specs.Listed.{listed}
use Rattle.hour.specs.Market.{Market, Outcome, at, count_of}
use Rattle.hour.specs.Rules.{KeepsRules}
use Rattle.hour.specs.declared.refusals.Sort.{Sort}
use Rattle.hour.specs.declared.refusals.Sort.TheVariants as sorts
use Rattle.network.specs.Network.{carried}
use Rattle.network.specs.Given.{item}
use Rattle.ledger.specs.Money.{money, worth_by, Payable}
use Rattle.ledger.specs.Text.{worth_row, zone_rows, sort_rows, result_of}
use Rattle.ledger.proofs.Limits.{among_item, carried_small, count_small, size_item, worth_small}
use Rattle.checker.specs.Follows.{counts_in}
use Rattle.checker.specs.Form.{Table, Saying, table, priced, saying, items_at, text_at}
use Rattle.checker.specs.Promises.{table_of, ReadsBack, ReadBack}
use Rattle.checker.proofs.RowsBack.{worth_back, zones_back, items_back}
use Rattle.checker.proofs.Steps.{text_read}

mag_small : (z : ℤ) (n : ℕ) → nat_abs z ≤ n → n < 2 ^ 63 → mag z < 2 ^ 63
mag_small (pos a) n size small = omega arith
mag_small (negsuc a) n size small = omega arith

module _
    (m : Market) (o : Outcome) (ps : List ℕ) (pushes : ℕ) (rules : KeepsRules m) (pay : Payable m o ps) (few : pushes < 2 ^ 64)
  where
    abbrev table_with : Sort → List ℕ → Table
    table_with s rest =
        table (listed (count_of m s) (λ k. carried o (item s k))) (listed (count_of m s) (λ k. money m o ps (item s k))) rest

    sort_back :
        (s : Sort) (line : ℕ) (rest : List ℕ) →
        items_at s line (count_of m s) (sort_rows m o ps s ++ rest) ≡ Ok (table_with s rest)
    sort_back s line rest =
        items_back s line (λ k. carried o (item s k)) (λ k. money m o ps (item s k)) (count_of m s) rest
        (λ k h.
        let among = among_item m s k h in (
          omega (arith, count_small m rules s),
          omega (arith, carried_small m rules o pay.feasible (item s k) among),
          mag_small (money m o ps (item s k)) _ (size_item m o ps rules pay (item s k) among) (omega arith),
        ))

    abbrev behind_sells : List ℕ
    behind_sells = sort_rows m o ps sorts.Line ++ []

    abbrev behind_buys : List ℕ
    behind_buys = sort_rows m o ps sorts.Sell ++ behind_sells

    abbrev behind_zones : List ℕ
    behind_zones = sort_rows m o ps sorts.Buy ++ behind_buys

    split : result_of m o ps pushes ≡ worth_row (worth_by m o) pushes ++ (zone_rows m.zones ps ++ behind_zones)
    split = simp (append_assoc, append-nil)

    abbrev said : Saying
    said =
        saying (worth_by m o, pushes) (priced (listed m.zones (at ps)) behind_zones)
        (table_with sorts.Buy behind_buys) (table_with sorts.Sell behind_sells) (table_with sorts.Line [])

    read : text_at (counts_in m) (result_of m o ps pushes) ≡ Ok said
    read =
        ap (text_at (counts_in m)) split
        ∙ text_read (counts_in m) (worth_row (worth_by m o) pushes ++ (zone_rows m.zones ps ++ behind_zones))
        ((worth_by m o, pushes), zone_rows m.zones ps ++ behind_zones)
        (priced (listed m.zones (at ps)) behind_zones)
        (table_with sorts.Buy behind_buys) (table_with sorts.Sell behind_sells) (table_with sorts.Line []) (Ok said)
        (sym
        (worth_back (worth_by m o) pushes _
        (mag_small (worth_by m o) _ (worth_small m o rules pay.feasible).whole (omega arith)) few))
        (zones_back 2 (at ps) m.zones behind_zones
        (λ z h. (omega (arith, rules.zones), omega (arith, pay.prices z h))))
        (sort_back sorts.Buy _ behind_buys) (sort_back sorts.Sell _ behind_sells) (sort_back sorts.Line _ []) refl

    amounts_said : (s : Sort) → (table_of said s).amounts ≡ listed (count_of m s) (λ k. carried o (item s k))
    amounts_said sorts.Buy = refl
    amounts_said sorts.Sell = refl
    amounts_said sorts.Line = refl

    moneys_said : (s : Sort) → (table_of said s).moneys ≡ listed (count_of m s) (λ k. money m o ps (item s k))
    moneys_said sorts.Buy = refl
    moneys_said sorts.Sell = refl
    moneys_said sorts.Line = refl

    pub reads_back : ReadsBack m o ps pushes
    reads_back =
        record {
          said = said;
          read = read;
          says =
              record { worth = refl; pushes_said = refl; prices = refl; amounts = amounts_said; moneys = moneys_said };
        }

pub read_back : ReadBack
read_back m o ps pushes rules pay few = reads_back m o ps pushes rules pay few
