-- The market's words by recursion over lists are those by index, and so the promises hold in these words. Assumes nothing.
use Rattle.std.proofs.Common.{◌≡◌, ℕ, zero, suc, ◌+◌, ◌*◌, ◌<◌, ◌≤◌, cond, eqb, List, [], ◌∷◌, length, drop, get_or, sym, refl, ap, ◌∙◌, subst, arith}
use Rattle.std.proofs.lemmas.List.{get_or_default}
use Rattle.hour.specs.Total.{total}
use Rattle.hour.specs.declared.items.Bid.{Bid}
use Rattle.hour.specs.declared.items.Line.{Line}
use Rattle.hour.specs.Market.{Market, Outcome, Proper, Feasible, Settled, Content, Plain, at, line, no_bid, no_line, worth}
use Rattle.hour.specs.declared.items.Terms.{Terms}
use Rattle.hour.specs.Market.{in_zone, into, out_of}
use Rattle.hour.proofs.Total.{total_same, total_le}
use Rattle.network.specs.Network.{Among, ContentItem}
use Rattle.network.specs.Prices.{Highest, paid, sent, arrived}
use Rattle.network.specs.ByLists.{Each, zone_amount, flow_into, flow_out_of}
use Rattle.network.specs.ByLists.{at_bid_prices, at_zone_prices, at_from_prices, at_to_prices}
use Rattle.network.specs.ByLists.{FeasibleByLists, ProperByLists, SettledByLists}
use Rattle.network.specs.Promises.{SumsByLists, BestByLists, EvenByLists, NoRegretByLists, ExchangeByLists}
use Rattle.hour.specs.declared.items.Item.{Item}
use Rattle.hour.specs.declared.items.Item.TheVariants.{Buy, Sell, Line as LineItem}
use Rattle.network.proofs.Plain.{supply_none, supplied_none, costs_plain}
use Rattle.network.proofs.Prices.{best, even, no_regret, exchange}

-- a sum by index, its first part apart
total_front : (n : ℕ) (f : ℕ → ℕ) → total (suc n) f ≡ f 0 + total n (λ k. f (suc k))
total_front zero f = omega arith
total_front (suc n) f = omega (arith, total_front n f)

at_rest_of : (xs : List ℕ) (k : ℕ) → at (drop 1 xs) k ≡ at xs (suc k)
at_rest_of [] k = refl
at_rest_of (x ∷ xs) k = refl

-- whatever goes along two lists and adds up is a sum by index
by_index :
    {A : Type 0} (d : A) (f : A → ℕ → ℕ) (along : List A → List ℕ → ℕ) →
    ((xs : List ℕ) → along [] xs ≡ 0) →
    ((b : A) (bs : List A) (xs : List ℕ) → along (b ∷ bs) xs ≡ f b (at xs 0) + along bs (drop 1 xs)) →
    (bs : List A) (xs : List ℕ) → along bs xs ≡ total (length bs) (λ k. f (get_or bs k d) (at xs k))
by_index d f along none more [] xs = none xs
by_index d f along none more (b ∷ bs) xs =
    let rest : along bs (drop 1 xs) ≡ total (length bs) (λ k. f (get_or bs k d) (at xs (suc k))) =
    by_index d f along none more bs (drop 1 xs)
    ∙ total_same (length bs) _ _ (λ k below. ap (f (get_or bs k d)) (at_rest_of xs k)) in
    omega (arith, more b bs xs, rest, total_front (length bs) (λ k. f (get_or (b ∷ bs) k d) (at xs k)))

in_zone_along : (z : ℕ) (bs : List Bid) (xs : List ℕ) → zone_amount z bs xs ≡ in_zone z bs xs
in_zone_along z =
    by_index no_bid (λ b x. cond (eqb b.zone z) x 0) (zone_amount z) (λ xs. refl) (λ b bs xs. refl)

into_along : (z : ℕ) (ls : List Line) (fs : List ℕ) → flow_into z ls fs ≡ into z ls fs
into_along z =
    by_index no_line (λ l x. cond (eqb l.to z) x 0) (flow_into z) (λ fs. refl) (λ l ls fs. refl)

out_of_along : (z : ℕ) (ls : List Line) (fs : List ℕ) → flow_out_of z ls fs ≡ out_of z ls fs
out_of_along z =
    by_index no_line (λ l x. cond (eqb l.from z) x 0) (flow_out_of z) (λ fs. refl) (λ l ls fs. refl)

worth_along : (bs : List Bid) (xs : List ℕ) → at_bid_prices bs xs ≡ worth bs xs
worth_along = by_index no_bid (λ b x. b.price * x) at_bid_prices (λ xs. refl) (λ b bs xs. refl)

paid_along : (ps : List ℕ) (bs : List Bid) (xs : List ℕ) → at_zone_prices ps bs xs ≡ paid ps bs xs
paid_along ps = by_index no_bid (λ b x. at ps b.zone * x) (at_zone_prices ps) (λ xs. refl) (λ b bs xs. refl)

sent_along : (ps : List ℕ) (ls : List Line) (fs : List ℕ) → at_from_prices ps ls fs ≡ sent ps ls fs
sent_along ps = by_index no_line (λ l x. at ps l.from * x) (at_from_prices ps) (λ fs. refl) (λ l ls fs. refl)

arrived_along : (ps : List ℕ) (ls : List Line) (fs : List ℕ) → at_to_prices ps ls fs ≡ arrived ps ls fs
arrived_along ps = by_index no_line (λ l x. at ps l.to * x) (at_to_prices ps) (λ fs. refl) (λ l ls fs. refl)

-- what holds within a list at one default holds at any
each_by :
    {A : Type 0} (xs : List A) (e : A) (P : ℕ → A → Type 0) →
    ((k : ℕ) → k < length xs → P k (get_or xs k e)) → Each xs P
each_by xs e P all k d below = subst (P k) (get_or_default xs k e d below) (all k below)

proper_to_lists : (m : Market) → Proper m → ProperByLists m
proper_to_lists m p =
    record {
      buys = each_by m.buys no_bid (λ k b. b.zone < m.zones) p.buys;
      sells = each_by m.sells no_bid (λ k b. b.zone < m.zones) p.sells;
      from = each_by m.lines no_line (λ k l. l.from < m.zones) p.from;
      to = each_by m.lines no_line (λ k l. l.to < m.zones) p.to;
    }

pub proper_from_lists : (m : Market) → ProperByLists m → Proper m
proper_from_lists m p =
    record {
      buys = λ k. p.buys k no_bid;
      sells = λ k. p.sells k no_bid;
      from = λ k. p.from k no_line;
      to = λ k. p.to k no_line;
    }

module _ (m : Market) (o : Outcome) (plain : Plain m) where
  pub feasible_to_lists : Feasible m o → FeasibleByLists m o
  feasible_to_lists f =
      record {
        buys = each_by m.buys no_bid (λ k b. at o.bought k ≤ b.amount) f.buys;
        sells = each_by m.sells no_bid (λ k b. at o.sold k ≤ b.amount) f.sells;
        lines = each_by m.lines no_line (λ k l. at o.flow k ≤ l.capacity) f.lines;
        balance = λ z below. omega (
          arith,
          f.balance z below,
          supply_none m plain z,
          in_zone_along z m.sells o.sold,
          into_along z m.lines o.flow,
          in_zone_along z m.buys o.bought,
          out_of_along z m.lines o.flow,
        );
      }

  feasible_from_lists : FeasibleByLists m o → Feasible m o
  feasible_from_lists f =
      record {
        buys = λ k. f.buys k no_bid;
        sells = λ k. f.sells k no_bid;
        lines = λ k. f.lines k no_line;
        balance = λ z below. omega (
          arith,
          f.balance z below,
          supply_none m plain z,
          in_zone_along z m.sells o.sold,
          into_along z m.lines o.flow,
          in_zone_along z m.buys o.bought,
          out_of_along z m.lines o.flow,
        );
      }

  module _ (ps : List ℕ) where
    -- the terms of a line, if a unit costs it c; it costs it the price where the line begins
    abbrev line_terms : ℕ → ℕ → Terms
    line_terms k c =
        record {
          limit = (line m.lines k).capacity;
          cost = c;
          value = at ps (line m.lines k).to;
        }

    begins : (k : ℕ) → k < length m.lines → at ps (line m.lines k).from + (line m.lines k).cost ≡ at ps (line m.lines k).from
    begins k below = omega (arith, plain.costless k below)

    pub settled_to_lists : Settled m o ps → SettledByLists m o ps
    settled_to_lists s =
        let content : (i : Item) → Among m i → ContentItem m o ps i = s.content in
        let line_content : (k : ℕ) → k < length m.lines → Content (line_terms k (at ps (line m.lines k).from)) (at o.flow k) =
        λ k below. subst (λ c. Content (line_terms k c) (at o.flow k)) (begins k below) (content (LineItem k) below)
        in
        record {
          buy_more = each_by
              m.buys
              no_bid
              (λ k b. at ps b.zone < b.price → at o.bought k ≡ b.amount)
              (λ k below. (content (Buy k) below).whole);
          buy_less = each_by
              m.buys
              no_bid
              (λ k b. b.price < at ps b.zone → at o.bought k ≡ 0)
              (λ k below. (content (Buy k) below).none);
          sell_more = each_by
              m.sells
              no_bid
              (λ k b. b.price < at ps b.zone → at o.sold k ≡ b.amount)
              (λ k below. (content (Sell k) below).whole);
          sell_less = each_by
              m.sells
              no_bid
              (λ k b. at ps b.zone < b.price → at o.sold k ≡ 0)
              (λ k below. (content (Sell k) below).none);
          rises = each_by
              m.lines
              no_line
              (λ k l. at ps l.from < at ps l.to → at o.flow k ≡ l.capacity)
              (λ k below. (line_content k below).whole);
          falls = each_by
              m.lines
              no_line
              (λ k l. at ps l.to < at ps l.from → at o.flow k ≡ 0)
              (λ k below. (line_content k below).none);
        }

    settled_from_lists : SettledByLists m o ps → Settled m o ps
    settled_from_lists s = record { content = content }
      where
        content : (i : Item) → Among m i → ContentItem m o ps i
        content (Buy k) below = record { whole = s.buy_more k no_bid below; none = s.buy_less k no_bid below }
        content (Sell k) below = record { whole = s.sell_more k no_bid below; none = s.sell_less k no_bid below }
        content (LineItem k) below =
            subst (λ c. Content (line_terms k c) (at o.flow k)) (sym (begins k below))
            (record { whole = s.rises k no_line below; none = s.falls k no_line below })

pub sums_by_lists : SumsByLists
sums_by_lists =
    record {
      in_zone = in_zone_along;
      into = into_along;
      out_of = out_of_along;
      worth = worth_along;
      paid = paid_along;
      sent = sent_along;
      arrived = arrived_along;
      proper = λ m. (proper_to_lists m, proper_from_lists m);
      feasible = λ m o plain. (feasible_to_lists m o plain, feasible_from_lists m o plain);
      settled = λ m o ps plain. (settled_to_lists m o plain ps, settled_from_lists m o plain ps);
    }

pub best_by_lists : BestByLists
best_by_lists m o p ps plain proper f s g =
    let feasible = feasible_from_lists m o plain f in
    let settled = settled_from_lists m o plain ps s in
    omega (
      arith,
      best m o p ps (proper_from_lists m proper) feasible settled (feasible_from_lists m p plain g),
      costs_plain m plain o,
      costs_plain m plain p,
      worth_along m.buys o.bought,
      worth_along m.buys p.bought,
      worth_along m.sells o.sold,
      worth_along m.sells p.sold,
    )

-- Idea: no line earns less than nothing, so neither do all together.
pub even_by_lists : EvenByLists
even_by_lists m o ps plain proper f s =
    let money =
    even m o ps (proper_from_lists m proper) (feasible_from_lists m o plain f) (settled_from_lists m o plain ps s) in
    let lines :
    (k : ℕ) → k < length m.lines →
    at ps (line m.lines k).from * at o.flow k ≤ at ps (line m.lines k).to * at o.flow k =
    λ k below. omega (arith, money.lines k below) in
    let begins = sent_along ps m.lines o.flow in
    let ends = arrived_along ps m.lines o.flow in
    record {
      even = omega (
        arith,
        money.even,
        supplied_none m plain ps,
        begins,
        ends,
        paid_along ps m.buys o.bought,
        paid_along ps m.sells o.sold,
      );
      lines = omega (arith, begins, ends, total_le (length m.lines) _ _ lines);
      each_line = each_by
          m.lines
          no_line
          (λ k l. at ps l.from * at o.flow k ≤ at ps l.to * at o.flow k)
          lines;
    }

pub no_regret_by_lists : NoRegretByLists
no_regret_by_lists m o ps plain f s =
    let highest = (no_regret m o ps (feasible_from_lists m o plain f) (settled_from_lists m o plain ps s)).highest in
    record {
      buys = each_by
          m.buys
          no_bid
          (λ k b. Highest (record { limit = b.amount; cost = at ps b.zone; value = b.price }) (at o.bought k))
          (λ k below. highest (Buy k) below);
      sells = each_by
          m.sells
          no_bid
          (λ k b. Highest (record { limit = b.amount; cost = b.price; value = at ps b.zone }) (at o.sold k))
          (λ k below. highest (Sell k) below);
      lines = each_by
          m.lines
          no_line
          (λ k l. Highest (record { limit = l.capacity; cost = at ps l.from; value = at ps l.to }) (at o.flow k))
          (λ k below.
          subst (λ c. Highest (line_terms m o plain ps k c) (at o.flow k)) (begins m o plain ps k below) (highest (LineItem k) below));
    }

pub exchange_by_lists : ExchangeByLists
exchange_by_lists m o p ps qs plain proper f g s t =
    let settled = settled_from_lists m o plain ps s in
    let other = settled_from_lists m p plain qs t in
    let feasible = feasible_from_lists m o plain f in
    settled_to_lists m o plain qs
    (exchange m o p ps qs (proper_from_lists m proper) feasible (feasible_from_lists m p plain g) settled other)
