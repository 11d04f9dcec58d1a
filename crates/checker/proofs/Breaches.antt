-- A result breaks no rule exactly where it can be carried out and is settled. Assumes nothing.
use Rattle.std.proofs.Common.{◌≡◌, ℕ, ◌<◌, ◌≤◌, true, List, None, Decides, sym, ◌∙◌, inl, inr, arith}
use Rattle.std.proofs.lemmas.Bool.{cases_order, eqb-true, eq-eqb, lt-ltb, le-ltb, ltb-false, not-false, not_from_true}
use Rattle.hour.specs.Items.{item}
use Rattle.hour.specs.Market.{Market, Outcome, Feasible, Settled, Content, terms, count_of}
use Rattle.hour.specs.declared.refusals.Sort.{Sort}
use Rattle.hour.specs.declared.refusals.Sort.TheVariants as sorts
use Rattle.hour.proofs.First.{else_none, else_none_left, else_none_right, when_none, when_false, first_none, first_all}
use Rattle.hour.specs.Seen.{market_seen}
use Rattle.hour.specs.Rules.{max_amount}
use Rattle.network.proofs.Market.{within_terms, limit_is}
use Rattle.network.specs.Network.{Among, carried, capacity}
use Rattle.network.specs.Given.{outcome_given}
use Rattle.hour.specs.declared.items.Item.{Item}
use Rattle.hour.specs.declared.items.Item.TheVariants.{Buy, Sell, Line}
use Rattle.hour.specs.declared.items.Terms.{Terms}
use Rattle.ledger.proofs.Limits.{rules_of, carried_small, among_item}
use Rattle.checker.specs.declared.standing.Standing.{Standing}
use Rattle.checker.specs.Acceptance.{content_test, terms_broken, item_broken, first_broken, zone_broken, broken_of}

-- the test tells whether an amount is content
module _ (t : Terms) (x : ℕ) where
  tested : Content t x → content_test t x ≡ true
  tested c =
      elim (cases_order t.cost t.value) [
        | inl e ↦ rw (le-ltb t.cost t.value (omega arith), le-ltb t.value t.cost (omega arith))
        | inr (inl l) ↦ rw (lt-ltb t.cost t.value l) (eq-eqb x t.limit (c.whole l))
        | inr (inr l) ↦ rw (le-ltb t.cost t.value (omega arith), lt-ltb t.value t.cost l) (eq-eqb x 0 (c.none l))
      ]

  content : content_test t x ≡ true → Content t x
  content passes =
      record {
        whole = λ l. eqb-true x t.limit (sym (rw (lt-ltb t.cost t.value l)) ∙ passes);
        none = λ l.
            eqb-true x 0 (sym (rw (le-ltb t.cost t.value (omega arith), lt-ltb t.value t.cost l)) ∙ passes);
      }

  pub decides_content : Decides (content_test t x) (Content t x)
  decides_content = (content, tested)

-- no rule is broken by an amount within the limit that is content, and by no other
module _ (sort : Sort) (number : ℕ) (t : Terms) (x : ℕ) where
  pub terms_free : x ≤ t.limit → Content t x → terms_broken sort number t x ≡ None
  terms_free within content =
      else_none _ _ (when_false _ _ (le-ltb t.limit x within))
      ∙ when_false _ _ (not_from_true _ ((decides_content t x).1 content))

  pub terms_within : terms_broken sort number t x ≡ None → x ≤ t.limit
  terms_within none = ltb-false t.limit x (when_none _ _ (else_none_left _ _ none))

  pub terms_content : terms_broken sort number t x ≡ None → Content t x
  terms_content none = (decides_content t x).0 (not-false _ (when_none _ _ (else_none_right _ _ none)))

-- Idea: nothing found among the buys, the sells, the lines and the zones says that each of them is as it should be.
module _ (m : Market) (o : Outcome) (ps : List ℕ) where
  record Each : Type 0 where
    items : (s : Sort) (k : ℕ) → k < count_of m s → item_broken m o ps s k ≡ None
    zones : (z : ℕ) → z < m.zones → zone_broken m o z ≡ None

  none_of_sort : broken_of m o ps ≡ None → (s : Sort) → first_broken m o ps s ≡ None
  none_of_sort none sorts.Buy = else_none_left _ _ none
  none_of_sort none sorts.Sell = else_none_left _ _ (else_none_right (first_broken m o ps sorts.Buy) _ none)
  none_of_sort none sorts.Line =
      else_none_left _ _
      (else_none_right (first_broken m o ps sorts.Sell) _ (else_none_right (first_broken m o ps sorts.Buy) _ none))

  each : broken_of m o ps ≡ None → Each
  each none =
      let after_buys = else_none_right (first_broken m o ps sorts.Buy) _ none in
      let after_sells = else_none_right (first_broken m o ps sorts.Sell) _ after_buys in
      record {
        items = λ s. first_none _ (count_of m s) (none_of_sort none s);
        zones = first_none _ m.zones (else_none_right (first_broken m o ps sorts.Line) _ after_sells);
      }

  item_within : Each → (s : Sort) (k : ℕ) → k < count_of m s → carried o (item s k) ≤ capacity m (item s k)
  item_within all s k h =
      omega (arith, terms_within s k (terms m ps (item s k)) _ (all.items s k h), limit_is m ps (item s k))

  pub feasible_from_none : broken_of m o ps ≡ None → Feasible m o
  feasible_from_none none =
      let all = each none in
      record {
        buys = item_within all sorts.Buy;
        sells = item_within all sorts.Sell;
        lines = item_within all sorts.Line;
        balance = λ z h. eqb-true _ _ (not-false _ (when_none _ _ (all.zones z h)));
      }

  pub settled_from_none : broken_of m o ps ≡ None → Settled m o ps
  settled_from_none none = record { content = content_of }
    where
      content_of : (i : Item) → Among m i → Content (terms m ps i) (carried o i)
      content_of (Buy k) h = terms_content sorts.Buy k _ _ ((each none).items sorts.Buy k h)
      content_of (Sell k) h = terms_content sorts.Sell k _ _ ((each none).items sorts.Sell k h)
      content_of (Line k) h = terms_content sorts.Line k _ _ ((each none).items sorts.Line k h)

  none_first : Feasible m o → Settled m o ps → (s : Sort) → first_broken m o ps s ≡ None
  none_first f s sort =
      first_all _ (count_of m sort) (λ k h.
      let among = among_item m sort k h in
      terms_free sort k _ _ (within_terms m o ps f (item sort k) among) (s.content (item sort k) among))

  pub none_broken : Feasible m o → Settled m o ps → broken_of m o ps ≡ None
  none_broken f s =
      else_none _ _ (none_first f s sorts.Buy)
      ∙ (else_none _ _ (none_first f s sorts.Sell)
      ∙ (else_none _ _ (none_first f s sorts.Line)
      ∙ first_all _ m.zones (λ z h. when_false _ _ (not_from_true _ (eq-eqb _ _ (f.balance z h))))))

-- a claim that stands can be carried out
pub feasible_standing : (s : Standing) → Feasible (market_seen s.claim.hour) (outcome_given s.claim.amounts)
feasible_standing s = feasible_from_none _ _ s.claim.prices.now s.free

pub carried_standing :
    (s : Standing) (i : Item) → Among (market_seen s.claim.hour) i → carried (outcome_given s.claim.amounts) i ≤ max_amount
carried_standing s i among = carried_small _ (rules_of s.claim.hour) _ (feasible_standing s) i among
