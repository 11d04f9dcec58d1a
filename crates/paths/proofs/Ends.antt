-- A line that is looked at: where it leads, and what raising a label over it leaves. Assumes nothing.
--
--   StepDone t o s ..    the way over the step s was taken where it is free and better, or nothing was done
use Rattle.std.proofs.Common.{◌≡◌, ℕ, suc, ◌-◌, ◌^◌, ◌<◌, ◌≤◌, Bool, true, false, cond, ltb, List, length, set, sym, refl, ap, ◌∙◌, inl, inr, arith}
use Rattle.std.proofs.lemmas.Bool.{cases_lt, le-ltb}
use Rattle.std.proofs.lemmas.List.{length-map}
use Rattle.std.specs.Int.{from_bool}
use Rattle.hour.specs.Market.{Market, Outcome, at, line}
use Rattle.hour.specs.declared.items.Line.{Line}
use Rattle.network.proofs.Rows.{length_lines_in}
use Rattle.network.specs.Tables.{items}
use Rattle.network.specs.Network.{Among}
use Rattle.network.specs.Ways.{room, start, finish, item}
use Rattle.hour.specs.declared.items.Item.TheVariants as items
use Rattle.network.specs.declared.arcs.Step.{Step}
use Rattle.network.specs.declared.arcs.Step.TheVariants.{Forward, Backward}
use Rattle.network.specs.declared.tables.Amounts.{Amounts}
use Rattle.network.specs.declared.tables.Tables.{Tables}
use Rattle.paths.specs.Labels.{Leads, NoBetter, Over}
use Rattle.network.specs.Given.{market_given, outcome_given}
use Rattle.paths.specs.Search.{Sound, RelaxedBy, Settling, Raised, top}
use Rattle.paths.specs.Ways.{way_at, way_better, over_line, worths, fars}
use Rattle.paths.specs.declared.ways.Way.{Way}
use Rattle.paths.proofs.Keys.{far_below}
use Rattle.paths.proofs.Raised.{raise_done}
use Rattle.paths.proofs.Zones.{far_is, keeps_same}

pub record StepDone (t : Tables) (o : Amounts) (s : Step) (ways : List Way) (rose : ℕ) (ways' : List Way) : Type 0 where
  pub raised : Raised t o ways rose ways'
  pub relaxed : rose ≡ 0 → RelaxedBy (market_given t) (outcome_given o) (worths ways) (fars ways) s
  pub few : rose ≤ 1

-- a label over a line is raised where a is less than b and the way better: whether it rose, and the ways after
pub record Tried (a b : ℕ) (ways : List Way) (v w : ℕ) (rose : Bool) (ways' : List Way) : Type 0 where
  pub taken :
      a < b →
      (rose ≡ way_better (way_at ways v) (way_at ways w))
      × (ways'
      ≡ cond (way_better (way_at ways v) (way_at ways w)) (set ways v (over_line (way_at ways v) (way_at ways w))) ways)
  pub passed : b ≤ a → (rose ≡ false) × (ways' ≡ ways)

module _ {a b : ℕ} {rose : Bool} {ways ways' : List Way} {v w : ℕ} where
  pub is_taken :
      a < b → rose ≡ way_better (way_at ways v) (way_at ways w) →
      ways'
      ≡ cond (way_better (way_at ways v) (way_at ways w)) (set ways v (over_line (way_at ways v) (way_at ways w))) ways →
      Tried a b ways v w rose ways'
  is_taken less answer new = record { taken = λ _. (answer, new); passed = λ off. absurd (omega arith) }

  pub is_passed : b ≤ a → rose ≡ ltb a b → ways' ≡ ways → Tried a b ways v w rose ways'
  is_passed past answer same =
      record { taken = λ less. absurd (omega arith); passed = λ _. (answer ∙ le-ltb a b past, same) }

rose_by : (b : Bool) → from_bool b ≡ cond b 1 0
rose_by true = refl
rose_by false = refl

one_at_most : (b : Bool) → from_bool b ≤ 1
one_at_most true = omega arith
one_at_most false = omega arith

-- all ways over a step begin and end where it does
relaxed_step :
    (m : Market) (o : Outcome) (worth far : List ℕ) (s : Step) →
    (0 < at worth (finish m s) →
    NoBetter (at worth (finish m s)) (suc (at far (finish m s))) (at worth (start m s)) (at far (start m s))) →
    RelaxedBy m o worth far s
relaxed_step m o worth far s no_better v w leads some =
    rw (← leads.from, ← leads.to) (no_better (rw (← leads.to) at some))

-- the way over a step that has room, or has none, as a test says
module _
    (t : Tables) (o : Amounts) (sound : Sound t o) (ways : List Way) (settling : Settling t o ways) (ways' : List Way)
    (rose : Bool) (l : ℕ) (s : Step) (v w : ℕ) (among : Among (market_given t) (item s))
    (from : start (market_given t) s ≡ v) (to : finish (market_given t) s ≡ w) (v_in : v < t.zones) (w_in : w < t.zones)
    (over : Leads (market_given t) (outcome_given o) v w s → Over (market_given t) (outcome_given o) l v w)
  where
    step_done :
        (a b : ℕ) → room (market_given t) (outcome_given o) s ≡ b - a → Tried a b ways v w rose ways' →
        StepDone t o s ways (from_bool rose) ways'
    step_done a b room_is tried =
        elim (cases_lt a b) [
          | inl less ↦
              let leads : Leads (market_given t) (outcome_given o) v w s =
              record { free = record { among = among; room = omega (arith, room_is) }; from = from; to = to }
              in
              let (answer, new) = tried.taken less in
              let done =
              raise_done t o ways ways' l v w (from_bool rose) sound.tables.proper settling v_in w_in (over leads)
              (rose_by rose ∙ ap (λ (x : Bool). cond x 1 0) answer) new
              in
              record {
                raised = done.0;
                relaxed = λ none.
                    relaxed_step _ _ (worths ways) (fars ways) s (λ some. rw (from, to) (done.1 none (rw to at some)));
                few = one_at_most rose;
              }
          | inr past ↦
              let (none, same) = tried.passed (omega arith) in
              rw (none, same)
              (record {
                raised = record { settling = settling; falls = omega arith; same = λ e. refl; bids = keeps_same ways };
                relaxed = λ e u x leads some. let room = leads.free.room in absurd (omega (arith, room, room_is));
                few = omega arith;
              })
        ]

module _
    {t : Tables} {o : Amounts} {l : ℕ} {ln : Line} (sound : Sound t o) (within : l < items t.lines.now)
    (is : ln ≡ line (market_given t).lines l) (ways : List Way) (settling : Settling t o ways)
  where
    below : l < length (market_given t).lines
    below = rw (length_lines_in t.lines.now) within

    from_in : ln.from < t.zones
    from_in = rw is (sound.tables.proper.from l below)

    to_in : ln.to < t.zones
    to_in = rw is (sound.tables.proper.to l below)

    -- a way is in the slice, and no way takes more lines than can be counted
    ends_in :
        (v w : ℕ) → v < t.zones → w < t.zones →
        record { zones : (v < length ways) × (w < length ways); near : (way_at ways w).far < 2 ^ 32 }
    ends_in v w v_in w_in =
        let keyed = settling.keyed in
        let near = far_below t.zones top _ _ keyed w w_in in
        let long : length ways ≡ t.zones = sym (length-map ways (λ (x : Way). x.worth)) ∙ keyed.worth_long in
        record {
          zones = (omega arith, omega arith);
          near = omega (arith, near, far_is ways w, sound.tables.zones);
        }

    pub forward_in :
        record { zones : (ln.from < length ways) × (ln.to < length ways); near : (way_at ways ln.to).far < 2 ^ 32 }
    forward_in = ends_in ln.from ln.to from_in to_in

    pub backward_in :
        record { zones : (ln.to < length ways) × (ln.from < length ways); near : (way_at ways ln.from).far < 2 ^ 32 }
    backward_in = ends_in ln.to ln.from to_in from_in

    module _ {ways' : List Way} {rose : Bool} where
      pub forward_done :
          Tried (at o.flow.now l) ln.capacity ways ln.from ln.to rose ways' →
          StepDone t o (Forward (items.Line l)) ways (from_bool rose) ways'
      forward_done =
          step_done t o sound ways settling ways' rose l (Forward (items.Line l)) ln.from ln.to below
          (ap (λ (x : Line). x.from) (sym is)) (ap (λ (x : Line). x.to) (sym is)) from_in to_in inl
          (at o.flow.now l) ln.capacity (ap (λ (x : Line). x.capacity - at o.flow.now l) (sym is))

      pub backward_done :
          Tried 0 (at o.flow.now l) ways ln.to ln.from rose ways' →
          StepDone t o (Backward (items.Line l)) ways (from_bool rose) ways'
      backward_done =
          step_done t o sound ways settling ways' rose l (Backward (items.Line l)) ln.to ln.from below
          (ap (λ (x : Line). x.to) (sym is)) (ap (λ (x : Line). x.from) (sym is)) to_in from_in inr
          0 (at o.flow.now l) (omega arith)
