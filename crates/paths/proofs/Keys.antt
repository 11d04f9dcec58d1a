-- Keys of labels: why raising labels one by one comes to an end, whatever the order. Assumes nothing.
use Rattle.std.proofs.Common.{◌≡◌, ℕ, zero, suc, ◌+◌, ◌*◌, ◌<◌, ◌≤◌, cond, ltb, ◌≢◌, List, length, set, ap, ◌∙◌, inl, inr, mul-le-mul_right, add-mul, one-mul, arith}
use mathlib.Core.Path.{subst⁻¹}
use Rattle.std.proofs.lemmas.List.{length-set, get_or-set_same, get_or-set_other}
use Rattle.std.proofs.lemmas.Bool.{cases_eq, cases_lt, lt-ltb, le-ltb, ltb-true, cond_both}
use Rattle.hour.specs.Market.{at}
use Rattle.hour.specs.Total.{total}
use Rattle.hour.proofs.Total.{total_le, total_tight}
use Rattle.paths.specs.Keys.{key, keys, higher, Raises, Keyed, left}

suc_mul : (k c : ℕ) → suc k * c ≡ k * c + c
suc_mul k c =
    let next : suc k ≡ k + 1 = omega arith in
    omega (arith, ap (λ j. j * c) next, add-mul k 1 c, one-mul c)

-- sums of parts in order, one of them strictly
total_lt :
    (n k : ℕ) (f g : ℕ → ℕ) → ((j : ℕ) → j < n → f j ≤ g j) → k < n → f k < g k → total n f < total n g
total_lt n k f g le h less =
    elim (cases_lt (total n f) (total n g))
    [ inl l ↦ l | inr ge ↦ omega (arith, total_tight n f g le ge k h) ]

total_limit : (n c : ℕ) (f : ℕ → ℕ) → ((k : ℕ) → k < n → f k ≤ c) → total n f ≤ n * c
total_limit zero c f le = omega arith
total_limit (suc n) c f le =
    omega (arith, total_limit n c f (λ k h. le k (omega arith)), le n (omega arith), suc_mul n c)

-- one mark for a number that is higher
mark_le : (a b c d : ℕ) → (a < b → c < d) → cond (ltb a b) 1 0 ≤ cond (ltb c d) 1 0
mark_le a b c d more =
    cond_both (ltb a b) 1 0 (λ x. x ≤ cond (ltb c d) 1 0)
    (λ e. rw (lt-ltb c d (more (ltb-true a b e))) (omega arith))
    (λ e. omega arith)

mark_some : (a b : ℕ) → a < b → ◌≡◌ {A = ℕ} (cond (ltb a b) 1 0) 1
mark_some a b h = rw (lt-ltb a b h)

mark_none : (a b : ℕ) → b ≤ a → ◌≡◌ {A = ℕ} (cond (ltb a b) 1 0) 0
mark_none a b h = rw (le-ltb a b h)

mark_one : (a b : ℕ) → cond (ltb a b) 1 0 ≤ 1
mark_one a b = cond_both (ltb a b) 1 0 (λ x. x ≤ 1) (λ e. omega arith) (λ e. omega arith)

-- a number is not higher than itself
higher_less : (n : ℕ) (f : ℕ → ℕ) (v : ℕ) → v < n → higher n f (f v) < n
higher_less n f v h =
    omega (
      arith,
      total_lt n v (λ u. cond (ltb (f v) (f u)) 1 0) (λ u. 1) (λ u l. mark_one (f v) (f u)) h
          (omega (arith, mark_none (f v) (f v) (omega arith))),
      total_limit n 1 (λ u. 1) (λ u l. omega arith),
    )

module _ (n top : ℕ) (worth far : List ℕ) (k : Keyed n top worth far) where
  pub far_below : (v : ℕ) → v < n → at far v < n
  far_below v h = omega (arith, k.passed v h, higher_less n (key n worth far) v h)

  pub key_below : (v : ℕ) → v < n → key n worth far v ≤ (top + 1) * (n + 1)
  key_below v h =
      omega (
        arith,
        mul-le-mul_right (n + 1) (k.most v h),
        add-mul top 1 (n + 1),
        one-mul (n + 1),
      )

  pub keys_below : keys n worth far ≤ n * ((top + 1) * (n + 1))
  keys_below = total_limit n ((top + 1) * (n + 1)) (key n worth far) key_below

pub keyed_start :
    (n top : ℕ) (worth far : List ℕ) → length worth ≡ n → length far ≡ n →
    ((v : ℕ) → v < n → at worth v ≤ top) → ((v : ℕ) → v < n → at far v ≡ 0) → Keyed n top worth far
keyed_start n top worth far worth_long far_long most none =
    record { worth_long = worth_long; far_long = far_long; most = most; passed = λ v h. omega (arith, none v h) }

-- Idea: the raised label's key is one below that of w, so w and all above w are above v; for others no key falls.
module _
    (n top : ℕ) (worth far : List ℕ) (v w : ℕ) (k : Keyed n top worth far) (v_below : v < n) (w_below : w < n)
    (raises : Raises worth far v w)
  where
    abbrev worth' : List ℕ
    worth' = set worth v (at worth w)

    abbrev far' : List ℕ
    far' = set far v (at far w + 1)

    abbrev before : ℕ → ℕ
    before = key n worth far

    abbrev after : ℕ → ℕ
    after = key n worth' far'

    worth_here : at worth' v ≡ at worth w
    worth_here = get_or-set_same worth v (at worth w) 0 (omega arith)

    far_here : at far' v ≡ at far w + 1
    far_here = get_or-set_same far v (at far w + 1) 0 (omega arith)

    worth_there : (u : ℕ) → u ≢ v → at worth' u ≡ at worth u
    worth_there u ne = get_or-set_other worth v u (at worth w) 0 ne

    far_there : (u : ℕ) → u ≢ v → at far' u ≡ at far u
    far_there u ne = get_or-set_other far v u (at far w + 1) 0 ne

    apart : w ≢ v
    apart e =
        elim raises [
          | inl l ↦ omega (arith, ap (at worth) e)
          | inr both ↦ omega (arith, ap (at far) e)
        ]

    same_there : (u : ℕ) → u ≢ v → after u ≡ before u
    same_there u ne =
        omega (arith, ap (λ x. x * (n + 1)) (worth_there u ne), far_there u ne)

    next_here : after v + 1 ≡ before w
    next_here =
        omega (arith, ap (λ x. x * (n + 1)) worth_here, far_here, far_below n top worth far k w w_below)

    rises_here : before v < after v
    rises_here =
        elim raises [
          | inl l ↦
              omega (
                arith,
                next_here,
                far_below n top worth far k w w_below,
                mul-le-mul_right (n + 1) l,
                suc_mul (at worth v) (n + 1),
              )
          | inr (same, nearer) ↦
              omega (arith, next_here, far_below n top worth far k v v_below, ap (λ x. x * (n + 1)) same)
        ]

    rises : (u : ℕ) → before u ≤ after u
    rises u =
        elim (cases_eq u v) [
          | inl e ↦ omega (arith, rises_here, ap before e, ap after e)
          | inr ne ↦ omega (arith, same_there u ne)
        ]

    pub keys_raised : keys n worth far < keys n worth' far'
    keys_raised = total_lt n v before after (λ u h. rises u) v_below rises_here

    passed_here : at far' v ≤ higher n after (after v)
    passed_here =
        omega (
          arith,
          far_here,
          k.passed w w_below,
          total_lt n w (λ u. cond (ltb (before w) (before u)) 1 0) (λ u. cond (ltb (after v) (after u)) 1 0)
              (λ u h. mark_le (before w) (before u) (after v) (after u) (λ l. omega (arith, rises u, next_here)))
              w_below
              (omega (
                arith,
                mark_none (before w) (before w) (omega arith),
                mark_some (after v) (after w) (omega (arith, next_here, same_there w apart)),
              )),
        )

    passed_there : (u : ℕ) → u < n → u ≢ v → at far' u ≤ higher n after (after u)
    passed_there u h ne =
        let same = same_there u ne in
        omega (
          arith,
          far_there u ne,
          k.passed u h,
          total_le n (λ j. cond (ltb (before u) (before j)) 1 0) (λ j. cond (ltb (after u) (after j)) 1 0)
              (λ j l. mark_le (before u) (before j) (after u) (after j) (λ h. omega (arith, rises j, same))),
        )

    pub keyed_raised : Keyed n top worth' far'
    keyed_raised =
        record {
          worth_long = length-set worth v (at worth w) ∙ k.worth_long;
          far_long = length-set far v (at far w + 1) ∙ k.far_long;
          most = λ u h. elim (cases_eq u v) [
            | inl e ↦ omega (arith, ap (at worth') e, worth_here, k.most w w_below)
            | inr ne ↦ omega (arith, worth_there u ne, k.most u h)
          ];
          passed = λ u h. elim (cases_eq u v) [
            | inl e ↦ subst⁻¹ (λ x. at far' x ≤ higher n after (after x)) e passed_here
            | inr ne ↦ passed_there u h ne
          ];
        }

    pub left_falls : left n top worth' far' < left n top worth far
    left_falls = omega (arith, keys_raised, keys_below n top worth' far' keyed_raised)
