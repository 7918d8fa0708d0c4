-- The rows of a phrase weigh no more than it has tokens, where a row has a weight by its kind and its role: a test on the rules, and what it comes to.
use mathlib.Core.Bool.{Bool, true, false, cond, false≢true}
use mathlib.Core.List.{List, [], ◌∷◌, ◌++◌}
use mathlib.Core.Option.{Option, some, none as nowhere}
use mathlib.Core.Path.{◌≡◌, refl, sym}
use Prim.Native.Nat.{ℕ, suc, ◌+◌, ◌-◌, ◌≤◌, min}
use native.Mathlib.Omega.{arith}
use lib.ListN.{length}
use lib.Dec.{leb}
use borrow.Author.Tests.{leb-true}
use Rattle.ebnf.specs.Grammar.{Mark, silent, here, node, leaf, Ebnf, none, mark, step, seq, alt, star, fork, nt}
use Rattle.ebnf.specs.Grammar.{Derives, nothing, marked, token, both, left, right, stop, more, label, other, rule, Text}
use Rattle.ebnf.specs.Rows.{Row, Rows, in_rows, stamp_rows}

-- what rows weigh
unfoldable pub weight : (ℕ → ℕ → ℕ) → List Row → ℕ
weight w [] = 0
weight w (r ∷ rs) = w r.kind r.role + weight w rs

weight_none : (w : ℕ → ℕ → ℕ) → weight w [] ≡ 0
unfolding weight
weight_none w = refl

weight_append : (w : ℕ → ℕ → ℕ) (rs ss : List Row) → weight w (rs ++ ss) ≡ weight w rs + weight w ss
unfolding weight
weight_append w [] ss = omega arith
weight_append w (r ∷ rs) ss = omega (arith, weight_append w rs ss)

-- ---- how many tokens are left that no row has used, where c are before

-- k of them are used
abbrev spend : ℕ → ℕ → Option ℕ
spend k c = cond (leb k c) (some (c - k)) nowhere

abbrev after : Option ℕ → (ℕ → Option ℕ) → Option ℕ
after (some c) f = f c
after nowhere f = nowhere

-- the smaller of two
abbrev least : Option ℕ → Option ℕ → Option ℕ
least (some c) (some d) = some (min c d)
least (some c) nowhere = nowhere
least nowhere p = nowhere

-- each turn of a repetition keeps at least what was there
abbrev kept : ℕ → ℕ → Option ℕ
kept c d = cond (leb c d) (some c) nowhere

abbrev enough : Option ℕ → ℕ → Bool
enough (some d) g = leb g d
enough nowhere g = false

-- a mark's row uses as many as it weighs
abbrev pay : (ℕ → ℕ → ℕ) → Mark → ℕ → Option ℕ
pay w silent c = some c
pay w here c = some c
pay w (node k o) c = spend (w k o) c
pay w (leaf k o) c = spend (w k o) c

-- What a row of a kind and a role weighs; how many of the tokens left before it a phrase of x may use, and how many it leaves at least, if it has these.
pub record Scale (N : Type 0) : Type 0 where
  pub row : ℕ → ℕ → ℕ
  pub loan : N → ℕ
  pub gain : N → ℕ

module _ {N : Type 0} (S : Scale N) where
  -- what is left after e; nowhere, if a row may lack tokens
  abbrev pub spare : Ebnf N → ℕ → Option ℕ
  spare none c = some c
  spare (mark m) c = pay S.row m c
  spare (step m cs a) c = after (spare a (suc c)) (pay S.row m)
  spare (seq a b) c = after (spare a c) (spare b)
  spare (alt a b) c = least (spare a c) (spare b c)
  spare (star a) c = after (spare a c) (kept c)
  spare (fork m cs ds a b) c = least (after (pay S.row m (suc (suc c))) (spare a)) (spare b c)
  spare (nt x) c = after (spend (S.loan x) c) (λ d. some (S.gain x + d))

  -- the rule of x passes: a phrase of x uses no more than said, and leaves no less
  abbrev pub pays : (N → Ebnf N) → N → Bool
  pays rules x = enough (spare (rules x) (S.loan x)) (S.gain x)

-- ---- what the parts come to

after_some : (o : Option ℕ) (f : ℕ → Option ℕ) (d : ℕ) → after o f ≡ some d → (c : ℕ) × (o ≡ some c) × (f c ≡ some d)
after_some (some c) f d h = (c, refl, h)
after_some nowhere f d h = let z : ◌≡◌ {A = ℕ} 0 1 = cc in absurd (omega arith)

least_some : (o p : Option ℕ) (d : ℕ) → least o p ≡ some d → (a : ℕ) × (b : ℕ) × (o ≡ some a) × (p ≡ some b) × (d ≤ a) × (d ≤ b)
least_some (some a) (some b) d h = let e : min a b ≡ d = cc in (a, b, refl, refl, omega (arith, e), omega (arith, e))
least_some (some a) nowhere d h = let z : ◌≡◌ {A = ℕ} 0 1 = cc in absurd (omega arith)
least_some nowhere p d h = let z : ◌≡◌ {A = ℕ} 0 1 = cc in absurd (omega arith)

-- where a test chooses between a number and nowhere
tested_some : (k c a e : ℕ) → cond (leb k c) (some a) nowhere ≡ some e → (e ≡ a) × (k ≤ c)
tested_some k c a e h = by (leb k c) refl h
  where
    by : (b : Bool) → leb k c ≡ b → cond b (some a) nowhere ≡ some e → (e ≡ a) × (k ≤ c)
    by true q u = let g : a ≡ e = cc in (sym g, leb-true k c q)
    by false q u = let z : ◌≡◌ {A = ℕ} 0 1 = cc in absurd (omega arith)

spend_some : (k c d : ℕ) → spend k c ≡ some d → d + k ≡ c
spend_some k c d h = let p = tested_some k c (c - k) d h in omega (arith, p.0, p.1)

enough_some : (o : Option ℕ) (g : ℕ) → enough o g ≡ true → (d : ℕ) × (o ≡ some d) × (g ≤ d)
enough_some (some d) g h = (d, refl, leb-true g d h)
enough_some nowhere g h = absurd (false≢true h)

row_weight : (w : ℕ → ℕ → ℕ) (rs : List Row) (r : Row) → weight w (rs ++ (r ∷ [])) ≡ weight w rs + w r.kind r.role
unfolding weight
row_weight w rs r = omega (arith, weight_append w rs (r ∷ []))

pay_some : (w : ℕ → ℕ → ℕ) (m : Mark) (i c d : ℕ) (r : List Row) → pay w m c ≡ some d → weight w (stamp_rows m i r) + d ≤ weight w r + c
pay_some w silent i c d r h = let e : c ≡ d = cc in omega (arith, e)
pay_some w here i c d r h = let e : c ≡ d = cc in omega (arith, e)
pay_some w (node k o) i c d r h = omega (arith, spend_some (w k o) c d h, row_weight w r (record { kind = k; token = i; size = suc (length r); role = o }))
pay_some w (leaf k o) i c d r h = omega (arith, spend_some (w k o) c d h, row_weight w r (record { kind = k; token = i; size = 1; role = o }))

module _ {N : Type 0} (rules : N → Ebnf N) (S : Scale N) (g : (x : N) → pays S rules x ≡ true) {ts : List ℕ} where
  -- WEIGHTS AND TOKENS: the rows that e adds, with what is left of c, weigh no more than the tokens that it takes, with c
  pub weighed : {e : Ebnf N} {i j : ℕ} {r s : Rows} → Derives in_rows rules ts e i r j s → (c d : ℕ) → spare S e c ≡ some d →
      weight S.row s.rows + d + i ≤ weight S.row r.rows + c + j
  weighed nothing c d h = let e : c ≡ d = cc in omega (arith, e)
  weighed (marked {m = m} {r = r}) c d h = let p = pay_some S.row m r.name c d r.rows h in omega (arith, p)
  weighed (token {m = m} {a = a} {i = i} {s = s} t v) c d h =
      let p = after_some (spare S a (suc c)) (pay S.row m) d h in
      let q = weighed v (suc c) p.0 p.1 in
      let u = pay_some S.row m i p.0 d s.rows p.2 in
      omega (arith, q, u)
  weighed (both {a = a} {b = b} v u) c d h =
      let p = after_some (spare S a c) (spare S b) d h in
      let q = weighed v c p.0 p.1 in
      let k = weighed u p.0 d p.2 in
      omega (arith, q, k)
  weighed (left {a = a} {b = b} v) c d h =
      let p = least_some (spare S a c) (spare S b c) d h in
      let q = weighed v c p.0 p.2 in
      omega (arith, q, p.4)
  weighed (right {a = a} {b = b} v) c d h =
      let p = least_some (spare S a c) (spare S b c) d h in
      let q = weighed v c p.1 p.3 in
      omega (arith, q, p.5)
  weighed (stop {a = a}) c d h =
      let p = after_some (spare S a c) (kept c) d h in
      let k = tested_some c p.0 c d p.2 in
      omega (arith, k.0)
  weighed (more {a = a} v u) c d h =
      let p = after_some (spare S a c) (kept c) d h in
      let k = tested_some c p.0 c d p.2 in
      let q = weighed v c p.0 p.1 in
      let l = weighed u c d h in
      omega (arith, q, l, k.1)
  weighed (label {m = m} {a = a} {b = b} {i = i} {r = r} t t₂ v) c d h =
      let p = least_some (after (pay S.row m (suc (suc c))) (spare S a)) (spare S b c) d h in
      let q = after_some (pay S.row m (suc (suc c))) (spare S a) p.0 p.2 in
      let u = weighed v q.0 p.0 q.2 in
      let k = pay_some S.row m i (suc (suc c)) q.0 r.rows q.1 in
      omega (arith, u, k, p.4)
  weighed (other {m = m} {a = a} {b = b} v) c d h =
      let p = least_some (after (pay S.row m (suc (suc c))) (spare S a)) (spare S b c) d h in
      let q = weighed v c p.1 p.3 in
      omega (arith, q, p.5)
  weighed (rule {x = x} {r = r} {s = s} v) c d h =
      let p = after_some (spend (S.loan x) c) (λ d. some (S.gain x + d)) d h in
      let l = spend_some (S.loan x) c p.0 p.1 in
      let e : S.gain x + p.0 ≡ d = cc in
      let u = enough_some (spare S (rules x) (S.loan x)) (S.gain x) (g x) in
      let q = weighed v (S.loan x) u.0 u.1 in
      omega (arith, q, l, e, u.2, weight_append S.row r.rows s.rows, weight_none S.row)

  -- the rows of a whole text
  pub text_weight : (x : N) (s : Rows) → Text in_rows rules x ts s → S.loan x ≡ 0 → weight S.row s.rows ≤ length ts
  text_weight x s v z =
      let l : spend (S.loan x) 0 ≡ some 0 = rw z in
      let q = weighed v 0 (S.gain x + 0) (rw l) in
      omega (arith, q, weight_none S.row)
