-- A phrase leaves no more rows than it has tokens: a test on the rules, and what it comes to.
use mathlib.Core.Bool.{Bool, true, false, cond}
use mathlib.Core.List.{List, [], ◌∷◌}
use mathlib.Core.Option.{Option, some, none as nowhere}
use mathlib.Core.Path.{◌≡◌, refl, sym}
use Prim.Native.Nat.{ℕ, zero, suc, ◌+◌, ◌≤◌, min}
use native.Mathlib.Omega.{arith}
use lib.ListN.{length, length-append}
use lib.Dec.{leb}
use borrow.Author.Tests.{leb-true}
use Rattle.ebnf.specs.Grammar.{Mark, silent, here, node, leaf, Ebnf, none, mark, step, seq, alt, star, fork, nt}
use Rattle.ebnf.specs.Grammar.{Derives, nothing, marked, token, both, left, right, stop, more, label, other, rule}
use Rattle.ebnf.specs.Rows.{Row, Rows, in_rows, stamp_rows}
use Rattle.ebnf.specs.Parse.{Tables, Result, at, refused, starved}
use Rattle.ebnf.specs.Descent.{phrase as phrase_of}
use Rattle.ebnf.proofs.Predictive.{Predictive}
use Rattle.ebnf.proofs.Sound.{Right}
use Rattle.ebnf.proofs.Equations.{parsed, parsed_right}
use Rattle.ebnf.proofs.Descent.{phrase}

-- ---- how many tokens more than rows there are, where c are before

-- a mark's row takes one
abbrev pay : Mark → ℕ → Option ℕ
pay silent c = some c
pay here c = some c
pay (node k o) zero = nowhere
pay (node k o) (suc c) = some c
pay (leaf k o) zero = nowhere
pay (leaf k o) (suc c) = some c

abbrev after : Option ℕ → (ℕ → Option ℕ) → Option ℕ
after (some c) f = f c
after nowhere f = nowhere

-- the smaller of two
abbrev least : Option ℕ → Option ℕ → Option ℕ
least (some c) (some d) = some (min c d)
least (some c) nowhere = nowhere
least nowhere p = nowhere

-- each turn of a repetition keeps at least what was there
abbrev kept : ℕ → ℕ → Option ℕ
kept c d = cond (leb c d) (some c) nowhere

module _ {N : Type 0} (gain : N → ℕ) where
  -- what is left after e, where a phrase of x leaves at least `gain x`; nowhere, if a row may find no token
  abbrev pub spare : Ebnf N → ℕ → Option ℕ
  spare none c = some c
  spare (mark m) c = pay m c
  spare (step m cs a) c = after (spare a (suc c)) (pay m)
  spare (seq a b) c = after (spare a c) (spare b)
  spare (alt a b) c = least (spare a c) (spare b c)
  spare (star a) c = after (spare a c) (kept c)
  spare (fork m cs ds a b) c = least (after (pay m (suc (suc c))) (spare a)) (spare b c)
  spare (nt x) c = some (gain x + c)

-- ---- what the parts come to

after_some : (o : Option ℕ) (f : ℕ → Option ℕ) (d : ℕ) → after o f ≡ some d → (c : ℕ) × (o ≡ some c) × (f c ≡ some d)
after_some (some c) f d h = (c, refl, h)
after_some nowhere f d h = let z : ◌≡◌ {A = ℕ} 0 1 = cc in absurd (omega arith)

least_some : (o p : Option ℕ) (d : ℕ) → least o p ≡ some d → (a : ℕ) × (b : ℕ) × (o ≡ some a) × (p ≡ some b) × (d ≤ a) × (d ≤ b)
least_some (some a) (some b) d h = let e : min a b ≡ d = cc in (a, b, refl, refl, omega (arith, e), omega (arith, e))
least_some (some a) nowhere d h = let z : ◌≡◌ {A = ℕ} 0 1 = cc in absurd (omega arith)
least_some nowhere p d h = let z : ◌≡◌ {A = ℕ} 0 1 = cc in absurd (omega arith)

kept_some : (c d e : ℕ) → kept c d ≡ some e → (e ≡ c) × (c ≤ d)
kept_some c d e h = go (leb c d) refl h
  where
    go : (b : Bool) → leb c d ≡ b → cond b (some c) nowhere ≡ some e → (e ≡ c) × (c ≤ d)
    go true q k = let g : c ≡ e = cc in (sym g, leb-true c d q)
    go false q k = let z : ◌≡◌ {A = ℕ} 0 1 = cc in absurd (omega arith)

pay_some : (m : Mark) (i c d : ℕ) (r : List Row) → pay m c ≡ some d → length (stamp_rows m i r) + d ≤ length r + c
pay_some silent i c d r h = let e : c ≡ d = cc in omega (arith, e)
pay_some here i c d r h = let e : c ≡ d = cc in omega (arith, e)
pay_some (node k o) i zero d r h = let z : ◌≡◌ {A = ℕ} 0 1 = cc in absurd (omega arith)
pay_some (node k o) i (suc c) d r h = let e : c ≡ d = cc in omega (arith, e, length-append r (record { kind = k; token = i; size = suc (length r); role = o } ∷ []))
pay_some (leaf k o) i zero d r h = let z : ◌≡◌ {A = ℕ} 0 1 = cc in absurd (omega arith)
pay_some (leaf k o) i (suc c) d r h = let e : c ≡ d = cc in omega (arith, e, length-append r (record { kind = k; token = i; size = 1; role = o } ∷ []))

-- The rules pass: a phrase of x leaves at least `gain x` tokens more than rows.
abbrev pub Pays : {N : Type 0} → (N → Ebnf N) → (N → ℕ) → Type 0
Pays {N} rules gain = (x : N) → (d : ℕ) × (spare gain (rules x) 0 ≡ some d) × (gain x ≤ d)

module _ {N : Type 0} {rules : N → Ebnf N} {gain : N → ℕ} (g : Pays rules gain) {ts : List ℕ} where
  -- ROWS AND TOKENS: the rows that e adds, with what is left of c, are no more than the tokens that it takes, with c
  pub counted : {e : Ebnf N} {i j : ℕ} {r s : Rows} → Derives in_rows rules ts e i r j s → (c d : ℕ) → spare gain e c ≡ some d →
      length s.rows + d + i ≤ length r.rows + c + j
  counted nothing c d h = let e : c ≡ d = cc in omega (arith, e)
  counted (marked {m = m} {r = r}) c d h = let p = pay_some m r.name c d r.rows h in omega (arith, p)
  counted (token {m = m} {a = a} {i = i} {s = s} t v) c d h =
      let p = after_some (spare gain a (suc c)) (pay m) d h in
      let q = counted v (suc c) p.0 p.1 in
      let u = pay_some m i p.0 d s.rows p.2 in
      omega (arith, q, u)
  counted (both {a = a} {b = b} v w) c d h =
      let p = after_some (spare gain a c) (spare gain b) d h in
      let q = counted v c p.0 p.1 in
      let u = counted w p.0 d p.2 in
      omega (arith, q, u)
  counted (left {a = a} {b = b} v) c d h =
      let p = least_some (spare gain a c) (spare gain b c) d h in
      let q = counted v c p.0 p.2 in
      omega (arith, q, p.4)
  counted (right {a = a} {b = b} v) c d h =
      let p = least_some (spare gain a c) (spare gain b c) d h in
      let q = counted v c p.1 p.3 in
      omega (arith, q, p.5)
  counted (stop {a = a}) c d h =
      let p = after_some (spare gain a c) (kept c) d h in
      let k = kept_some c p.0 d p.2 in
      omega (arith, k.0)
  counted (more {a = a} v w) c d h =
      let p = after_some (spare gain a c) (kept c) d h in
      let k = kept_some c p.0 d p.2 in
      let q = counted v c p.0 p.1 in
      let u = counted w c d h in
      omega (arith, q, u, k.1)
  counted (label {m = m} {a = a} {b = b} {i = i} {r = r} t t₂ v) c d h =
      let p = least_some (after (pay m (suc (suc c))) (spare gain a)) (spare gain b c) d h in
      let q = after_some (pay m (suc (suc c))) (spare gain a) p.0 p.2 in
      let u = counted v q.0 p.0 q.2 in
      let w = pay_some m i (suc (suc c)) q.0 r.rows q.1 in
      omega (arith, u, w, p.4)
  counted (other {m = m} {a = a} {b = b} v) c d h =
      let p = least_some (after (pay m (suc (suc c))) (spare gain a)) (spare gain b c) d h in
      let q = counted v c p.1 p.3 in
      omega (arith, q, p.5)
  counted (rule {x = x} {r = r} {s = s} v) c d h =
      let p = g x in
      let e : gain x + c ≡ d = cc in
      let q = counted v 0 p.0 p.1 in
      omega (arith, q, p.2, e, length-append r.rows s.rows)

module _ {N : Type 0} {rules : N → Ebnf N} {T : Tables N} {gain : N → ℕ} (G : Predictive rules T) (g : Pays rules gain) (ts : List ℕ) where
  -- the rows of a phrase of x at i, and its spare tokens, lie within it
  abbrev pub Counted : N → ℕ → Result Rows → Type 0
  Counted x i (at j s) = length s.rows + gain x + i ≤ j
  Counted x i (refused k) = Unit {0}
  Counted x i starved = Unit {0}

  counted_at : (x : N) (i : ℕ) (y : Result Rows) → Right in_rows rules ts (rules x) i (in_rows.start i) y → Counted x i y
  counted_at x i (at j s) d = let p = g x in let q = counted g d.0 0 p.0 p.1 in omega (arith, q, p.2)
  counted_at x i (refused k) d = tt
  counted_at x i starved d = tt

  pub phrase_counted : (x : N) (i : ℕ) → i ≤ length ts → Counted x i (phrase G in_rows ts x i)
  unfolding phrase_of
  phrase_counted x i l = counted_at x i (parsed G in_rows ts (rules x) i (in_rows.start i)) (parsed_right G in_rows ts (rules x) (G.ok x) i (in_rows.start i) l)
