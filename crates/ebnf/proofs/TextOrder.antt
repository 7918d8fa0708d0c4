-- Nodes side by side stand in the order of the text: a row that stands before the tree of another is named by an earlier token.
use mathlib.Core.Bool.{Bool, true, false, not, ◌&&◌, ◌||◌, false≢true}
use mathlib.Core.List.{List, [], ◌∷◌, ◌++◌}
use mathlib.Core.Logic.{inl, inr}
use mathlib.Core.Path.{◌≡◌, refl, ap, subst}
use Prim.Native.Nat.{ℕ, zero, suc, ◌+◌, ◌≤◌, ◌<◌}
use native.Mathlib.Nat.{le_refl}
use native.Mathlib.Omega.{arith}
use lib.ListN.{length, length-append}
use Rattle.ebnf.specs.Grammar.{Mark, silent, here, node, leaf, Ebnf, none, mark, step, seq, alt, star, fork, nt}
use Rattle.ebnf.specs.Grammar.{Derives, nothing, marked, token, both, left, right, stop, more, label, other, rule, Text}
use Rattle.ebnf.specs.Rows.{Row, Rows, in_rows}
use Rattle.ebnf.specs.Parse.{Tables}
use Rattle.ebnf.proofs.Sets.{and_split}
use Rattle.ebnf.proofs.Predictive.{Predictive}
use Rattle.ebnf.proofs.Lookahead.{eats}
use Rattle.ebnf.proofs.PostOrder.{row_at, size_at}
use Rattle.ebnf.proofs.Naming.{Stands, stands, is_here, is_none, at_none}

-- ---- the test of a rule: a node is left only after a token. The state: whether the rule has passed a token since the one that names the next node.

abbrev pub eaten : {N : Type 0} → Ebnf N → Bool → Bool
eaten none g = g
eaten (mark m) g = g
eaten (step m cs a) g = true
eaten (seq a b) g = eaten b (eaten a g)
eaten (alt a b) g = eaten a g && eaten b g
eaten (star a) g = g
eaten (fork m cs ds a b) g = eaten a true && eaten b g
eaten (nt x) g = true

abbrev closes : Mark → Bool → Bool
closes silent g = true
closes here g = true
closes (node k o) g = g
closes (leaf k o) g = false

abbrev pub in_order : {N : Type 0} → Ebnf N → Bool → Bool
in_order none g = true
in_order (mark m) g = closes m g
in_order (step m cs a) g = is_none a
in_order (seq a b) g = in_order a g && in_order b (eaten a g)
in_order (alt a b) g = in_order a g && in_order b g
in_order (star a) g = in_order a g && (not g || eaten a g)
in_order (fork m cs ds a b) g = is_here m && (in_order a true && in_order b g)
in_order (nt x) g = true

-- ---- rows named by tokens from b on, before i, in the order of the text

abbrev pub token_at : List Row → ℕ → ℕ
token_at rs n = (row_at rs n).token

pub record Ordered (b i : ℕ) (rs : List Row) : Type 0 where
  pub inside : (n : ℕ) → n < length rs → (b ≤ token_at rs n) × (token_at rs n < i)
  pub rise : (a c : ℕ) → c < length rs → a + size_at rs c < suc c → token_at rs a < token_at rs c

joined : {b i c j : ℕ} (r s : List Row) → Ordered b i r → Ordered c j s → b ≤ c → i ≤ c → i ≤ j → Ordered b j (r ++ s)
unfolding Stands
joined {b} {i} {c} {j} r s R S bc ic ij = record { inside = λ n l. in_one n (stands r s n l); rise = λ a n l h. up a n (stands r s n l) h l }
  where
    in_one : (n : ℕ) → Stands r s n → (b ≤ token_at (r ++ s) n) × (token_at (r ++ s) n < j)
    in_one n (inl p) = let z = R.inside n p.0 in let e = ap (λ (q : Row). q.token) p.1 in (omega arith, omega arith)
    in_one n (inr p) = let z = S.inside p.0 p.1 in let e = ap (λ (q : Row). q.token) p.3 in (omega arith, omega arith)

    behind :
        (a n : ℕ) (p : (k : ℕ) × (k < length s) × (n ≡ length r + k) × (row_at (r ++ s) n ≡ row_at s k)) → a + size_at (r ++ s) n < suc n →
        Stands r s a → token_at (r ++ s) a < token_at (r ++ s) n
    behind a n p h (inl q) =
        let y = R.inside a q.0 in
        let z = S.inside p.0 p.1 in
        let e = ap (λ (q : Row). q.token) q.1 in
        let f = ap (λ (q : Row). q.token) p.3 in omega arith
    behind a n p h (inr q) =
        let f = ap (λ (q : Row). q.size) p.3 in
        let z = S.rise q.0 p.0 p.1 (omega arith) in
        let e = ap (λ (q : Row). q.token) q.3 in
        let g = ap (λ (q : Row). q.token) p.3 in omega arith

    up : (a n : ℕ) → Stands r s n → a + size_at (r ++ s) n < suc n → n < length (r ++ s) → token_at (r ++ s) a < token_at (r ++ s) n
    up a n (inl p) h l =
        let e = ap (λ (q : Row). q.size) p.1 in
        first a n p h (stands r s a (omega arith))
      where
        first : (a n : ℕ) (p : (n < length r) × (row_at (r ++ s) n ≡ row_at r n)) → a + size_at (r ++ s) n < suc n → Stands r s a → token_at (r ++ s) a < token_at (r ++ s) n
        first a n p h (inl q) =
            let e = ap (λ (q : Row). q.size) p.1 in
            let z = R.rise a n p.0 (omega arith) in
            let f = ap (λ (q : Row). q.token) q.1 in
            let g = ap (λ (q : Row). q.token) p.1 in omega arith
        first a n p h (inr q) = let z = p.0 in let y = q.2 in absurd (omega arith)
    up a n (inr p) h l = behind a n p h (stands r s a (omega arith))

abbrev row_of : ℕ → ℕ → ℕ → ℕ → Row
row_of k o i z = record { kind = k; token = i; size = z; role = o }

further : {b i j : ℕ} {rs : List Row} → i ≤ j → Ordered b i rs → Ordered b j rs
further h R = record { inside = λ n l. let z = R.inside n l in (z.0, omega arith); rise = R.rise }

-- a leaf at the token i
leaf_put : {b i : ℕ} (k o : ℕ) (rs : List Row) → b ≤ i → Ordered b i rs → Ordered b (suc i) (rs ++ (row_of k o i 1 ∷ []))
leaf_put {b} {i} k o rs h R = joined rs (row_of k o i 1 ∷ []) R (record { inside = alone; rise = none_before }) h (le_refl i) (omega arith)
  where
    alone : (n : ℕ) → n < 1 → (i ≤ token_at (row_of k o i 1 ∷ []) n) × (token_at (row_of k o i 1 ∷ []) n < suc i)
    alone zero l = (omega arith, omega arith)
    alone (suc n) l = absurd (omega arith)

    none_before : (a c : ℕ) → c < 1 → a + size_at (row_of k o i 1 ∷ []) c < suc c → token_at (row_of k o i 1 ∷ []) a < token_at (row_of k o i 1 ∷ []) c
    none_before a zero l h = absurd (omega arith)
    none_before a (suc c) l h = absurd (omega arith)

-- a node over all rows so far
node_put : {b i j : ℕ} (k o x : ℕ) (rs : List Row) → b ≤ x → x < j → i ≤ j → Ordered b i rs → Ordered b j (rs ++ (row_of k o x (suc (length rs)) ∷ []))
unfolding Stands
node_put {b} {i} {j} k o x rs bx xj ij R = record { inside = λ n l. in_one n (stands rs top n l); rise = λ a n l h. up a n (stands rs top n l) h }
  where
    top : List Row
    top = row_of k o x (suc (length rs)) ∷ []

    named : (m : ℕ) → m < 1 → (token_at top m ≡ x) × (size_at top m ≡ suc (length rs))
    named zero l = (refl, refl)
    named (suc m) l = absurd (omega arith)

    in_one : (n : ℕ) → Stands rs top n → (b ≤ token_at (rs ++ top) n) × (token_at (rs ++ top) n < j)
    in_one n (inl p) = let z = R.inside n p.0 in let e = ap (λ (q : Row). q.token) p.1 in (omega arith, omega arith)
    in_one n (inr p) = let z = named p.0 p.1 in let e = ap (λ (q : Row). q.token) p.3 in (omega arith, omega arith)

    old : (a n : ℕ) → (n < length rs) × (row_at (rs ++ top) n ≡ row_at rs n) → a + size_at (rs ++ top) n < suc n → Stands rs top a → token_at (rs ++ top) a < token_at (rs ++ top) n
    old a n p h (inl q) =
        let e = ap (λ (q : Row). q.size) p.1 in
        let z = R.rise a n p.0 (omega arith) in
        let f = ap (λ (q : Row). q.token) q.1 in
        let g = ap (λ (q : Row). q.token) p.1 in omega arith
    old a n p h (inr q) = let z = p.0 in let y = q.2 in absurd (omega arith)

    up : (a n : ℕ) → Stands rs top n → a + size_at (rs ++ top) n < suc n → token_at (rs ++ top) a < token_at (rs ++ top) n
    up a n (inl p) h = let e = length-append rs top in let z = p.0 in old a n p h (stands rs top a (omega arith))
    up a n (inr p) h =
        let z = named p.0 p.1 in
        let e = ap (λ (q : Row). q.size) p.3 in
        let y = p.1 in
        let w = p.2 in absurd (omega arith)

-- ---- a rule's value on the way, begun at b, at the token i, in the state g

record Going (b : ℕ) (g : Bool) (i : ℕ) (r : Rows) : Type 0 where
  low : b ≤ i
  rows : Ordered b i r.rows
  name_low : b ≤ r.name
  name_high : r.name ≤ i
  passed : g ≡ true → r.name < i

weaker : {b i : ℕ} {f : Bool} {r : Rows} (g : Bool) → (g ≡ true → f ≡ true) → Going b f i r → Going b g i r
weaker g h K = record { low = K.low; rows = K.rows; name_low = K.name_low; name_high = K.name_high; passed = λ e. K.passed (h e) }

stamped : {b i : ℕ} {g : Bool} (m : Mark) (r : Rows) → Going b g i r → Going b true (suc i) (in_rows.stamp m i r)
stamped silent r K =
    record {
      low = omega (arith, K.low);
      rows = further (omega arith) K.rows;
      name_low = K.name_low;
      name_high = omega (arith, K.name_high);
      passed = λ e. omega (arith, K.name_high);
    }
stamped here r K = record { low = omega (arith, K.low); rows = further (omega arith) K.rows; name_low = K.low; name_high = omega arith; passed = λ e. omega arith }
stamped {i = i} (node k o) r K =
    record {
      low = omega (arith, K.low);
      rows = node_put k o i r.rows K.low (omega arith) (omega arith) K.rows;
      name_low = K.name_low;
      name_high = omega (arith, K.name_high);
      passed = λ e. omega (arith, K.name_high);
    }
stamped (leaf k o) r K =
    record {
      low = omega (arith, K.low);
      rows = leaf_put k o r.rows K.low K.rows;
      name_low = K.name_low;
      name_high = omega (arith, K.name_high);
      passed = λ e. omega (arith, K.name_high);
    }

closed : {b i : ℕ} {g : Bool} (m : Mark) (r : Rows) → closes m g ≡ true → Going b g i r → Going b g i (in_rows.close m r)
closed silent r e K = K
closed here r e K = K
closed (node k o) r e K =
    record {
      low = K.low;
      rows = node_put k o r.name r.rows K.name_low (K.passed e) (le_refl _) K.rows;
      name_low = K.name_low;
      name_high = K.name_high;
      passed = K.passed;
    }
closed (leaf k o) r e K = absurd (false≢true e)

-- after two tokens
forked : {b i : ℕ} {g : Bool} (m : Mark) (r : Rows) → Going b g i r → Going b true (suc (suc i)) (in_rows.stamp m i r)
forked m r K =
    let L = stamped m r K in
    record { low = omega (arith, L.low); rows = further (omega arith) L.rows; name_low = L.name_low; name_high = omega (arith, L.name_high); passed = λ e. omega (arith, L.name_high) }

started : (i : ℕ) → Going i false i (in_rows.start i)
started i = record {
  low = le_refl i;
  rows = record { inside = λ n l. absurd (omega arith); rise = λ a c l h. absurd (omega arith) };
  name_low = le_refl i;
  name_high = le_refl i;
  passed = λ e. absurd (false≢true e);
}

behind : {b i j : ℕ} {f g : Bool} (r s : Rows) → i < j → Going b f i r → Going i g j s → Going b true j (in_rows.join r s)
behind r s h K L = record {
  low = omega (arith, K.low);
  rows = joined r.rows s.rows K.rows L.rows K.low (le_refl _) (omega arith);
  name_low = K.name_low;
  name_high = omega (arith, K.name_high);
  passed = λ e. omega (arith, K.name_high);
}

both_true : (x y : Bool) → x && y ≡ true → (x ≡ true) × (y ≡ true)
both_true true y e = (refl, e)
both_true false y e = absurd (false≢true e)

implied : (g y : Bool) → not g || y ≡ true → g ≡ true → y ≡ true
implied true y e h = e
implied false y e h = absurd (false≢true h)

module _ {N : Type 0} {rules : N → Ebnf N} {T : Tables N} (G : Predictive rules T) (ok : (x : N) → in_order (rules x) false ≡ true) (ts : List ℕ) where
  going : {e : Ebnf N} {i j : ℕ} {r s : Rows} → Derives in_rows rules ts e i r j s → (b : ℕ) (g : Bool) → in_order e g ≡ true → Going b g i r → Going b (eaten e g) j s
  going nothing b g h K = K
  going (marked {m = m} {r = r}) b g h K = closed m r h K
  going (token {m = m} {a = a} {i = i} {j = j} {r = r} {s = s} c d) b g h K =
      let q = at_none d h in
      subst (λ (y : ℕ). Going b true y (in_rows.stamp m i s)) q.0 (subst (λ (y : Rows). Going b true (suc i) (in_rows.stamp m i y)) q.1 (stamped m r K))
  going (both {a = a} d e) b g h K = let p = and_split (in_order a g) _ h in going e b (eaten a g) p.1 (going d b g p.0 K)
  going (left {a = a} {b = c} d) b g h K =
      let p = and_split (in_order a g) _ h in weaker (eaten a g && eaten c g) (λ e. (both_true (eaten a g) (eaten c g) e).0) (going d b g p.0 K)
  going (right {a = a} {b = c} d) b g h K =
      let p = and_split (in_order a g) _ h in weaker (eaten a g && eaten c g) (λ e. (both_true (eaten a g) (eaten c g) e).1) (going d b g p.1 K)
  going stop b g h K = K
  going (more {a = a} d e) b g h K =
      let p = and_split (in_order a g) _ h in going e b g h (weaker g (implied g (eaten a g) p.1) (going d b g p.0 K))
  going (label {m = m} {a = a} {b = c} {i = i} {r = r} y l d) b g h K =
      let p = and_split (is_here m) _ h in
      let q = and_split (in_order a true) _ p.1 in
      weaker (eaten a true && eaten c g) (λ e. (both_true (eaten a true) (eaten c g) e).0) (going d b true q.0 (forked m r K))
  going (other {m = m} {a = a} {b = c} d) b g h K =
      let p = and_split (is_here m) _ h in
      let q = and_split (in_order a true) _ p.1 in
      weaker (eaten a true && eaten c g) (λ e. (both_true (eaten a true) (eaten c g) e).1) (going d b g q.1 K)
  going (rule {x = x} {i = i} {r = r} {s = s} d) b g h K = behind r s (eats G d (G.full x)).1 K (going d i false (ok x) (started i))

  -- THE ROWS OF A TEXT stand in its order
  pub text_ordered : (x : N) (s : Rows) → Text in_rows rules x ts s → Ordered 0 (length ts) s.rows
  text_ordered x s d = (going d 0 false refl (started 0)).rows
