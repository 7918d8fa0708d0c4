-- Different nodes are named by different tokens: in the rows of a text no token is claimed twice. A row of a sort that is `own` claims its naming
-- token; one that is `back` claims the token two before that as well. Which rows may, a grammar is tested for.
use mathlib.Core.Bool.{Bool, true, false, cond, not, ◌&&◌, ◌||◌, false≢true}
use mathlib.Core.List.{List, [], ◌∷◌, ◌++◌}
use mathlib.Core.Logic.{◌⊎◌, inl, inr, ⊎_elim}
use mathlib.Core.Path.{◌≡◌, refl, sym, ap, ◌∙◌, subst}
use Prim.Native.Nat.{ℕ, zero, suc, ◌+◌, ◌-◌, ◌≤◌, ◌<◌, min}
use native.Mathlib.Nat.{le_refl}
use native.Mathlib.Omega.{arith}
use borrow.Author.Tests.{leb-true, not-true}
use lib.Dec.{leb}
use lib.ListN.{length, get_or-append, length-append}
use lib.Seq.{get_or-append-add}
use Rattle.ebnf.specs.Grammar.{Mark, silent, here, node, leaf, Ebnf, none, mark, step, seq, alt, star, fork, nt}
use Rattle.ebnf.specs.Grammar.{Derives, nothing, marked, token, both, left, right, stop, more, label, other, rule, Text}
use Rattle.ebnf.specs.Rows.{Row, Rows, in_rows}
use Rattle.ebnf.proofs.Sets.{and_split, lt_or_le}
use Rattle.ebnf.proofs.Derivations.{mono}
use Rattle.ebnf.proofs.PostOrder.{no_row, row_at}

-- where a row of two lists stands
unfoldable pub Stands : List Row → List Row → ℕ → Type 0
Stands r s n = ((n < length r) × (row_at (r ++ s) n ≡ row_at r n)) ⊎ ((k : ℕ) × (k < length s) × (n ≡ length r + k) × (row_at (r ++ s) n ≡ row_at s k))

pub stands : (r s : List Row) (n : ℕ) → n < length (r ++ s) → Stands r s n
unfolding Stands
stands r s n h =
    ⊎_elim (λ (l : n < length r). inl (l, get_or-append r s no_row n l))
    (λ (l : length r ≤ n).
    let e = length-append r s in
    let q : n ≡ length r + (n - length r) = omega arith in
    inr (n - length r, omega arith, q, ap (λ (z : ℕ). row_at (r ++ s) z) q ∙ get_or-append-add r s (n - length r) no_row))
    (lt_or_le n (length r))

abbrev pub is_here : Mark → Bool
is_here silent = false
is_here here = true
is_here (node k o) = false
is_here (leaf k o) = false

abbrev pub is_none : {N : Type 0} → Ebnf N → Bool
is_none none = true
is_none (mark m) = false
is_none (step m cs a) = false
is_none (seq a b) = false
is_none (alt a b) = false
is_none (star a) = false
is_none (fork m cs ds a b) = false
is_none (nt x) = false

pub at_none : {N : Type 0} {rules : N → Ebnf N} {ts : List ℕ} {a : Ebnf N} {i j : ℕ} {r s : Rows} → Derives in_rows rules ts a i r j s → is_none a ≡ true → (i ≡ j) × (r ≡ s)
at_none nothing h = (refl, refl)
at_none marked h = absurd (false≢true h)
at_none (token c d) h = absurd (false≢true h)
at_none (both d e) h = absurd (false≢true h)
at_none (left d) h = absurd (false≢true h)
at_none (right d) h = absurd (false≢true h)
at_none stop h = absurd (false≢true h)
at_none (more d e) h = absurd (false≢true h)
at_none (label c g d) h = absurd (false≢true h)
at_none (other d) h = absurd (false≢true h)
at_none (rule d) h = absurd (false≢true h)

-- ---- the test of a rule. The state: 0, or 1 where the token that names the next node is claimed by none, or 2 where it also stands two before.
-- A repetition keeps the state 1 where each of its turns does.

module _ (own back : ℕ → ℕ → Bool) where
  abbrev stamp_ok : Mark → ℕ → Bool
  stamp_ok silent f = true
  stamp_ok here f = true
  stamp_ok (node k o) f = not (back k o)
  stamp_ok (leaf k o) f = not (back k o) || leb 2 f

  abbrev stamp_state : Mark → ℕ → ℕ
  stamp_state silent f = min f 1
  stamp_state here f = 1
  stamp_state (node k o) f = min f 1
  stamp_state (leaf k o) f = cond (back k o) 0 (min f 1)

  abbrev close_ok : Mark → ℕ → Bool
  close_ok silent f = true
  close_ok here f = true
  close_ok (node k o) f = not (back k o) && (not (own k o) || leb 1 f)
  close_ok (leaf k o) f = not (back k o) && (not (own k o) || leb 1 f)

  abbrev close_state : Mark → ℕ → ℕ
  close_state silent f = f
  close_state here f = f
  close_state (node k o) f = cond (own k o) 0 f
  close_state (leaf k o) f = cond (own k o) 0 f

  abbrev pub after : {N : Type 0} → Ebnf N → ℕ → ℕ
  after none f = f
  after (mark m) f = close_state m f
  after (step m cs a) f = stamp_state m f
  after (seq a b) f = after b (after a f)
  after (alt a b) f = min (after a f) (after b f)
  after (star a) f = min (min f 1) (after a 1)
  after (fork m cs ds a b) f = min (after a 2) (after b f)
  after (nt x) f = min f 1

  -- each row that claims a token may
  abbrev pub claims_once : {N : Type 0} → Ebnf N → ℕ → Bool
  claims_once none f = true
  claims_once (mark m) f = close_ok m f
  claims_once (step m cs a) f = is_none a && stamp_ok m f
  claims_once (seq a b) f = claims_once a f && claims_once b (after a f)
  claims_once (alt a b) f = claims_once a f && claims_once b f
  claims_once (star a) f = claims_once a (after (star a) f)
  claims_once (fork m cs ds a b) f = is_here m && (claims_once a 2 && claims_once b f)
  claims_once (nt x) f = true

  -- ---- what rows claim

  pub data Claims (r : Row) (x : ℕ) : Type 0 where
    named : own r.kind r.role ≡ true → r.token ≡ x → Claims r x
    two_before : back r.kind r.role ≡ true → x + 2 ≡ r.token → Claims r x

  -- rows that claim tokens from b on, before i, none twice
  pub record Claimed (b i : ℕ) (rs : List Row) : Type 0 where
    pub inside : (n x : ℕ) → n < length rs → Claims (row_at rs n) x → (b ≤ x) × (x < i)
    pub apart : (n m x : ℕ) → n < length rs → m < length rs → Claims (row_at rs n) x → Claims (row_at rs m) x → n ≡ m

  -- two lists one after the other
  joined : {b i c j : ℕ} (r s : List Row) → Claimed b i r → Claimed c j s → b ≤ c → i ≤ j
      → ((n m x : ℕ) → n < length r → m < length s → Claims (row_at r n) x → Claims (row_at s m) x → ⊥) → Claimed b j (r ++ s)
  unfolding Stands
  joined {b} {i} {c} {j} r s R S bc ij disjoint = record {
    inside = λ n x l h. in_one x (stands r s n l) h;
    apart = λ n m x l l' h h'. same n m x (stands r s n l) (stands r s m l') h h';
  }
    where
      in_one : {n : ℕ} (x : ℕ) → Stands r s n → Claims (row_at (r ++ s) n) x → (b ≤ x) × (x < j)
      in_one x (inl p) h = let z = R.inside _ x p.0 (rw p.1 at h) in (z.0, omega arith)
      in_one x (inr p) h = let z = S.inside p.0 x p.1 (rw p.3 at h) in (omega arith, z.1)

      same : (n m x : ℕ) → Stands r s n → Stands r s m → Claims (row_at (r ++ s) n) x → Claims (row_at (r ++ s) m) x → n ≡ m
      same n m x (inl p) (inl q) h h' = R.apart n m x p.0 q.0 (rw p.1 at h) (rw q.1 at h')
      same n m x (inl p) (inr q) h h' = absurd (disjoint n q.0 x p.0 q.1 (rw p.1 at h) (rw q.3 at h'))
      same n m x (inr p) (inl q) h h' = absurd (disjoint m p.0 x q.0 p.1 (rw q.1 at h') (rw p.3 at h))
      same n m x (inr p) (inr q) h h' =
          let e = S.apart p.0 q.0 x p.1 q.1 (rw p.3 at h) (rw q.3 at h') in
          p.2 ∙ ap (λ (z : ℕ). length r + z) e ∙ sym q.2

  -- a row behind others, whose claims are new
  put : {b i j : ℕ} (rs : List Row) (r : Row) → Claimed b i rs → i ≤ j
      → ((x : ℕ) → Claims r x → (b ≤ x) × (x < j) × ((n : ℕ) → n < length rs → Claims (row_at rs n) x → ⊥)) → Claimed b j (rs ++ (r ∷ []))
  put {b} {i} {j} rs r R ij new =
      joined rs (r ∷ []) R
      (record { inside = λ n x l h. alone n x l h; apart = λ n m x l l' h h'. let e : n ≡ m = omega arith in e }) (le_refl b) ij
      (λ n m x l l' h h'. only m x l' h' n l h)
    where
      alone : (n x : ℕ) → n < 1 → Claims (row_at (r ∷ []) n) x → (b ≤ x) × (x < j)
      alone zero x l h = let z = new x h in (z.0, z.1)
      alone (suc n) x l h = absurd (omega arith)

      only : (m x : ℕ) → m < 1 → Claims (row_at (r ∷ []) m) x → (n : ℕ) → n < length rs → Claims (row_at rs n) x → ⊥
      only zero x l h n k g = (new x h).2 n k g
      only (suc m) x l h n k g = omega arith

  -- ---- a rule's value on the way, begun at b, at the token i, in the state f

  record Kept (b f i : ℕ) (r : Rows) : Type 0 where
    low : b ≤ i
    rows : Claimed b i r.rows
    free : 1 ≤ f → (b ≤ r.name) × (r.name < i) × ((n : ℕ) → n < length r.rows → Claims (row_at r.rows n) r.name → ⊥)
    two : 2 ≤ f → r.name + 2 ≡ i

  weaker : {b f g i : ℕ} {r : Rows} → g ≤ f → Kept b f i r → Kept b g i r
  weaker h K = record { low = K.low; rows = K.rows; free = λ l. K.free (omega arith); two = λ l. K.two (omega arith) }

  further : {b f i j : ℕ} {r : Rows} → i ≤ j → Kept b f i r → Kept b (min f 1) j r
  further {b} {f} {i} {j} {r} h K = record {
    low = omega (arith, K.low);
    rows = record { inside = λ n x l c. let z = K.rows.inside n x l c in (z.0, omega arith); apart = K.rows.apart };
    free = λ l. let z = K.free (omega arith) in (z.0, omega arith, z.2);
    two = λ l. absurd (omega arith);
  }

  abbrev row_of : ℕ → ℕ → ℕ → ℕ → Row
  row_of k o i z = record { kind = k; token = i; size = z; role = o }

  -- a row at the token i that claims no more than i
  grown : {b f i : ℕ} (k o z : ℕ) (r : Rows) → back k o ≡ false → Kept b f i r → Kept b (min f 1) (suc i) (record { name = r.name; rows = r.rows ++ (row_of k o i z ∷ []) })
  unfolding Stands
  grown {b} {f} {i} k o z r e K = record {
    low = omega (arith, K.low);
    rows = put r.rows (row_of k o i z) K.rows (omega arith) new;
    free = λ l. let y = K.free (omega arith) in (y.0, omega arith, λ n h c. unclaimed y n (stands r.rows (row_of k o i z ∷ []) n h) c);
    two = λ l. absurd (omega arith);
  }
    where
      at_i : (x : ℕ) → Claims (row_of k o i z) x → x ≡ i
      at_i x (named h p) = sym p
      at_i x (two_before h p) = absurd (false≢true (sym e ∙ h))

      new : (x : ℕ) → Claims (row_of k o i z) x → (b ≤ x) × (x < suc i) × ((n : ℕ) → n < length r.rows → Claims (row_at r.rows n) x → ⊥)
      new x c = let q = at_i x c in let l = K.low in (omega arith, omega arith, λ n h g. let y = K.rows.inside n x h g in omega arith)

      last : (k' : ℕ) → k' < 1 → Claims (row_at (row_of k o i z ∷ []) k') r.name → r.name < i → ⊥
      last zero l c h = let q = at_i r.name c in omega arith
      last (suc k') l c h = omega arith

      unclaimed : (b ≤ r.name) × (r.name < i) × ((n : ℕ) → n < length r.rows → Claims (row_at r.rows n) r.name → ⊥)
          → (n : ℕ) → Stands r.rows (row_of k o i z ∷ []) n → Claims (row_at (r.rows ++ (row_of k o i z ∷ [])) n) r.name → ⊥
      unclaimed y n (inl p) c = y.2 n p.0 (rw p.1 at c)
      unclaimed y n (inr p) c = last p.0 p.1 (rw p.3 at c) y.1

  -- a row at the token i that claims the name two before it too
  taken : {b f i : ℕ} (k o z : ℕ) (r : Rows) → 2 ≤ f → Kept b f i r → Kept b 0 (suc i) (record { name = r.name; rows = r.rows ++ (row_of k o i z ∷ []) })
  taken {b} {f} {i} k o z r e K = record {
    low = omega (arith, K.low);
    rows = put r.rows (row_of k o i z) K.rows (omega arith) new;
    free = λ l. absurd (omega arith);
    two = λ l. absurd (omega arith);
  }
    where
      new : (x : ℕ) → Claims (row_of k o i z) x → (b ≤ x) × (x < suc i) × ((n : ℕ) → n < length r.rows → Claims (row_at r.rows n) x → ⊥)
      new x (named h p) = let l = K.low in (omega arith, omega arith, λ n h g. let y = K.rows.inside n x h g in omega arith)
      new x (two_before h p) =
          let q : x ≡ r.name = omega (arith, K.two e) in
          let y = K.free (omega arith) in
          (omega arith, omega arith, λ n l g. y.2 n l (rw q at g))

  -- a row named by the free name
  closed : {b f i : ℕ} (k o z : ℕ) (r : Rows) → back k o ≡ false → (own k o ≡ true → 1 ≤ f) → Kept b f i r → Claimed b i (r.rows ++ (row_of k o r.name z ∷ []))
  closed {b} {f} {i} k o z r e g K = put r.rows (row_of k o r.name z) K.rows (le_refl i) new
    where
      new : (x : ℕ) → Claims (row_of k o r.name z) x → (b ≤ x) × (x < i) × ((n : ℕ) → n < length r.rows → Claims (row_at r.rows n) x → ⊥)
      new x (named h p) = let y = K.free (g h) in (omega arith, omega arith, λ n l c. y.2 n l (rw (sym p) at c))
      new x (two_before h p) = absurd (false≢true (sym e ∙ h))

  -- a token with its mark
  stamped : {b f i : ℕ} (m : Mark) (r : Rows) → stamp_ok m f ≡ true → Kept b f i r → Kept b (stamp_state m f) (suc i) (in_rows.stamp m i r)
  stamped {i = i} silent r e K = further {j = suc i} (omega arith) K
  stamped {b} {f} {i} here r e K = record {
    low = omega (arith, K.low);
    rows = (further {j = suc i} (omega arith) K).rows;
    free = λ l. (K.low, omega arith, λ n l c. let z = K.rows.inside n i l c in omega arith);
    two = λ l. absurd (omega arith);
  }
  stamped (node k o) r e K = grown k o (suc (length r.rows)) r (not-true (back k o) e) K
  stamped {b} {f} {i} (leaf k o) r e K = by (back k o) refl e
    where
      by : (x : Bool) → back k o ≡ x → not x || leb 2 f ≡ true → Kept b (cond x 0 (min f 1)) (suc i) (record { name = r.name; rows = r.rows ++ (row_of k o i 1 ∷ []) })
      by true q h = taken k o 1 r (leb-true 2 f h) K
      by false q h = grown k o 1 r q K

  -- a mark without a token
  marked_row : {b f i : ℕ} (k o z : ℕ) (r : Rows) → not (back k o) && (not (own k o) || leb 1 f) ≡ true → Kept b f i r
      → Kept b (cond (own k o) 0 f) i (record { name = r.name; rows = r.rows ++ (row_of k o r.name z ∷ []) })
  unfolding Stands
  marked_row {b} {f} {i} k o z r e K = by (own k o) refl
    where
      q : (not (back k o) ≡ true) × (not (own k o) || leb 1 f ≡ true)
      q = and_split (not (back k o)) _ e

      back_not : back k o ≡ false
      back_not = not-true (back k o) q.0

      none_new : (x : ℕ) → own k o ≡ false → Claims (row_of k o r.name z) x → ⊥
      none_new x h (named g p) = false≢true (sym h ∙ g)
      none_new x h (two_before g p) = false≢true (sym back_not ∙ g)

      last : (k' x : ℕ) → own k o ≡ false → k' < 1 → Claims (row_at (row_of k o r.name z ∷ []) k') x → ⊥
      last zero x h l c = none_new x h c
      last (suc k') x h l c = omega arith

      unclaimed : own k o ≡ false → ((n : ℕ) → n < length r.rows → Claims (row_at r.rows n) r.name → ⊥)
          → (n : ℕ) → Stands r.rows (row_of k o r.name z ∷ []) n → Claims (row_at (r.rows ++ (row_of k o r.name z ∷ [])) n) r.name → ⊥
      unclaimed h y n (inl p) c = y n p.0 (rw p.1 at c)
      unclaimed h y n (inr p) c = last p.0 r.name h p.1 (rw p.3 at c)

      by : (x : Bool) → own k o ≡ x → Kept b (cond x 0 f) i (record { name = r.name; rows = r.rows ++ (row_of k o r.name z ∷ []) })
      by true h = record {
        low = K.low;
        rows = closed k o z r back_not (λ g. leb-true 1 f (rw h at q.1)) K;
        free = λ l. absurd (omega arith);
        two = λ l. absurd (omega arith);
      }
      by false h = record {
        low = K.low;
        rows = closed k o z r back_not (λ g. absurd (false≢true (sym h ∙ g))) K;
        free = λ l. let y = K.free l in (y.0, y.1, λ n g c. unclaimed h y.2 n (stands r.rows (row_of k o r.name z ∷ []) n g) c);
        two = K.two;
      }

  marked_by : {b f i : ℕ} (m : Mark) (r : Rows) → close_ok m f ≡ true → Kept b f i r → Kept b (close_state m f) i (in_rows.close m r)
  marked_by silent r e K = K
  marked_by here r e K = K
  marked_by (node k o) r e K = marked_row k o (suc (length r.rows)) r e K
  marked_by (leaf k o) r e K = marked_row k o 1 r e K

  -- ---- all derivations

  started : (i : ℕ) → Kept i 0 i (in_rows.start i)
  started i = record {
    low = le_refl i;
    rows = record { inside = λ n x l c. absurd (omega arith); apart = λ n m x l l' c c'. absurd (omega arith) };
    free = λ l. absurd (omega arith);
    two = λ l. absurd (omega arith);
  }

  -- the rows of a rule behind those of the rule around it
  behind : {b f g i j : ℕ} (r s : Rows) → i ≤ j → Kept b f i r → Kept i g j s → Kept b (min f 1) j (in_rows.join r s)
  unfolding Stands
  behind {b} {f} {g} {i} {j} r s ij K L = record {
    low = omega (arith, K.low);
    rows = joined r.rows s.rows K.rows L.rows K.low ij (λ n m x l l' c c'. let y = K.rows.inside n x l c in let z = L.rows.inside m x l' c' in omega arith);
    free = λ l. let y = K.free (omega arith) in (y.0, omega arith, λ n h c. unclaimed y.1 y.2 n (stands r.rows s.rows n h) c);
    two = λ l. absurd (omega arith);
  }
    where
      unclaimed : r.name < i → ((n : ℕ) → n < length r.rows → Claims (row_at r.rows n) r.name → ⊥)
          → (n : ℕ) → Stands r.rows s.rows n → Claims (row_at (r.rows ++ s.rows) n) r.name → ⊥
      unclaimed a y n (inl p) c = y n p.0 (rw p.1 at c)
      unclaimed a y n (inr p) c = let z = L.rows.inside p.0 r.name p.1 (rw p.3 at c) in omega arith

  -- after two tokens, the first of which names the next node
  forked : {b f i : ℕ} (m : Mark) (r : Rows) → is_here m ≡ true → Kept b f i r → Kept b 2 (suc (suc i)) (in_rows.stamp m i r)
  forked silent r h K = absurd (false≢true h)
  forked {b} {f} {i} here r h K = record {
    low = omega (arith, K.low);
    rows = (further {j = suc (suc i)} (omega arith) K).rows;
    free = λ l. (K.low, omega arith, λ n l c. let z = K.rows.inside n i l c in omega arith);
    two = λ l. omega arith;
  }
  forked (node k o) r h K = absurd (false≢true h)
  forked (leaf k o) r h K = absurd (false≢true h)

  -- a turn of a repetition keeps the state of the repetition
  keeps : {N : Type 0} (a : Ebnf N) (f : ℕ) → after (star a) f ≤ after a (after (star a) f)
  keeps a f = by (after (star a) f) refl
    where
      by : (g : ℕ) → after (star a) f ≡ g → g ≤ after a g
      by zero e = omega arith
      by (suc zero) e = omega arith
      by (suc (suc g)) e = absurd (omega arith)

  still : {N : Type 0} (a : Ebnf N) (f : ℕ) → after (star a) (after (star a) f) ≡ after (star a) f
  still a f = omega arith

  module _ {N : Type 0} (rules : N → Ebnf N) (ok : (x : N) → claims_once (rules x) 0 ≡ true) (ts : List ℕ) where
    kept : {e : Ebnf N} {i j : ℕ} {r s : Rows} → Derives in_rows rules ts e i r j s → (b f : ℕ) → claims_once e f ≡ true → Kept b f i r → Kept b (after e f) j s
    kept nothing b f h K = K
    kept (marked {m = m} {r = r}) b f h K = marked_by m r h K
    kept (token {m = m} {a = a} {i = i} {j = j} {r = r} {s = s} c d) b f h K =
        let p = and_split (is_none a) _ h in
        let q = at_none d p.0 in
        let z = stamped m r p.1 K in
        subst (λ (y : ℕ). Kept b (stamp_state m f) y (in_rows.stamp m i s)) q.0 (subst (λ (y : Rows). Kept b (stamp_state m f) (suc i) (in_rows.stamp m i y)) q.1 z)
    kept (both {a = a} d e) b f h K = let p = and_split (claims_once a f) _ h in kept e b (after a f) p.1 (kept d b f p.0 K)
    kept (left {a = a} {b = c} d) b f h K = let p = and_split (claims_once a f) _ h in weaker (omega arith) (kept d b f p.0 K)
    kept (right {a = a} {b = c} d) b f h K = let p = and_split (claims_once a f) _ h in weaker (omega arith) (kept d b f p.1 K)
    kept (stop {a = a}) b f h K = weaker (omega arith) K
    kept (more {a = a} d e) b f h K =
        let g = after (star a) f in
        let K' = weaker (keeps a f) (kept d b g h (weaker (omega arith) K)) in
        weaker (omega arith) (kept e b g (ap (claims_once a) (still a f) ∙ h) K')
    kept (label {m = m} {a = a} {b = c} {i = i} {r = r} g l d) b f h K =
        let p = and_split (is_here m) _ h in
        let q = and_split (claims_once a 2) _ p.1 in
        weaker (omega arith) (kept d b 2 q.0 (forked m r p.0 K))
    kept (other {m = m} {a = a} {b = c} d) b f h K =
        let p = and_split (is_here m) _ h in
        let q = and_split (claims_once a 2) _ p.1 in
        weaker (omega arith) (kept d b f q.1 K)
    kept (rule {x = x} {i = i} {r = r} {s = s} d) b f h K = behind r s (mono d) K (kept d i 0 (ok x) (started i))

    -- THE ROWS OF A TEXT claim each token once, among the tokens of the text
    pub text_claims : (x : N) (s : Rows) → Text in_rows rules x ts s → Claimed 0 (length ts) s.rows
    text_claims x s d = (kept d 0 0 refl (started 0)).rows
