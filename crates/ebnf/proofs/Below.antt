-- What holds of all rows below a row, and the child in whose tree a row lies.
use mathlib.Core.Bool.{Bool, true, ◌&&◌}
use mathlib.Core.List.{List, [], ◌∷◌}
use mathlib.Core.Logic.{⊎_elim}
use mathlib.Core.Path.{◌≡◌, ap, subst}
use Prim.Native.Nat.{ℕ, suc, ◌+◌, ◌-◌, ◌≤◌, ◌<◌}
use native.Mathlib.Omega.{arith}
use lib.ListN.{length, length-append}
use Rattle.ebnf.specs.Rows.{Row}
use Rattle.ebnf.specs.Trees.{Forest, empty, add, flat}
use Rattle.ebnf.proofs.Sets.{and_split, lt_or_le}
use Rattle.ebnf.proofs.Sorts.{every, every_of}
use Rattle.ebnf.proofs.Parts.{Part, one, many, Match, m_end, m_one, m_skip, m_more, Kinds, All}
use Rattle.ebnf.proofs.PostOrder.{row_at, size_at, row_of, Lies, Node, size_is}

-- each sort of the parts passes the test
abbrev pub every_part : (ℕ → ℕ → Bool) → List Part → Bool
every_part p [] = true
every_part p (one S ∷ ps) = every p S && every_part p ps
every_part p (many S ∷ ps) = every p S && every_part p ps

abbrev Roots : (ℕ → ℕ → Bool) → Forest → Type 0
Roots p empty = Unit {0}
Roots p (add k o i c f) = (p k o ≡ true) × Roots p f

match_roots : (p : ℕ → ℕ → Bool) {ps : List Part} {f : Forest} → every_part p ps ≡ true → Match ps f → Roots p f
match_roots p e m_end = tt
match_roots p e (m_one {S = S} {k = k} {o = o} h m) =
    let q = and_split (every p S) _ e in (every_of p S k o q.0 h, match_roots p q.1 m)
match_roots p e (m_skip {S = S} m) = let q = and_split (every p S) _ e in match_roots p q.1 m
match_roots p e (m_more {S = S} {k = k} {o = o} h m) =
    let q = and_split (every p S) _ e in (every_of p S k o q.0 h, match_roots p e m)

-- Row n passes the test.
abbrev pub Passes : (ℕ → ℕ → Bool) → List Row → ℕ → Type 0
Passes p rs n = p (row_at rs n).kind (row_at rs n).role ≡ true

module _ {N : Type 0} (K : Kinds N) (ts : List ℕ) where
  -- The children of what passes the test pass it.
  abbrev pub Closed : (ℕ → ℕ → Bool) → Type 0
  Closed p = (k o : ℕ) → p k o ≡ true → every_part p (K.children k) ≡ true

  below_trees : (p : ℕ → ℕ → Bool) → Closed p → (rs : List Row) (a : ℕ) (f : Forest) → Lies rs a f → All K ts f → Roots p f →
      (m : ℕ) → a ≤ m → m < a + length (flat f) → Passes p rs m
  below_trees p q rs a empty l h r m u v = absurd (omega arith)
  below_trees p q rs a (add k o i c f) l h r m u v =
      let e = length-append (flat c) (row_of k o i c ∷ flat f) in
      ⊎_elim (λ (b : m < a + length (flat c)). below_trees p q rs a c l.0 h.2 (match_roots p (q k o r.0) h.1) m u b)
      (λ (b : a + length (flat c) ≤ m).
      ⊎_elim (λ (g : a + length (flat c) < m). below_trees p q rs (suc (a + length (flat c))) f l.2 h.3 r.1 m g (omega (arith, e)))
      (λ (g : m ≤ a + length (flat c)).
      let z : a + length (flat c) ≡ m = omega arith in
      subst (λ (y : ℕ). Passes p rs y) z (rw l.1 r.0))
      (lt_or_le (a + length (flat c)) m))
      (lt_or_le m (a + length (flat c)))

  -- BELOW A ROW: what its children pass, and what is closed, all rows below it pass
  pub below : (p : ℕ → ℕ → Bool) → Closed p → (rs : List Row) (n : ℕ) → Node K ts rs n → every_part p (K.children (row_at rs n).kind) ≡ true →
      (m : ℕ) → suc n - size_at rs n ≤ m → m < n → Passes p rs m
  below p q rs n d e m u v =
      let s = size_is K ts rs n d in
      let i = d.inside in
      let k : (row_at rs n).kind ≡ d.kind = ap (λ (r : Row). r.kind) d.row in
      below_trees p q rs (n - length (flat d.children)) d.children d.below d.all
      (match_roots p (subst (λ (z : ℕ). every_part p (K.children z) ≡ true) k e) d.match) m (omega (arith, s, i)) (omega (arith, i))

  -- the child in whose tree a row lies
  pub record Child (rs : List Row) (n m : ℕ) (p : ℕ → ℕ → Bool) : Type 0 where
    pub child : ℕ
    pub passes : Passes p rs child
    pub from : suc child - size_at rs child ≤ m
    pub to : m ≤ child
    pub above : child < n

  child_tree : (p : ℕ → ℕ → Bool) (rs : List Row) (a : ℕ) (f : Forest) → Lies rs a f → Roots p f → (m n : ℕ) → a ≤ m → m < a + length (flat f) → a + length (flat f) ≤ n →
      Child rs n m p
  child_tree p rs a empty l r m n u v w = absurd (omega arith)
  child_tree p rs a (add k o i c f) l r m n u v w =
      let e = length-append (flat c) (row_of k o i c ∷ flat f) in
      ⊎_elim (λ (g : a + length (flat c) < m). child_tree p rs (suc (a + length (flat c))) f l.2 r.1 m n g (omega (arith, e)) (omega (arith, e)))
      (λ (g : m ≤ a + length (flat c)).
      let s : size_at rs (a + length (flat c)) ≡ suc (length (flat c)) = ap (λ (x : Row). x.size) l.1 in
      record { child = a + length (flat c); passes = rw l.1 r.0; from = omega (arith, s); to = g; above = omega (arith, e) })
      (lt_or_le (a + length (flat c)) m)

  -- EACH ROW BELOW A ROW lies in the tree of one of its children
  pub child_of : (p : ℕ → ℕ → Bool) (rs : List Row) (n : ℕ) → Node K ts rs n → every_part p (K.children (row_at rs n).kind) ≡ true →
      (m : ℕ) → suc n - size_at rs n ≤ m → m < n → Child rs n m p
  child_of p rs n d e m u v =
      let s = size_is K ts rs n d in
      let i = d.inside in
      let k : (row_at rs n).kind ≡ d.kind = ap (λ (r : Row). r.kind) d.row in
      child_tree p rs (n - length (flat d.children)) d.children d.below
      (match_roots p (subst (λ (z : ℕ). every_part p (K.children z) ≡ true) k e) d.match) m n (omega (arith, s, i)) (omega (arith, i)) (omega (arith, i))
