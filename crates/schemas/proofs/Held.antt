-- Rows of constants that have passed, and what is read from them.
use mathlib.Core.Path.{◌≡◌, refl, sym, ap, ◌∙◌}
use mathlib.Core.Logic.{◌⊎◌, inl, inr, ⊎_elim}
use mathlib.Core.Bool.{Bool, true, false, false≢true}
use mathlib.Core.List.Memᴰ
use mathlib.Core.List.{List, [], ◌∷◌, Memᴰ}
use Prim.Native.Nat.{ℕ, zero, suc, ◌+◌, ◌-◌, ◌≤◌, ◌<◌}
use native.Mathlib.Decide.{ℕ_discrete}
use native.Mathlib.Omega.{arith}
use borrow.Author.Tests.{eqb-true, eq-eqb, leb-true, le-leb, ltb-true, ltb-false, lt-ltb}
use lib.Dec.{leb, ltb}
use lib.IntN.{ℤ, pos}
use lib.ListN.{length, get_or, set, take}
use lib.Seq.{get_or-set_same, get_or-set_other}
use Rattle.relations.specs.Reach.{Joins}
use Rattle.relations.specs.Sorted.{Sorted, done, next}
use Rattle.relations.proofs.Select.{and_fst, and_snd, mem_span, mem_keep, mem_upto}
use Rattle.express.specs.Syntax.NodeKind as node
use Rattle.express.specs.Syntax.Tree.{Table, count, kind, size, first, last, is_declaration, nodes}
use Rattle.express.specs.Names.Fault.{constant_edges}
use Rattle.express.specs.Semantics.Answer.{Answer}
use Rattle.express.specs.Semantics.AnswerRow.{AnswerRow, row_at}
use Rattle.express.specs.Semantics.AnswerRow as answer_row
use Rattle.express.specs.Semantics.Shape.{name, shape}
use Rattle.express.specs.Semantics.Evaluate.{answer_at}
use Rattle.express.proofs.Syntax.FormedRows.{formed_rows}
use Rattle.operations.specs.Meaning.{sized}
use Rattle.answer_rows.proofs.Stored.{Storable, row_back}
use Rattle.node_answers.specs.Answers.{answers_in}
use Rattle.node_answers.proofs.Rows.{row_there}
use Rattle.schemas.specs.Rows.{row, due, OfFile, Part}
use Rattle.schemas.proofs.Settled.{uses_edge}
use Rattle.schemas.proofs.Nodes.{root_first}
use Rattle.constant_rows.proofs.Numbering.{row_rises, row_before}

-- ---- the order
mem_next : (xs : List ℕ) (i k : ℕ) → Memᴰ k (take (suc i) xs) → Memᴰ k (take i xs) ⊎ (k ≡ get_or xs i 0)
mem_next [] i k m = absurd (Memᴰ.not-nil m)
mem_next (x ∷ xs) zero k (Memᴰ.head q) = inr q
mem_next (x ∷ xs) zero k (Memᴰ.tail m) = absurd (Memᴰ.not-nil m)
mem_next (x ∷ xs) (suc i) k (Memᴰ.head q) = inl (Memᴰ.head q)
mem_next (x ∷ xs) (suc i) k (Memᴰ.tail m) = ⊎_elim (λ n. inl (Memᴰ.tail n)) (λ q. inr q) (mem_next xs i k m)

-- one more of a list is passed
pub one_more : (xs : List ℕ) (i : ℕ) {d : ℕ} → d ≡ get_or xs i 0 → (k : ℕ) → Memᴰ k (take (i + 1) xs) → Memᴰ k (take i xs) ⊎ (k ≡ d)
one_more xs i q k m =
    let e : i + 1 ≡ suc i = omega arith in
    ⊎_elim (λ n. inl n) (λ p. inr (p ∙ sym q)) (mem_next xs i k (rw e at m))

pub sorted_at : {E : ℕ → ℕ → Type 0} {passed ds : List ℕ} → Sorted E passed ds → (i c : ℕ) → i < length ds → E (get_or ds i 0) c → Memᴰ c passed ⊎ Memᴰ c (take i ds)
sorted_at done i c l e = absurd (omega arith)
sorted_at (next h more) zero c l e = inl (h c e)
sorted_at (next h more) (suc i) c l e = by (sorted_at more i c (omega arith) e)
  where
    by : {d : ℕ} {ps qs : List ℕ} → Memᴰ c (d ∷ ps) ⊎ Memᴰ c qs → Memᴰ c ps ⊎ Memᴰ c (d ∷ qs)
    by (inl (Memᴰ.head q)) = inr (Memᴰ.head q)
    by (inl (Memᴰ.tail m)) = inl m
    by (inr m) = inr (Memᴰ.tail m)

-- ---- one column
pub record Due (t : Table) (lo hi c : ℕ) : Type 0 where
  pub from : lo ≤ c
  pub upto : c < hi
  pub is_constant : kind t c ≡ node.constant

pub record Held {A : Type 0} (z : A) (f : ℕ → A) (t : Table) (lo hi at : ℕ) (was column : List A) (passed : ℕ → Type 0) : Type 0 where
  pub there : (c : ℕ) → passed c → Due t lo hi c → get_or column (row t c - at) z ≡ f c
  pub rest : (r : ℕ) → row t hi - at ≤ r → get_or column r z ≡ get_or was r z

differ : (x y : ℕ) → (x ≡ y → ⊥) → (x < y) ⊎ (y < x)
differ x y h = pick (ltb x y) refl
  where
    pick : (b : Bool) → ltb x y ≡ b → (x < y) ⊎ (y < x)
    pick true q = inl (ltb-true x y q)
    pick false q = inr (omega (arith, ltb-false x y q, h))

-- two constants have different rows
pub rows_differ : (t : Table) (c d at : ℕ) → kind t c ≡ node.constant → kind t d ≡ node.constant → at ≤ row t c → at ≤ row t d → (c ≡ d → ⊥) → row t c - at ≡ row t d - at → ⊥
rows_differ t c d at k h a b n q =
    ⊎_elim (λ (x : c < d). let y = row_before t.kinds c d x k in omega arith) (λ (x : d < c). let y = row_before t.kinds d c x h in omega arith) (differ c d n)

module _ {A : Type 0} {z : A} {f : ℕ → A} {t : Table} {lo hi at : ℕ} {was column : List A} {passed more : ℕ → Type 0} (H : Held z f t lo hi at was column passed) where
  pub held_same : ((k : ℕ) → more k → Due t lo hi k → passed k) → Held z f t lo hi at was column more
  held_same M = record { there = λ c m D. H.there c (M c m D) D; rest = H.rest }

  pub held_more : (d : ℕ) → ((k : ℕ) → more k → Due t lo hi k → passed k ⊎ (k ≡ d)) → at ≡ row t lo → Due t lo hi d → row t d - at < length column →
      {after : List A} → after ≡ set column (row t d - at) (f d) → Held z f t lo hi at was after more
  held_more d M s D l {after} e = record { there = λ c m E. by c m E (ℕ_discrete c d); rest = other }
    where
      above : (c : ℕ) → Due t lo hi c → at ≤ row t c
      above c E = let r = row_rises t.kinds lo c E.from in omega arith

      by : (c : ℕ) → more c → Due t lo hi c → Dec (c ≡ d) → get_or after (row t c - at) z ≡ f c
      by c m E (yes q) = rw (q, e) (get_or-set_same column (row t d - at) (f d) z l)
      by c m E (no n) =
          ⊎_elim
          (λ i.
          rw e (get_or-set_other column (row t d - at) (row t c - at) (f d) z (rows_differ t c d at E.is_constant D.is_constant (above c E) (above d D) n) ∙ H.there c i E))
          (λ q. absurd (n q)) (M c m E)

      other : (r : ℕ) → row t hi - at ≤ r → get_or after r z ≡ get_or was r z
      other r h =
          let a = row_rises t.kinds lo d D.from in
          let b = row_before t.kinds d hi D.upto D.is_constant in
          rw e (get_or-set_other column (row t d - at) r (f d) z (λ (q : r ≡ row t d - at). omega arith) ∙ H.rest r h)

-- ---- the three columns
pub record HeldRows (rows : ℕ → AnswerRow) (t : Table) (lo hi at : ℕ) (aks₀ : List ℕ) (azs₀ : List ℤ) (als₀ aks : List ℕ) (azs : List ℤ) (als : List ℕ) (passed : ℕ → Type 0) : Type 0 where
  pub kinds_are : Held 0 (λ c. (rows c).kind) t lo hi at aks₀ aks passed
  pub numbers_are : Held (pos 0) (λ c. (rows c).number) t lo hi at azs₀ azs passed
  pub lengths_are : Held 0 (λ c. (rows c).length) t lo hi at als₀ als passed

row_same : {k l : ℕ} {z : ℤ} {w : AnswerRow} → k ≡ w.kind → z ≡ w.number → l ≡ w.length → answer_row.row k z l ≡ w
row_same {w = w} p q r = rw (p, q, r)

-- a row that holds that of an answer tells it, but for the bytes of a string
pub row_read :
    (ks : List ℕ) (zs : List ℤ) (ls : List ℕ) (i start : ℕ) (a : Answer) → Storable a → i < length ks → i < length zs → i < length ls →
    get_or ks i 0 ≡ (row_at start a).kind → get_or zs i (pos 0) ≡ (row_at start a).number → get_or ls i 0 ≡ (row_at start a).length → answer_at (answers_in ks zs ls) i ≡ sized a
row_read ks zs ls i start a S x y z p q r = row_back start S (row_same {w = row_at start a} p q r) (row_there ks zs ls i x y z)

-- ---- what a node of an expression names
module _ {t : Table} {bytes starts lengths terminals kinds tokens sizes bindings declared order : List ℕ}
    (O : OfFile t bytes starts lengths terminals kinds tokens sizes bindings declared order) (d : ℕ) (l : d < count t) (h : kind t d ≡ node.constant) where
  pub names_edge : (m : ℕ) → first t (last d) ≤ m → m < d → (c : ℕ) → shape t bindings m ≡ name c → Joins (constant_edges t) d c
  names_edge m a b c e =
      let f = root_first O d l h in
      let i = (formed_rows O.read).inside d l in
      let s = (formed_rows O.read).some d l in
      uses_edge O.read O.named d (eq-eqb (kind t d) node.constant h) l m (mem_span (first t d) (size t d) m (omega (arith, a, f.0)) (omega (arith, b, i, s))) c
      (ap (λ (x : List ℕ). shape t x m) O.bindings_are ∙ e)

-- all of an order is a part with all constants
pub whole_part : {t : Table} {bytes starts lengths terminals kinds tokens sizes bindings declared order : List ℕ} →
    OfFile t bytes starts lengths terminals kinds tokens sizes bindings declared order → Part t 0 (count t) order
whole_part {t} O =
    record {
      sorted = λ i c l e a. ⊎_elim (λ m. absurd (Memᴰ.not-nil m)) (λ m. m) (sorted_at O.ordered.sorted i c l e);
      complete = λ c a b k. O.ordered.complete c (mem_keep (is_declaration t) (nodes t) (mem_upto (count t) c b) (rw k));
    }

-- ---- the test
pub due_is : {t : Table} {kinds : List ℕ} {lo hi d : ℕ} → t.kinds ≡ kinds → due kinds lo hi d ≡ true → Due t lo hi d
due_is {t} {kinds} {lo} {hi} {d} e h =
    let a = and_snd (leb lo d) _ h in
    record {
      from = leb-true lo d (and_fst (leb lo d) _ h);
      upto = ltb-true d hi (and_fst (ltb d hi) _ a);
      is_constant = rw e (eqb-true (get_or kinds d 0) node.constant (and_snd (ltb d hi) _ a));
    }

pub due_not : {t : Table} {kinds : List ℕ} {lo hi d : ℕ} → t.kinds ≡ kinds → due kinds lo hi d ≡ false → Due t lo hi d → ⊥
due_not {t} {kinds} {lo} {hi} {d} e h D =
    let k : get_or kinds d 0 ≡ node.constant = rw (← e) D.is_constant in
    false≢true (sym h ∙ rw (le-leb lo d D.from, lt-ltb d hi D.upto, k))
