-- The rows of the constants: how many stand before a node, node after node.
use mathlib.Core.Path.{◌≡◌, refl, sym, ap, subst, ◌∙◌}
use mathlib.Core.Logic.{◌⊎◌, inl, inr}
use mathlib.Core.Bool.{Bool, true, false}
use mathlib.Core.List.{List}
use Prim.Native.Nat.{ℕ, min, ◌+◌, ◌-◌, ◌≤◌, ◌<◌}
use native.Mathlib.Omega.{arith}
use borrow.Author.Tests.{eqb-true, eq-eqb, ne_eqb}
use lib.Dec.{eqb}
use lib.ListN.{length, get_or, length-append}
use Rattle.relations.specs.Select.{span, first_from, keep}
use Rattle.relations.proofs.Select.{le_or, First, first_is, span_mem, span_append, keep_append, keep_nothing, placed}
use Rattle.express.specs.Syntax.NodeKind as node
use Rattle.constant_rows.specs.Numbering.{row_in, Fills, NumbersRows}

module _ (p : ℕ → Bool) where
  abbrev so_far : ℕ → ℕ
  so_far n = length (keep p (span 0 n))

  split : (a d : ℕ) → so_far (a + d) ≡ so_far a + length (keep p (span (0 + a) d))
  split a d =
      ap (λ (l : List ℕ). length (keep p l)) (span_append 0 a d) ∙ ap length (keep_append p (span 0 a) (span (0 + a) d)) ∙
      length-append (keep p (span 0 a)) (keep p (span (0 + a) d))

  rises : (a b : ℕ) → a ≤ b → so_far a ≤ so_far b
  rises a b h = let q : b ≡ a + (b - a) = omega arith in rw q (omega (arith, split a (b - a)))

  one_more : (n : ℕ) → p n ≡ true → length (keep p (span (0 + n) 1)) ≡ 1
  unfolding keep span
  one_more n h = let z : 0 + n ≡ n = omega arith in let q : p (0 + n) ≡ true = ap p z ∙ h in rw q

  no_more : (n : ℕ) → p n ≡ false → length (keep p (span (0 + n) 1)) ≡ 0
  unfolding keep span
  no_more n h = let z : 0 + n ≡ n = omega arith in let q : p (0 + n) ≡ false = ap p z ∙ h in rw q

  pub next_one : (n : ℕ) → p n ≡ true → so_far (n + 1) ≡ so_far n + 1
  next_one n h = omega (arith, split n 1, one_more n h)

  pub next_none : (n : ℕ) → p n ≡ false → so_far (n + 1) ≡ so_far n
  next_none n h = omega (arith, split n 1, no_more n h)

module _ (kinds : List ℕ) where
  -- later nodes have no earlier rows, and a constant's is before that of every node behind it
  pub row_rises : (a b : ℕ) → a ≤ b → row_in kinds a ≤ row_in kinds b
  row_rises = rises (λ m. eqb (get_or kinds m 0) node.constant)

  pub row_before : (c n : ℕ) → c < n → get_or kinds c 0 ≡ node.constant → row_in kinds c < row_in kinds n
  row_before c n l k = (placed (λ m. eqb (get_or kinds m 0) node.constant) n c l (eq-eqb _ _ k)).within

  pub row_constant : (n : ℕ) → get_or kinds n 0 ≡ node.constant → row_in kinds (n + 1) ≡ row_in kinds n + 1
  row_constant n k = next_one (λ m. eqb (get_or kinds m 0) node.constant) n (eq-eqb _ _ k)

  pub row_other : (n : ℕ) → (get_or kinds n 0 ≡ node.constant → ⊥) → row_in kinds (n + 1) ≡ row_in kinds n
  row_other n k = next_none (λ m. eqb (get_or kinds m 0) node.constant) n (ne_eqb _ _ k)

  -- from a node up to the next constant all rows are one
  pub row_run : (n m : ℕ) → n ≤ m → ((j : ℕ) → n ≤ j → j < m → eqb (get_or kinds j 0) node.constant ≡ false) → row_in kinds m ≡ row_in kinds n
  row_run n m l h =
      let q : m ≡ n + (m - n) = omega arith in
      let p : ℕ → Bool = λ j. eqb (get_or kinds j 0) node.constant in
      let none = keep_nothing p (span (0 + n) (m - n)) (λ x i. let b = span_mem (0 + n) (m - n) x i in h x (omega (arith, b.0)) (omega (arith, b.1))) in
      let e : length (keep p (span (0 + n) (m - n))) ≡ 0 = ap length none in
      ap (row_in kinds) q ∙ omega (arith, split p n (m - n), e)

pub none_yet : (p : ℕ → Bool) → length (keep p (span 0 0)) ≡ 0
unfolding keep span
none_yet p = refl

pub row_none : (kinds : List ℕ) → row_in kinds 0 ≡ 0
row_none kinds = none_yet (λ m. eqb (get_or kinds m 0) node.constant)

-- ---- one number in some entries
pub record Filling (v lo : ℕ) (was column : List ℕ) (i : ℕ) : Type 0 where
  pub len : length column ≡ length was
  pub inside : (m : ℕ) → lo ≤ m → m < i → get_or column m 0 ≡ v
  pub outside : (m : ℕ) → (m < lo) ⊎ (i ≤ m) → get_or column m 0 ≡ get_or was m 0

-- THE LOOP'S INVARIANT
pub record Numbering (kinds was column : List ℕ) (n rows : ℕ) : Type 0 where
  pub len : length column ≡ length was
  pub low : n ≤ length kinds
  pub few : rows ≤ n
  pub rows_are : n < length kinds → rows ≡ row_in kinds n
  pub written : length kinds ≤ 4294967296 → (m : ℕ) → m < n → m < length was → get_or column m 0 ≡ row_in kinds m

module _ {kinds was : List ℕ} where
  pub numbering_starts : Numbering kinds was was 0 0
  numbering_starts = record { len = refl; low = omega arith; few = omega arith; rows_are = λ l. sym (row_none kinds); written = λ h m l. absurd (omega arith) }

  -- up to the next constant, and to that of the last row
  pub numbering_run :
      {column : List ℕ} {n rows : ℕ} → Numbering kinds was column n rows → n < length kinds → {c end s v : ℕ} →
      c ≡ first_from (λ m. eqb (get_or kinds m 0) node.constant) n (length kinds - n) → s ≡ min c (length kinds - 1) → end ≡ s + 1 → (rows < 4294967296 → v ≡ rows) →
      {after : List ℕ} → Fills v n end column after → length after ≡ length column → Numbering kinds was after end (rows + 1)
  numbering_run {column} {n} {rows} N l {c} {end} {s} {v} c_is s_is end_is v_is {after} F len =
      record {
        len = len ∙ N.len;
        low = omega (arith, upto);
        few = omega (arith, N.few, from);
        rows_are = λ h.
            let q : end ≡ c + 1 = omega arith in
            let k : c < length kinds = omega arith in
            let i = eqb-true _ node.constant (first.passes (omega (arith, k))) in
            ap (λ (x : ℕ). x + 1) (N.rows_are l ∙ sym (row_run kinds n c from none)) ∙ sym (row_constant kinds c i) ∙ ap (row_in kinds) (sym q);
        written = λ h m a b. by h m a b (le_or n m);
      }
    where
      first : First (λ m. eqb (get_or kinds m 0) node.constant) n (length kinds - n) c
      first = subst (First (λ m. eqb (get_or kinds m 0) node.constant) n (length kinds - n)) (sym c_is) (first_is (λ m. eqb (get_or kinds m 0) node.constant) n (length kinds - n))

      from : n ≤ c
      from = first.from

      upto : c ≤ length kinds
      upto = omega (arith, first.upto)

      none : (j : ℕ) → n ≤ j → j < c → eqb (get_or kinds j 0) node.constant ≡ false
      none = first.none

      by : length kinds ≤ 4294967296 → (m : ℕ) → m < end → m < length was → (n ≤ m) ⊎ (m < n) → get_or after m 0 ≡ row_in kinds m
      by h m a b (inl g) =
          F.inside m g a (omega (arith, N.len)) ∙ v_is (omega (arith, N.few)) ∙ N.rows_are l ∙
          sym (row_run kinds n m g (λ j x y. none j x (omega (arith, a, y, end_is, s_is))))
      by h m a b (inr g) = F.outside m (inl g) ∙ N.written h m g b

  pub numbering_ends : {column : List ℕ} {n rows : ℕ} → Numbering kinds was column n rows → length kinds ≤ n → NumbersRows kinds was column
  numbering_ends N h = record { is = λ few m l b. N.written few m (omega arith) b }
