-- The items of a schema are the item nodes below its node, since the schema of a node is the first at or after it and none stands below another.
use mathlib.Core.Path.{◌≡◌, refl, sym, ap, ◌∙◌}
use mathlib.Core.Logic.{inl, ⊎_elim}
use mathlib.Core.Bool.{Bool, true, false≢true}
use mathlib.Core.List.{List, [], append-nil, Memᴰ}
use Prim.Native.Nat.{ℕ, ◌-◌, ◌≤◌, ◌<◌}
use native.Mathlib.Omega.{arith}
use borrow.Author.Tests.{eqb-true, eq-eqb}
use Rattle.std.specs.Prelude.{None}
use Rattle.std.proofs.lemmas.Option.{none-some}
use lib.Dec.{eqb}
use lib.ListN.{length, get_or}
use Rattle.columns.specs.Column.{cleared}
use Rattle.columns.proofs.Laws.{clear_front, getD_padded}
use Rattle.ebnf.specs.Set.{mem}
use Rattle.ebnf.proofs.Sorts.{every}
use Rattle.relations.specs.Select.{span, keep}
use Rattle.relations.proofs.Select.{or_cases, or_left, le_or, first_is, mem_span, span_mem, keep_mem, mem_keep, ascending_span}
use Rattle.express.specs.Syntax.NodeKind as node
use Rattle.express.specs.Syntax.Grammar.{file}
use Rattle.express.specs.Syntax.Syntax.{Read}
use Rattle.express.specs.Syntax.Tree.{Table, count, kind, symbol, size, first, is, schema_of}
use Rattle.express.specs.Names.Scope.{meaning, items}
use Rattle.express.proofs.Syntax.KindSets as set
use Rattle.express.proofs.Syntax.Nodes.{all_below}
use Rattle.express.proofs.Syntax.Within.{passes_below, schema_over}
use Rattle.express.proofs.Syntax.FormedRows.{sized}
use Rattle.express.proofs.Names.Meaning.{items_iff, spelled_ascending}
use Rattle.express.proofs.Names.Owned.{in_schema}
use Rattle.symbol_tables.specs.Entry.{code, stamp_of, says}
use Rattle.symbol_tables.specs.Table.{either_kind, symbol_in, kinds_between, reach, AddsRange}
use Rattle.symbol_tables.proofs.Tables.{untouched}
use Rattle.symbol_tables.proofs.Orders.{ascending_distinct, distinct_keep, meaning_same}
use Rattle.schema_items.specs.Items.{Tabulates, Begins}
use Rattle.schema_items.specs.declared.Tabled.{Tabled}

-- ---- the nodes below a schema

module _ {t : Table} (R : Read file t) (h : ℕ) (l : h < count t) (e : is t node.schema h ≡ true) where
  item_below : (k : ℕ) → is t node.enumeration_item k ≡ true → mem (kind t k) set.below_schema ≡ true
  unfolding mem
  item_below k i = rw (eqb-true (kind t k) node.enumeration_item i)

  no_schema : (k : ℕ) → first t h ≤ k → k < h → kind t k ≡ node.schema → ⊥
  unfolding all_below every mem
  no_schema k u v z = false≢true (rw z at (passes_below R (λ j. mem j set.below_schema) refl h l (rw (eqb-true (kind t h) node.schema e) refl) k u v))

  -- an item of the schema stands below its node
  item_inside : (k : ℕ) → k < count t → is t node.enumeration_item k ≡ true → schema_of t k ≡ h → (first t h ≤ k) × (k < h)
  item_inside k w i q =
      let a = in_schema R k w (item_below k i) in
      let o = (schema_over R k a.0).0 in
      (rw q at o.from, rw q at a.1)

  -- and what stands there is of the schema
  inside_item : (k : ℕ) → first t h ≤ k → k < h → is t node.enumeration_item k ≡ true → schema_of t k ≡ h
  unfolding schema_of
  inside_item k u v i =
      let w : k < count t = omega arith in
      let a = in_schema R k w (item_below k i) in
      let s = schema_over R k a.0 in
      let F = first_is (is t node.schema) k (count t - k) in
      ⊎_elim
      (λ (g : schema_of t k ≤ h).
      ⊎_elim (λ (f : h ≤ schema_of t k). omega arith) (λ (f : schema_of t k < h). absurd (no_schema (schema_of t k) (omega (arith, F.from)) f s.1)) (le_or h (schema_of t k)))
      (λ (g : h < schema_of t k). absurd (false≢true (sym (F.none h (omega arith) g) ∙ e)))
      (le_or (schema_of t k) h)

  -- so the two lists have the same members, each once
  same_items : (s : ℕ) → meaning (keep (λ n. eqb (symbol t n) s) (kinds_between t.kinds node.enumeration_item node.enumeration_item (first t h) h)) ≡ meaning (items t h s)
  unfolding kinds_between items
  same_items s =
      meaning_same _ (items t h s) (distinct_keep spelled (distinct_keep item (ascending_distinct (ascending_span (first t h) (h - first t h)))))
      (ascending_distinct (spelled_ascending t s _)) (λ k. (here k, there k))
    where
      spelled : ℕ → Bool
      spelled n = eqb (symbol t n) s

      item : ℕ → Bool
      item n = either_kind node.enumeration_item node.enumeration_item (kind t n)

      is_item : (k : ℕ) → item k ≡ true → is t node.enumeration_item k ≡ true
      is_item k i = ⊎_elim (λ z. z) (λ z. z) (or_cases (is t node.enumeration_item k) (is t node.enumeration_item k) i)

      here : (k : ℕ) → Memᴰ k (keep spelled (keep item (span (first t h) (h - first t h)))) → Memᴰ k (items t h s)
      here k m =
          let a = keep_mem spelled (keep item (span (first t h) (h - first t h))) m in
          let b = keep_mem item (span (first t h) (h - first t h)) a.0 in
          let r = span_mem (first t h) (h - first t h) k b.0 in
          let i = is_item k b.1 in
          let v : k < h = omega (arith, r.0, r.1) in
          (items_iff t h s k).1 (record { within = omega arith; spelling = eqb-true (symbol t k) s a.1; suits = (i, inside_item k r.0 v i) })

      there : (k : ℕ) → Memᴰ k (items t h s) → Memᴰ k (keep spelled (keep item (span (first t h) (h - first t h))))
      there k m =
          let c = (items_iff t h s k).0 m in
          let r = item_inside k c.within c.suits.0 c.suits.1 in
          mem_keep spelled _
          (mem_keep item _ (mem_span (first t h) (h - first t h) k r.0 (omega (arith, r.0, r.1))) (or_left (is t node.enumeration_item k) (is t node.enumeration_item k) c.suits.0))
          (eq-eqb (symbol t k) s c.spelling)

-- ---- `tabulate_items`

module _ {kinds tokens sizes symbols : List ℕ} {h stamp x y z from : ℕ} {table table' : List ℕ} where
  pub tabulates :
      x ≡ get_or sizes h 0 → y ≡ x → z ≡ y - 1 → from ≡ h - z → AddsRange kinds tokens symbols node.enumeration_item node.enumeration_item from h stamp table table' →
      Tabulates kinds tokens sizes symbols h stamp table table'
  tabulates X Y Z F A = record {
    is = λ t S few free.
        let n : get_or sizes h 0 ≡ size t h = ap (λ (l : List ℕ). get_or l h 0) S.sizes_are in
        let from_is : from ≡ first t h = omega (arith, X, Y, Z, F, n, (sized S.read h S.known).0) in
        let far : reach kinds tokens h ≡ h = omega (arith, S.known, ap length S.kinds_are, S.tokened) in
        let T = rw far at (A.is few S.held [] (untouched free)) in (
          record {
            is = λ s low.
                T.is s low
                ∙ ap (λ (l : List ℕ). code (meaning (keep (λ n. eqb (symbol_in tokens symbols n) s) l))) (append-nil (kinds_between kinds node.enumeration_item node.enumeration_item from h))
                ∙ rw (S.kinds_are, S.tokens_are, S.symbols_are, from_is) (ap code (same_items S.read h S.known S.a_schema s));
          },
          A.only few S.held,
        );
  }

-- ---- `begin`

pub begins : (table : List ℕ) {table' : List ℕ} {r : Tabled} → table' ≡ cleared 0 0 table → r.schema ≡ None → Begins r table'
begins table {table'} {r} c e = record {
  is = λ t v. record { stamps = λ s. inl (none s); items_are = λ h q. absurd (none-some h (sym e ∙ q)) };
}
  where
    none : (s : ℕ) → stamp_of (get_or table' s 0) ≡ 0
    none s = ap (λ (l : List ℕ). stamp_of (get_or l s 0)) (c ∙ clear_front 0 0 table [] refl) ∙ ap stamp_of (getD_padded 0 (length table) [] s)

-- ---- `item_at`

pub reads_item :
    (tokens symbols table : List ℕ) (stamp n : ℕ) {k i s r : ℕ} → k ≡ get_or tokens n 0 → i ≡ k → s ≡ get_or symbols i 0 → r ≡ says table stamp s →
    r ≡ says table stamp (symbol_in tokens symbols n)
reads_item tokens symbols table stamp n K I S r = r ∙ ap (says table stamp) (S ∙ ap (λ (j : ℕ). get_or symbols j 0) (I ∙ K))
