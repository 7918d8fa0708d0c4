-- The two passes over any columns keep their promise. Assumes nothing.
use mathlib.Core.Path.{◌≡◌, refl, ap, ◌∙◌}
use mathlib.Core.Bool.{Bool, true, false, cond}
use mathlib.Core.List.{List, [], ◌∷◌, foldl}
use Prim.Native.Nat.{ℕ, ◌-◌}
use borrow.Author.Tests.{ne_eqb}
use lib.ListN.{get_or}
use Rattle.express.specs.Syntax.NodeKind.{enumeration_item, constant, type}
use Rattle.relations.specs.Select.{span}
use Rattle.express.specs.Syntax.Tree.{Table, first, is, type_node}
use Rattle.express.specs.Names.Scope.{bindings}
use Rattle.express.specs.Names.Fault.{is_enumeration}
use Rattle.express.specs.Semantics.DeclaredColumn.{DeclaredColumn}
use Rattle.declared_types.specs.Storing.{table_of, store, enumeration_number, base_number, type_number}
use Rattle.declared_types.specs.Storing.{type_items_stored, type_stored, constant_stored, types_stored, constants_stored}
use Rattle.declared_types.specs.Promise.{ColumnsOf, Accepted, Declares}
use Rattle.declared_types.proofs.Apart.{items_stored, numbers_stored, types_apart}
use Rattle.declared_types.proofs.Sorting.{stores_other}
use Rattle.declared_types.proofs.Whole.{column_declared}

-- what is stored goes by these columns of a table alone
module _ (t : Table) where
  abbrev columns_of : Table
  columns_of = table_of t.terminals t.kinds t.tokens t.sizes

  same_types : (b order c : List ℕ) → types_stored columns_of b order c ≡ types_stored t b order c
  unfolding types_stored type_stored type_items_stored type_number base_number
  same_types b order c = refl

  same_constants : (b order c : List ℕ) → constants_stored columns_of b order c ≡ constants_stored t b order c
  unfolding constants_stored constant_stored base_number
  same_constants b order c = refl

  -- entries of other nodes
  type_items_other : (c : List ℕ) (d n : ℕ) → is t enumeration_item n ≡ false → get_or (type_items_stored t c d) n 0 ≡ get_or c n 0
  unfolding type_items_stored
  type_items_other c d n h = by (is_enumeration t d)
    where
      by : (q : Bool) → get_or (cond q (foldl (store (is t enumeration_item) (λ column m. enumeration_number d)) c (span (first t d) (d - first t d))) c) n 0 ≡ get_or c n 0
      by true = stores_other (is t enumeration_item) (λ column m. enumeration_number d) c (span (first t d) (d - first t d)) n h
      by false = refl

  items_other : (order c : List ℕ) (n : ℕ) → is t enumeration_item n ≡ false → get_or (items_stored t order c) n 0 ≡ get_or c n 0
  unfolding items_stored
  items_other [] c n h = refl
  items_other (d ∷ order) c n h = items_other order (type_items_stored t c d) n h ∙ type_items_other c d n h

  types_other : (b order c : List ℕ) (n : ℕ) → is t enumeration_item n ≡ false → is t type n ≡ false → get_or (types_stored t b order c) n 0 ≡ get_or c n 0
  unfolding numbers_stored
  types_other b order c n g h =
      ap (λ (l : List ℕ). get_or l n 0) (types_apart t b order c)
      ∙ (stores_other (is t type) (type_number t b) (items_stored t order c) order n h ∙ items_other order c n g)

  constants_other : (b order c : List ℕ) (n : ℕ) → is t constant n ≡ false → get_or (constants_stored t b order c) n 0 ≡ get_or c n 0
  unfolding constants_stored constant_stored
  constants_other b order c n h = stores_other (is t constant) (λ column c. base_number t b column (type_node t c)) c order n h

-- two passes, over any columns
module _ (T K N S B O was c₁ c₂ : List ℕ) (e₁ : c₁ ≡ types_stored (table_of T K N S) B O was) (e₂ : c₂ ≡ constants_stored (table_of T K N S) B O c₁) where
  module _ (t : Table) (C : ColumnsOf t T K N S) (A : Accepted t B O was) where
    table_is : table_of T K N S ≡ columns_of t
    table_is = rw (C.terminals_are, C.kinds_are, C.tokens_are, C.sizes_are)

    first_is : c₁ ≡ numbers_stored t (bindings t) O (items_stored t O was)
    first_is = e₁ ∙ (ap (λ (s : Table). types_stored s B O was) table_is ∙ rw (same_types t, A.bound) (types_apart t (bindings t) O was))

    last_is : c₂ ≡ constants_stored t (bindings t) O (numbers_stored t (bindings t) O (items_stored t O was))
    last_is = e₂ ∙ (ap (λ (s : Table). constants_stored s B O c₁) table_is ∙ rw (same_constants t, A.bound, first_is))

    declared_by : DeclaredColumn t B c₂
    declared_by = rw (A.bound, last_is) (column_declared A.read A.named A.few A.arranged was A.room)

  pub declares : Declares T K N S B O was c₂
  declares = record {
    declared = declared_by;
    kept = λ n i y k.
        ap (λ (l : List ℕ). get_or l n 0) e₂
        ∙ (constants_other (table_of T K N S) B O c₁ n (ne_eqb (get_or K n 0) constant k)
        ∙ (ap (λ (l : List ℕ). get_or l n 0) e₁
        ∙ types_other (table_of T K N S) B O was n (ne_eqb (get_or K n 0) enumeration_item i) (ne_eqb (get_or K n 0) type y)));
  }
