-- The types and their items are stored in one pass as in two, first all items and then all types: what is stored for one is not read for the other.
use mathlib.Core.Path.{◌≡◌, refl, sym, ap, ◌∙◌}
use mathlib.Core.Logic.{◌≢◌}
use mathlib.Core.Bool.{Bool, true, false, cond, not}
use mathlib.Core.List.{List, [], ◌∷◌, foldl}
use Prim.Native.Nat.{ℕ, ◌-◌}
use native.Mathlib.Omega.{arith}
use borrow.Author.Tests.{eqb-true}
use lib.Dec.{eqb}
use lib.ListN.{get_or, set}
use lib.Seq.{get_or-set_other, set_comm}
use Rattle.relations.specs.Select.{span}
use Rattle.relations.proofs.Select.{and_snd}
use Rattle.express.specs.Syntax.NodeKind as node
use Rattle.express.specs.Syntax.Tree.{Table, kind, terminal, first, is}
use Rattle.express.specs.Names.Fault.{is_enumeration}
use Rattle.express.specs.Semantics.Declared.{declaration, bound, simple}
use Rattle.express.specs.Semantics.DeclaredColumn.{declared_number}
use Rattle.declared_types.specs.Storing.{store, enumeration_number, base_number, type_number, type_items_stored, type_stored, types_stored}

-- the items of all types, and the types alone
unfoldable pub items_stored : Table → List ℕ → List ℕ → List ℕ
items_stored t order column = foldl (type_items_stored t) column order

abbrev pub number_stored : Table → List ℕ → List ℕ → ℕ → List ℕ
number_stored t b = store (is t node.type) (type_number t b)

unfoldable pub numbers_stored : Table → List ℕ → List ℕ → List ℕ → List ℕ
numbers_stored t b order column = foldl (number_stored t b) column order

module _ (t : Table) (b : List ℕ) where
  apart : (n d : ℕ) → is t node.enumeration_item n ≡ true → is t node.type d ≡ true → n ≢ d
  apart n d h g e =
      let x = eqb-true (kind t n) node.enumeration_item h in
      let y = eqb-true (kind t d) node.type g in
      let z = ap (kind t) e in omega (arith, x, y, z)

  -- the number of a type is not read from an item's entry
  base_apart : (c : List ℕ) (n v m : ℕ) → is t node.enumeration_item n ≡ true → base_number t b (set c n v) m ≡ base_number t b c m
  unfolding base_number
  base_apart c n v m h = by (is t node.simple_type m) (bound t b node.type m) refl
    where
      by : (p q : Bool) → bound t b node.type m ≡ q →
          cond p (declared_number (simple (terminal t m))) (cond q (get_or (set c n v) (declaration b m) 0) 0)
          ≡ cond p (declared_number (simple (terminal t m))) (cond q (get_or c (declaration b m) 0) 0)
      by true q e = refl
      by false false e = refl
      by false true e =
          get_or-set_other c n (declaration b m) v 0
          (λ z. apart n (declaration b m) h (and_snd (not (eqb (get_or b m 0) 0)) (is t node.type (declaration b m)) e) (sym z))

  number_apart : (c : List ℕ) (n v d : ℕ) → is t node.enumeration_item n ≡ true → type_number t b (set c n v) d ≡ type_number t b c d
  unfolding type_number
  number_apart c n v d h = rw (base_apart c n v (first t d) h)

  -- so one store may stand before the other
  one_swap : (y : ℕ) (c : List ℕ) (n d : ℕ) →
      store (is t node.enumeration_item) (λ column m. enumeration_number y) (number_stored t b c d) n
      ≡ number_stored t b (store (is t node.enumeration_item) (λ column m. enumeration_number y) c n) d
  one_swap y c n d = by (is t node.enumeration_item n) (is t node.type d) refl refl
    where
      by : (p q : Bool) → is t node.enumeration_item n ≡ p → is t node.type d ≡ q →
          cond p (set (cond q (set c d (type_number t b c d)) c) n (enumeration_number y)) (cond q (set c d (type_number t b c d)) c)
          ≡ cond q (set (cond p (set c n (enumeration_number y)) c) d (type_number t b (cond p (set c n (enumeration_number y)) c) d)) (cond p (set c n (enumeration_number y)) c)
      by true true e f =
          set_comm c d n (type_number t b c d) (enumeration_number y) (λ z. apart n d e f (sym z))
          ∙ ap (λ (x : ℕ). set (set c n (enumeration_number y)) d x) (sym (number_apart c n (enumeration_number y) d e))
      by true false e f = refl
      by false q e f = refl

  all_swap : (y : ℕ) (ns c : List ℕ) (d : ℕ) →
      foldl (store (is t node.enumeration_item) (λ column m. enumeration_number y)) (number_stored t b c d) ns
      ≡ number_stored t b (foldl (store (is t node.enumeration_item) (λ column m. enumeration_number y)) c ns) d
  all_swap y [] c d = refl
  all_swap y (n ∷ ns) c d =
      ap (λ (x : List ℕ). foldl (store (is t node.enumeration_item) (λ column m. enumeration_number y)) x ns) (one_swap y c n d)
      ∙ all_swap y ns (store (is t node.enumeration_item) (λ column m. enumeration_number y) c n) d

  type_swap : (y : ℕ) (c : List ℕ) (d : ℕ) → type_items_stored t (number_stored t b c d) y ≡ number_stored t b (type_items_stored t c y) d
  unfolding type_items_stored
  type_swap y c d = by (is_enumeration t y)
    where
      by : (q : Bool) →
          cond q (foldl (store (is t node.enumeration_item) (λ column m. enumeration_number y)) (number_stored t b c d) (span (first t y) (y - first t y))) (number_stored t b c d)
          ≡ number_stored t b (cond q (foldl (store (is t node.enumeration_item) (λ column m. enumeration_number y)) c (span (first t y) (y - first t y))) c) d
      by true = all_swap y (span (first t y) (y - first t y)) c d
      by false = refl

  items_swap : (ys c : List ℕ) (d : ℕ) → items_stored t ys (number_stored t b c d) ≡ number_stored t b (items_stored t ys c) d
  unfolding items_stored
  items_swap [] c d = refl
  items_swap (y ∷ ys) c d = ap (λ (x : List ℕ). items_stored t ys x) (type_swap y c d) ∙ items_swap ys (type_items_stored t c y) d

  pub types_apart : (ds c : List ℕ) → types_stored t b ds c ≡ numbers_stored t b ds (items_stored t ds c)
  unfolding types_stored type_stored numbers_stored items_stored
  types_apart [] c = refl
  types_apart (d ∷ ds) c =
      types_apart ds (number_stored t b (type_items_stored t c d) d)
      ∙ ap (λ (x : List ℕ). numbers_stored t b ds x) (items_swap ds (type_items_stored t c d) d)
