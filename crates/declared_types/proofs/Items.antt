-- The items of the types of a file are all its items, each stored with its owner. Assumes nothing.
use mathlib.Core.Path.{◌≡◌, refl, sym, ap, ◌∙◌}
use mathlib.Core.Logic.{⊎_elim}
use mathlib.Core.Bool.{Bool, true, false, cond, false≢true, ◌||◌}
use mathlib.Core.List.Memᴰ
use mathlib.Core.List.{List, [], ◌∷◌, ◌++◌, foldl, foldl-append, flat_map, Memᴰ}
use Prim.Native.Nat.{ℕ, ◌-◌, ◌≤◌, ◌<◌}
use native.Mathlib.Omega.{arith}
use borrow.Author.Tests.{eqb-true}
use lib.Dec.{eqb}
use Rattle.ebnf.specs.Set.{mem, disjoint}
use Rattle.ebnf.proofs.Sorts.{every}
use Rattle.ebnf.proofs.Below.{Child, child_of}
use Rattle.relations.specs.Select.{span}
use Rattle.relations.proofs.Select.{and_fst, le_or, span_mem, mem_span, first_of, flat_mem, mem_flat}
use Rattle.express.specs.Syntax.NodeKind as node
use Rattle.express.specs.Syntax.Tree.{Table, count, kind, first, is, is_declaration, owner}
use Rattle.express.specs.Syntax.Grammar.{file}
use Rattle.express.specs.Syntax.Syntax.{Read}
use Rattle.express.specs.Names.Fault.{is_enumeration}
use Rattle.express.proofs.Syntax.Nodes.{kinds, all_below, children_pass}
use Rattle.express.proofs.Syntax.FormedRows.{kind_is, size_is, node_at}
use Rattle.express.proofs.Syntax.KindSets as set
use Rattle.express.proofs.Syntax.Within.{Over, passes_below}
use Rattle.express.proofs.Names.Enumeration.{HasEnumeration, enumeration_iff}
use Rattle.express.proofs.Names.Owned.{Declaring, a_constant, a_type, an_entity, undeclared, in_owner}
use Rattle.declared_types.specs.Storing.{store, enumeration_number, type_items_stored}
use Rattle.declared_types.proofs.Apart.{items_stored}

-- an item, with the number of its owner
unfoldable pub item_stored : Table → List ℕ → ℕ → List ℕ
item_stored t = store (is t node.enumeration_item) (λ column n. enumeration_number (owner t n))

-- the nodes of an enumeration before itself, and those of the enumerations of a list
abbrev pub nodes_of : Table → ℕ → List ℕ
nodes_of t d = cond (is_enumeration t d) (span (first t d) (d - first t d)) []

abbrev pub nodes_of_types : Table → List ℕ → List ℕ
nodes_of_types t ds = flat_map (nodes_of t) ds

-- the nodes below an entity
abbrev below_entity : List ℕ
below_entity = set.in_rule ++ (node.simple_type ∷ node.attribute_name ∷ node.attribute_group ∷ node.optional_group ∷ node.derived_attribute ∷ [])

-- an item lies in a type, which owns it
pub record InType (t : Table) (m : ℕ) : Type 0 where
  pub known : owner t m < count t
  pub is_type : kind t (owner t m) ≡ node.type
  pub from : first t (owner t m) ≤ m
  pub to : m < owner t m

pub type_node_below : (t : Table) (ds : List ℕ) → ((d : ℕ) → Memᴰ d ds → d < count t) → (n : ℕ) → Memᴰ n (nodes_of_types t ds) → n < count t
type_node_below t ds h n m =
    let r = flat_mem (nodes_of t) ds m in
    let l = h r.0 r.1 in
    by r.0 l (is_enumeration t r.0) r.2
  where
    by : (d : ℕ) → d < count t → (q : Bool) → Memᴰ n (cond q (span (first t d) (d - first t d)) []) → n < count t
    by d l true i = let s = span_mem (first t d) (d - first t d) n i in let u = s.1 in let v = s.0 in omega arith
    by d l false i = absurd (Memᴰ.not-nil i)

module _ {t : Table} (R : Read file t) where
  -- the nodes of a type belong to it
  type_owns : (d : ℕ) → d < count t → kind t d ≡ node.type → (n : ℕ) → first t d ≤ n → n < d → owner t n ≡ d
  unfolding owner all_below every mem disjoint
  type_owns d l e n u v =
      first_of (is_declaration t) (count t) n d (omega arith) l (rw e)
      (λ k a b. undeclared t k set.below_type refl (passes_below R (λ j. mem j set.below_type) refl d l (rw e refl) k (omega arith) b))

  pub in_type : (m : ℕ) → m < count t → kind t m ≡ node.enumeration_item → InType t m
  unfolding all_below every mem
  in_type m l e = let o = in_owner R m l (rw e) in by o.0 o.1
    where
      by : Over t m (owner t m) → Declaring (kind t (owner t m)) → InType t m
      by o (a_type q) =
          record {
            known = o.known;
            is_type = q;
            from = o.from;
            to = ⊎_elim (λ (g : owner t m ≤ m). let z : m ≡ owner t m = omega (arith, o.to) in let w = ap (kind t) z in absurd (omega (arith, e, q, w))) (λ g. g) (le_or (owner t m) m);
          }
      by o (a_constant q) =
          ⊎_elim (λ (g : owner t m ≤ m). let z : m ≡ owner t m = omega (arith, o.to) in let w = ap (kind t) z in absurd (omega (arith, e, q, w)))
          (λ g. absurd (false≢true (rw e at (passes_below R (λ j. mem j set.below_constant) refl (owner t m) o.known (rw q refl) m o.from g)))) (le_or (owner t m) m)
      by o (an_entity q) =
          ⊎_elim (λ (g : owner t m ≤ m). let z : m ≡ owner t m = omega (arith, o.to) in let w = ap (kind t) z in absurd (omega (arith, e, q, w)))
          (λ g. absurd (false≢true (rw e at (passes_below R (λ j. mem j below_entity) refl (owner t m) o.known (rw q refl) m o.from g)))) (le_or (owner t m) m)

  -- the nodes of a type that are in no enumeration
  abbrev besides : List ℕ
  besides = set.in_rule ++ (node.simple_type ∷ node.select ∷ [])

  -- and that type is an enumeration: of its parts, the item lies in none but one
  in_enumeration : (m : ℕ) → m < count t → kind t m ≡ node.enumeration_item → is_enumeration t (owner t m) ≡ true
  unfolding all_below every mem
  in_enumeration m l e = (enumeration_iff R y I.known I.is_type).1 (by (mem (kind t c) besides) refl)
    where
      I : InType t m
      I = in_type m l e

      y : ℕ
      y = owner t m

      C : Child kinds t.terminals R.rows y m (λ k o. mem k besides || eqb k node.enumeration)
      C =
          child_of kinds t.terminals (λ k o. mem k besides || eqb k node.enumeration) R.rows y (node_at R y I.known)
          (rw (sym (kind_is R y) ∙ I.is_type) refl) m (let s = size_is R y in omega (arith, s, I.from)) I.to

      c : ℕ
      c = C.child

      known : c < count t
      known = let a = C.above in let b = I.known in omega arith

      from : first t c ≤ m
      from = let s = size_is R c in omega (arith, s, C.from)

      by : (q : Bool) → mem (kind t c) besides ≡ q → HasEnumeration R y
      by true h =
          ⊎_elim (λ (a : c ≤ m). let z : c ≡ m = omega (arith, C.to) in absurd (false≢true (rw (ap (kind t) z ∙ e) at h)))
          (λ (a : m < c).
          absurd (false≢true (rw e at
          (passes_below R (λ k. mem k besides) refl c known (children_pass (λ k. mem k besides) (λ k. mem k besides) refl (kind t c) h) m from a))))
          (le_or c m)
      by false h =
          let k : eqb (kind t c) node.enumeration ≡ true = rw (← kind_is R c, h) at C.passes in
          record {
            enumeration = c;
            known = known;
            is_one = eqb-true (kind t c) node.enumeration k;
            in_type = type_owns y I.known I.is_type c (omega (arith, I.from, C.to)) C.above;
          }

  -- stores with the number of a type are those with the number of the owner
  same_stores :
      (d : ℕ) (ns : List ℕ) → ((n : ℕ) → Memᴰ n ns → owner t n ≡ d) → (c : List ℕ) →
      foldl (store (is t node.enumeration_item) (λ column n. enumeration_number d)) c ns ≡ foldl (item_stored t) c ns
  unfolding item_stored
  same_stores d [] h c = refl
  same_stores d (n ∷ ns) h c = rw (h n (Memᴰ.head refl)) (same_stores d ns (λ m i. h m (Memᴰ.tail i)) (store (is t node.enumeration_item) (λ column m. enumeration_number d) c n))

  one_type : (d : ℕ) → d < count t → (c : List ℕ) → type_items_stored t c d ≡ foldl (item_stored t) c (nodes_of t d)
  unfolding type_items_stored
  one_type d l c = by (is_enumeration t d) refl
    where
      ns : List ℕ
      ns = span (first t d) (d - first t d)

      by : (q : Bool) → is_enumeration t d ≡ q →
          cond q (foldl (store (is t node.enumeration_item) (λ column n. enumeration_number d)) c ns) c ≡ foldl (item_stored t) c (cond q ns [])
      by true e =
          same_stores d ns (λ n m. let s = span_mem (first t d) (d - first t d) n m in let u = s.1 in type_owns d l (eqb-true (kind t d) node.type (and_fst (is
          t node.type d) _ e)) n s.0 (omega arith)) c
      by false e = refl

  pub all_types :
      (ds : List ℕ) → ((d : ℕ) → Memᴰ d ds → d < count t) → (c : List ℕ) → items_stored t ds c ≡ foldl (item_stored t) c (nodes_of_types t ds)
  unfolding items_stored flat_map
  all_types [] h c = refl
  all_types (d ∷ ds) h c =
      all_types ds (λ n m. h n (Memᴰ.tail m)) (type_items_stored t c d) ∙
      (ap (λ x. foldl (item_stored t) x (nodes_of_types t ds)) (one_type d (h d (Memᴰ.head refl)) c) ∙ sym (foldl-append (item_stored t) c (nodes_of t d) (nodes_of_types t ds)))

  -- each item is there
  pub item_there : (ds : List ℕ) (m : ℕ) → m < count t → kind t m ≡ node.enumeration_item → Memᴰ (owner t m) ds → Memᴰ m (nodes_of_types t ds)
  item_there ds m l e i =
      let I = in_type m l e in
      let u = I.to in
      let v = I.from in
      mem_flat (nodes_of t) ds i (rw (in_enumeration m l e) (mem_span (first t (owner t m)) (owner t m - first t (owner t m)) m v (omega arith)))
