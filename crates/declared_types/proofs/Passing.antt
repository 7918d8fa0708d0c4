-- Stores in a row, as the loops make them: what is left to store gives what is wanted. Assumes nothing.
use mathlib.Core.Path.{◌≡◌, refl, sym, ap, ◌∙◌}
use mathlib.Core.Bool.{true, false, cond}
use mathlib.Core.List.{List, [], foldl}
use Prim.Native.Nat.{ℕ, ◌+◌, ◌-◌, ◌≤◌, ◌<◌}
use native.Mathlib.Omega.{arith}
use native.Mathlib.Numerals.{add-one}
use lib.Dec.{eqb}
use lib.ListN.{length, get_or, set, drop}
use lib.Seq.{drop-cons, drop-length}
use Rattle.relations.specs.Select.{span}
use Rattle.relations.proofs.Select.{span_step, span_end}
use borrow.Author.Tests.{eq-eqb, ne_eqb}
use Rattle.express.specs.Syntax.NodeKind.{enumeration_item, type}
use Rattle.express.specs.Syntax.Tree.{Table, first, is}
use Rattle.declared_types.specs.Storing.{table_of, store, enumeration_number, type_number, type_items_stored, type_stored}

-- a step for each of a list, of which those from i on are left
module _ (f : List ℕ → ℕ → List ℕ) (ns : List ℕ) where
  pub record Along (was c : List ℕ) (i : ℕ) : Type 0 where
    pub within : i ≤ length ns
    pub long : length c ≡ length was
    pub rest : foldl f c (drop i ns) ≡ foldl f was ns

  pub along_starts : (c : List ℕ) → Along c c 0
  along_starts c = record { within = omega arith; long = refl; rest = refl }

  pub along_goes_on : {was c c' : List ℕ} {i : ℕ} → i < length ns → Along was c i → length c' ≡ length c → c' ≡ f c (get_or ns i 0) → Along was c' (i + 1)
  along_goes_on {was} {c} {c'} {i} l A k e = record { within = omega arith; long = k ∙ A.long; rest = rw (e, add-one) (rw (drop-cons ns i 0 l) at A.rest) }

  -- an entry that is read before
  pub along_read :
      {was c c' : List ℕ} {i m : ℕ} → i < length ns → Along was c i → length c' ≡ length c → m ≡ get_or ns i 0 → c' ≡ f c m → Along was c' (i + 1)
  along_read {was} {c} {c'} {i} {m} l A k q e = along_goes_on l A k (e ∙ ap (f c) q)

  pub along_ends : {was c : List ℕ} {i : ℕ} → length ns ≤ i → Along was c i → c ≡ foldl f was ns
  along_ends {was} {c} {i} l A =
      let q : i ≡ length ns = omega (arith, A.within) in
      rw (q, drop-length ns) at A.rest

-- a step for each number from lo up to n, of which those from i on are left
module _ (f : List ℕ → ℕ → List ℕ) (lo n : ℕ) where
  pub record Up (was c : List ℕ) (i : ℕ) : Type 0 where
    pub long : length c ≡ length was
    pub rest : foldl f c (span i (n - i)) ≡ foldl f was (span lo (n - lo))

  pub up_starts : (c : List ℕ) → Up c c lo
  up_starts c = record { long = refl; rest = refl }

  pub up_goes_on : {was c c' : List ℕ} {i : ℕ} → i < n → Up was c i → length c' ≡ length c → c' ≡ f c i → Up was c' (i + 1)
  up_goes_on {was} {c} {c'} {i} l A k e = record { long = k ∙ A.long; rest = rw e (rw (span_step n i l) at A.rest) }

  pub up_ends : {was c : List ℕ} {i : ℕ} → n ≤ i → Up was c i → c ≡ foldl f was (span lo (n - lo))
  up_ends {was} {c} {i} l A = rw (span_end n i l) at A.rest

-- the items of a type by its nodes, and none of what is no type
module _ (kinds sizes : List ℕ) where
  abbrev t : Table
  t = table_of [] kinds [] sizes

  -- the store at one of the nodes of a type d
  abbrev pub item_of : ℕ → List ℕ → ℕ → List ℕ
  item_of d = store (is t enumeration_item) (λ column n. enumeration_number d)

  pub item_goes_on :
      {lo d i k : ℕ} {was c c' : List ℕ} → i < d → Up (item_of d) lo d was c i → length c' ≡ length c → k ≡ get_or kinds i 0 →
      c' ≡ cond (eqb k enumeration_item) (set c i (enumeration_number d)) c → Up (item_of d) lo d was c' (i + 1)
  item_goes_on {lo} {d} {i} {k} {was} {c} {c'} l U z K e =
      up_goes_on (item_of d) lo d l U z (e ∙ ap (λ (j : ℕ). cond (eqb j enumeration_item) (set c i (enumeration_number d)) c) K)

  module _ (c : List ℕ) (node : ℕ) {d k : ℕ} (D : d ≡ node) (K : k ≡ get_or kinds d 0) where
    pub items_of_other : (k ≡ type → ⊥) → c ≡ type_items_stored t c node
    unfolding type_items_stored
    items_of_other h =
        let q : is t type node ≡ false = ne_eqb _ type (λ g. h (K ∙ (ap (λ (n : ℕ). get_or kinds n 0) D ∙ g))) in
        rw q

    module _ (h : k ≡ type) {lo : ℕ} (L : lo ≡ node + 1 - get_or sizes node 0) {j : ℕ} (J : j ≡ get_or kinds lo 0) where
      a_type : is t type node ≡ true
      a_type = eq-eqb _ type (ap (λ (n : ℕ). get_or kinds n 0) (sym D) ∙ (sym K ∙ h))

      pub items_of_type : j ≡ enumeration_item → {c' : List ℕ} → c' ≡ foldl (item_of d) c (span lo (d - lo)) → c' ≡ type_items_stored t c node
      unfolding type_items_stored
      items_of_type g e =
          let q : is t enumeration_item (first t node) ≡ true = eq-eqb _ enumeration_item (ap (λ (n : ℕ). get_or kinds n 0) (sym L) ∙ (sym J ∙ g)) in
          e ∙ rw (D, L, a_type, q)

      pub items_of_none : (j ≡ enumeration_item → ⊥) → c ≡ type_items_stored t c node
      unfolding type_items_stored
      items_of_none g =
          let q : is t enumeration_item (first t node) ≡ false = ne_eqb _ enumeration_item (λ z. g (J ∙ (ap (λ (n : ℕ). get_or kinds n 0) L ∙ z))) in
          rw (a_type, q)

-- a type after its items, and nothing of what is no type
module _ (terminals kinds tokens sizes b c : List ℕ) {node d k : ℕ} (D : d ≡ node) (K : k ≡ get_or kinds d 0) where
  abbrev whole : Table
  whole = table_of terminals kinds tokens sizes

  pub type_of_other : (k ≡ type → ⊥) → c ≡ type_stored whole b c node
  unfolding type_stored type_items_stored
  type_of_other h =
      let q : is whole type node ≡ false = ne_eqb _ type (λ g. h (K ∙ (ap (λ (n : ℕ). get_or kinds n 0) D ∙ g))) in
      rw q

  pub type_after_items :
      k ≡ type → {c₁ c₂ : List ℕ} {m r : ℕ} → c₁ ≡ type_items_stored (table_of [] kinds [] sizes) c node → r ≡ type_number whole b c₁ node → m ≡ node →
      c₂ ≡ set c₁ m r → c₂ ≡ type_stored whole b c node
  unfolding type_stored type_items_stored
  type_after_items h e₁ n M e₂ =
      let q : is whole type node ≡ true = eq-eqb _ type (ap (λ (x : ℕ). get_or kinds x 0) (sym D) ∙ (sym K ∙ h)) in
      e₂ ∙ rw (M, n, e₁, q)
