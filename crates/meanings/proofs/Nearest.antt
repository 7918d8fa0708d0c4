-- The nearest meaning, level by level.
use mathlib.Core.Path.{◌≡◌, refl, sym, ap, ◌∙◌}
use mathlib.Core.Logic.{⊎_elim}
use mathlib.Core.Bool.{true, false}
use mathlib.Core.List.{List}
use Prim.Native.Nat.{ℕ, ◌<◌}
use native.Mathlib.Omega.{arith}
use borrow.Author.Tests.{eqb-true, ne_eqb}
use lib.ListN.{get_or}
use Rattle.relations.specs.Select.{nearest}
use Rattle.relations.proofs.Select.{or_cases, and_fst}
use Rattle.express.specs.Syntax.NodeKind as node
use Rattle.express.specs.Syntax.Tree.{Table, count, kind, is, is_scope_member, is_attribute}
use Rattle.express.specs.Names.Scope.{Meaning, none, one, several, meaning, own, inherited, declarations, items}
use Rattle.express.proofs.Names.Meaning.{or_else, meaning_nearest, meaning_one, spelled_ascending, items_iff, own_iff, inherited_iff}
use Rattle.scopes.specs.LookUp.{Means, node_meant}
use Rattle.scopes.specs.declared.look_ups.Meaning as entries
use Rattle.scopes.specs.declared.look_ups.Meaning.TheVariants as entry
use Rattle.scopes.proofs.Ranges.{declared_meant}
use Rattle.meanings.specs.Use.{use_meaning, ValueMeans, ByNode, InheritedOrValue, InDeclaration}
use Rattle.meanings.specs.declared.Use.{Use}
use Rattle.meanings.specs.declared.Use.TheVariants.{Nothing, Several, Node, Declaration}

-- what is of another kind is no constant
other_kind : (t : Table) (k c : ℕ) → is t c k ≡ true → (c ≡ node.constant → ⊥) → is t node.constant k ≡ false
other_kind t k c e d = ne_eqb (kind t k) node.constant (λ q. d (sym (eqb-true (kind t k) c e) ∙ q))

pub item_sort : (t : Table) (h s k : ℕ) → meaning (items t h s) ≡ one k → (k < count t) × (is t node.constant k ≡ false)
unfolding items
item_sort t h s k e =
    let O = (meaning_one (items t h s) (spelled_ascending t s _) k).0 e in
    let C = (items_iff t h s k).0 O.member in
    (C.within, other_kind t k node.enumeration_item C.suits.0 (λ q. omega (arith, q)))

attribute_sort : (t : Table) (k : ℕ) → is_attribute t k ≡ true → is t node.constant k ≡ false
attribute_sort t k e =
    ⊎_elim (λ b. other_kind t k node.attribute_name b (λ q. omega (arith, q))) (λ b. other_kind t k node.derived_attribute b (λ q. omega (arith, q))) (or_cases _ _ e)

member_sort : (t : Table) (k : ℕ) → is_scope_member t k ≡ true → is t node.constant k ≡ false
member_sort t k e = ⊎_elim (attribute_sort t k) (λ a. other_kind t k node.rule (and_fst _ _ a) (λ q. omega (arith, q))) (or_cases _ _ e)

own_sort : (t : Table) (o s k : ℕ) → meaning (own t o s) ≡ one k → (k < count t) × (is t node.constant k ≡ false)
unfolding own
own_sort t o s k e =
    let O = (meaning_one (own t o s) (spelled_ascending t s _) k).0 e in
    let C = (own_iff t o s k).0 O.member in
    (C.within, member_sort t k C.suits.0)

pub inherited_sort : (t : Table) (o s k : ℕ) → meaning (inherited t o s) ≡ one k → (k < count t) × (is t node.constant k ≡ false)
unfolding inherited
inherited_sort t o s k e =
    let O = (meaning_one (inherited t o s) (spelled_ascending t s _) k).0 e in
    let C = (inherited_iff t o s k).0 O.member in
    (C.within, attribute_sort t k C.suits.0)

-- the only entry, by the node that is read
pub by_one : {nodes : List ℕ} {m : entries.Meaning} {e a k : ℕ} → m ≡ entry.One e → a ≡ get_or nodes e 0 → k ≡ a → ByNode nodes m (Node k)
by_one {nodes} {m} {e} {a} {k} q p r =
    let w : one k ≡ node_meant nodes m = ap one (r ∙ p) ∙ sym (ap (node_meant nodes) q) in
    record { meant = w; sorted = λ t h. h k (sym w) }

-- a nearer list without candidates, and one with a meaning
passed_over : (xs ys : List ℕ) (m : Meaning) → meaning xs ≡ none → meaning ys ≡ m → meaning (nearest xs ys) ≡ m
passed_over xs ys m e f = meaning_nearest xs ys ∙ ap (λ (k : Meaning). or_else k (meaning ys)) e ∙ f

stopped : (xs ys : List ℕ) (m : Meaning) → meaning xs ≡ m → ((l : Meaning) → or_else m l ≡ m) → meaning (nearest xs ys) ≡ m
stopped xs ys m e s = meaning_nearest xs ys ∙ ap (λ (k : Meaning). or_else k (meaning ys)) e ∙ s (meaning ys)

module _ {keys heads next : List ℕ} {h s : ℕ} {item : Use} where
  -- ---- in a schema, given what the symbol means among its items

  pub item_meant : {d : entries.Meaning} → d ≡ entry.Nothing → Means keys heads next (λ t. declarations t h s) d → ValueMeans keys heads next item h s item
  item_meant {d} e D = record {
    stands = λ t nodes P I.
        let z : none ≡ meaning (declarations t h s) = rw e at (D.is t nodes P) in
        record { is = I.is ∙ sym (passed_over (declarations t h s) (items t h s) _ (sym z) refl); sorted = I.sorted };
  }

  pub declaration_meant :
      {d : entries.Meaning} {v : ℕ} → d ≡ entry.One v → Means keys heads next (λ t. declarations t h s) d → ValueMeans keys heads next item h s (Declaration v)
  declaration_meant {d} {v} e D = record {
    stands = λ t nodes P I.
        let z : one (get_or nodes v 0) ≡ meaning (declarations t h s) = rw e at (D.is t nodes P) in
        record {
          is = sym (stopped (declarations t h s) (items t h s) (one (get_or nodes v 0)) (sym z) (λ l. refl));
          sorted = (declared_meant P D e).number;
        };
  }

  pub several_meant : {d : entries.Meaning} → d ≡ entry.Several → Means keys heads next (λ t. declarations t h s) d → ValueMeans keys heads next item h s Several
  several_meant {d} e D = record {
    stands = λ t nodes P I.
        let z : several ≡ meaning (declarations t h s) = rw e at (D.is t nodes P) in
        record { is = sym (stopped (declarations t h s) (items t h s) several (sym z) (λ l. refl)); sorted = omega arith };
  }

  -- ---- given what is inherited

  pub nothing_inherited : {g r : Use} → g ≡ Nothing → ValueMeans keys heads next item h s r → InheritedOrValue keys heads next g item h s r
  nothing_inherited {g} {r} e W = record {
    stands = λ t nodes P o G I.
        let z : none ≡ meaning (inherited t o s) = rw e at G.is in
        record {
          is = (W.stands t nodes P I).is ∙ sym (passed_over (inherited t o s) (nearest (declarations t h s) (items t h s)) _ (sym z) refl);
          sorted = (W.stands t nodes P I).sorted;
        };
  }

  kept : (g : Use) → ((nodes : List ℕ) (l : Meaning) → or_else (use_meaning nodes g) l ≡ use_meaning nodes g) → InheritedOrValue keys heads next g item h s g
  kept g a = record {
    stands = λ t nodes P o G I. record {
      is = sym (stopped (inherited t o s) (nearest (declarations t h s) (items t h s)) (use_meaning nodes g) (sym G.is) (a nodes));
      sorted = G.sorted;
    };
  }

  pub several_inherited : {g : Use} → g ≡ Several → InheritedOrValue keys heads next g item h s g
  several_inherited {g} e = kept g (rw e (λ nodes l. refl))

  pub one_inherited : {g : Use} {k : ℕ} → g ≡ Node k → InheritedOrValue keys heads next g item h s g
  one_inherited {g} e = kept g (rw e (λ nodes l. refl))

  pub other_inherited : {g : Use} {k : ℕ} → g ≡ Declaration k → InheritedOrValue keys heads next g item h s g
  other_inherited {g} e = kept g (rw e (λ nodes l. refl))

  -- ---- in a declaration

  module _ {nodes : List ℕ} {o : ℕ} {g : Use} where
    pub nothing_own :
        {d : entries.Meaning} {r : Use} → d ≡ entry.Nothing → Means keys heads next (λ t. own t o s) d → InheritedOrValue keys heads next g item h s r →
        InDeclaration keys nodes heads next g item o h s r
    nothing_own {d} {r} e O W = record {
      stands = λ t P G I.
          let z : none ≡ meaning (own t o s) = rw e at (O.is t nodes P) in
          let U = W.stands t nodes P o G I in
          record {
            is = U.is ∙ sym (passed_over (own t o s) (nearest (inherited t o s) (nearest (declarations t h s) (items t h s))) _ (sym z) refl);
            sorted = U.sorted;
          };
    }

    found_own :
        {m : entries.Meaning} {r : Use} → ((l : Meaning) → or_else (node_meant nodes m) l ≡ node_meant nodes m) → Means keys heads next (λ t. own t o s) m → ByNode nodes m r →
        InDeclaration keys nodes heads next g item o h s r
    found_own {m} {r} a O B = record {
      stands = λ t P G I. record {
        is = B.meant ∙ sym (stopped (own t o s) (nearest (inherited t o s) (nearest (declarations t h s) (items t h s))) (node_meant nodes m) (sym (O.is t nodes P)) a);
        sorted = B.sorted t (λ k e. own_sort t o s k (sym (O.is t nodes P) ∙ e));
      };
    }

    pub one_own :
        {m : entries.Meaning} {r : Use} {k : ℕ} → m ≡ entry.One k → Means keys heads next (λ t. own t o s) m → ByNode nodes m r → InDeclaration keys nodes heads next g item o h s r
    one_own {m} {r} e O B = found_own {m = m} {r = r} (rw e (λ l. refl)) O B

    pub several_own :
        {m : entries.Meaning} {r : Use} → m ≡ entry.Several → Means keys heads next (λ t. own t o s) m → ByNode nodes m r → InDeclaration keys nodes heads next g item o h s r
    several_own {m} {r} e O B = found_own {m = m} {r = r} (rw e (λ l. refl)) O B

pub ruleset meanings =
    (item_meant, declaration_meant, several_meant, nothing_inherited, several_inherited, one_inherited, other_inherited, nothing_own, one_own, several_own)
