-- What is found of names, from what they mean.
use Rattle.std.specs.Prelude.{Option}
use mathlib.Core.Path.{◌≡◌, refl, sym, ap, ap₂, ◌∙◌}
use mathlib.Core.Bool.{Bool, true, false, cond}
use mathlib.Core.List.{List}
use Prim.Native.Nat.{ℕ, ◌+◌, ◌-◌, ◌<◌}
use native.Mathlib.Omega.{arith}
use borrow.Author.Tests.{ne_eqb, eq-eqb}
use lib.Dec.{eqb}
use lib.ListN.{get_or}
use Rattle.express.specs.Syntax.NodeKind as node
use Rattle.express.specs.Syntax.Tree.{Table, count, kind, is, size, first}
use Rattle.express.specs.Names.Scope.{Meaning, none, one, several, meaning, declarations, items_of, item_meant, binding_of}
use Rattle.express.specs.Names.Fault as express
use Rattle.express.specs.Names.Fault.{Fault, judged, is_value, is_enumeration, or_later}
use Rattle.express.proofs.Names.Meaning.{meaning_one, spelled_ascending, items_of_iff}
use Rattle.scopes.specs.LookUp.{Means, node_meant, entry_meant}
use Rattle.scopes.specs.Preparation.{Prepared}
use Rattle.scopes.specs.Range.{node_of, vertex_count}
use Rattle.scopes.specs.Entries.{vertex}
use Rattle.scopes.specs.declared.look_ups.Meaning as entries
use Rattle.scopes.specs.declared.look_ups.Meaning.TheVariants as entry
use Rattle.scopes.proofs.Passing.{vertex_small}
use Rattle.scopes.proofs.Ranges.{declared_meant, column_node, node_below, node_number}
use Rattle.faults.specs.Meaning.{fault_of}
use Rattle.faults.specs.declared.Fault as code
use Rattle.meanings.specs.Finding.{value_kind, limit, Made, OneMore, TargetOf, NodeFinding, DeclarationFinding, UseFinding}
use Rattle.meanings.specs.Finding.{TellsEnumeration, ItemFinding, TypeFinding, QualifiedFinding}
use Rattle.meanings.specs.declared.Use.{Use}
use Rattle.meanings.specs.declared.Use.TheVariants.{Nothing, Several, Node, Declaration}
use Rattle.type_names.specs.declared.Finding.{Finding}

item_low : (t : Table) (y s k : ℕ) → meaning (items_of t y s) ≡ one k → k < count t
unfolding items_of
item_low t y s k e = let O = (meaning_one (items_of t y s) (spelled_ascending t s _) k).0 e in ((items_of_iff t y s k).0 O.member).within

module _ {kinds : List ℕ} {p : ℕ} {f : Finding} {g : Option code.Fault} {right : Bool} where
  pub node_made :
      {k j b : ℕ} → j ≡ get_or kinds k 0 → right ≡ value_kind j → fault_of g ≡ judged (λ _. right) (one 0) p → OneMore k b → Made g b 0 f → NodeFinding kinds k p f
  node_made e r a o F = record {
    fault_is = ap fault_of F.fault_is ∙ a ∙ ap (λ (x : Bool). cond x express.fine (express.fault 11 p)) (r ∙ ap value_kind e);
    binding_is = λ h. F.binding_is ∙ o.is h;
    target_is = F.target_is;
  }

  pub declaration_made :
      {nodes : List ℕ} {k j i v b z : ℕ} → i ≡ get_or nodes v 0 → k ≡ i → j ≡ get_or kinds k 0 → right ≡ value_kind j → fault_of g ≡ judged (λ _. right) (one 0) p → OneMore k b → TargetOf j v z →
      Made g b z f → DeclarationFinding kinds nodes v p f
  declaration_made {nodes} {k} {j} {i} {v} y x e r a o z F =
      let q : k ≡ get_or nodes v 0 = x ∙ y in
      let w : j ≡ get_or kinds (get_or nodes v 0) 0 = e ∙ ap (λ (n : ℕ). get_or kinds n 0) q in
      record {
        fault_is = ap fault_of F.fault_is ∙ a ∙ ap (λ (x : Bool). cond x express.fine (express.fault 11 p)) (r ∙ ap value_kind w);
        binding_is = λ h. F.binding_is ∙ o.is (omega arith) ∙ ap (λ (n : ℕ). n + 1) q;
        target_is = λ h. F.target_is ∙ z.is h ∙ ap (λ (n : ℕ). cond (eqb n node.constant) (v + 1) 0) w;
      }

-- a test that says the same of one node
same_judged : (p q : ℕ → Bool) (j k l : ℕ) → p j ≡ q k → judged p (one j) l ≡ judged q (one k) l
same_judged p q j k l e = ap (λ (b : Bool). cond b express.fine (express.fault 11 l)) e

module _ {kinds nodes : List ℕ} {p : ℕ} {f : Finding} where
  pub nothing_found : {u : Use} {g : Option code.Fault} → u ≡ Nothing → fault_of g ≡ express.fault 10 p → Made g 0 0 f → UseFinding kinds nodes u p f
  nothing_found {u} e a F = record {
    found = λ t keys heads next K P m S.
        let q : none ≡ m = rw e at S.is in
        rw (sym q) (record { fault_is = ap fault_of F.fault_is ∙ a; binding_is = F.binding_is; target_is = F.target_is });
  }

  pub several_found : {u : Use} {g : Option code.Fault} → u ≡ Several → fault_of g ≡ express.fault 12 p → Made g 0 0 f → UseFinding kinds nodes u p f
  several_found {u} e a F = record {
    found = λ t keys heads next K P m S.
        let q : several ≡ m = rw e at S.is in
        rw (sym q) (record { fault_is = ap fault_of F.fault_is ∙ a; binding_is = F.binding_is; target_is = F.target_is });
  }

  pub node_found : {u : Use} {k : ℕ} → u ≡ Node k → NodeFinding kinds k p f → UseFinding kinds nodes u p f
  node_found {u} {k} e N = record {
    found = λ t keys heads next K P m S.
        let q : one k ≡ m = rw e at S.is in
        let w : (k < count t) × (is t node.constant k ≡ false) = rw e at S.sorted in
        let few = P.consistent.few in
        rw (sym q) (record {
          fault_is = N.fault_is ∙ same_judged (λ _. value_kind (get_or kinds k 0)) (is_value t) k k p (ap (λ (l : List ℕ). value_kind (get_or l k 0)) K);
          binding_is = N.binding_is (omega arith);
          target_is = N.target_is ∙ sym (ap (λ (b : Bool). cond b (vertex t k + 1) 0) w.1);
        });
  }

  pub declaration_found : {u : Use} {v : ℕ} → u ≡ Declaration v → DeclarationFinding kinds nodes v p f → UseFinding kinds nodes u p f
  declaration_found {u} {v} e D = record {
    found = λ t keys heads next K P m S.
        let q : one (get_or nodes v 0) ≡ m = rw e at S.is in
        let w : v < vertex_count t = rw e at S.sorted in
        let few = P.consistent.few in
        let n : get_or nodes v 0 ≡ node_of t v = column_node P v w in
        let low = node_below t v w in
        let z : vertex t (get_or nodes v 0) ≡ v = ap (vertex t) n ∙ node_number t v w in
        let small : v + 1 < limit = omega (arith, few, low, n, node_number t v w, vertex_small t (node_of t v)) in
        rw (sym q) (record {
          fault_is = D.fault_is ∙ same_judged (λ _. value_kind (get_or kinds (get_or nodes v 0) 0)) (is_value t) v (get_or nodes v 0) p (ap (λ (l : List ℕ). value_kind (get_or l (get_or nodes v 0) 0)) K);
          binding_is = D.binding_is (omega arith);
          target_is =
              D.target_is small ∙ ap (λ (l : List ℕ). cond (eqb (get_or l (get_or nodes v 0) 0) node.constant) (v + 1) 0) K
              ∙ ap (λ (x : ℕ). cond (is t node.constant (get_or nodes v 0)) (x + 1) 0) (sym z);
        });
  }

-- ---- `type.item`

module _ {kinds sizes : List ℕ} {n k : ℕ} (q : k ≡ get_or kinds n 0) where
  pub no_type : (k ≡ node.type → ⊥) → TellsEnumeration kinds sizes n false
  no_type d = record {
    is = λ t K S some. let e : is t node.type n ≡ false = ne_eqb (kind t n) node.type (λ z. d (q ∙ ap (λ (l : List ℕ). get_or l n 0) K ∙ z)) in rw e;
  }

  pub of_type :
      {a b c d j : ℕ} → k ≡ node.type → a ≡ get_or sizes n 0 → b ≡ a → c ≡ b - 1 → d ≡ n - c → j ≡ get_or kinds d 0 → TellsEnumeration kinds sizes n (eqb j node.enumeration_item)
  of_type {a} {b} {c} {d} {j} e f g h i l = record {
    is = λ t K S some.
        let x : is t node.type n ≡ true = eq-eqb (kind t n) node.type (ap (λ (l : List ℕ). get_or l n 0) (sym K) ∙ sym q ∙ e) in
        let z : get_or sizes n 0 ≡ size t n = ap (λ (l : List ℕ). get_or l n 0) S in
        let w : d ≡ first t n = omega arith in
        rw x (ap (λ (m : ℕ). eqb m node.enumeration_item) (l ∙ ap (λ (l : List ℕ). get_or l d 0) K ∙ ap (kind t) w));
  }

same_item : (nodes : List ℕ) (p : ℕ) (m : entries.Meaning) → judged (λ _. true) (entry_meant m) p ≡ judged (λ _. true) (node_meant nodes m) p
same_item nodes p entry.Nothing = refl
same_item nodes p (entry.One e) = refl
same_item nodes p entry.Several = refl

module _ {keys nodes heads next : List ℕ} {y s p : ℕ} {f : Finding} {g : Option code.Fault} {m : entries.Meaning} where
  -- one number binds where one item is meant
  item_made :
      (b : ℕ) → Means keys heads next (λ t. items_of t y s) m → fault_of g ≡ judged (λ _. true) (entry_meant m) p → Made g b 0 f →
      ((t : Table) → Prepared t keys nodes heads next → b ≡ binding_of (node_meant nodes m)) → ItemFinding keys nodes heads next y s p f
  item_made b M a F h = record {
    fault_is = λ t P. ap fault_of F.fault_is ∙ a ∙ same_item nodes p m ∙ ap (λ (x : Meaning). judged (λ _. true) x p) (M.is t nodes P);
    binding_is = λ t P. F.binding_is ∙ h t P ∙ ap binding_of (M.is t nodes P);
  }

  pub no_item :
      m ≡ entry.Nothing → Means keys heads next (λ t. items_of t y s) m → fault_of g ≡ judged (λ _. true) (entry_meant m) p → Made g 0 0 f → ItemFinding keys nodes heads next y s p f
  no_item e M a F = item_made 0 M a F (λ t P. rw e refl)

  pub two_items :
      m ≡ entry.Several → Means keys heads next (λ t. items_of t y s) m → fault_of g ≡ judged (λ _. true) (entry_meant m) p → Made g 0 0 f → ItemFinding keys nodes heads next y s p f
  two_items e M a F = item_made 0 M a F (λ t P. rw e refl)

  pub one_item :
      {e i k b : ℕ} → m ≡ entry.One e → Means keys heads next (λ t. items_of t y s) m → fault_of g ≡ judged (λ _. true) (entry_meant m) p → i ≡ get_or nodes e 0 → k ≡ i → OneMore k b →
      Made g b 0 f → ItemFinding keys nodes heads next y s p f
  one_item {e} {i} {k} {b} q M a x z o F =
      item_made b M a F
      (λ t P.
      let w : one (get_or nodes e 0) ≡ meaning (items_of t y s) = rw q at (M.is t nodes P) in
      let few = P.consistent.few in
      let low = item_low t y s (get_or nodes e 0) (sym w) in
      rw q (o.is (omega arith) ∙ ap (λ (n : ℕ). n + 1) (z ∙ x)))

module _ {kinds sizes keys nodes heads next : List ℕ} {v yp s p : ℕ} {i f : Finding} {g : express.Fault} {l : Option code.Fault} {b : Bool} where
  pub type_found :
      {k j : ℕ} → j ≡ get_or nodes v 0 → k ≡ j → TellsEnumeration kinds sizes k b → ItemFinding keys nodes heads next k s p i → g ≡ judged (λ _. b) (one 0) yp →
      fault_of l ≡ or_later g (fault_of i.fault) → Made l i.binding 0 f → TypeFinding kinds sizes keys nodes heads next v yp s p f
  type_found {k} {j} x z E I a c F =
      let q : k ≡ get_or nodes v 0 = z ∙ x in
      record {
        fault_is = λ t K S P some.
            rw (← q)
            (ap fault_of F.fault_is ∙ c ∙ ap₂ or_later (a ∙ same_judged (λ _. b) (is_enumeration t) 0 k yp (E.is t K S (rw q some))) (I.fault_is t P));
        binding_is = λ t P. F.binding_is ∙ I.binding_is t P ∙ ap (λ (n : ℕ). binding_of (meaning (items_of t n s))) q;
        target_is = F.target_is;
      }

module _ {kinds sizes keys nodes heads next : List ℕ} {h y yp s p : ℕ} {f : Finding} where
  pub unknown_type :
      {m : entries.Meaning} {g : Option code.Fault} → m ≡ entry.Nothing → Means keys heads next (λ t. declarations t h y) m → fault_of g ≡ express.fault 10 yp → Made g 0 0 f →
      QualifiedFinding kinds sizes keys nodes heads next h y yp s p f
  unfolding item_meant
  unknown_type {m} e M a F = record {
    fault_is = λ t K S P some. let q : none ≡ meaning (declarations t h y) = rw e at (M.is t nodes P) in rw (sym q) (ap fault_of F.fault_is ∙ a);
    binding_is = λ t P. let q : none ≡ meaning (declarations t h y) = rw e at (M.is t nodes P) in rw (sym q) F.binding_is;
    target_is = F.target_is;
  }

  pub two_types :
      {m : entries.Meaning} {g : Option code.Fault} → m ≡ entry.Several → Means keys heads next (λ t. declarations t h y) m → fault_of g ≡ express.fault 12 yp → Made g 0 0 f →
      QualifiedFinding kinds sizes keys nodes heads next h y yp s p f
  unfolding item_meant
  two_types {m} e M a F = record {
    fault_is = λ t K S P some. let q : several ≡ meaning (declarations t h y) = rw e at (M.is t nodes P) in rw (sym q) (ap fault_of F.fault_is ∙ a);
    binding_is = λ t P. let q : several ≡ meaning (declarations t h y) = rw e at (M.is t nodes P) in rw (sym q) F.binding_is;
    target_is = F.target_is;
  }

  pub known_type :
      {m : entries.Meaning} {v : ℕ} → m ≡ entry.One v → Means keys heads next (λ t. declarations t h y) m → TypeFinding kinds sizes keys nodes heads next v yp s p f →
      QualifiedFinding kinds sizes keys nodes heads next h y yp s p f
  unfolding item_meant
  known_type {m} {v} e M T = record {
    fault_is = λ t K S P some.
        let q : one (get_or nodes v 0) ≡ meaning (declarations t h y) = rw e at (M.is t nodes P) in
        let D = declared_meant P M e in
        rw (sym q) (T.fault_is t K S P (some (get_or nodes v 0) (omega (arith, D.node_is, node_below t v D.number))));
    binding_is = λ t P. let q : one (get_or nodes v 0) ≡ meaning (declarations t h y) = rw e at (M.is t nodes P) in rw (sym q) (T.binding_is t P);
    target_is = T.target_is;
  }

pub ruleset names_found =
    (node_made, declaration_made, no_type, of_type, nothing_found, several_found, node_found, declaration_found, no_item, two_items, one_item, type_found, unknown_type, two_types, known_type)
