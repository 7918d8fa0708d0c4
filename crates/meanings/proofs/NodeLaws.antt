-- What the stage of expressions says of a node, by its kind.
use Rattle.std.specs.Prelude.{Option}
use mathlib.Core.Path.{◌≡◌, refl, sym, ap, ap₂, ◌∙◌}
use mathlib.Core.Logic.{⊎_elim}
use mathlib.Core.Bool.{Bool, true, false, cond, not, ◌&&◌, ◌||◌, false≢true}
use mathlib.Core.List.{List, [], ◌∷◌}
use Prim.Native.Nat.{ℕ, ◌-◌, ◌<◌}
use native.Mathlib.Omega.{arith}
use borrow.Author.Tests.{eqb-true, ne_eqb, eq-eqb}
use lib.Dec.{eqb}
use lib.ListN.{get_or}
use Rattle.ebnf.specs.Set.{mem}
use Rattle.relations.specs.Select.{empty}
use Rattle.relations.proofs.Select.{or_cases, or_left, or_right, and_fst}
use Rattle.express.specs.Syntax.NodeKind as node
use Rattle.express.specs.Syntax.Tree.{Table, count, kind, token, symbol, symbol_at, place, place_at, is, is_scope_member, owner, schema_of, in_constant}
use Rattle.express.specs.Names.Scope.{Meaning, none, one, several, meaning, inherited, declarations, items, candidates, is_use, means, binding, binding_of, type_token, type_meant, qualified_meant}
use Rattle.express.specs.Names.Fault as express
use Rattle.express.specs.Names.Fault.{judged, is_value, is_enumeration, or_later, expression, qualified}
use Rattle.express.proofs.Syntax.FormedRows.{sized}
use Rattle.express.proofs.Names.Owned.{in_constant_is, qualified_means}
use Rattle.dependencies.specs.Target.{constant_of, constant_target}
use Rattle.faults.specs.Meaning.{fault_of}
use Rattle.faults.specs.declared.Fault as code
use Rattle.meanings.specs.Use.{StandsFor, use_meant, InDeclaration}
use Rattle.meanings.specs.Finding.{Made, UseFinding, QualifiedFinding}
use Rattle.meanings.specs.Node.{asks, MemberFault, ColumnsOf, FoundAt, NodeFindings}
use Rattle.meanings.specs.declared.Use.{Use}
use Rattle.meanings.specs.declared.Use.TheVariants.{Nothing, Several, Node, Declaration}
use Rattle.type_names.specs.declared.Finding.{Finding}

-- ---- an own attribute or label

member : (u : Use) (p : ℕ) (f : Option code.Fault) (b : Bool) → fault_of f ≡ cond b (express.fault 12 p) express.fine
    → ((t : Table) (nodes xs : List ℕ) → StandsFor t nodes (meaning xs) u → not (empty xs) ≡ b) → MemberFault u p f
member u p f b a h = record { is = λ t nodes xs S. rw (h t nodes xs S) a }

no_list : (xs : List ℕ) → none ≡ meaning xs → not (empty xs) ≡ false
no_list [] e = refl
no_list (x ∷ []) e = let z : ◌≡◌ {A = ℕ} 0 1 = cc in absurd (omega arith)
no_list (x ∷ y ∷ xs) e = let z : ◌≡◌ {A = ℕ} 0 1 = cc in absurd (omega arith)

some_list : (xs : List ℕ) → (meaning xs ≡ none → ⊥) → not (empty xs) ≡ true
some_list [] d = absurd (d refl)
some_list (x ∷ xs) d = refl

pub member_fine : {u : Use} {p : ℕ} {f : Option code.Fault} → u ≡ Nothing → fault_of f ≡ express.fine → MemberFault u p f
member_fine {u} {p} {f} e a = member u p f false a (λ t nodes xs S. no_list xs (rw e at S.is))

pub member_several : {u : Use} {p : ℕ} {f : Option code.Fault} → u ≡ Several → fault_of f ≡ express.fault 12 p → MemberFault u p f
member_several {u} {p} {f} e a =
    member u p f true a
    (λ t nodes xs S. some_list xs (λ z. let q : several ≡ meaning xs = rw e at S.is in let y : ◌≡◌ {A = ℕ} 0 1 = cc in omega arith))

pub member_one : {u : Use} {k p : ℕ} {f : Option code.Fault} → u ≡ Node k → fault_of f ≡ express.fault 12 p → MemberFault u p f
member_one {u} {k} {p} {f} e a =
    member u p f true a
    (λ t nodes xs S. some_list xs (λ z. let q : one k ≡ meaning xs = rw e at S.is in let y : ◌≡◌ {A = ℕ} 0 1 = cc in omega arith))

pub member_declared : {u : Use} {v p : ℕ} {f : Option code.Fault} → u ≡ Declaration v → fault_of f ≡ express.fault 12 p → MemberFault u p f
member_declared {u} {v} {p} {f} e a =
    member u p f true a
    (λ t nodes xs S. some_list xs (λ z. let q : one (get_or nodes v 0) ≡ meaning xs = rw e at S.is in let y : ◌≡◌ {A = ℕ} 0 1 = cc in omega arith))

-- ---- by the kind of a node

module _ {A : Type 0} where
  pub chosen : (b : Bool) (x y : A) → b ≡ true → cond b x y ≡ x
  chosen true x y e = refl
  chosen false x y e = absurd (false≢true e)

  pub passed : (b : Bool) (x y : A) → b ≡ false → cond b x y ≡ y
  passed false x y e = refl
  passed true x y e = absurd (false≢true (sym e))

same_test : (p q : ℕ → Bool) (m : Meaning) (l : ℕ) → ((k : ℕ) → p k ≡ q k) → judged p m l ≡ judged q m l
same_test p q none l h = refl
same_test p q several l h = refl
same_test p q (one k) l h = ap (λ (b : Bool). cond b express.fine (express.fault 11 l)) (h k)

pub both_false : (a b : Bool) → a ≡ false → (a && b) ≡ false
both_false false b e = refl
both_false true b e = absurd (false≢true (sym e))

module _ (t : Table) (n : ℕ) where
  kind_not : (k : ℕ) → (kind t n ≡ k → ⊥) → is t k n ≡ false
  kind_not k d = ne_eqb (kind t n) k d

  no_use : (kind t n ≡ node.name → ⊥) → is_use t n ≡ false
  no_use d = both_false (is t node.name n) _ (kind_not node.name d)

  pub no_member : (kind t n ≡ node.attribute_name → ⊥) → (kind t n ≡ node.derived_attribute → ⊥) → (kind t n ≡ node.rule → ⊥) → is_scope_member t n ≡ true → ⊥
  no_member a b c e =
      ⊎_elim (λ x. ⊎_elim (λ y. a (eqb-true (kind t n) node.attribute_name y)) (λ y. b (eqb-true (kind t n) node.derived_attribute y)) (or_cases _ _ x))
      (λ x. c (eqb-true (kind t n) node.rule (and_fst _ _ x))) (or_cases _ _ e)

  pub asked : {P : Type 0} → asks t n ≡ true → (is_use t n ≡ true → P) → (is t node.qualified_item n ≡ true → P) → (is t node.self n ≡ true → P) → (is_scope_member t n ≡ true → P) → P
  asked a u q s m =
      ⊎_elim (λ x. ⊎_elim (λ y. ⊎_elim u q (or_cases (is_use t n) (is t node.qualified_item n) y)) s (or_cases (is_use t n || is t node.qualified_item n) (is t node.self n) x)) m
      (or_cases (is_use t n || is t node.qualified_item n || is t node.self n) (is_scope_member t n) a)

  asked_use : asks t n ≡ true → kind t n ≡ node.name → is_use t n ≡ true
  asked_use a e =
      asked a (λ u. u) (λ x. let q = eqb-true (kind t n) node.qualified_item x in absurd (omega arith)) (λ x. let q = eqb-true (kind t n) node.self x in absurd (omega arith))
      (λ x. absurd (no_member (λ q. omega arith) (λ q. omega arith) (λ q. omega arith) x))

  asked_member : asks t n ≡ true → (kind t n ≡ node.name → ⊥) → (kind t n ≡ node.qualified_item → ⊥) → (kind t n ≡ node.self → ⊥) → is_scope_member t n ≡ true
  asked_member a x y z =
      asked a (λ u. absurd (x (eqb-true (kind t n) node.name (and_fst _ _ u)))) (λ u. absurd (y (eqb-true (kind t n) node.qualified_item u)))
      (λ u. absurd (z (eqb-true (kind t n) node.self u))) (λ m. m)

  -- what has no name means nothing
  unnamed : (kind t n ≡ node.name → ⊥) → (kind t n ≡ node.qualified_item → ⊥) → means t n ≡ none
  unfolding means
  unnamed x y = passed (is_use t n) _ _ (no_use x) ∙ passed (is t node.name n) _ _ (kind_not node.name x) ∙ passed (is t node.qualified_item n) _ _ (kind_not node.qualified_item y)

  pub unbound : (kind t n ≡ node.name → ⊥) → (kind t n ≡ node.qualified_item → ⊥) → 0 ≡ binding t n
  unfolding binding
  unbound x y = sym (ap binding_of (unnamed x y))

  untargeted : (kind t n ≡ node.name → ⊥) → 0 ≡ constant_target t n
  untargeted x = sym (passed (is_use t n) _ _ (no_use x))

  pub use_found :
      {f : Finding} → is_use t n ≡ true → fault_of f.fault ≡ judged (is_value t) (means t n) (place t n) → f.binding ≡ binding_of (means t n) →
      f.target ≡ constant_of t (means t n) → FoundAt t n f
  unfolding expression binding
  use_found u a b c = record {
    fault_is = a ∙ same_test _ _ (means t n) (place t n) (λ k. sym (chosen (is_use t n) _ _ u)) ∙ sym (chosen (is_use t n) _ _ u);
    binding_is = b;
    target_is = c ∙ sym (chosen (is_use t n) _ _ u);
  }

  pub item_found :
      {f : Finding} → kind t n ≡ node.qualified_item →
      fault_of f.fault ≡ or_later (judged (is_enumeration t) (type_meant t n) (place_at t (type_token t n))) (judged (λ _. true) (means t n) (place t n)) →
      f.binding ≡ binding_of (means t n) → f.target ≡ 0 → FoundAt t n f
  unfolding expression qualified binding
  item_found e a b c =
      let x : kind t n ≡ node.name → ⊥ = λ (q : kind t n ≡ node.name). omega arith in
      record {
        fault_is = a ∙ sym (passed (is_use t n) _ _ (no_use x) ∙ chosen (is t node.qualified_item n) _ _ (eq-eqb (kind t n) node.qualified_item e));
        binding_is = b;
        target_is = c ∙ untargeted x;
      }

  pub self_found :
      {f : Finding} {g : Option code.Fault} (o : Bool) → kind t n ≡ node.self → not o ≡ in_constant t n → fault_of g ≡ judged (λ _. o) (one 0) (place t n) → Made g 0 0 f → FoundAt t n f
  unfolding expression
  self_found o e i a F =
      let x : kind t n ≡ node.name → ⊥ = λ (q : kind t n ≡ node.name). omega arith in
      let y : kind t n ≡ node.qualified_item → ⊥ = λ (q : kind t n ≡ node.qualified_item). omega arith in
      record {
        fault_is = ap fault_of F.fault_is ∙ a ∙ by o i ∙ sym (passed (is_use t n) _ _ (no_use x) ∙ passed (is t node.qualified_item n) _ _ (kind_not node.qualified_item y));
        binding_is = F.binding_is ∙ unbound x y;
        target_is = F.target_is ∙ untargeted x;
      }
    where
      s : is t node.self n ≡ true
      s = eq-eqb (kind t n) node.self e

      none_own : express.clashes t n ≡ false
      none_own = both_false (is_scope_member t n) _ (never (is_scope_member t n) refl)
        where
          never : (b : Bool) → is_scope_member t n ≡ b → b ≡ false
          never false q = refl
          never true q = absurd (no_member (λ z. omega (arith, e, z)) (λ z. omega (arith, e, z)) (λ z. omega (arith, e, z)) q)

      by : (o : Bool) → not o ≡ in_constant t n → judged (λ _. o) (one 0) (place t n) ≡
          cond (is t node.self n && in_constant t n) (express.fault 11 (place t n)) (cond (express.clashes t n) (express.fault 12 (place t n)) express.fine)
      by true q = sym (passed (is t node.self n && in_constant t n) _ _ (rw (s, sym q)) ∙ passed (express.clashes t n) _ _ none_own)
      by false q = sym (chosen (is t node.self n && in_constant t n) _ _ (rw (s, sym q)))

  pub member_found :
      {f : Finding} {g : Option code.Fault} → (kind t n ≡ node.name → ⊥) → (kind t n ≡ node.qualified_item → ⊥) → (kind t n ≡ node.self → ⊥) → is_scope_member t n ≡ true →
      fault_of g ≡ cond (not (empty (inherited t (owner t n) (symbol t n)))) (express.fault 12 (place t n)) express.fine → Made g 0 0 f → FoundAt t n f
  unfolding expression
  member_found x y z m a F = record {
    fault_is =
        ap fault_of F.fault_is ∙ a ∙ ap (λ (b : Bool). cond (b && not (empty (inherited t (owner t n) (symbol t n)))) (express.fault 12 (place t n)) express.fine) (sym m)
        ∙ sym
        (passed (is_use t n) _ _ (no_use x) ∙ passed (is t node.qualified_item n) _ _ (kind_not node.qualified_item y)
        ∙ passed (is t node.self n && in_constant t n) _ _ (both_false (is t node.self n) _ (kind_not node.self z)));
    binding_is = F.binding_is ∙ unbound x y;
    target_is = F.target_is ∙ untargeted x;
  }

pub ruleset members_found = (member_fine, member_several, member_one, member_declared)

use_means : (t : Table) (n : ℕ) → is_use t n ≡ true → means t n ≡ use_meant t (owner t n) (schema_of t n) (symbol t n)
unfolding means candidates
use_means t n u = chosen (is_use t n) _ _ u

-- ---- the node as the code has read it: its token, its symbol and its place

-- what was read of a node: its token, its symbol and its place
pub record Seen (tokens symbols starts : List ℕ) (n tk sy pl : ℕ) : Type 0 where
  pub token_at : tk ≡ get_or tokens n 0
  pub symbol_at : sy ≡ get_or symbols tk 0
  pub place_at : pl ≡ get_or starts tk 0

module _ {kinds tokens sizes symbols starts : List ℕ} {n tk sy pl : ℕ} (S : Seen tokens symbols starts n tk sy pl) {t : Table} (C : ColumnsOf t kinds tokens sizes symbols starts) where
  token_is : tk ≡ token t n
  token_is = S.token_at ∙ ap (λ (l : List ℕ). get_or l n 0) C.tokens_are

  symbol_is : sy ≡ symbol t n
  symbol_is = S.symbol_at ∙ ap₂ (λ (l : List ℕ) (i : ℕ). get_or l i 0) C.symbols_are token_is

  place_is : pl ≡ place t n
  place_is = S.place_at ∙ ap₂ (λ (l : List ℕ) (i : ℕ). get_or l i 0) C.starts_are token_is

module _ {kinds tokens sizes symbols starts keys nodes heads next : List ℕ} {k o h n tk sy pl : ℕ} {u item : Use} {f : Finding}
    (E : Seen tokens symbols starts n tk sy pl) where
  pub name_node :
      {m : Use} → k ≡ node.name → InDeclaration keys nodes heads next u item o h sy m → UseFinding kinds nodes m pl f →
      NodeFindings kinds tokens sizes symbols starts keys nodes heads next k o h u item n f
  name_node {m} e D U = record {
    found = λ t R C P W.
        let y = asked_use t n W.asked (sym W.kind_is ∙ e) in
        let s = symbol_is E C in
        let G : StandsFor t nodes (meaning (inherited t o sy)) u = rw s (W.inherited_is (or_left (is_use t n) (is_scope_member t n) y)) in
        let I : StandsFor t nodes (meaning (items t h sy)) item = rw s (W.item_is y) in
        let q : use_meant t o h sy ≡ means t n = rw (W.owner_is, W.schema_is, s) (sym (use_means t n y)) in
        let F = U.found t keys heads next C.kinds_are P (use_meant t o h sy) (D.stands t P G I) in
        use_found t n y (F.fault_is ∙ ap₂ (judged (is_value t)) q (place_is E C)) (F.binding_is ∙ ap binding_of q) (F.target_is ∙ ap (constant_of t) q);
  }

  pub item_node :
      {b qs qp : ℕ} → k ≡ node.qualified_item → b ≡ tk - 2 → qs ≡ get_or symbols b 0 → qp ≡ get_or starts b 0 → QualifiedFinding kinds sizes keys nodes heads next h qs qp sy pl f →
      NodeFindings kinds tokens sizes symbols starts keys nodes heads next k o h u item n f
  unfolding type_meant
  item_node {b} {qs} {qp} e B Q Z D = record {
    found = λ t R C P W.
        let y : kind t n ≡ node.qualified_item = sym W.kind_is ∙ e in
        let i : b ≡ type_token t n = B ∙ ap (λ (x : ℕ). x - 2) (token_is E C) in
        let s : qs ≡ symbol_at t (type_token t n) = Q ∙ ap₂ (λ (l : List ℕ) (j : ℕ). get_or l j 0) C.symbols_are i in
        let p : qp ≡ place_at t (type_token t n) = Z ∙ ap₂ (λ (l : List ℕ) (j : ℕ). get_or l j 0) C.starts_are i in
        let w : qualified_meant t h qs sy ≡ means t n =
        rw (W.schema_is, s, symbol_is E C) (sym (qualified_means t n (eq-eqb (kind t n) node.qualified_item y))) in
        let some : (m : ℕ) → m < count t → 0 < get_or sizes m 0 = λ (m : ℕ) (l : m < count t). let z = (sized R m l).0 in rw C.sizes_are (omega arith) in
        let v : judged (is_enumeration t) (meaning (declarations t h qs)) qp ≡ judged (is_enumeration t) (type_meant t n) (place_at t (type_token t n)) =
        rw (W.schema_is, s, p) in
        let x : judged (λ _. true) (qualified_meant t h qs sy) pl ≡ judged (λ _. true) (means t n) (place t n) = ap₂ (judged (λ _. true)) w (place_is E C) in
        item_found t n y (D.fault_is t C.kinds_are C.sizes_are P some ∙ ap₂ or_later v x) (D.binding_is t P ∙ ap binding_of w) D.target_is;
  }

  pub self_node :
      {j : ℕ} {g : Option code.Fault} → k ≡ node.self → j ≡ get_or kinds o 0 → fault_of g ≡ judged (λ _. not (eqb j node.constant)) (one 0) pl → Made g 0 0 f →
      NodeFindings kinds tokens sizes symbols starts keys nodes heads next k o h u item n f
  unfolding mem
  self_node {j} e J a F = record {
    found = λ t R C P W.
        let y : kind t n ≡ node.self = sym W.kind_is ∙ e in
        let c : in_constant t n ≡ is t node.constant (owner t n) = in_constant_is R n W.known (rw y) in
        let i : eqb j node.constant ≡ is t node.constant (owner t n) =
        ap (λ (x : ℕ). eqb x node.constant) (J ∙ ap₂ (λ (l : List ℕ) (x : ℕ). get_or l x 0) C.kinds_are W.owner_is) in
        self_found t n (not (eqb j node.constant)) y (twice (eqb j node.constant) ∙ i ∙ sym c) (a ∙ ap (judged (λ _. not (eqb j node.constant)) (one 0)) (place_is E C)) F;
  }
    where
      twice : (b : Bool) → not (not b) ≡ b
      twice true = refl
      twice false = refl

  pub member_node :
      {g : Option code.Fault} → (k ≡ node.name → ⊥) → (k ≡ node.qualified_item → ⊥) → (k ≡ node.self → ⊥) → MemberFault u pl g → Made g 0 0 f →
      NodeFindings kinds tokens sizes symbols starts keys nodes heads next k o h u item n f
  member_node x y z M F = record {
    found = λ t R C P W.
        let i = W.kind_is in
        let a : kind t n ≡ node.name → ⊥ = λ (q : kind t n ≡ node.name). x (i ∙ q) in
        let b : kind t n ≡ node.qualified_item → ⊥ = λ (q : kind t n ≡ node.qualified_item). y (i ∙ q) in
        let c : kind t n ≡ node.self → ⊥ = λ (q : kind t n ≡ node.self). z (i ∙ q) in
        let m = asked_member t n W.asked a b c in
        member_found t n a b c m
        (M.is t nodes (inherited t o (symbol t n)) (W.inherited_is (or_right (is_use t n) (is_scope_member t n) m)) ∙ rw (W.owner_is, place_is E C)) F;
  }

pub ruleset nodes_found = (name_node, item_node, self_node, member_node)
