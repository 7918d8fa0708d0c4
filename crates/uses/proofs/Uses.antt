-- What the stage of expressions finds of each node, and of which nodes it finds nothing.
use Rattle.std.specs.Prelude.{None}
use mathlib.Core.Path.{◌≡◌, refl, sym, ap, ap₂, ◌∙◌}
use mathlib.Core.Logic.{⊎_elim, by_cases}
use mathlib.Core.Bool.{Bool, true, false, cond, not, ◌&&◌, ◌||◌, false≢true}
use mathlib.Core.List.{List, [], ◌∷◌}
use Prim.Native.Nat.{ℕ, zero, suc, ◌+◌, ◌-◌, ◌≤◌, ◌<◌, min}
use native.Mathlib.Omega.{arith}
use native.Mathlib.Decide.{ℕ_discrete}
use borrow.Author.Tests.{eqb-true, eq-eqb, ne_eqb}
use lib.Dec.{eqb, leb, ltb}
use lib.ListN.{length, get_or, set}
use Rattle.ebnf.specs.Set.{mem, disjoint, subset}
use Rattle.ebnf.proofs.Sets.{in_more}
use Rattle.relations.specs.Select.{empty}
use Rattle.relations.proofs.Select.{or_cases, or_right, and_fst, untrue}
use Rattle.express.specs.Syntax.NodeKind as node
use Rattle.express.specs.Syntax.Grammar.{file}
use Rattle.express.specs.Syntax.Syntax.{Read}
use Rattle.express.specs.Tokens.Scanned.{Scanned}
use Rattle.express.specs.Syntax.Tree.{Table, count, kind, symbol, place, is, is_declaration, is_scope_member, owner, schema_of, in_constant}
use Rattle.express.specs.Names.Scope.{Meaning, none, one, several, meaning, inherited, is_use, binding}
use Rattle.express.specs.Names.Scope as scope
use Rattle.express.specs.Names.Fault as express
use Rattle.express.specs.Names.Fault.{expression}
use Rattle.express.proofs.Syntax.KindSets as set
use Rattle.express.proofs.Syntax.Within.{schema_over}
use Rattle.express.proofs.Names.Owned.{declaring, declaring_kind, undeclared, in_schema, in_owner, owner_schema}
use Rattle.scopes.specs.NoneFrom.{NoneFrom}
use Rattle.scopes.specs.Preparation.{Consistent}
use Rattle.scopes.specs.Standing.{is_member}
use Rattle.scopes.specs.Range.{vertex_count, node_of, DeclarationAt}
use Rattle.scopes.specs.declared.Extent.{Extent}
use Rattle.scopes.proofs.Ranges.{node_below, node_declares, range_owner, range_end}
use Rattle.faults.specs.Meaning.{fault_of}
use Rattle.dependencies.specs.Target.{behind_all}
use Rattle.dependencies.proofs.Instances.{constant_targets}
use Rattle.type_names.specs.TypeName.{is_type_name}
use Rattle.columns.proofs.Laws.{at_other}
use Rattle.type_names.specs.Pass.{Pass, Finds, Stored, Skipped, RangeOf, WithinDeclarations}
use Rattle.type_names.specs.declared.Finding.{Finding}
use Rattle.type_names.specs.declared.Progress.{Progress}
use Rattle.type_names.proofs.Passes.{passing_skips, entry_ahead, PassingRange, PassingFile, file_starts, file_goes_on, file_ends}
use Rattle.inheritance.specs.Inheritance.{inherited_code}
use Rattle.symbol_tables.specs.Entry.{several_code, code, stamp_count, says}
use Rattle.symbol_tables.specs.Table.{symbol_in}
use Rattle.symbol_tables.proofs.Symbols.{symbol_within}
use Rattle.schema_items.specs.Items.{ItemsOf, SchemaOf, Tabling, Begins, Turns}
use Rattle.schema_items.specs.declared.Tabled.{Tabled}
use Rattle.meanings.specs.Use.{StandsFor}
use Rattle.meanings.specs.Node.{asks, inherits, ColumnsOf, Standing, NodeFindings}
use Rattle.meanings.specs.declared.Use.{Use}
use Rattle.meanings.specs.declared.Use.TheVariants.{Nothing, Several, Node}
use Rattle.meanings.proofs.Nearest.{item_sort, inherited_sort}
use Rattle.meanings.proofs.NodeLaws.{asked, no_member, chosen, passed, both_false, unbound, member_found}
use Rattle.uses.specs.Binding.{finds_by, may_find, may_find_at, Decodes, inherited_before, uses, FindingAt, RangeAsked, FileAsked, BindsRange, BindsUses}

pub or_none : (b : Bool) → b ≡ b || false || false || false
or_none true = refl
or_none false = refl

pub and_none : (b : Bool) → false ≡ b && false
and_none true = refl
and_none false = refl

pub and_all : (b : Bool) → b ≡ b && true
and_all true = refl
and_all false = refl

-- ---- codes

pub decodes_nothing : {c : ℕ} → c ≡ 0 → Decodes c Nothing
decodes_nothing {c} e = record { stands = λ t nodes m few s q. by t nodes m (sym q ∙ e) }
  where
    by : (t : Table) (nodes : List ℕ) (m : Meaning) → code m ≡ 0 → StandsFor t nodes m Nothing
    by t nodes none q = record { is = refl; sorted = omega arith }
    by t nodes (one k) q = absurd (omega arith)
    by t nodes several q = absurd (omega arith)

pub decodes_several : {c : ℕ} → c ≡ several_code → Decodes c Several
decodes_several {c} e = record { stands = λ t nodes m few s q. by t nodes m few s (sym q ∙ e) }
  where
    by : (t : Table) (nodes : List ℕ) (m : Meaning) → count t < several_code → ((k : ℕ) → m ≡ one k → (k < count t) × (is t node.constant k ≡ false)) → code m ≡ several_code
        → StandsFor t nodes m Several
    by t nodes none few s q = absurd (omega arith)
    by t nodes (one k) few s q = let l = (s k refl).0 in absurd (omega arith)
    by t nodes several few s q = record { is = refl; sorted = omega arith }

pub decodes_node : {c j k : ℕ} → (c ≡ 0 → ⊥) → (c ≡ several_code → ⊥) → j ≡ c - 1 → k ≡ j → Decodes c (Node k)
decodes_node {c} {j} {k} z y x e = record { stands = λ t nodes m few s q. by t nodes m s q }
  where
    by : (t : Table) (nodes : List ℕ) (m : Meaning) → ((k : ℕ) → m ≡ one k → (k < count t) × (is t node.constant k ≡ false)) → c ≡ code m → StandsFor t nodes m (Node k)
    by t nodes none s q = absurd (z q)
    by t nodes (one i) s q = let i_is : k ≡ i = omega arith in rw i_is (record { is = refl; sorted = s i refl })
    by t nodes several s q = absurd (y q)

-- ---- what is found

pub finding_found :
    {kinds tokens sizes symbols starts keys nodes heads next items : List ℕ} {k o h c d stamp n : ℕ} {u i : Use} {f : Finding} → k ≡ get_or kinds n 0 → Decodes c u →
    d ≡ says items stamp (symbol_in tokens symbols n) → Decodes d i → NodeFindings kinds tokens sizes symbols starts keys nodes heads next k o h u i n f →
    FindingAt kinds tokens sizes symbols starts keys nodes heads next items stamp o h c n f
unfolding inherited_code
finding_found {tokens = tokens} {symbols = symbols} {nodes = nodes} {items = items} {o = o} {h = h} {stamp = stamp} {n = n} {u = u} {i = i} e D L E F = record {
  is = λ t A l a p q r low I.
      let few = A.prepared.consistent.few in
      let s : symbol_in tokens symbols n ≡ symbol t n = rw (A.columns.tokens_are, A.columns.symbols_are) in
      let S : Standing t nodes _ o _ u i n = record {
        known = l;
        asked = a;
        kind_is = e ∙ ap (λ (l : List ℕ). get_or l n 0) A.columns.kinds_are;
        owner_is = p;
        schema_is = q;
        inherited_is = λ i.
            D.stands t nodes (meaning (inherited t o (symbol t n))) (omega arith) (inherited_sort t o (symbol t n)) (r i ∙ ap (λ (x : ℕ). code (meaning (inherited t x (symbol t n)))) (sym p));
        item_is = λ _. E.stands t nodes (meaning (scope.items t h (symbol t n))) (omega arith) (item_sort t h (symbol t n)) (L ∙ ap (says items stamp) s ∙ I.is (symbol t n) low);
      } in
      let G = F.found t A.read A.columns A.prepared S in
      record { fault_is = G.fault_is; target_is = G.target_is; entry_is = G.binding_is };
}

-- ---- nodes of which nothing is found

abbrev asking_kinds : List ℕ
asking_kinds = node.name ∷ node.qualified_item ∷ node.self ∷ node.attribute_name ∷ node.derived_attribute ∷ node.rule ∷ []

module _ (t : Table) (n : ℕ) where
  pub skipped : asks t n ≡ false → Skipped (uses t) n
  unfolding expression
  skipped a = record {
    fault_none =
        passed (is_use t n) _ _ u ∙ passed (is t node.qualified_item n) _ _ q ∙ passed (is t node.self n && in_constant t n) _ _ (both_false (is t node.self n) _ s)
        ∙ passed (express.clashes t n) _ _ (both_false (is_scope_member t n) _ m);
    target_none = passed (is_use t n) _ _ u;
    entry_kept = by (is_type_name t n) refl ∙ sym (passed (inherits t n) _ _ (neither (is_use t n) (is_scope_member t n) u m));
  }
    where
      neither : (a b : Bool) → a ≡ false → b ≡ false → a || b ≡ false
      neither false false x y = refl
      neither true b x y = absurd (false≢true (sym x))
      neither false true x y = absurd (false≢true (sym y))

      first_of : (a b : Bool) → a || b ≡ false → a ≡ false
      first_of false b e = refl
      first_of true b e = absurd (false≢true (sym e))

      second_of : (a b : Bool) → a || b ≡ false → b ≡ false
      second_of false b e = e
      second_of true b e = absurd (false≢true (sym e))

      m : is_scope_member t n ≡ false
      m = second_of (is_use t n || is t node.qualified_item n || is t node.self n) (is_scope_member t n) a

      three : is_use t n || is t node.qualified_item n || is t node.self n ≡ false
      three = first_of (is_use t n || is t node.qualified_item n || is t node.self n) (is_scope_member t n) a

      s : is t node.self n ≡ false
      s = second_of (is_use t n || is t node.qualified_item n) (is t node.self n) three

      two : is_use t n || is t node.qualified_item n ≡ false
      two = first_of (is_use t n || is t node.qualified_item n) (is t node.self n) three

      q : is t node.qualified_item n ≡ false
      q = second_of (is_use t n) (is t node.qualified_item n) two

      u : is_use t n ≡ false
      u = first_of (is_use t n) (is t node.qualified_item n) two

      -- a name that is no use is one of a type
      named : (a b : Bool) → b ≡ false → a && not b ≡ false → a ≡ false
      named false b x y = refl
      named true false x y = absurd (false≢true (sym y))
      named true true x y = absurd (false≢true (sym x))

      by : (b : Bool) → is_type_name t n ≡ b → binding t n ≡ cond b (binding t n) 0
      by true e = refl
      by false e =
          let z : is t node.name n ≡ false = named (is t node.name n) (is_use t n) u e in
          sym (unbound t n (λ k. false≢true (sym z ∙ eq-eqb (kind t n) node.name k)) (λ k. false≢true (sym q ∙ eq-eqb (kind t n) node.qualified_item k)))

  -- nor of an attribute or label that is not inherited
  quiet : is_scope_member t n ≡ true → inherited_before t n ≡ 0 → Skipped (uses t) n
  unfolding inherited_code
  quiet m w =
      let e : code (meaning (inherited t (owner t n) (symbol t n))) ≡ 0 = sym (chosen (inherits t n) _ _ (or_right (is_use t n) (is_scope_member t n) m)) ∙ w in
      let F = member_found t n {f = nothing} (λ z. no_member t n (λ q. omega (arith, z, q)) (λ q. omega (arith, z, q)) (λ q. omega (arith, z, q)) m)
      (λ z. no_member t n (λ q. omega (arith, z, q)) (λ q. omega (arith, z, q)) (λ q. omega (arith, z, q)) m)
      (λ z. no_member t n (λ q. omega (arith, z, q)) (λ q. omega (arith, z, q)) (λ q. omega (arith, z, q)) m) m
      (none_empty (inherited t (owner t n) (symbol t n)) e) (record { fault_is = refl; binding_is = refl; target_is = refl }) in
      record { fault_none = sym F.fault_is; target_none = sym F.target_is; entry_kept = sym F.binding_is ∙ sym w }
    where
      nothing : Finding
      nothing = record { fault = None; binding = 0; target = 0 }

      none_empty : (ks : List ℕ) → code (meaning ks) ≡ 0 → express.fine ≡ cond (not (empty ks)) (express.fault 12 (place t n)) express.fine
      none_empty [] q = refl
      none_empty (k ∷ []) q = absurd (omega arith)
      none_empty (k ∷ l ∷ ks) q = absurd (omega arith)

  -- the nodes that ask are of six kinds
  asked_kind :
      (p : ℕ → Bool) → p node.name ≡ true → p node.qualified_item ≡ true → p node.self ≡ true → p node.attribute_name ≡ true → p node.derived_attribute ≡ true → p node.rule ≡ true →
      asks t n ≡ true → p (kind t n) ≡ true
  asked_kind p a b c d e f h =
      asked t n h (λ x. ap p (eqb-true (kind t n) node.name (and_fst _ _ x)) ∙ a) (λ x. ap p (eqb-true (kind t n) node.qualified_item x) ∙ b)
      (λ x. ap p (eqb-true (kind t n) node.self x) ∙ c)
      (λ x.
      ⊎_elim
      (λ y. ⊎_elim (λ z. ap p (eqb-true (kind t n) node.attribute_name z) ∙ d) (λ z. ap p (eqb-true (kind t n) node.derived_attribute z) ∙ e) (or_cases _ _ y))
      (λ y. ap p (eqb-true (kind t n) node.rule (and_fst _ _ y)) ∙ f) (or_cases _ _ x))

  -- which stand below a schema
  pub asked_below : asks t n ≡ true → mem (kind t n) set.below_schema ≡ true
  unfolding mem
  asked_below h = asked_kind (λ k. mem k set.below_schema) refl refl refl refl refl refl h

  -- and are no declarations
  declared_asks : is_declaration t n ≡ true → asks t n ≡ false
  unfolding mem disjoint
  declared_asks d = untrue (asks t n) (λ a. false≢true (sym (undeclared t n asking_kinds refl (asked_kind (λ k. mem k asking_kinds) refl refl refl refl refl refl a)) ∙ d))

  -- nor stand behind all of these
  behind_asks : Read file t → behind_all t ≤ n → n < count t → asks t n ≡ false
  behind_asks R b l = untrue (asks t n) (λ a. omega (arith, (in_owner R n l (asked_below a)).0.known, range_end t n (omega arith) b))

pub within : (t : Table) → Read file t → WithinDeclarations t (uses t)
within t R = record {
  targets = constant_targets t;
  declared = λ n d. skipped t n (declared_asks t n d);
  behind = λ n b l. skipped t n (behind_asks t n R b l);
}

-- ---- in the range of a declaration

-- a test that holds of less
less_found : (x m n : Bool) → x || (m && n) ≡ true → x || m ≡ true
less_found true m n e = refl
less_found false true n e = refl
less_found false false n e = e

not_found : (x m n : Bool) → x || m ≡ true → x || (m && n) ≡ false → (m ≡ true) × (n ≡ false)
not_found true m n a e = absurd (false≢true (sym e))
not_found false true n a e = (refl, e)
not_found false false n a e = absurd (false≢true a)

no_code : (c : ℕ) → not (eqb c 0) ≡ false → c ≡ 0
no_code c e = by_cases (ℕ_discrete c 0) (λ q. q) (λ q. absurd (false≢true (sym e ∙ ap not (ne_eqb c 0 q))))

-- of a kind and a role: a name in an expression, `type.item` or SELF; and `asks` of meanings
abbrev reads : ℕ → ℕ → Bool
reads k r = (eqb k node.name && eqb r node.in_expression) || eqb k node.qualified_item || eqb k node.self

abbrev asks_by : ℕ → ℕ → Bool
asks_by k r = reads k r || is_member k r

asks_is :
    (kinds roles : List ℕ) (n : ℕ) {k r : ℕ} {b : Bool} → k ≡ get_or kinds n 0 → r ≡ get_or roles n 0 → b ≡ asks_by k r → (t : Table) → kinds ≡ t.kinds → roles ≡ t.roles → asks t n ≡ b
asks_is kinds roles n K L B t x y = sym (B ∙ ap₂ asks_by (K ∙ ap (λ (l : List ℕ). get_or l n 0) x) (L ∙ ap (λ (l : List ℕ). get_or l n 0) y))

module _ {kinds tokens sizes roles symbols starts keys nodes heads next items : List ℕ} {stamp schema k r : ℕ} {b : Bool} (i c : ℕ)
    (K : k ≡ get_or kinds (i - 1) 0) (L : r ≡ get_or roles (i - 1) 0) (B : b ≡ finds_by k r c) where
  asked_by : {t : Table} {v : ℕ} → RangeAsked kinds tokens sizes roles symbols starts keys nodes heads next items stamp schema t v → asks t (i - 1) ≡ asks_by k r
  asked_by {t} A = asks_is kinds roles (i - 1) K L refl t A.of_file.columns.kinds_are A.roles_are

  tested : {t : Table} {v : ℕ} → RangeAsked kinds tokens sizes roles symbols starts keys nodes heads next items stamp schema t v → b ≡ true → asks t (i - 1) ≡ true
  tested A e = asked_by A ∙ less_found (reads k r) (is_member k r) (not (eqb c 0)) (sym B ∙ e)

  pub range_other :
      {lo hi : ℕ} (bound : List ℕ) → b ≡ false → c ≡ get_or bound (i - 1) 0 → (t : Table) (v : ℕ) → RangeOf t v lo hi →
      RangeAsked kinds tokens sizes roles symbols starts keys nodes heads next items stamp schema t v → get_or bound (i - 1) 0 ≡ inherited_before t (i - 1) → Skipped (uses t) (i - 1)
  range_other bound e C t v R A w = by (asks t (i - 1)) refl
    where
      by : (x : Bool) → asks t (i - 1) ≡ x → Skipped (uses t) (i - 1)
      by false q = skipped t (i - 1) q
      by true q =
          let f = not_found (reads k r) (is_member k r) (not (eqb c 0)) (sym (asked_by A) ∙ q) (sym B ∙ e) in
          let m : is_scope_member t (i - 1) ≡ true =
          sym (ap₂ is_member (K ∙ ap (λ (l : List ℕ). get_or l (i - 1) 0) A.of_file.columns.kinds_are) (L ∙ ap (λ (l : List ℕ). get_or l (i - 1) 0) A.roles_are)) ∙ f.0 in
          quiet t (i - 1) m (sym w ∙ sym C ∙ no_code c f.1)

  pub range_use :
      {lo hi : ℕ} {f : Finding} (bound : List ℕ) → lo < i → i ≤ hi → b ≡ true → c ≡ get_or bound (i - 1) 0 →
      FindingAt kinds tokens sizes symbols starts keys nodes heads next items stamp hi schema c (i - 1) f → (t : Table) (v : ℕ) → RangeOf t v lo hi →
      RangeAsked kinds tokens sizes roles symbols starts keys nodes heads next items stamp schema t v → get_or bound (i - 1) 0 ≡ inherited_before t (i - 1) → Finds (uses t) (i - 1) f
  range_use bound low high e C F t v R A w =
      let n = i - 1 in
      let a : asks t n ≡ true = tested A e in
      let o : owner t n ≡ node_of t v = range_owner t v n R.number (omega (arith, R.from_is)) (omega (arith, R.upto_is)) in
      let l : n < count t = omega (arith, R.upto_is, node_below t v R.number) in
      let s : _ ≡ schema_of t n = A.schema_is ∙ ap (schema_of t) (sym o) ∙ owner_schema A.of_file.read n l (asked_below t n a) in
      F.is t A.of_file l a (R.upto_is ∙ sym o) s (λ h. C ∙ w ∙ chosen (inherits t n) _ _ h) (A.items_room n l) A.items_are

-- a node of which nothing is to be found where its entry is as before the pass
pub range_passes :
    {Asked : Table → ℕ → Type 0} {pass : Table → Pass} {lo hi i : ℕ} {before so_far : Progress} {bound to bound' to' : List ℕ} →
    PassingRange Asked pass lo hi before bound to i so_far bound' to' → lo < i →
    ((t : Table) (v : ℕ) → RangeOf t v lo hi → Asked t v → get_or bound' (i - 1) 0 ≡ (pass t).entry_before (i - 1) → Skipped (pass t) (i - 1)) →
    PassingRange Asked pass lo hi before bound to (i - 1) so_far bound' to'
range_passes {i = i} G more K = record {
  upto = omega (arith, G.upto);
  from = λ t v R A. omega arith;
  bound_long = G.bound_long;
  to_long = G.to_long;
  passes = record {
    is = λ t was v R A P.
        let Q = G.passes.is t was v R A P in
        let u : i ≤ node_of t v = omega (arith, R.upto_is, G.upto) in
        passing_skips Q (omega arith) v R.number u (K t v R A (entry_ahead Q (i - 1) (omega arith) (omega (arith, node_below t v R.number))));
  };
}

-- ---- nodes of kinds of which nothing is found

other_kind : (k q r c : ℕ) → may_find k r c ≡ false → may_find q r c ≡ true → k ≡ q → ⊥
other_kind k q r c h e x = false≢true (sym h ∙ ap (λ (n : ℕ). may_find n r c) x ∙ e)

first_no : (a b : Bool) → (a || b) ≡ false → a ≡ false
first_no true b e = e
first_no false b e = refl

and_no : (a : Bool) → (a && false) ≡ false
and_no true = refl
and_no false = refl

finds_none : (k r c : ℕ) → may_find k r c ≡ false → false ≡ finds_by k r c
finds_none k r c h = by (not (eqb c 0)) refl
  where
    used : (eqb k node.name && eqb r node.in_expression) ≡ false
    used = first_no (eqb k node.name && eqb r node.in_expression) ((ltb node.name k && leb k node.self) || (leb node.attribute_name k && not (eqb c 0))) h

    by : (b : Bool) → not (eqb c 0) ≡ b → false ≡ finds_by k r c
    by false e =
        rw (
          used,
          ne_eqb k node.qualified_item (other_kind k node.qualified_item r c h refl),
          ne_eqb k node.self (other_kind k node.self r c h refl),
          e,
          and_no (is_member k r),
        )
    by true e =
        rw (
          used,
          ne_eqb k node.qualified_item (other_kind k node.qualified_item r c h refl),
          ne_eqb k node.self (other_kind k node.self r c h refl),
          ne_eqb k node.attribute_name (other_kind k node.attribute_name r c h e),
          ne_eqb k node.derived_attribute (other_kind k node.derived_attribute r c h e),
          ne_eqb k node.rule (other_kind k node.rule r c h e),
        )

-- a store at a node changes nothing before it
pub stored_below : {m : ℕ} {f : Finding} {before after : Progress} {bound to bound' to' : List ℕ} → Stored m f before bound to after bound' to'
    → (n : ℕ) → n < m → get_or bound' n 0 ≡ get_or bound n 0
stored_below {m} {f} {bound = bound} S n l = ap (λ (c : List ℕ). get_or c n 0) S.bound_is ∙ at_other bound m n f.binding 0 (λ z. omega arith)

pub range_leaves_out :
    {kinds tokens sizes roles symbols starts keys nodes heads next items : List ℕ} {stamp schema lo hi i j : ℕ} {before so_far : Progress} {bound to bound' to' : List ℕ} →
    PassingRange (RangeAsked kinds tokens sizes roles symbols starts keys nodes heads next items stamp schema) uses lo hi before bound to i so_far bound' to' →
    (column : List ℕ) → ((n : ℕ) → n < i → get_or bound' n 0 ≡ get_or column n 0) → NoneFrom (may_find_at kinds roles column) lo i j →
    PassingRange (RangeAsked kinds tokens sizes roles symbols starts keys nodes heads next items stamp schema) uses lo hi before bound to j so_far bound' to'
range_leaves_out {kinds} {tokens} {sizes} {roles} {symbols} {starts} {keys} {nodes} {heads} {next} {items} {stamp} {schema} {lo} {hi} {i} {j}
    {before} {so_far} {bound} {to} {bound'} {to'} G column same N =
    go (i - j) i G (omega arith) (omega (arith, N.low))
  where
    Passing : ℕ → Type 0
    Passing m = PassingRange (RangeAsked kinds tokens sizes roles symbols starts keys nodes heads next items stamp schema) uses lo hi before bound to m so_far bound' to'

    go : (k m : ℕ) → Passing m → m ≤ i → m ≡ k + j → Passing j
    go zero m G l e = let q : m ≡ j = omega (arith, e) in rw q at G
    go (suc k) m G l e =
        let n = m - 1 in
        let q = same n (omega (arith, e, l)) in
        let none : may_find (get_or kinds n 0) (get_or roles n 0) (get_or bound' n 0) ≡ false = rw q (N.none n (omega (arith, e)) (omega (arith, e, l))) in
        go k n
        (range_passes G (omega (arith, e, N.from (omega (arith, e, l))))
        (range_other m (get_or bound' n 0) refl refl (finds_none (get_or kinds n 0) (get_or roles n 0) (get_or bound' n 0) none) bound' refl refl))
        (omega (arith, l)) (omega (arith, e))

-- the columns of a file are as long as its range needs
pub range_reached :
    {kinds tokens sizes roles symbols starts keys nodes heads next items : List ℕ} {stamp schema lo hi i j : ℕ} → j ≡ min (length kinds) (length roles) → i ≡ min hi j → (t : Table) (v : ℕ) →
    RangeOf t v lo hi → RangeAsked kinds tokens sizes roles symbols starts keys nodes heads next items stamp schema t v → hi ≤ i
range_reached a b t v R A =
    let F = A.of_file in
    omega (arith, R.upto_is, node_below t v R.number, ap length F.columns.kinds_are, ap length A.roles_are, F.prepared.consistent.roles)

-- ---- in the loop over the declarations

-- the schema of a declaration
declared_in :
    {t : Table} {kinds tokens sizes symbols starts : List ℕ} → Read file t → ColumnsOf t kinds tokens sizes symbols starts → Consistent t → (u : ℕ) → u < vertex_count t →
    SchemaOf t kinds tokens sizes symbols (schema_of t (node_of t u))
unfolding mem subset
declared_in {t} R C fit u l =
    let n = node_of t u in
    let k = in_more (kind t n) set.declaration_kinds set.below_schema refl (declaring_kind (kind t n) (declaring t n (node_declares t u l))) in
    let s = schema_over R n (in_schema R n (node_below t u l) k).0 in
    record {
      read = R;
      kinds_are = C.kinds_are;
      tokens_are = C.tokens_are;
      sizes_are = C.sizes_are;
      symbols_are = C.symbols_are;
      tokened = omega (arith, ap length C.tokens_are, fit.tokens);
      known = s.0.known;
      a_schema = eq-eqb (kind t (schema_of t n)) node.schema s.1;
      held = omega (arith, s.0.known, fit.few);
    }

pub record Asked (kinds tokens sizes roles symbols starts keys nodes heads next bound : List ℕ) (offsets places slots : ℕ) (t : Table) : Type 0 where
  pub scanned : Scanned t
  pub file : FileAsked kinds tokens sizes roles symbols starts keys nodes heads next bound offsets places slots t

module _ {kinds tokens sizes roles symbols starts keys nodes heads next : List ℕ} where
  within_file : {b : List ℕ} {f a i : ℕ} (t : Table) → Asked kinds tokens sizes roles symbols starts keys nodes heads next b f a i t → WithinDeclarations t (uses t)
  within_file t A = within t A.file.of_file.read

-- the declarations from v on are passed, and the items of one schema stand in the table
pub record PassingUses (kinds tokens sizes roles symbols starts keys nodes heads next bound₀ first₀ to₀ : List ℕ) (slots v : ℕ) (first : List ℕ) (so_far : Progress) (bound to : List ℕ)
    (tabled : Tabled) (items : List ℕ) : Type 0 where
  pub passing :
      PassingFile (Asked kinds tokens sizes roles symbols starts keys nodes heads next bound₀ (length first₀) (length to₀) slots) uses bound₀ first₀ to₀ v first so_far
      bound to
  pub items_long : length items ≡ slots
  pub tabling :
      (t : Table) → Asked kinds tokens sizes roles symbols starts keys nodes heads next bound₀ (length first₀) (length to₀) slots t → Tabling t v tabled items

module _ {kinds tokens sizes roles symbols starts keys nodes heads next bound₀ first₀ to₀ : List ℕ} where
  pub uses_start :
      {v : ℕ} {so_far : Progress} {tabled : Tabled} {items : List ℕ} → v ≡ length first₀ - 1 → so_far.arcs ≡ length to₀ → fault_of so_far.least ≡ express.fine →
      Begins tabled items → PassingUses kinds tokens sizes roles symbols starts keys nodes heads next bound₀ first₀ to₀ (length items) v first₀ so_far bound₀ to₀ tabled items
  uses_start {v} e a f B = record {
    passing = file_starts within_file e a f (λ t A. A.file.graph_room) (λ t A. A.file.bound_room) (λ t A n l. A.file.bound_is n l);
    items_long = refl;
    tabling = λ t A. B.is t v;
  }

  module _ {slots v : ℕ} {first : List ℕ} {so_far : Progress} {bound to : List ℕ} {tabled : Tabled} {items : List ℕ}
      (G : PassingUses kinds tokens sizes roles symbols starts keys nodes heads next bound₀ first₀ to₀ slots v first so_far bound to tabled items)
      {x : ℕ} {first' : List ℕ} (n : so_far.arcs < 4294967296 → x ≡ so_far.arcs) where
    pub uses_go_on :
        {y : ℕ} {d : Extent} {turned : Tabled} {after : Progress} {bound' to' items' : List ℕ} → first' ≡ set first v x → 0 < v → (v < 4294967296 → y ≡ v) →
        DeclarationAt keys nodes (v - 1) d → Turns kinds tokens sizes symbols d.schema y tabled items turned items' →
        BindsRange kinds tokens sizes roles symbols starts keys nodes heads next items' turned.stamp d.schema d.from d.node so_far bound to d.from after bound' to' →
        length bound' ≡ length bound → length to' ≡ length to → length items' ≡ length items →
        PassingUses kinds tokens sizes roles symbols starts keys nodes heads next bound₀ first₀ to₀ slots (v - 1) first' after bound' to' turned items'
    uses_go_on {y} {d} {turned} {items' = items'} s some z D W R bl tl il = record {
      passing =
          file_goes_on within_file G.passing n s some
          (λ t A l.
          let P = A.file.of_file.prepared in (
            record { number = l; from_is = D.from_is t heads next P l; upto_is = D.node_is t heads next P l },
            record {
              of_file = A.file.of_file;
              roles_are = A.file.roles_are;
              schema_is = D.schema_is t heads next P l;
              items_room = λ m h. omega (arith, A.file.items_room, symbol_within A.scanned P.consistent m h, long);
              items_are = (turns t A).0;
            },
          )) R bl tl;
      items_long = long;
      tabling = λ t A. (turns t A).1;
    }
      where
        long : length items' ≡ slots
        long = il ∙ G.items_long

        turns :
            (t : Table) → Asked kinds tokens sizes roles symbols starts keys nodes heads next bound₀ (length first₀) (length to₀) slots t →
            ItemsOf t d.schema items' turned.stamp × Tabling t (v - 1) turned items'
        turns t A =
            let F = A.file.of_file in
            let w = (G.passing.is t A).building.within in
            let l : v - 1 < vertex_count t = omega (arith, w, some) in
            let few : v < stamp_count = omega (arith, w, A.file.stamp_room) in
            let e : y ≡ v = z (omega arith) in
            let S = declared_in F.read F.columns F.prepared.consistent (v - 1) l in
            rw e at (W.is t (rw (D.schema_is t heads next F.prepared l) S) (omega arith) (omega arith) (rw e (G.tabling t A)))

    pub uses_end :
        {items₀ : List ℕ} → slots ≡ length items₀ → first' ≡ set first 0 x → v ≤ 0 →
        BindsUses kinds tokens sizes roles symbols starts keys nodes heads next bound₀ first₀ to₀ items₀ so_far.least bound first' to
    uses_end e s h = record { is = λ t S A. file_ends within_file G.passing n s h t (record { scanned = S; file = rw e A }) }
