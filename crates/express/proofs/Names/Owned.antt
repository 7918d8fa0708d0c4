-- What stands in which declaration, in a file that the grammar derives: so what a name cannot see.
use mathlib.Core.Path.{◌≡◌, refl, sym, ap, ◌∙◌}
use mathlib.Core.Logic.{◌≢◌, ⊎_elim}
use mathlib.Core.Bool.{Bool, true, false, not, ◌&&◌, ◌||◌, false≢true}
use mathlib.Core.List.{List, []}
use Prim.Native.Nat.{ℕ, suc, ◌-◌, ◌≤◌, ◌<◌}
use native.Mathlib.Omega.{arith}
use borrow.Author.Tests.{eqb-true, eq-eqb, not-true, le-leb}
use lib.Dec.{eqb}
use Rattle.ebnf.specs.Set.{mem, disjoint, subset}
use Rattle.ebnf.proofs.Sets.{in_more}
use Rattle.ebnf.proofs.Sorts.{every}
use Rattle.ebnf.proofs.Below.{every_part}
use Rattle.express.specs.Syntax.NodeKind as node
use Rattle.express.specs.Syntax.NodeKind.{kind_limit}
use Rattle.express.specs.Syntax.Tree.{Table, count, kind, role, symbol, symbol_at, first, is, is_name_in, is_declaration, is_attribute, is_scope_member, owner, schema_of, in_constant}
use Rattle.express.specs.Syntax.Grammar.{Nonterminal, file}
use Rattle.express.specs.Syntax.Syntax.{Read}
use Rattle.relations.specs.Reach.{Reaches, direct, onward, Joins}
use Rattle.express.specs.Names.Scope.{super_edges, declarations_of, own, inherited, candidates, is_use, type_token, type_meant, value_meant, qualified_meant, means}
use Rattle.express.proofs.Syntax.Nodes.{kinds, all_below}
use Rattle.express.proofs.Syntax.KindSets as set
use Rattle.express.proofs.Syntax.Within.{Over, all_pass_below, passes_below, file_last, schema_over, owner_over}
use Rattle.relations.proofs.Select.{and_fst, and_snd, or_cases, or_left, untrue, le_or, first_is, first_of}
use Rattle.express.proofs.Names.Meaning.{own_iff, inherited_iff, edge_start, no_members}

-- the three declarations, by kind
pub data Declaring (k : ℕ) : Type 0 where
  a_constant : k ≡ node.constant → Declaring k
  a_type : k ≡ node.type → Declaring k
  an_entity : k ≡ node.entity → Declaring k

pub declaring : (t : Table) (m : ℕ) → is_declaration t m ≡ true → Declaring (kind t m)
declaring t m h =
    ⊎_elim
    (λ a. ⊎_elim (λ b. a_constant (eqb-true (kind t m) node.constant b)) (λ b. a_type (eqb-true (kind t m) node.type b)) (or_cases (is t node.constant m) (is t node.type m) a))
    (λ a. an_entity (eqb-true (kind t m) node.entity a)) (or_cases (is t node.constant m || is t node.type m) (is t node.entity m) h)

pub declaring_kind : (k : ℕ) → Declaring k → mem k set.declaration_kinds ≡ true
unfolding mem
declaring_kind k (a_constant q) = rw q
declaring_kind k (a_type q) = rw q
declaring_kind k (an_entity q) = rw q

-- a node of a kind among others is no declaration
pub undeclared : (t : Table) (n : ℕ) (ks : List ℕ) → disjoint ks set.declaration_kinds ≡ true → mem (kind t n) ks ≡ true → is_declaration t n ≡ false
undeclared t n ks d h = untrue (is_declaration t n) (λ e. set.not_both (kind t n) ks set.declaration_kinds d h (declaring_kind (kind t n) (declaring t n e)))

-- ---- the nodes of a constant

module _ {x : Nonterminal} {t : Table} (d : Read x t) where
  within_constant : (m : ℕ) → m < count t → kind t m ≡ node.constant → (n : ℕ) → first t m ≤ n → n < m → mem (kind t n) set.below_constant ≡ true
  unfolding all_below every mem
  within_constant m l e n u v = passes_below d (λ k. mem k set.below_constant) refl m l (rw e refl) n u v

  plain : (n : ℕ) → mem (kind t n) set.below_constant ≡ true → is_declaration t n ≡ false
  unfolding mem disjoint
  plain n h = undeclared t n set.below_constant refl h

  -- they belong to it
  pub constant_owns : (m : ℕ) → m < count t → kind t m ≡ node.constant → (n : ℕ) → first t m ≤ n → n < m → owner t n ≡ m
  unfolding owner
  constant_owns m l e n u v =
      first_of (is_declaration t) (count t) n m (omega arith) l
      (or_left (is t node.constant m || is t node.type m) (is t node.entity m) (or_left (is t node.constant m) (is t node.type m) (eq-eqb (kind t m) node.constant e)))
      (λ k a b. plain k (within_constant m l e k (omega arith) b))

-- ---- where names and members stand

pub member_kind : (t : Table) (n : ℕ) → is_scope_member t n ≡ true → mem (kind t n) set.member_kinds ≡ true
unfolding mem
member_kind t n h =
    ⊎_elim
    (λ a. ⊎_elim (λ b. rw (eqb-true (kind t n) node.attribute_name b)) (λ b. rw (eqb-true (kind t n) node.derived_attribute b))
    (or_cases (is t node.attribute_name n) (is t node.derived_attribute n) a))
    (λ a. rw (eqb-true (kind t n) node.rule (and_fst (is t node.rule n) (eqb (role t n) node.labelled) a)))
    (or_cases (is_attribute t n) (is t node.rule n && eqb (role t n) node.labelled) h)

-- of some kinds, and not of some sort
abbrev outside : (ℕ → Bool) → (ℕ → ℕ → Bool) → ℕ → ℕ → Bool
outside q s k o = q k && not (s k o)

module _ {t : Table} (d : Read file t) where
  -- a node of a kind that stands below a schema lies in one
  pub in_schema : (n : ℕ) → n < count t → mem (kind t n) set.below_schema ≡ true → (suc n < count t) × (n < schema_of t n)
  unfolding mem
  in_schema n l h =
      let f = file_last d in
      let a : suc n < count t =
      ⊎_elim (λ (b : count t ≤ suc n). let q : n ≡ count t - 1 = omega arith in absurd (false≢true (rw (ap (kind t) q ∙ f.1) at h))) (λ b. b) (le_or (count t) (suc n)) in
      let s = schema_over d n a in
      let o = s.0.to in
      (a, ⊎_elim (λ (c : schema_of t n ≤ n). let q : n ≡ schema_of t n = omega arith in absurd (false≢true (rw (ap (kind t) q ∙ s.1) at h))) (λ c. c) (le_or (schema_of t n) n))

  -- and in its owner
  pub in_owner : (n : ℕ) → n < count t → mem (kind t n) set.below_schema ≡ true → Over t n (owner t n) × Declaring (kind t (owner t n))
  in_owner n l h =
      let a = in_schema n l h in
      let r = owner_over d n a.0 a.1 in
      (r.0, declaring t (owner t n) r.1)

  -- so it is in a constant exactly when its owner is one
  pub in_constant_is : (n : ℕ) → n < count t → mem (kind t n) set.below_schema ≡ true → in_constant t n ≡ is t node.constant (owner t n)
  in_constant_is n l h = let o = in_owner n l h in rw (le-leb (first t (owner t n)) n o.0.from) (and_one (is t node.constant (owner t n)))
    where
      and_one : (b : Bool) → b && true ≡ b
      and_one true = refl
      and_one false = refl

  -- and its owner lies in the same schema
  pub owner_schema : (n : ℕ) → n < count t → mem (kind t n) set.below_schema ≡ true → schema_of t (owner t n) ≡ schema_of t n
  unfolding schema_of
  owner_schema n l h =
      let a = in_schema n l h in
      let s = schema_over d n a.0 in
      let r = owner_over d n a.0 a.1 in
      let o = r.0.to in
      let g = r.2 in
      let F = first_is (is t node.schema) n (count t - n) in
      first_of (is t node.schema) (count t) (owner t n) (schema_of t n) (omega arith) s.0.known (eq-eqb (kind t (schema_of t n)) node.schema s.1)
      (λ j lo hi. F.none j (omega arith) hi)

  -- Its owner is not of a kind below which no node is of its sort s. (q is what the nodes below pass by kind.)
  away : (q : ℕ → Bool) (s : ℕ → ℕ → Bool) → all_below kind_limit (λ k. not (q k) || every_part (outside q s) (kinds.children k)) ≡ true
      → (n : ℕ) → s (kind t n) (role t n) ≡ true → Over t n (owner t n)
      → (k : ℕ) → every_part (outside q s) (kinds.children k) ≡ true → kind t n ≢ k → kind t (owner t n) ≡ k → ⊥
  away q s c n h o k e ne p =
      let b : n < owner t n = ⊎_elim (λ (g : owner t n ≤ n). let u = o.to in let z : n ≡ owner t n = omega arith in absurd (ne (ap (kind t) z ∙ p))) (λ g. g) (le_or (owner t n) n) in
      let r = all_pass_below d q (outside q s) (λ j i h. and_fst (q j) (not (s j i)) h) c (owner t n) o.known (rw p e) n o.from b in
      false≢true (sym (not-true (s (kind t n) (role t n)) (and_snd (q (kind t n)) (not (s (kind t n) (role t n))) r)) ∙ h)

  -- a supertype's name stands in an entity
  pub super_owner : (n : ℕ) → n < count t → is_name_in t node.supertype_name n ≡ true → kind t (owner t n) ≡ node.entity
  unfolding all_below every mem
  super_owner n l h = by (in_owner n l (rw six))
    where
      six : kind t n ≡ node.name
      six = eqb-true (kind t n) node.name (and_fst (is t node.name n) (eqb (role t n) node.supertype_name) h)

      super : ℕ → ℕ → Bool
      super k o = eqb k node.name && eqb o node.supertype_name

      no :
          Over t n (owner t n) → (k : ℕ) → every_part (outside (λ k. mem k set.below_declaration) super) (kinds.children k) ≡ true → kind t n ≢ k →
          kind t (owner t n) ≡ k → ⊥
      no o = away (λ k. mem k set.below_declaration) super refl n h o

      by : Over t n (owner t n) × Declaring (kind t (owner t n)) → kind t (owner t n) ≡ node.entity
      by (o, a_constant q) = absurd (no o node.constant refl (λ (z : kind t n ≡ node.constant). omega (arith, six)) q)
      by (o, a_type q) = absurd (no o node.type refl (λ (z : kind t n ≡ node.type). omega (arith, six)) q)
      by (o, an_entity q) = q

  -- the name of a renamed type, or in a select list, stands in a type
  pub renaming_owner : (n : ℕ) → n < count t → is_name_in t node.renamed_type n || is_name_in t node.select_name n ≡ true → kind t (owner t n) ≡ node.type
  unfolding all_below every mem
  renaming_owner n l h = by (in_owner n l (rw six))
    where
      six : kind t n ≡ node.name
      six =
          ⊎_elim (λ a. eqb-true (kind t n) node.name (and_fst (is t node.name n) (eqb (role t n) node.renamed_type) a))
          (λ a. eqb-true (kind t n) node.name (and_fst (is t node.name n) (eqb (role t n) node.select_name) a)) (or_cases (is_name_in t node.renamed_type n) (is_name_in t node.select_name n) h)

      kept : ℕ → Bool
      kept k = mem k set.below_declaration && not (eqb k node.select)

      renaming : ℕ → ℕ → Bool
      renaming k o = eqb k node.name && eqb o node.renamed_type || eqb k node.name && eqb o node.select_name

      no : Over t n (owner t n) → (k : ℕ) → every_part (outside kept renaming) (kinds.children k) ≡ true → kind t n ≢ k → kind t (owner t n) ≡ k → ⊥
      no o = away kept renaming refl n h o

      by : Over t n (owner t n) × Declaring (kind t (owner t n)) → kind t (owner t n) ≡ node.type
      by (o, a_constant q) = absurd (no o node.constant refl (λ (z : kind t n ≡ node.constant). omega (arith, six)) q)
      by (o, a_type q) = q
      by (o, an_entity q) = absurd (no o node.entity refl (λ (z : kind t n ≡ node.entity). omega (arith, six)) q)

  -- no attribute or label stands in a constant
  pub member_owner : (n : ℕ) → n < count t → is_scope_member t n ≡ true → kind t (owner t n) ≢ node.constant
  unfolding all_below every mem subset
  member_owner n l h q =
      away (λ k. mem k set.below_constant) (λ k o. (eqb k node.attribute_name || eqb k node.derived_attribute) || eqb k node.rule && eqb o node.labelled) refl n h
      (in_owner n l (in_more (kind t n) set.member_kinds set.below_schema refl (member_kind t n h))).0 node.constant refl
      (λ (z : kind t n ≡ node.constant). false≢true (rw z at (member_kind t n h))) q

  -- ---- what a name cannot see

  -- nothing is inherited outside entities
  pub nothing_inherited : (o s : ℕ) → kind t o ≢ node.entity → inherited t o s ≡ []
  unfolding super_edges
  nothing_inherited o s h = no_members (inherited t o s) (λ k m. by ((inherited_iff t o s k).0 m).suits.1)
    where
      start : (b : ℕ) → Joins (super_edges t) o b → ⊥
      start b e =
          let r = edge_start t (is_name_in t node.supertype_name) (declarations_of t) o b e in
          h (ap (kind t) (sym r.3) ∙ super_owner r.0 r.1 r.2)

      by : {b : ℕ} → Reaches (Joins (super_edges t)) o b → ⊥
      by (direct {b = b} e) = start b e
      by (onward {b = b} e r) = start b e

  -- and a constant has nothing of its own
  pub nothing_own : (o s : ℕ) → kind t o ≡ node.constant → own t o s ≡ []
  nothing_own o s h =
      no_members (own t o s)
      (λ k m. let c = (own_iff t o s k).0 m in member_owner k c.within c.suits.0 (ap (kind t) c.suits.1 ∙ h))

  -- so in a constant the schema and the spelling say what a name means
  pub constant_means : (n : ℕ) → is_use t n ≡ true → kind t (owner t n) ≡ node.constant → means t n ≡ value_meant t (schema_of t n) (symbol t n)
  unfolding means candidates
  constant_means n u e =
      let k : kind t (owner t n) ≢ node.entity = λ (z : kind t (owner t n) ≡ node.entity). omega arith in
      rw (u, nothing_own (owner t n) (symbol t n) e, nothing_inherited (owner t n) (symbol t n) k)

-- and of a `type.item` always
pub qualified_means : (t : Table) (n : ℕ) → is t node.qualified_item n ≡ true → means t n ≡ qualified_meant t (schema_of t n) (symbol_at t (type_token t n)) (symbol t n)
unfolding means type_meant
qualified_means t n h = rw (eqb-true (kind t n) node.qualified_item h)
