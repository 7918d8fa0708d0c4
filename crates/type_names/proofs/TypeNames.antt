-- What is found of a name of a type is what express says of it.
use mathlib.Core.Path.{◌≡◌, refl, sym, ap, ◌∙◌}
use mathlib.Core.Bool.{Bool, true, false, cond, not, ◌&&◌}
use mathlib.Core.List.{List}
use Prim.Native.Nat.{ℕ, ◌+◌, ◌-◌, ◌≤◌, ◌<◌, min}
use native.Mathlib.Omega.{arith}
use borrow.Author.Tests.{eqb-true, not-true}
use lib.Dec.{eqb}
use lib.ListN.{length, get_or, set, get_or-replicate}
use Rattle.columns.specs.Column.{cleared}
use Rattle.columns.proofs.Laws.{clear_all, length_cleared}
use Rattle.ebnf.specs.Set.{mem}
use Rattle.relations.proofs.Select.{and_fst, and_snd, untrue}
use Rattle.express.specs.Syntax.NodeKind.{name, in_expression}
use Rattle.express.specs.Syntax.Tree.{Table, count, kind, role, symbol, place, is, owner, schema_of}
use Rattle.express.specs.Syntax.Grammar.{file}
use Rattle.express.specs.Syntax.Syntax.{Read}
use Rattle.express.specs.Names.Scope as express
use Rattle.express.specs.Names.Scope.{declarations, declarations_of, meaning, means, binding_of, binding, is_use}
use Rattle.express.specs.Names.Fault.{Fault, fault, fine, judged, suits, right, type_name_fault}
use Rattle.express.proofs.Names.Owned.{Declaring, declaring, in_owner, owner_schema}
use Rattle.scopes.specs.Preparation.{Prepared}
use Rattle.scopes.specs.Range.{node_of, DeclarationAt}
use Rattle.scopes.specs.LookUp.{Means, node_meant}
use Rattle.scopes.specs.declared.Extent.{Extent}
use Rattle.scopes.specs.declared.look_ups.Meaning.{Meaning}
use Rattle.scopes.specs.declared.look_ups.Meaning.TheVariants.{Nothing, One, Several}
use Rattle.scopes.proofs.Passing.{vertex_small}
use Rattle.scopes.proofs.Ranges.{Numbered, declared_meant, node_below, range_owner, range_end}
use Rattle.faults.specs.Meaning.{fault_of}
use Rattle.dependencies.specs.Target.{target_of}
use Rattle.dependencies.proofs.Instances.{type_target_is, type_target_other, target_number, type_targets}
use Rattle.type_names.specs.Pass.{Finds, Skipped, RangeOf, WithinDeclarations}
use Rattle.type_names.specs.TypeName.{is_type_name, type_names, is_type_name_by, suits_by, makes_arc, target_by, Unbound, BoundTo, TypeNameMeant, FoundTypeName}
use Rattle.type_names.specs.Binding.{RangeAsked, BindsRange, FileAsked, BindsTypeNames}
use Rattle.type_names.specs.declared.Finding.{Finding}
use Rattle.type_names.specs.declared.Progress.{Progress}
use Rattle.type_names.proofs.Passes.{PassingFile, file_starts, file_goes_on, file_ends}

-- ---- by what the look-up gives

target_none : (r x : ℕ) → x ≡ 0 → x ≡ target_by r 0
target_none r x e = e ∙ by (makes_arc r)
  where
    by : (b : Bool) → ◌≡◌ {A = ℕ} 0 (cond b 0 0)
    by true = refl
    by false = refl

pub bound_to :
    {kinds nodes : List ℕ} {r v p a node k x : ℕ} {fits : Bool} {f : Finding} → a ≡ get_or nodes v 0 → node ≡ a → k ≡ get_or kinds node 0 → fits ≡ suits_by r k →
    fault_of f.fault ≡ judged (λ (k : ℕ). fits) (express.one 0) p → (node + 1 < 4294967296 → f.binding ≡ node + 1) → (v + 1 < 4294967296 → x ≡ v + 1) →
    f.target ≡ target_by r x → BoundTo kinds nodes r v p f
bound_to {kinds} {nodes} {r} {v} {p} {a} {node} {k} {x} {fits} {f} ea en ek es ef eb ex et =
    let q : node ≡ get_or nodes v 0 = en ∙ ea in
    let z : k ≡ get_or kinds (get_or nodes v 0) 0 = ek ∙ ap (λ (i : ℕ). get_or kinds i 0) q in
    record {
      fault_is = rw (← z, ← es) ef;
      binding_is = rw (← q) eb;
      target_is = λ l. et ∙ ap (target_by r) (ex l);
    }

module _ {keys heads next : List ℕ} {h s : ℕ} {m : Meaning} (M : Means keys heads next (λ t. declarations t h s) m) where
  -- nothing, or several declarations
  unbound_meant :
      {kinds nodes : List ℕ} {r p k : ℕ} {f : Finding} (x : express.Meaning) → node_meant nodes m ≡ x → ((right : ℕ → Bool) → judged right x p ≡ fault k p) →
      binding_of x ≡ 0 → ((t : Table) → target_of t x ≡ 0) → Unbound k p f → TypeNameMeant kinds keys nodes heads next r h s p f
  unbound_meant {nodes = nodes} {r = r} x e j b g U =
      let is : (t : Table) → Prepared t keys nodes heads next → meaning (declarations t h s) ≡ x = λ t P. sym (M.is t nodes P) ∙ e in
      record {
        fault_is = λ t k P. rw (is t P) (U.fault_is ∙ sym (j (suits t r)));
        binding_is = λ t P. rw (is t P) (U.binding_none ∙ sym b);
        target_is = λ t P. rw (is t P, g t) (target_none r _ U.target_none);
      }

  pub nothing_meant : {kinds nodes : List ℕ} {r p : ℕ} {f : Finding} → m ≡ Nothing → Unbound 10 p f → TypeNameMeant kinds keys nodes heads next r h s p f
  nothing_meant {nodes = nodes} e = unbound_meant express.none (ap (node_meant nodes) e) (λ right. refl) refl (λ t. refl)

  pub several_meant : {kinds nodes : List ℕ} {r p : ℕ} {f : Finding} → m ≡ Several → Unbound 12 p f → TypeNameMeant kinds keys nodes heads next r h s p f
  several_meant {nodes = nodes} e = unbound_meant express.several (ap (node_meant nodes) e) (λ right. refl) refl (λ t. refl)

  -- one, by its number
  pub one_meant : {kinds nodes : List ℕ} {r p v : ℕ} {f : Finding} → m ≡ One v → BoundTo kinds nodes r v p f → TypeNameMeant kinds keys nodes heads next r h s p f
  one_meant {kinds} {nodes} {r} {p} {v} {f} e B =
      let N : (t : Table) → Prepared t keys nodes heads next → Numbered t nodes h s v = λ t P. declared_meant P M e in
      record {
        fault_is = λ t k P. let D = N t P in rw (D.meant, ← D.node_is, ← k) B.fault_is;
        binding_is = λ t P.
            let D = N t P in
            rw (D.meant, ← D.node_is) (B.binding_is (omega (arith, D.node_is, node_below t v D.number, P.consistent.few)));
        target_is = λ t P.
            let D = N t P in
            rw (target_number t D) (B.target_is (omega (arith, D.number, vertex_small t (count t), P.consistent.few)));
      }

-- ---- of a node

-- by its kind and its role
pub type_name_by : (t : Table) (n : ℕ) → is_type_name t n ≡ is_type_name_by (kind t n) (role t n)
type_name_by t n = by (is t name n)
  where
    by : (b : Bool) → b && not (b && eqb (role t n) in_expression) ≡ (b && not (eqb (role t n) in_expression))
    by true = refl
    by false = refl

module _ (t : Table) (n : ℕ) (h : is_type_name t n ≡ true) where
  named : is t name n ≡ true
  named = and_fst (is t name n) (not (is_use t n)) h

  no_use : is_use t n ≡ false
  no_use = not-true (is_use t n) (and_snd (is t name n) (not (is_use t n)) h)

  type_means : means t n ≡ meaning (declarations_of t n)
  unfolding means
  type_means = rw (no_use, named)

  fault_found : {x : Fault} → x ≡ judged (right t n) (means t n) (place t n) → x ≡ type_name_fault t n
  unfolding type_name_fault
  fault_found e = rw h e

  fits_same : (m : express.Meaning) → judged (suits t (role t n)) m (place t n) ≡ judged (right t n) m (place t n)
  fits_same express.none = refl
  fits_same express.several = refl
  fits_same (express.one k) = rw no_use

  -- a name of a type
  pub name_found :
      {keys nodes heads next : List ℕ} {f : Finding} → Prepared t keys nodes heads next →
      TypeNameMeant t.kinds keys nodes heads next (role t n) (schema_of t n) (symbol t n) (place t n) f → Finds (type_names t) n f
  unfolding binding
  name_found P M =
      record {
        fault_is = fault_found (M.fault_is t refl P ∙ fits_same (meaning (declarations_of t n)) ∙ ap (λ (m : express.Meaning). judged (right t n) m (place t n)) (sym type_means));
        target_is = M.target_is t P ∙ sym (type_target_is t n named);
        entry_is = rw (h, type_means) (M.binding_is t P);
      }

-- any other node
pub other_skipped : (t : Table) (n : ℕ) → is_type_name t n ≡ false → Skipped (type_names t) n
unfolding type_name_fault
other_skipped t n h = record { fault_none = rw h; target_none = type_target_other t n (sym (type_name_by t n) ∙ h); entry_kept = rw h }

-- by columns that hold what the node's row holds
pub type_name_found :
    {kinds tokens roles symbols starts keys nodes heads next : List ℕ} {h n a k r s p : ℕ} {f : Finding} → a ≡ get_or tokens n 0 → k ≡ a → r ≡ get_or roles n 0 →
    s ≡ get_or symbols k 0 → p ≡ get_or starts k 0 → TypeNameMeant kinds keys nodes heads next r h s p f → FoundTypeName kinds tokens roles symbols starts keys nodes heads next h n f
type_name_found {kinds} {tokens} {roles} {symbols} {starts} {keys} {nodes} {heads} {next} {h} {n} {a} {k} {r} {s} {p} {f} ea ek er es ep M =
    record {
      is = λ t C e i.
          let q : k ≡ get_or t.tokens n 0 = rw C.tokens_are at (ek ∙ ea) in
          let u : r ≡ role t n = rw C.roles_are at er in
          let y : s ≡ symbol t n = es ∙ rw (C.symbols_are, q) in
          let z : p ≡ place t n = ep ∙ rw (C.starts_are, q) in
          name_found t n i C.prepared (rw (C.kinds_are, u, e, y, z) at M);
    }

-- ---- of a file

module _ {t : Table} (d : Read file t) where
  name_below : (n : ℕ) → n < count t → is t name n ≡ true → schema_of t (owner t n) ≡ schema_of t n
  unfolding mem
  name_below n l e = owner_schema d n l (rw (eqb-true (kind t n) name e))

  name_owned : (n : ℕ) → n < count t → is t name n ≡ true → owner t n < count t
  unfolding mem
  name_owned n l e = (in_owner d n l (rw (eqb-true (kind t n) name e))).0.known

  not_name : (n : ℕ) → is t name n ≡ false → is_type_name t n ≡ false
  not_name n e = rw e

  -- a declaration is no name, and behind all of them there is none
  pub type_names_within : WithinDeclarations t (type_names t)
  type_names_within = record {
    targets = type_targets t;
    declared = λ n h. other_skipped t n (not_name n (by n (declaring t n h)));
    behind = λ n f l. other_skipped t n (not_name n (untrue (is t name n) (λ e. absurd (omega (arith, name_owned n l e, range_end t n (omega arith) f)))));
  }
    where
      by : (n : ℕ) → Declaring (kind t n) → is t name n ≡ false
      by n (Declaring.a_constant q) = rw q
      by n (Declaring.a_type q) = rw q
      by n (Declaring.an_entity q) = rw q

-- THE SCHEMA of a type's name is that of the declaration in whose range it stands
pub range_schema :
    {t : Table} {v lo hi n : ℕ} → Read file t → RangeOf t v lo hi → lo ≤ n → n < hi → is_type_name t n ≡ true → schema_of t (node_of t v) ≡ schema_of t n
range_schema {t} {v} {lo} {hi} {n} d R f u h =
    let l = R.number in
    let b = node_below t v l in
    let o : owner t n ≡ node_of t v = range_owner t v n l (omega (arith, R.from_is)) (omega (arith, R.upto_is)) in
    rw o at (name_below d n (omega (arith, R.upto_is)) (named t n h))

-- ---- in the loop over a range: the node before i

module _ {kinds tokens roles symbols starts keys nodes heads next : List ℕ} {schema k r : ℕ} {b : Bool} (i : ℕ) (ek : k ≡ get_or kinds (i - 1) 0) (er : r ≡ get_or roles (i - 1) 0)
    (eb : b ≡ is_type_name_by k r) where
  tested : {t : Table} {v : ℕ} → RangeAsked kinds tokens roles symbols starts keys nodes heads next schema t v → is_type_name t (i - 1) ≡ b
  tested {t} A =
      let C = A.columns in
      let x : kind t (i - 1) ≡ k = sym (rw C.kinds_are at ek) in
      let y : role t (i - 1) ≡ r = sym (rw C.roles_are at er) in
      type_name_by t (i - 1) ∙ rw (x, y) (sym eb)

  pub range_other : {lo hi : ℕ} → b ≡ false → (t : Table) (v : ℕ) → RangeOf t v lo hi → RangeAsked kinds tokens roles symbols starts keys nodes heads next schema t v →
      Skipped (type_names t) (i - 1)
  range_other e t v R A = other_skipped t (i - 1) (tested A ∙ e)

  pub range_name :
      {lo hi : ℕ} {f : Finding} → lo < i → i ≤ hi → b ≡ true → FoundTypeName kinds tokens roles symbols starts keys nodes heads next schema (i - 1) f →
      (t : Table) (v : ℕ) → RangeOf t v lo hi → RangeAsked kinds tokens roles symbols starts keys nodes heads next schema t v → Finds (type_names t) (i - 1) f
  range_name l u e F t v R A =
      let h = tested A ∙ e in
      F.is t A.columns (A.schema_is ∙ range_schema A.columns.read R (omega arith) (omega arith) h) h

-- the columns of a file are as long as its range needs
pub range_reached :
    {kinds tokens roles symbols starts keys nodes heads next : List ℕ} {schema lo hi i j : ℕ} → j ≡ min (length kinds) (length roles) → i ≡ min hi j → (t : Table) (v : ℕ) →
    RangeOf t v lo hi → RangeAsked kinds tokens roles symbols starts keys nodes heads next schema t v → hi ≤ i
range_reached a b t v R A =
    let C = A.columns in
    omega (arith, R.upto_is, node_below t v R.number, ap length C.kinds_are, ap length C.roles_are, C.prepared.consistent.roles)

-- ---- in the loop over the declarations

module _ {kinds tokens roles symbols starts keys nodes heads next : List ℕ} where
  within : {b f a : ℕ} (t : Table) → FileAsked kinds tokens roles symbols starts keys nodes heads next b f a t → WithinDeclarations t (type_names t)
  within t A = type_names_within A.columns.read

  -- the column holds zeros
  pub types_start :
      (bound : List ℕ) {first bound' to : List ℕ} {v : ℕ} {so_far : Progress} → v ≡ length first - 1 → so_far.arcs ≡ length to → fault_of so_far.least ≡ fine →
      bound' ≡ cleared 0 0 bound →
      PassingFile (FileAsked kinds tokens roles symbols starts keys nodes heads next (length bound') (length first) (length to)) type_names bound' first to v first so_far bound' to
  types_start bound e a f c =
      file_starts within e a f (λ t A. A.graph_room) (λ t A. A.bound_room)
      (λ t A n l.
      let z = ap length c ∙ length_cleared 0 0 bound in
      ap (λ (x : List ℕ). get_or x n 0) (c ∙ clear_all 0 bound) ∙ get_or-replicate (length bound) n 0 0 (omega (arith, A.bound_room, z)))

  module _ {bound₀ first₀ was : List ℕ} {b f a : ℕ} {v : ℕ} {first : List ℕ} {so_far : Progress} {bound to : List ℕ}
      (G : PassingFile (FileAsked kinds tokens roles symbols starts keys nodes heads next b f a) type_names bound₀ first₀ was v first so_far bound to)
      {x : ℕ} {first' : List ℕ} (n : so_far.arcs < 4294967296 → x ≡ so_far.arcs) where
    -- the names in one declaration more are bound
    pub types_go_on :
        {d : Extent} {after : Progress} {bound' to' : List ℕ} → first' ≡ set first v x → 0 < v → DeclarationAt keys nodes (v - 1) d →
        BindsRange kinds tokens roles symbols starts keys nodes heads next d.schema d.from d.node so_far bound to d.from after bound' to' →
        length bound' ≡ length bound → length to' ≡ length to →
        PassingFile (FileAsked kinds tokens roles symbols starts keys nodes heads next b f a) type_names bound₀ first₀ was (v - 1) first' after bound' to'
    types_go_on s h D =
        file_goes_on within G n s h
        (λ t A l.
        let P = A.columns.prepared in (
          record { number = l; from_is = D.from_is t heads next P l; upto_is = D.node_is t heads next P l },
          record { columns = A.columns; schema_is = D.schema_is t heads next P l },
        ))

    -- all are bound
    pub types_end :
        {bound_before first_before to_before : List ℕ} → first' ≡ set first 0 x → v ≤ 0 → b ≡ length bound_before → f ≡ length first_before → a ≡ length to_before →
        BindsTypeNames kinds tokens roles symbols starts keys nodes heads next bound_before first_before to_before so_far.least bound first' to
    types_end s h eb ef ea = record { is = λ t A. file_ends within G n s h t (rw (eb, ef, ea) A) }
