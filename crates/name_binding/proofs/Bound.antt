-- All stages of names, one after the other: the first fault is that of N19, and where there is none each stage has what it asks for.
use Rattle.std.specs.Prelude.{Option}
use mathlib.Core.Path.{◌≡◌, refl, sym, ap, ap₂, ◌∙◌}
use mathlib.Core.Logic.{by_cases}
use mathlib.Core.Bool.{Bool, true, false, false≢true, cond, not, ◌&&◌, ◌||◌}
use mathlib.Core.List.{List, [], ◌∷◌, Memᴰ}
use Prim.Native.Nat.{ℕ, ◌<◌}
use native.Mathlib.Omega.{arith}
use native.Mathlib.Decide.{ℕ_discrete}
use borrow.Author.Tests.{eqb-true}
use lib.Dec.{eqb}
use lib.ListN.{length, get_or}
use Rattle.express.specs.Syntax.NodeKind as node
use Rattle.express.specs.Syntax.Tree.{Table, count, is, is_declaration}
use Rattle.express.specs.Syntax.Tree as tree
use Rattle.relations.specs.Reach.{Edge, reaches}
use Rattle.express.specs.Names.Scope.{binding, is_use, type_edges}
use Rattle.express.specs.Names.Fault.{Fault, fault, fine, or_later, repeated, type_name_fault, cyclic, expression, constant_edges}
use Rattle.express.specs.Names.Names.{Stage, sooner, least, first_fault, stages, names, Passes}
use Rattle.express.proofs.Names.Names.{passes_iff}
use Rattle.faults.specs.Meaning.{fault_of}
use Rattle.faults.specs.declared.Fault as code
use Rattle.dependencies.specs.Target.{type_target}
use Rattle.dependencies.specs.Arrangement.{Answer, Arranges}
use Rattle.dependencies.proofs.Instances.{asked_types}
use Rattle.scopes.proofs.Ranges.{column_node}
use Rattle.inheritance.specs.Inheritance.{asks, inherited_code, Inherits}
use Rattle.type_names.specs.TypeName.{is_type_name}
use Rattle.name_stages.specs.Stages.{BindsDeclarations, ExpressionsBound, BindsExpressions}
use Rattle.name_binding.specs.Binding.{BindsNames}
use Rattle.name_stages.proofs.Staged.{hides, gives_way, no_first, no_later, same_later}

-- ---- the first fault

later_later : (f g h : Fault) → or_later (or_later f g) h ≡ or_later f (or_later g h)
later_later f g h = by (eqb f.number 0) refl
  where
    by : (b : Bool) → eqb f.number 0 ≡ b → or_later (cond b g f) h ≡ cond b (or_later g h) f
    by true e = refl
    by false e = ap (λ (b : Bool). cond b h f) e

-- what a stage without a fault answers is nothing at all
all_fine : (s : Stage) (ns : List ℕ) → ((n : ℕ) → Memᴰ n ns → s n ≡ fine) → least s ns ≡ fine
unfolding least
all_fine s [] a = refl
all_fine s (n ∷ ns) a =
    ap (λ (f : Fault). sooner f (least s ns)) (a n (Memᴰ.head refl)) ∙ all_fine s ns (λ k m. a k (Memᴰ.tail m))

cyclic_none : (t : Table) (p : ℕ → Bool) (es : List Edge) (n : ℕ) → (cyclic t p es n).number ≡ 0 → cyclic t p es n ≡ fine
unfolding cyclic
cyclic_none t p es n e = by (p n && reaches es n n) refl
  where
    by : (b : Bool) → p n && reaches es n n ≡ b → cond b (fault 13 (tree.place t n)) fine ≡ fine
    by false q = refl
    by true q = absurd (omega (arith, ap (λ (b : Bool). (cond b (fault 13 (tree.place t n)) fine).number) (sym q) ∙ e))

-- behind the last stage comes nothing
last_stage : (t : Table) (p : ℕ → Bool) (es : List Edge) (ns : List ℕ) → or_later (least (cyclic t p es) ns) fine ≡ least (cyclic t p es) ns
last_stage t p es ns =
    by_cases (ℕ_discrete (least (cyclic t p es) ns).number 0)
    (λ z. gives_way (least (cyclic t p es) ns) fine z ∙ sym (all_fine (cyclic t p es) ns (λ n m. cyclic_none t p es n ((passes_iff (cyclic t p es) ns).0 z n m))))
    (λ d. hides (least (cyclic t p es) ns) fine d)

-- N19: the five stages: the first two, the cycles of types, and the last two put together
names_are : (t : Table) →
    or_later (or_later (least (repeated t) (tree.nodes t)) (least (type_name_fault t) (tree.nodes t)))
    (or_later (least (cyclic t (is_declaration t) (type_edges t)) (tree.nodes t))
    (or_later (least (expression t) (tree.nodes t)) (least (cyclic t (is t node.constant) (constant_edges t)) (tree.nodes t))))
    ≡ names t
unfolding names stages first_fault
names_are t =
    let ns = tree.nodes t in
    let a = least (repeated t) ns in
    let b = least (type_name_fault t) ns in
    let c = least (cyclic t (is_declaration t) (type_edges t)) ns in
    let d = least (expression t) ns in
    let e = least (cyclic t (is t node.constant) (constant_edges t)) ns in
    later_later a b (or_later c (or_later d e))
    ∙ ap (λ (x : Fault). or_later a (or_later b (or_later c (or_later d x)))) (sym (last_stage t (is t node.constant) (constant_edges t) ns))

-- ---- what is bound before the names in expressions

and_false : (b : Bool) → b && false ≡ false
and_false true = refl
and_false false = refl

-- an attribute or a label is no name
member_no_name : (t : Table) (n : ℕ) → tree.is_scope_member t n ≡ true → is t node.name n ≡ false
member_no_name t n f = by (is t node.name n) refl
  where
    of_kind : ℕ → Bool
    of_kind k = (eqb k node.attribute_name || eqb k node.derived_attribute) || eqb k node.rule && eqb (tree.role t n) node.labelled

    by : (b : Bool) → is t node.name n ≡ b → b ≡ false
    by false e = refl
    by true e = absurd (false≢true (sym (ap of_kind (eqb-true (tree.kind t n) node.name e)) ∙ f))

-- a use, an attribute or a label is not the name of a type
asking_no_type : (t : Table) (n : ℕ) → asks t n ≡ true → is_type_name t n ≡ false
asking_no_type t n a = by (is_use t n) refl (tree.is_scope_member t n) refl
  where
    by : (u : Bool) → is_use t n ≡ u → (m : Bool) → tree.is_scope_member t n ≡ m → is_type_name t n ≡ false
    by true e m f = ap (λ (u : Bool). is t node.name n && not u) e ∙ and_false (is t node.name n)
    by false e true f = ap (λ (b : Bool). b && not (is_use t n)) (member_no_name t n f)
    by false e false f = absurd (false≢true (sym (rw (e, f) refl) ∙ a))

module _ {kinds tokens sizes roles symbols starts keys nodes heads next bound first to types constants scratch : List ℕ} {a b c r : Option code.Fault} {d : Fault}
    {bound₁ first₁ to₁ bound₂ types₁ constants₁ scratch₁ types₂ scratch₂ bound₃ first₂ to₂ constants₂ : List ℕ} where
  pub names_bound :
      BindsDeclarations kinds tokens roles symbols starts keys nodes heads next bound first to a bound₁ first₁ to₁ →
      length bound₁ ≡ length bound → length first₁ ≡ length first → length to₁ ≡ length to →
      Inherits kinds tokens roles symbols keys nodes first₁ to₁ scratch types constants bound₁ bound₂ →
      length bound₂ ≡ length bound₁ → length scratch₁ ≡ length scratch → length types₁ ≡ length types → length constants₁ ≡ length constants →
      Arranges tokens starts nodes first₁ to₁ types₁ scratch₁ b types₂ scratch₂ →
      BindsExpressions kinds tokens sizes roles symbols starts keys nodes heads next bound₂ first₁ to₁ constants₁ scratch₂ c bound₃ first₂ to₂ constants₂ →
      d ≡ or_later (fault_of b) (fault_of c) → fault_of r ≡ or_later (fault_of a) d →
      BindsNames kinds tokens sizes roles symbols starts keys nodes heads next bound first to types constants scratch r bound₃ types₂ constants₂
  names_bound D lb lf lt I lb₂ ls ly lc A E e f = record {
    is = λ t S C z R.
        let P = D.is t (record { columns = C; bound_room = R.bound_room; graph_room = R.type_graph }) in
        let right : (fault_of a).number ≡ 0 → Passes (tree.nodes t) (type_name_fault t) = λ (q : (fault_of a).number ≡ 0).
        (passes_iff (type_name_fault t) (tree.nodes t)).0 (no_later (least (repeated t) (tree.nodes t)) _ (ap (λ (g : Fault). g.number) (sym P.reply) ∙ q)) in
        let inherited : (fault_of a).number ≡ 0 → (n : ℕ) → n < count t → get_or bound₂ n 0 ≡ cond (asks t n) (inherited_code t n) (get_or bound₁ n 0) = λ (q : (fault_of a).number ≡ 0).
        I.is t
        (record { kinds_are = sym C.kinds_are; tokens_are = sym C.tokens_are; roles_are = sym C.roles_are; symbols_are = sym C.symbols_are })
        (record { scanned = S; read = C.read; right = right q; entry_heads = heads; entry_next = next; prepared = C.prepared; graph = P.graph })
        (record {
          table_room = R.entry_room;
          stamps = R.stamps;
          mark_room = R.type_order.order_room;
          queue_room = R.constant_order.order_room;
          bound_room = omega (arith, R.bound_room, lb);
          empty = λ n l y. P.entries n l ∙ ap (λ (x : Bool). cond x (binding t n) 0) (asking_no_type t n y);
        }) in
        let O : (fault_of a).number ≡ 0 → Answer t (is_declaration t) (type_edges t) types₁ scratch₁ b types₂ scratch₂ = λ (q : (fault_of a).number ≡ 0).
        A.is t (type_target t) (is_declaration t) (type_edges t)
        (asked_types C.read S C.tokens_are C.starts_are (column_node C.prepared) (omega (arith, R.type_order.order_room, ly))
        (omega (arith, R.type_order.scratch_room, ls)) (right q) P.graph) in
        let Q : (fault_of a).number ≡ 0 → ExpressionsBound t c bound₃ first₂ to₂ constants₂ = λ (q : (fault_of a).number ≡ 0).
        E.is t S (record {
          of_file = record {
            read = C.read;
            columns = record { kinds_are = C.kinds_are; tokens_are = C.tokens_are; sizes_are = z; symbols_are = C.symbols_are; starts_are = C.starts_are };
            prepared = C.prepared;
          };
          roles_are = C.roles_are;
          bound_room = omega (arith, R.bound_room, lb, lb₂);
          bound_is = λ n l. inherited q n l ∙ ap (cond (asks t n) (inherited_code t n)) (P.entries n l);
          graph_room = rw (lf, lt) R.constant_graph;
          items_room = omega (arith, R.entry_room, ls, A.scratch_long);
          stamp_room = R.stamps;
        })
        (record {
          order_room = omega (arith, R.constant_order.order_room, lc);
          scratch_room = omega (arith, R.constant_order.scratch_room, ls, A.scratch_long);
        }) in
        let rest : Fault = or_later (least (cyclic t (is_declaration t) (type_edges t)) (tree.nodes t))
        (or_later (least (expression t) (tree.nodes t)) (least (cyclic t (is t node.constant) (constant_edges t)) (tree.nodes t))) in
        let clean : (fault_of r).number ≡ 0 → (fault_of a).number ≡ 0 = λ (n : (fault_of r).number ≡ 0). no_first (fault_of a) d (ap (λ (g : Fault). g.number) (sym f) ∙ n) in
        let later : (fault_of r).number ≡ 0 → (or_later (fault_of b) (fault_of c)).number ≡ 0 = λ (n : (fault_of r).number ≡ 0).
        ap (λ (g : Fault). g.number) (sym e) ∙ no_later (fault_of a) d (ap (λ (g : Fault). g.number) (sym f) ∙ n) in
        record {
          reply =
              f ∙ same_later (fault_of a) d rest (λ q. e ∙ ap₂ or_later (O q).reply (Q q).reply)
              ∙ ap (λ (g : Fault). or_later g rest) P.reply ∙ names_are t;
          entries = λ n. (Q (clean n)).entries;
          types_arranged = λ n. (O (clean n)).arranged (no_first (fault_of b) (fault_of c) (later n));
          constants_arranged = λ n. (Q (clean n)).arranged (no_later (fault_of b) (fault_of c) (later n));
        };
  }
