-- One stage after another.
use Rattle.std.specs.Prelude.{Option}
use mathlib.Core.Path.{◌≡◌, sym, ap, ap₂, ◌∙◌}
use mathlib.Core.Logic.{by_cases}
use mathlib.Core.Bool.{Bool, cond}
use mathlib.Core.List.{List, ◌++◌}
use Prim.Native.Nat.{ℕ, ◌≤◌, min}
use native.Mathlib.Omega.{arith}
use native.Mathlib.Decide.{ℕ_discrete}
use borrow.Author.Tests.{eq-eqb, ne_eqb}
use lib.ListN.{length, take, drop, length-append, length-drop}
use lib.Seq.{length-take-le}
use Rattle.express.specs.Syntax.NodeKind as node
use Rattle.express.specs.Syntax.Tree.{is}
use Rattle.express.specs.Syntax.Tree as tree
use Rattle.express.specs.Names.Fault.{Fault, or_later, repeated, cyclic, constant_edges}
use Rattle.express.specs.Names.Names.{least}
use Rattle.scopes.proofs.Ranges.{column_node}
use Rattle.faults.specs.Meaning.{fault_of}
use Rattle.faults.specs.declared.Fault as code
use Rattle.duplicates.specs.Duplicates.{Duplicates}
use Rattle.dependencies.specs.Target.{constant_target}
use Rattle.dependencies.specs.Arrangement.{Answer, Arranges}
use Rattle.dependencies.proofs.Instances.{asked_constants}
use Rattle.type_names.specs.Binding.{BindsTypeNames}
use Rattle.uses.specs.Binding.{BindsUses}
use Rattle.name_stages.specs.Stages.{BindsDeclarations, BindsExpressions}

-- a fault hides all later ones, and where there is none the later one stands
pub hides : (f g : Fault) → (f.number ≡ 0 → ⊥) → or_later f g ≡ f
hides f g d = ap (λ (b : Bool). cond b g f) (ne_eqb f.number 0 d)

pub gives_way : (f g : Fault) → f.number ≡ 0 → or_later f g ≡ g
gives_way f g e = ap (λ (b : Bool). cond b g f) (eq-eqb f.number 0 e)

-- what stands before a fault of no number has none, and what follows it
pub no_first : (f g : Fault) → (or_later f g).number ≡ 0 → f.number ≡ 0
no_first f g e = by_cases (ℕ_discrete f.number 0) (λ z. z) (λ d. absurd (d (ap (λ (x : Fault). x.number) (sym (hides f g d)) ∙ e)))

pub no_later : (f g : Fault) → (or_later f g).number ≡ 0 → g.number ≡ 0
no_later f g e = ap (λ (x : Fault). x.number) (sym (gives_way f g (no_first f g e))) ∙ e

pub same_later : (f g h : Fault) → (f.number ≡ 0 → g ≡ h) → or_later f g ≡ or_later f h
same_later f g h e = by_cases (ℕ_discrete f.number 0) (λ z. ap (or_later f) (e z)) (λ d. hides f g d ∙ sym (hides f h d))

module _ {kinds tokens roles symbols starts keys nodes heads next bound first to : List ℕ} {a b r : Option code.Fault} {bound' first' to' : List ℕ} where
  pub declarations_bound :
      Duplicates tokens starts keys nodes next a → BindsTypeNames kinds tokens roles symbols starts keys nodes heads next bound first to b bound' first' to' →
      fault_of r ≡ or_later (fault_of a) (fault_of b) → BindsDeclarations kinds tokens roles symbols starts keys nodes heads next bound first to r bound' first' to'
  declarations_bound D B f = record {
    is = λ t Q.
        let C = Q.columns in
        let P = B.is t Q in
        let x : fault_of a ≡ least (repeated t) (tree.nodes t) = D.is t heads C.prepared C.tokens_are C.starts_are in
        record { reply = f ∙ ap₂ or_later x P.reply; entries = P.entries; graph = P.graph };
  }

-- a part of a column, and the column after the part is written
pub part_long : (n : ℕ) (l : List ℕ) → n ≤ length l → n ≡ length (take n l)
part_long n l h = sym (length-take-le n l h)

pub joined_long : (n : ℕ) (l a : List ℕ) → n ≤ length l → length a ≡ length (take n l) → length (a ++ drop n l) ≡ length l
joined_long n l a h e = omega (arith, length-append a (drop n l), length-drop n l, length-take-le n l h, e)

-- The table of items is a part of the scratch, as long as the column of symbols; the search for an order has the whole of it.
module _ {kinds tokens sizes roles symbols starts keys nodes heads next bound first to order scratch : List ℕ} {slots : ℕ} {b c r : Option code.Fault}
    {bound' first' to' order' scratch' : List ℕ} where
  pub expressions_bound :
      (items : List ℕ) → slots ≡ min (length symbols) (length scratch) → length items ≡ length (take slots scratch) →
      BindsUses kinds tokens sizes roles symbols starts keys nodes heads next bound first to (take slots scratch) b bound' first' to' →
      Arranges tokens starts nodes first' to' order (items ++ drop slots scratch) c order' scratch' → fault_of r ≡ or_later (fault_of b) (fault_of c) →
      BindsExpressions kinds tokens sizes roles symbols starts keys nodes heads next bound first to order scratch r bound' first' to' order'
  expressions_bound items short part B A e = record {
    is = λ t S Q room.
        let low : slots ≤ length scratch = omega (arith, short) in
        let C = Q.of_file in
        let P = B.is t S
        (record {
          of_file = C;
          roles_are = Q.roles_are;
          bound_room = Q.bound_room;
          bound_is = Q.bound_is;
          graph_room = Q.graph_room;
          items_room = omega (arith, Q.items_room, ap length C.columns.symbols_are, short, part_long slots scratch low);
          stamp_room = Q.stamp_room;
        }) in
        let asked : Answer t (is t node.constant) (constant_edges t) order (items ++ drop slots scratch) c order' scratch' =
        A.is t (constant_target t) (is t node.constant) (constant_edges t)
        (asked_constants C.read S C.columns.tokens_are C.columns.starts_are (column_node C.prepared) room.order_room
        (omega (arith, room.scratch_room, joined_long slots scratch items low part))
        P.graph) in
        record {
          reply =
              e ∙ ap (or_later (fault_of b)) asked.reply
              ∙ ap (λ (g : Fault). or_later g (least (cyclic t (is t node.constant) (constant_edges t)) (tree.nodes t))) P.reply;
          entries = P.entries;
          graph = P.graph;
          arranged = λ n. asked.arranged (no_later (fault_of b) (fault_of c) (ap (λ (g : Fault). g.number) (sym e) ∙ n));
        };
  }
