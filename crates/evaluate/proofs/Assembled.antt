-- What the functions at a node answer, from what their calls gave and their tests said.
use mathlib.Core.Path.{◌≡◌, refl, sym, ap, subst, ◌∙◌}
use mathlib.Core.Bool.{Bool, true, false, cond, ◌||◌}
use mathlib.Core.List.{List}
use Prim.Native.Nat.{ℕ, ◌-◌}
use native.Mathlib.Decide.{ℕ_discrete}
use lib.Dec.{eqb}
use lib.IntN.{ℤ}
use lib.ListN.{get_or}
use Rattle.express.specs.Syntax.NodeKind as node
use Rattle.express.specs.Syntax.Tree.{Table, kind}
use Rattle.express.specs.Semantics.Answer.{Answer}
use Rattle.express.specs.Semantics.Declared.{declaration, bound, denoted}
use Rattle.express.specs.Semantics.Shape.{Shape, name, name_shape_in}
use Rattle.express.specs.Semantics.Shape as shapes
use Rattle.express.specs.Semantics.Evaluate.{answer_in, answer_at}
use Rattle.operations.specs.Meaning.{answer_of, sized}
use Rattle.operations.specs.declared.Answer as code
use Rattle.operations.specs.declared.Answer.TheVariants.{Indeterminate}
use Rattle.answer_rows.specs.Stored.{stored}
use Rattle.node_answers.specs.Answers.{answers_in, Gives, Stores, Keeps}
use Rattle.node_answers.specs.NodeAnswer.{Answered}
use Rattle.evaluate.specs.Evaluation.{known_in, Item, Named, EvaluatesNode}
use Rattle.node_answers.proofs.Rows.{same, nothing, stored_rows, gives_sized}
use Rattle.string_relations.specs.Comparing.{Compares}
use Rattle.string_relations.specs.Compared.{Compared}
use Rattle.evaluate.proofs.Operations.{answered_value, compared_value}
use Rattle.node_answers.proofs.Nodes.{unbound, bound_item, bound_constant, bound_other}
use Rattle.string_bytes.proofs.Reading.{name_shape}

-- ---- names
bound_kind : (x : ℕ) {m k : ℕ} {file_kinds : List ℕ} → m ≡ x - 1 → k ≡ get_or file_kinds m 0 → (t : Table) → t.kinds ≡ file_kinds → kind t (x - 1) ≡ k
bound_kind x M K t h = rw (h, ← M) (sym K)

keeps_same :
    {x y : Answer} {i : ℕ} {ks : List ℕ} {zs : List ℤ} {ls ks' : List ℕ} {zs' : List ℤ} {ls' : List ℕ} → x ≡ y → Keeps x i ks zs ls ks' zs' ls' → Keeps y i ks zs ls ks' zs' ls'
keeps_same {x} {y} {i} {ks} {zs} {ls} {ks'} {zs'} {ls'} q K = subst (λ (a : Answer). Keeps a i ks zs ls ks' zs' ls') q K

module _ {x : ℕ} {file_kinds row_of : List ℕ} {at : ℕ} {aks : List ℕ} {azs : List ℤ} {als ks : List ℕ} {zs : List ℤ} {ls ks' : List ℕ} {zs' : List ℤ} {ls' : List ℕ} {n : ℕ} where
  pub named_unbound : x ≡ 0 → Stores (stored (answer_of Indeterminate)) n ks zs ls ks' zs' ls' → Named x file_kinds row_of at aks azs als ks zs ls ks' zs' ls' n
  named_unbound z S = record { is = λ t e c f k q. record { is = stored_rows (same (unbound t e c f _ n x q z) nothing) S } }

  module _ (z : x ≡ 0 → ⊥) {m k : ℕ} (M : m ≡ x - 1) (K : k ≡ get_or file_kinds m 0) where
    pub named_constant :
        k ≡ node.constant → {o p j : ℕ} → o ≡ x - 1 → p ≡ get_or row_of o 0 → j ≡ p - at → Keeps (answer_at (answers_in aks azs als) j) n ks zs ls ks' zs' ls' →
        Named x file_kinds row_of at aks azs als ks zs ls ks' zs' ls' n
    named_constant i {o} {p} {j} O P J G =
        let q₀ : j ≡ get_or row_of (x - 1) 0 - at = J ∙ ap (λ (y : ℕ). y - at) (P ∙ ap (λ (y : ℕ). get_or row_of y 0) O) in
        record { is = λ t e c f h q. keeps_same (ap (answer_at (answers_in aks azs als)) q₀ ∙ bound_constant t e c f _ n x q z (bound_kind x M K t h ∙ i)) G }

    pub named_other :
        (k ≡ node.constant → ⊥) → {r : code.Answer} → Item k (x - 1) r → Stores (stored (answer_of r)) n ks zs ls ks' zs' ls' →
        Named x file_kinds row_of at aks azs als ks zs ls ks' zs' ls' n
    named_other v {r} I S = record { is = λ t e c f h q. record { is = stored_rows (by t e c f h q (ℕ_discrete k node.enumeration_item)) S } }
      where
        by : (t e : Table) (c : List ℕ) (f : ℕ → Answer) → t.kinds ≡ file_kinds → get_or c n 0 ≡ x → Dec (k ≡ node.enumeration_item) →
            Gives r (answer_in e f (known_in row_of at aks azs als) n (name_shape_in t e c n))
        by t e c f h q (yes i) = same (bound_item t e c f _ n x q z (bound_kind x M K t h ∙ i)) (I.is_item i)
        by t e c f h q (no i) =
            same (bound_other t e c f _ n x q z (λ g. i (sym (bound_kind x M K t h) ∙ g)) (λ g. v (sym (bound_kind x M K t h) ∙ g))) (I.is_none i)

-- ---- a node

kind_of : (n : ℕ) {k : ℕ} {kinds : List ℕ} → k ≡ get_or kinds n 0 → (e : Table) → e.kinds ≡ kinds → kind e n ≡ k
kind_of n K e h = rw h (sym K)

-- what a name is bound to tells its value
name_value :
    (t e : Table) (c : List ℕ) (f values g h : ℕ → Answer) (n : ℕ) → ((d : ℕ) → name_shape_in t e c n ≡ name d → h d ≡ sized (g d)) →
    answer_in e f h n (name_shape_in t e c n) ≡ sized (answer_in e values g n (name_shape_in t e c n))
name_value t e c f values g h n k = by (bound t c node.enumeration_item n) (bound t c node.constant n) refl k
  where
    by : (x y : Bool) → name_shape_in t e c n ≡ cond x (shapes.item (declaration c n)) (cond y (name (declaration c n)) (shapes.type (denoted e c n))) →
        ((d : ℕ) → name_shape_in t e c n ≡ name d → h d ≡ sized (g d)) →
        answer_in e f h n (name_shape_in t e c n) ≡ sized (answer_in e values g n (name_shape_in t e c n))
    by true y q k = rw q
    by false true q k = rw q (k (declaration c n) q)
    by false false q k = rw q

module _ {bytes starts lengths terminals kinds tokens sizes bindings file_kinds declared row_of : List ℕ} {at : ℕ} {aks : List ℕ} {azs : List ℤ} {als room ks : List ℕ}
    {zs : List ℤ} {ls ks' : List ℕ} {zs' : List ℤ} {ls' : List ℕ} {n k : ℕ} (K : k ≡ get_or kinds n 0) {b : Bool} (B : b ≡ (eqb k node.name || eqb k node.qualified_item)) where
  pub node_named :
      b ≡ true → {x : ℕ} → x ≡ get_or bindings n 0 → Named x file_kinds row_of at aks azs als ks zs ls ks' zs' ls' n →
      EvaluatesNode bytes starts lengths terminals kinds tokens sizes bindings file_kinds declared row_of at aks azs als room ks zs ls ks' zs' ls' n
  node_named h {x} X N =
      record {
        is = λ t e g values lo hi A L Q R i j T.
            let f = answer_at (answers_in ks zs ls) in
            let s = name_shape t e bindings n (rw (kind_of n K e A.kinds_are) (sym B ∙ h)) in
            keeps_same
            (name_value t e bindings f values g (known_in row_of at aks azs als) n (λ d q. Q.is n i j d (s ∙ q)) ∙
            ap (λ (v : Shape). sized (answer_in e values g n v)) (sym s) ∙ ap sized (sym (L.step n i j)))
            (N.is t e bindings f A.file_kinds_are (sym X));
      }

  module _ (h : b ≡ false) {c : Bool} (C : Compares k terminals tokens sizes ks n c) where
    pub node_compared :
        c ≡ true → {r : code.Answer} →
        Compared bytes starts lengths terminals kinds tokens sizes bindings file_kinds row_of at aks azs als room ks zs ls k n r →
        Stores (stored (answer_of r)) n ks zs ls ks' zs' ls' →
        EvaluatesNode bytes starts lengths terminals kinds tokens sizes bindings file_kinds declared row_of at aks azs als room ks zs ls ks' zs' ls' n
    node_compared q G S =
        record {
          is = λ t e g values lo hi A L Q R i j T.
              record {
                is =
                    stored_rows
                    (gives_sized
                    (compared_value A L R i j T (kind_of n K e A.kinds_are) G (subst (λ (v : Bool). Compares k terminals tokens sizes ks n v) q C)))
                    S;
              };
        }

    pub node_answered :
        c ≡ false → {r : code.Answer} → Answered bytes starts lengths terminals tokens sizes declared ks zs ls k n r → Stores (stored (answer_of r)) n ks zs ls ks' zs' ls' →
        EvaluatesNode bytes starts lengths terminals kinds tokens sizes bindings file_kinds declared row_of at aks azs als room ks zs ls ks' zs' ls' n
    node_answered q N S =
        record {
          is = λ t e g values lo hi A L Q R i j T.
              let u = kind_of n K e A.kinds_are in
              let v = answered_value L i j T A.terminals_are A.tokens_are A.sizes_are u (subst (λ (v : Bool). Compares k terminals tokens sizes ks n v) q C) in
              record { is = stored_rows (same v (N.is t e kinds bindings file_kinds g A u (sym B ∙ h))) S };
        }
