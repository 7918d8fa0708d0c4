-- What the functions at a node answer, from what their calls gave and their tests said.
use mathlib.Core.Path.{◌≡◌, sym, ap, ap₂, ◌∙◌}
use mathlib.Core.Bool.{◌&&◌}
use mathlib.Core.List.{List}
use Prim.Native.Nat.{ℕ, ◌-◌}
use native.Mathlib.Omega.{arith}
use lib.ListN.{get_or}
use Rattle.express.specs.Syntax.NodeKind as node
use Rattle.express.specs.Syntax.Tree.{Table, kind, terminal, left, middle, low}
use Rattle.express.specs.Semantics.Declared.{simple, declared_type}
use Rattle.express.specs.Semantics.DeclaredColumn.{declared_number}
use Rattle.express.specs.Semantics.Shape.{operator_of, sign_of}
use Rattle.express.specs.Semantics.Operate.{logicals, comparable}
use Rattle.express.specs.Semantics.Kind.{kind_number, of_number, common, of_kind, if_fits, if_evaluated, kind_at}
use Rattle.kind_rules.specs.declared.Class.{Class}
use Rattle.std.specs.Prelude.{Result, Ok, Err}
use Rattle.kind_rules.specs.declared.Fault.{Fault}
use Rattle.kind_rules.specs.declared.Fault.TheVariants.{NotEvaluated}
use Rattle.kind_rules.specs.Findings.{finding_of, class_of, class_of_sign, applied, leaf_found, KindOfType, Evaluated, Held}
use Rattle.typing.specs.Typings.{kinds_of, Against, Named, Operates, Finds}
use Rattle.tree.specs.Children.{Child}
use Rattle.express.proofs.Semantics.KindNumbers.{number_back}
use Rattle.typing.proofs.Nodes.{known, kind_held, at_sign, at_operator, at_interval, at_simple_type, at_leaf, at_constant, at_name, at_item}
use Rattle.typing.proofs.Nodes.{unbound, bound_item, bound_constant, bound_type, bound_other}

-- ---- operations

-- the kind of a child, as the lent column has it
held : (scratch : List ℕ) {v m x : ℕ} → m ≡ x → v ≡ get_or scratch m 0 → of_number v ≡ kind_at (kinds_of scratch) x
held scratch {v} {m} {x} p q = ap of_number (q ∙ ap (λ (y : ℕ). get_or scratch y 0) p) ∙ sym (kind_held scratch x)

module _ {k w n : ℕ} {sizes scratch : List ℕ} {v m : ℕ} (M : m ≡ n - 1) (E : v ≡ get_or scratch m 0) {r : Result ℕ Fault} where
  pub operates_sign : k ≡ node.unary → {o : Class} → o ≡ class_of_sign (sign_of w) → finding_of r ≡ applied o (of_number v) → Operates k w sizes scratch n r
  operates_sign h {o} S A =
      record {
        is = λ t b e c q i j p.
            A ∙ ap₂ applied (S ∙ ap (λ (x : ℕ). class_of_sign (sign_of x)) (sym j)) (held scratch M E) ∙ at_sign t b e c (kind_at (kinds_of scratch)) n (i ∙ h);
      }

  pub operates_operator :
      k ≡ node.two_operand → {o : Class} {a x y : ℕ} → o ≡ class_of (operator_of w) → Child left sizes n a → x ≡ get_or scratch a 0 →
      y ≡ kind_number (common (of_number x) (of_number v)) → finding_of r ≡ applied o (of_number y) → Operates k w sizes scratch n r
  operates_operator h {o} {a} {x} {y} S L X C A =
      record {
        is = λ t b e c q i j p.
            A ∙ ap₂ applied (S ∙ ap (λ (z : ℕ). class_of (operator_of z)) (sym j))
            (ap of_number C ∙ number_back (common (of_number x) (of_number v)) ∙ ap₂ common (held scratch (L.is e q) X) (held scratch M E)) ∙ at_operator t b e c (kind_at (kinds_of scratch)) n (i ∙ h);
      }

  pub operates_interval :
      k ≡ node.interval → {a x d y : ℕ} → Child low sizes n a → x ≡ get_or scratch a 0 → Child middle sizes n d → y ≡ get_or scratch d 0 →
      finding_of r ≡ if_fits (comparable (common (of_number x) (of_number y)) && comparable (common (of_number y) (of_number v))) logicals →
      Operates k w sizes scratch n r
  operates_interval h {a} {x} {d} {y} L X D Y A =
      record {
        is = λ t b e c q i j p.
            A ∙ rw (held scratch (L.is e q) X, held scratch (D.is e q) Y, held scratch M E) (at_interval t b e c (kind_at (kinds_of scratch)) n (i ∙ h));
      }

module _ {k w n : ℕ} {sizes scratch : List ℕ} {r : Result ℕ Fault} where
  pub operates_type : k ≡ node.simple_type → {x : ℕ} → x ≡ declared_number (simple w) → Evaluated x 0 r → Operates k w sizes scratch n r
  operates_type h X A =
      record {
        is = λ t b e c q i j p.
            A.is (simple (terminal e n)) (X ∙ ap (λ (z : ℕ). declared_number (simple z)) (sym j)) ∙ at_simple_type t b e c (kind_at (kinds_of scratch)) n (i ∙ h);
      }

  pub operates_leaf :
      (k ≡ node.unary → ⊥) → (k ≡ node.two_operand → ⊥) → (k ≡ node.interval → ⊥) → (k ≡ node.simple_type → ⊥) → finding_of r ≡ leaf_found k w →
      Operates k w sizes scratch n r
  operates_leaf u o v s A =
      record {
        is = λ t b e c q i j p.
            A ∙ ap₂ leaf_found (sym i) (sym j) ∙
            at_leaf t b e c (kind_at (kinds_of scratch)) n (rw i p) (λ h. u (sym i ∙ h)) (λ h. o (sym i ∙ h)) (λ h. v (sym i ∙ h)) (λ h. s (sym i ∙ h));
      }

-- ---- names

module _ {kinds file_kinds declared : List ℕ} {x : ℕ} where
  pub named_unbound : x ≡ 0 → Named kinds x file_kinds declared (Err NotEvaluated)
  named_unbound z = record { is = λ t b e c k n N q l s. unbound t b e c k n kinds file_kinds declared N l s x q z }

  module _ (z : x ≡ 0 → ⊥) {y k : ℕ} (Y : y ≡ get_or declared (x - 1) 0) (K : k ≡ get_or file_kinds (x - 1) 0) where
    pub named_item : k ≡ node.enumeration_item → Named kinds x file_kinds declared (Ok y)
    named_item h =
        record {
          is = λ t b e c g n N q l s. ap (λ (u : ℕ). of_kind (of_number u)) Y ∙ bound_item t b e c g n kinds file_kinds declared N l s x q z (sym K ∙ h);
        }

    pub named_constant : k ≡ node.constant → {v : ℕ} {r : Result ℕ Fault} → KindOfType y v → Evaluated y v r → Named kinds x file_kinds declared r
    named_constant h {v} {r} T E =
        record {
          is = λ t b e c g n N q l s.
              bound_constant t b e c g n kinds file_kinds declared N l s x q z (sym K ∙ h)
              (λ d i. E.is d (Y ∙ i) ∙ ap (if_evaluated d) (T.is d (Y ∙ i)));
        }

    module _ (u : k ≡ node.enumeration_item → ⊥) (w : k ≡ node.constant → ⊥) {j : ℕ} (J : j ≡ get_or kinds (x - 1) 0) where
      pub named_type : j ≡ node.type → {r : Result ℕ Fault} → Evaluated y 0 r → Named kinds x file_kinds declared r
      named_type h {r} E =
          record {
            is = λ t b e c g n N q l s.
                bound_type t b e c g n kinds file_kinds declared N l s x q z (λ i. u (K ∙ i)) (λ i. w (K ∙ i)) (sym J ∙ h) (λ d i. E.is d (Y ∙ i));
          }

      pub named_other : (j ≡ node.type → ⊥) → Named kinds x file_kinds declared (Err NotEvaluated)
      named_other h =
          record {
            is = λ t b e c g n N q l s. bound_other t b e c g n kinds file_kinds declared N l s x q z (λ i. u (K ∙ i)) (λ i. w (K ∙ i)) (λ i. h (J ∙ i));
          }

-- ---- nodes

-- the kind of a node in its table
own :
    {t : Table} {b : List ℕ} {e : Table} {terminals kinds tokens sizes bindings file_kinds declared : List ℕ} {k : ℕ} (n : ℕ) →
    k ≡ get_or kinds n 0 → Against t b e terminals kinds tokens sizes bindings file_kinds declared → kind e n ≡ k
own n K A = ap (λ (l : List ℕ). get_or l n 0) A.names.own_kinds ∙ sym K

module _ {terminals kinds tokens sizes bindings file_kinds declared scratch : List ℕ} {n k : ℕ} (K : k ≡ get_or kinds n 0) {r : Result ℕ Fault} where
  module _ {x : ℕ} (X : x ≡ get_or bindings n 0) (N : Named kinds x file_kinds declared r) where
    pub finds_name : k ≡ node.name → Finds terminals kinds tokens sizes bindings file_kinds declared scratch n r
    finds_name h =
        record {
          is = λ t b e A.
              N.is t b e bindings (kind_at (kinds_of scratch)) n A.names (sym X) (known e n 5 (own n K A ∙ h)) (λ i. let z = own n K A ∙ h in omega arith) ∙
              at_name t b e bindings (kind_at (kinds_of scratch)) n (own n K A ∙ h);
        }

    pub finds_item : k ≡ node.qualified_item → Finds terminals kinds tokens sizes bindings file_kinds declared scratch n r
    finds_item h =
        record {
          is = λ t b e A.
              N.is t b e bindings (kind_at (kinds_of scratch)) n A.names (sym X) (known e n 6 (own n K A ∙ h)) (λ i. let z = own n K A ∙ h in omega arith) ∙
              at_item t b e bindings (kind_at (kinds_of scratch)) n (own n K A ∙ h);
        }

  pub finds_constant :
      k ≡ node.constant → {y m v : ℕ} → y ≡ get_or declared n 0 → m ≡ n - 1 → v ≡ get_or scratch m 0 → Held y v r →
      Finds terminals kinds tokens sizes bindings file_kinds declared scratch n r
  finds_constant h {y} {m} {v} Y M E H =
      record {
        is = λ t b e A.
            let i = own n K A ∙ h in
            H.is (declared_type e bindings n) (Y ∙ A.names.own_declared.constants n (known e n 16 i) i) ∙
            rw (held scratch M E) (at_constant t b e bindings (kind_at (kinds_of scratch)) n i);
      }

  pub finds_operation :
      (k ≡ node.name → ⊥) → (k ≡ node.qualified_item → ⊥) → (k ≡ node.constant → ⊥) → {j w : ℕ} → j ≡ get_or tokens n 0 → w ≡ get_or terminals j 0 →
      Operates k w sizes scratch n r → Finds terminals kinds tokens sizes bindings file_kinds declared scratch n r
  finds_operation a b c {j} {w} J W O =
      record {
        is = λ t d e A.
            O.is t d e bindings A.sizes_are (own n K A) (rw (A.terminals_are, A.tokens_are, ← J) (sym W))
            (record { no_name = a; no_item = b; no_constant = c });
      }
