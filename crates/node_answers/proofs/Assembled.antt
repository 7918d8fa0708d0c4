-- What the functions at a node answer, from what their calls gave and their tests said.
use mathlib.Core.Path.{◌≡◌, refl, sym, ap, ap₂, subst, ◌∙◌}
use mathlib.Core.Logic.{inl, inr, ⊎_elim}
use mathlib.Core.Bool.{Bool, true, false, false≢true, ◌||◌}
use mathlib.Core.List.{List}
use Prim.Native.Nat.{ℕ, suc, ◌+◌, ◌-◌, ◌≤◌, ◌<◌}
use native.Mathlib.Omega.{arith}
use borrow.Author.Tests.{eqb-true, eqb-false, ne_eqb}
use lib.Dec.{eqb}
use lib.IntN.{ℤ}
use lib.ListN.{get_or, get_or-eq_default}
use Rattle.express.specs.Syntax.NodeKind as node
use Rattle.express.specs.Syntax.Tree.{Table, count, kind, terminal, last, left, upper, lower, middle, low}
use Rattle.express.specs.Semantics.Answer.{Answer}
use Rattle.express.specs.Semantics.Declared.{Declared, INTEGER, BOOLEAN, LOGICAL, BINARY, STRING, enumeration, other, declared_type}
use Rattle.express.specs.Semantics.DeclaredColumn.{declared_number}
use Rattle.express.specs.Semantics.Relation.{Relation}
use Rattle.express.specs.Semantics.Shape.{Sign, operator_of, sign_of, bound_of, text, shape_in}
use Rattle.express.specs.Semantics.Operate.{combined, applied, between}
use Rattle.express.specs.Semantics.Evaluate.{held, answer_in, answer_at}
use Rattle.relations.proofs.Select.{or_cases, le_or}
use Rattle.operations.specs.Meaning.{answer_of, sized, is_boolean, Holds}
use Rattle.operations.specs.Meaning as operations
use Rattle.operations.specs.declared.Answer as code
use Rattle.operations.specs.declared.Answer.TheVariants.{Indeterminate}
use Rattle.operations.specs.declared.Operator as operator_type
use Rattle.answer_rows.proofs.Stored.{Storable, combined_storable, applied_storable, between_storable, held_storable}
use Rattle.operations.specs.declared.Operator.{Operator}
use Rattle.std.specs.Prelude.{Option, None, Some}
use Rattle.node_answers.specs.Operators.{reading_of, combined_by}
use Rattle.node_answers.specs.Answers.{answers_in, Gives}
use Rattle.tree.specs.Children.{Child}
use Rattle.node_answers.specs.NodeAnswer.{part, LiteralBytes, leaf_answer, Leaf, Combines, Intervals, Operation, Operates, Plain, HeldIn, Others, Answered}
use Rattle.node_answers.proofs.Rows.{held_whole, same, nothing, whole_of, gives_sized}
use Rattle.node_answers.proofs.Nodes.{at_sign, at_operator, at_interval, at_constant, at_leaf}

-- ---- two operands
module _ {w : ℕ} {R : Option Operator} (E : reading_of R ≡ operator_of w) {x y : code.Answer} where
  pub combines :
      {o : operator_type.Operator} → R ≡ Some o → {r : code.Answer} →
      answer_of r ≡ combined (operations.operator_of o) (answer_of x) (answer_of y) → Combines w x y r
  combines {o} q {r} C =
      record {
        is = λ a b G H.
            subst (λ v. Gives r (combined_by v a b)) (sym (ap reading_of q) ∙ E)
            (record { is = C ∙ ap₂ (combined (operations.operator_of o)) G.is H.is; whole = (combined_storable (operations.operator_of o) (whole_of G) (whole_of H)).is });
      }

  pub combines_none : R ≡ None → Combines w x y Indeterminate
  combines_none q = record { is = λ a b G H. subst (λ v. Gives Indeterminate (combined_by v a b)) (sym (ap reading_of q) ∙ E) nothing }

-- ---- operations
between_same : {o o' p p' : Relation} {x x' y y' z z' : Answer} → o ≡ o' → p ≡ p' → x ≡ x' → y ≡ y' → z ≡ z' → between o p x y z ≡ between o' p' x' y' z'
between_same a b c d e = rw (a, b, c, d, e)

-- the terminal of a node m
term :
    (terminals tokens : List ℕ) {w m k : ℕ} (e : Table) → e.terminals ≡ terminals → e.tokens ≡ tokens → w ≡ get_or terminals (get_or tokens m 0) 0 → m ≡ k →
    w ≡ terminal e k
term terminals tokens e T K W q = W ∙ rw (T, K, q)

row_storable : (ks : List ℕ) (zs : List ℤ) (ls : List ℕ) (i : ℕ) → Storable (answer_at (answers_in ks zs ls) i)
row_storable ks zs ls i = record { is = held_whole ks zs ls i }

moved : (ks : List ℕ) (zs : List ℤ) (ls : List ℕ) {r : code.Answer} {m k : ℕ} → m ≡ k → Gives r (answer_at (answers_in ks zs ls) m) → Gives r (answer_at (answers_in ks zs ls) k)
moved ks zs ls q G = same (ap (answer_at (answers_in ks zs ls)) q) G

module _ {terminals tokens sizes ks : List ℕ} {zs : List ℤ} {ls : List ℕ} {n : ℕ} where
  pub intervals :
      {m₁ w₁ m₂ w₂ m₃ m₄ m₅ : ℕ} {o p : Relation} {x y z r : code.Answer} →
      Child lower sizes n m₁ → w₁ ≡ get_or terminals (get_or tokens m₁ 0) 0 → o ≡ bound_of w₁ →
      Child left sizes n m₂ → w₂ ≡ get_or terminals (get_or tokens m₂ 0) 0 → p ≡ bound_of w₂ →
      Child low sizes n m₃ → Gives x (answer_at (answers_in ks zs ls) m₃) → Child middle sizes n m₄ → Gives y (answer_at (answers_in ks zs ls) m₄) →
      m₅ ≡ n - 1 → Gives z (answer_at (answers_in ks zs ls) m₅) →
      answer_of r ≡ between o p (answer_of x) (answer_of y) (answer_of z) → Intervals terminals tokens sizes ks zs ls n r
  intervals L₁ W₁ O L₂ W₂ P L₃ X L₄ Y L₅ Z B =
      record {
        is = λ e T K S.
            record {
              is = B ∙
                  between_same (O ∙ ap bound_of (term terminals tokens e T K W₁ (L₁.is e S))) (P ∙ ap bound_of (term terminals tokens e T K W₂ (L₂.is e S))) (X.is ∙ ap (answer_at (answers_in ks zs ls)) (L₃.is e S))
                  (Y.is ∙ ap (answer_at (answers_in ks zs ls)) (L₄.is e S)) (Z.is ∙ ap (answer_at (answers_in ks zs ls)) L₅);
              whole =
                  (between_storable (bound_of (terminal e (lower e n))) (bound_of (terminal e (upper e n))) (row_storable ks zs ls (low e n))
                  (row_storable ks zs ls (middle e n)) (row_storable ks zs ls (last n))).is;
            };
      }

  module _ {k : ℕ} {r : code.Answer} where
    pub operates_interval : k ≡ node.interval → Intervals terminals tokens sizes ks zs ls n r → Operates k terminals tokens sizes ks zs ls n r
    operates_interval h I = record { is = λ t e c g T K S i O. same (at_interval t e c (answer_at (answers_in ks zs ls)) g n (i ∙ h)) (I.is e T K S) }

    module _ {m w : ℕ} {v : code.Answer} (M : m ≡ n - 1) (G : Gives v (answer_at (answers_in ks zs ls) m)) (W : w ≡ get_or terminals (get_or tokens n 0) 0) where
      pub operates_sign :
          k ≡ node.unary → {s : Sign} → s ≡ sign_of w → answer_of r ≡ applied s (answer_of v) →
          Operates k terminals tokens sizes ks zs ls n r
      operates_sign h {s} S A =
          record {
            is = λ t e c g T K Z i O.
                same (at_sign t e c (answer_at (answers_in ks zs ls)) g n (i ∙ h))
                (record {
                  is = A ∙ ap₂ applied (S ∙ ap sign_of (term terminals tokens e T K W refl)) (moved ks zs ls M G).is;
                  whole = (applied_storable (sign_of (terminal e n)) (whole_of (moved ks zs ls M G))).is;
                });
          }

      pub operates_two :
          k ≡ node.two_operand → {a : ℕ} {x : code.Answer} → Child left sizes n a → Gives x (answer_at (answers_in ks zs ls) a) → Combines w x v r →
          Operates k terminals tokens sizes ks zs ls n r
      operates_two h {a} {x} L X C =
          record {
            is = λ t e c g T K S i O.
                same (ap (λ (u : ℕ). combined_by (operator_of u) (answer_at (answers_in ks zs ls) (left e n)) (answer_at (answers_in ks zs ls) (last
                n))) (term terminals tokens e T K W refl) ∙ at_operator t e c (answer_at (answers_in ks zs ls)) g n (i ∙ h))
                (C.is (answer_at (answers_in ks zs ls) (left e n)) (answer_at (answers_in ks zs ls) (last n)) (same (ap (answer_at (answers_in ks zs ls)) (L.is e S)) X) (moved ks zs ls M G));
          }

    pub operates_none : (k ≡ node.interval → ⊥) → (k ≡ node.unary → ⊥) → (k ≡ node.two_operand → ⊥) → Operates k terminals tokens sizes ks zs ls n r
    operates_none a b c = record { is = λ t e d g T K S i O. absurd (⊎_elim b (λ q. ⊎_elim c a q) O.one) }

-- ---- literals and constants
boolean_number : (d : Declared) → is_boolean d ≡ eqb (declared_number d) 1
boolean_number INTEGER = refl
boolean_number BOOLEAN = refl
boolean_number LOGICAL = refl
boolean_number BINARY = refl
boolean_number STRING = refl
boolean_number (enumeration y) = sym (ne_eqb (y + 6) 1 (λ (h : y + 6 ≡ 1). omega arith))
boolean_number other = refl

pub held_in :
    {declared : ℕ} {ks : List ℕ} {zs : List ℤ} {ls : List ℕ} {n m : ℕ} {v r : code.Answer} → m ≡ n - 1 → Gives v (answer_at (answers_in ks zs ls) m) →
    Holds (eqb declared 1) v r → HeldIn declared ks zs ls n r
held_in {declared} {ks} {zs} {ls} {n} {m} {v} {r} M U H =
    record {
      is = λ d D.
          let f = answer_at (answers_in ks zs ls) in
          let G : Gives v (f (last n)) = same (ap f M) U in
          record {
            is = H.is d (boolean_number d ∙ ap (λ (u : ℕ). eqb u 1) (sym D)) ∙ ap (held d) G.is;
            whole = (held_storable d (whole_of G)).is;
          };
    }

module _ {k : ℕ} {bytes starts lengths terminals : List ℕ} {token declared : ℕ} {ks : List ℕ} {zs : List ℤ} {ls : List ℕ} {n : ℕ} {r : code.Answer} where
  pub others_constant : k ≡ node.constant → HeldIn declared ks zs ls n r → Others k bytes starts lengths terminals token declared ks zs ls n r
  others_constant h H =
      record {
        is = λ t e c g P i B S L T K D Y.
            gives_sized (same (at_constant t e c (answer_at (answers_in ks zs ls)) g n (i ∙ h)) (H.is (declared_type e c n) (D h)));
      }

  pub others_leaf :
      (k ≡ node.constant → ⊥) → {w p l : ℕ} → w ≡ get_or terminals token 0 → p ≡ get_or starts token 0 → l ≡ get_or lengths token 0 → Leaf k w (part bytes p l) r →
      Others k bytes starts lengths terminals token declared ks zs ls n r
  others_leaf h {w} {p} {l} W P L F =
      record {
        is = λ t e c g Q i B S Z T K D Y.
            let f = answer_at (answers_in ks zs ls) in
            let s : part bytes p l ≡ text e n = rw (B, S, Z, K, P, L) in
            let u : w ≡ terminal e n = W ∙ rw (T, K) in
            let v : leaf_answer k w (part bytes p l) ≡ answer_in e f g n (shape_in t e c n) =
            rw (s, u, ← i) (at_leaf t e c f g n (subst Plain (sym i) Q) (λ q. h (sym i ∙ q))) in
            same (ap sized v) (F.is (rw (s, u) Y));
      }

-- ---- a node
known : (e : Table) (n k : ℕ) → kind e n ≡ suc k → n < count e
known e n k h = ⊎_elim (λ (g : count e ≤ n). absurd (let z = get_or-eq_default e.kinds 0 g in omega arith)) (λ g. g) (le_or (count e) n)

or_none : (a b : Bool) → a || b ≡ false → (a ≡ false) × (b ≡ false)
or_none true b h = absurd (false≢true (sym h))
or_none false b h = (refl, h)

operation_kind : (k : ℕ) → eqb k node.unary || (eqb k node.two_operand || eqb k node.interval) ≡ true → Operation k
operation_kind k h =
    record {
      one = ⊎_elim (λ a. inl (eqb-true k node.unary a))
          (λ b. inr (⊎_elim (λ a. inl (eqb-true k node.two_operand a)) (λ a. inr (eqb-true k node.interval a)) (or_cases (eqb k node.two_operand) (eqb k node.interval) b)))
          (or_cases (eqb k node.unary) (eqb k node.two_operand || eqb k node.interval) h);
    }

plain_kind : (k : ℕ) → eqb k node.name || eqb k node.qualified_item ≡ false → eqb k node.unary || (eqb k node.two_operand || eqb k node.interval) ≡ false → Plain k
plain_kind k g h =
    let a = or_none (eqb k node.name) (eqb k node.qualified_item) g in
    let b = or_none (eqb k node.unary) (eqb k node.two_operand || eqb k node.interval) h in
    let d = or_none (eqb k node.two_operand) (eqb k node.interval) b.1 in
    record {
      no_name = eqb-false k node.name a.0;
      no_item = eqb-false k node.qualified_item a.1;
      no_unary = eqb-false k node.unary b.0;
      no_two = eqb-false k node.two_operand d.0;
      no_interval = eqb-false k node.interval d.1;
    }

module _ {bytes starts lengths terminals tokens sizes declared ks : List ℕ} {zs : List ℤ} {ls : List ℕ} {k n : ℕ} {r : code.Answer} where
  pub answered_operation :
      {b : Bool} → b ≡ (eqb k node.unary || (eqb k node.two_operand || eqb k node.interval)) → b ≡ true → Operates k terminals tokens sizes ks zs ls n r →
      Answered bytes starts lengths terminals tokens sizes declared ks zs ls k n r
  answered_operation B h O =
      record {
        is = λ t e kinds bindings file_kinds g A q i.
            gives_sized (O.is t e bindings g A.terminals_are A.tokens_are A.sizes_are q (operation_kind k (sym B ∙ h)));
      }

  pub answered_other :
      {c : Bool} → c ≡ (eqb k node.unary || (eqb k node.two_operand || eqb k node.interval)) → c ≡ false → {o d : ℕ} → o ≡ get_or tokens n 0 → d ≡ get_or declared n 0 →
      Others k bytes starts lengths terminals o d ks zs ls n r → Answered bytes starts lengths terminals tokens sizes declared ks zs ls k n r
  answered_other C h {o} {d} O D Q =
      record {
        is = λ t e kinds bindings file_kinds g A q i.
            Q.is t e bindings g (plain_kind k i (sym C ∙ h)) q A.bytes_are A.starts_are A.lengths_are A.terminals_are (rw A.tokens_are (sym O))
            (λ j. D ∙ A.declares.constants n (known e n 16 (q ∙ j)) (q ∙ j)) (subst (λ (u : ℕ). LiteralBytes u (terminal e n) (text e n)) q (A.spelled.each n));
      }
