-- The string that a node comes to is the bytes of its leaves, in node order.
use mathlib.Core.Path.{◌≡◌, refl, sym, ap, ap₂, ◌∙◌}
use mathlib.Core.Logic.{inr, ⊎_elim}
use mathlib.Core.Bool.{false≢true}
use mathlib.Core.List.{List, [], ◌++◌, append-nil}
use Prim.Native.Nat.{ℕ, zero, suc, ◌+◌, ◌≤◌, ◌<◌}
use native.Mathlib.Omega.{arith}
use Rattle.ebnf.specs.Set.{mem}
use Rattle.express.specs.Syntax.Tree.{Table, count, kind, size, first, last, left, middle, low}
use Rattle.express.specs.Semantics.Answer.{Answer, string}
use Rattle.express.specs.Semantics.AnswerRow.{bytes_of}
use Rattle.express.specs.Semantics.Shape.{and, relation, connective, Shape, integer_literal, logical_literal, binary_literal, string_literal, question, item, name, unary, operator, interval}
use Rattle.express.specs.Semantics.Shape.{interval_operator, type, constant, unevaluated, shape_in}
use Rattle.express.specs.Semantics.Operate.{combined}
use Rattle.express.specs.Semantics.Evaluate.{answer_in, value_in}
use Rattle.express.proofs.Syntax.Formed.{Formed}
use Rattle.express.proofs.Semantics.Shapes.{Decoded, decoded_in}
use Rattle.express.proofs.Semantics.Spans.{Part, Below, last_below, left_below, in_expression}
use Rattle.string_laws.specs.Leaves.{leaf_bytes, leaves}
use Rattle.string_laws.proofs.Leaves.{leaves_one, leaves_next, leaves_append}
use Rattle.string_laws.proofs.Values.{value_step}
use Rattle.string_laws.proofs.Operations.{clash, Operation, alone_or_operation, combined_string, applied_string}

module _ (t e : Table) (c : List ℕ) (f : Formed e) (g : ℕ → Answer) where
  abbrev worth : ℕ → Answer
  worth = value_in t e c g

  abbrev of : ℕ → List ℕ
  of n = leaves t e c g (first e n) (size e n)

  -- a node alone, and one after those below it
  of_alone : (n : ℕ) → n < count e → size e n ≡ 1 → of n ≡ leaf_bytes g (shape_in t e c n)
  of_alone n l q =
      let p : first e n ≡ n = omega arith in
      ap₂ (leaves t e c g) p q ∙ leaves_one t e c g n

  of_under : (n k : ℕ) → n < count e → size e n ≡ k + 1 → leaf_bytes g (shape_in t e c n) ≡ [] → of n ≡ leaves t e c g (first e n) k
  of_under n k l q r =
      let i = f.inside n l in
      let p : first e n + k ≡ n = omega arith in
      ap (leaves t e c g (first e n)) q ∙ leaves_next t e c g (first e n) k ∙
      ap (λ (x : List ℕ). leaves t e c g (first e n) k ++ x) (ap (λ (m : ℕ). leaf_bytes g (shape_in t e c m)) p ∙ r) ∙ append-nil _

  string_leaves_below : (b n : ℕ) → n < b → n < count e → Part (kind e n) → (s : List ℕ) → worth n ≡ string s → of n ≡ s
  unfolding mem
  string_leaves_below zero n a l p s h = absurd (omega arith)
  string_leaves_below (suc b) n a l p s h =
      by (shape_in t e c n) refl (decoded_in t e c n) (sym (value_step t e c f g n (record { known = l; sort = inr p })) ∙ h)
      (λ m d. string_leaves_below b m (omega (arith, d.under)) (omega (arith, d.under)) (in_expression e f n m l p (record { from = d.from; upto = omega (arith, d.under) })).part)
    where
      alone : (x : Shape) → shape_in t e c n ≡ x → (Operation x → ⊥) → of n ≡ leaf_bytes g x
      alone x q h =
          ⊎_elim (λ r. of_alone n l r ∙ ap (leaf_bytes g) q) (λ o. absurd (h (rw q at o))) (alone_or_operation t e c n f l p)

      by :
          (x : Shape) → shape_in t e c n ≡ x → Decoded t e c n x → answer_in e worth g n x ≡ string s →
          ((m : ℕ) → Below e n m → (s : List ℕ) → worth m ≡ string s → of m ≡ s) → of n ≡ s
      by (integer_literal v) q d i down = clash (cc)
      by (logical_literal v) q d i down = clash (cc)
      by (binary_literal v) q d i down = clash (cc)
      by (string_literal v) q d i down = alone (string_literal v) q (λ o. o) ∙ (cc)
      by question q d i down = clash (cc)
      by (item m) q d i down = clash (cc)
      by (name k) q d i down = alone (name k) q (λ o. o) ∙ ap bytes_of i
      by (unary o) q d i down =
          let z = (f.unary n l d).all in
          let j = f.inside n l in
          let w = last_below e f n l d in
          let y : 1 ≤ n = omega (arith, w.under) in
          let r : first e n ≡ first e (last n) = omega arith in
          of_under n (size e (last n)) l z (ap (leaf_bytes g) q) ∙ ap (λ (m : ℕ). leaves t e c g m (size e (last n))) r ∙
          down (last n) w s (applied_string e o (worth (last n)) s i)
      by (operator o) q d i down =
          let z = (f.operator n l d).all in
          let j = f.inside n l in
          let w = left_below e f n l d in
          let v = (combined_string e o (worth (left e n)) (worth (last n)) s i).1 in
          let y : 1 ≤ n = omega (arith, w.1.under) in
          let k : 1 ≤ size e (left e n) = f.some (left e n) (omega (arith, w.0.under)) in
          let r : first e n ≡ first e (left e n) = omega arith in
          let u : first e n + size e (left e n) ≡ first e (last n) = omega arith in
          of_under n (size e (left e n) + size e (last n)) l z (ap (leaf_bytes g) q) ∙
          leaves_append t e c g (first e n) (size e (left e n)) (size e (last n)) ∙
          ap₂ (λ (x y : List ℕ). x ++ y) (ap (λ (m : ℕ). leaves t e c g m (size e (left e n))) r ∙ down (left e n) w.0 v.left v.left_is)
          (ap (λ (m : ℕ). leaves t e c g m (size e (last n))) u ∙ down (last n) w.1 v.right v.right_is) ∙ v.all
      by (interval o x) q d i down =
          let y = combined (relation o) (worth (low e n)) (worth (middle e n)) in
          let z = combined (relation x) (worth (middle e n)) (worth (last n)) in
          clash (let r = (combined_string e (connective and) y z s i).0 in cc)
      by interval_operator q d i down = clash (cc)
      by (type k) q d i down = clash (cc)
      by (constant k) q d i down = absurd (false≢true (rw d.0 at p))
      by unevaluated q d i down = clash (cc)

  -- A STRING IS THE BYTES OF ITS LEAVES
  pub string_leaves : (n : ℕ) → n < count e → Part (kind e n) → (s : List ℕ) → value_in t e c g n ≡ string s → leaves t e c g (first e n) (size e n) ≡ s
  string_leaves n l p s h = string_leaves_below (suc n) n (omega arith) l p s h
