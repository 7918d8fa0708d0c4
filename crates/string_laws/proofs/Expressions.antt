-- The expression of a constant that is declared STRING, in a typed file: what its nodes are.
use mathlib.Core.Path.{◌≡◌, refl, sym, ap, ◌∙◌}
use mathlib.Core.Logic.{⊎_elim}
use mathlib.Core.Bool.{Bool, true, false, cond, ◌&&◌, false≢true}
use mathlib.Core.List.{List}
use Prim.Native.Nat.{ℕ, zero, suc, ◌+◌, ◌≤◌, ◌<◌}
use native.Mathlib.Decide.{ℕ_discrete, dec_lt}
use native.Mathlib.Omega.{arith}
use borrow.Author.Tests.{ne_eqb}
use Rattle.ebnf.specs.Set.{mem}
use Rattle.express.specs.Syntax.NodeKind as node
use Rattle.express.specs.Syntax.Tree.{Table, count, kind, size, first, last, left, middle, low, owner}
use Rattle.express.specs.Semantics.Declared.{Declared, INTEGER, BOOLEAN, LOGICAL, BINARY, STRING, enumeration, other, declared_type}
use Rattle.express.specs.Semantics.Shape.{Sign, positive, negative, not, plus, arithmetic, relation, connective, Shape, integer_literal, logical_literal, binary_literal}
use Rattle.express.specs.Semantics.Shape.{string_literal, question, item, name, unary, operator, interval, interval_operator, type, constant, unevaluated, shape}
use Rattle.express.specs.Semantics.Operate.{Kind, integers, logicals, binaries, strings, items, undetermined, untyped, comparable, takes, takes_one}
use Rattle.express.specs.Semantics.Kind.{same, common, kind_of_type, result_of_one, of_kind, finding, Fits, WellTyped}
use Rattle.express.proofs.Syntax.Formed.{Formed}
use Rattle.express.proofs.Semantics.KindNumbers.{same_kinds}
use Rattle.express.proofs.Semantics.Shapes.{Decoded, decoded, constant_shape}
use Rattle.express.proofs.Semantics.Spans.{Part, Below, left_below, value_below, in_constant, in_expression, constant_of}
use Rattle.express.proofs.Theorems.Exactness.{fits_kind, evaluated_kind}
use Rattle.string_laws.proofs.Operations.{clash, Operation, alone_or_operation}

-- the nodes of such an expression
pub data Joining (t : Table) (b : List ℕ) : Shape → Type 0 where
  a_literal : {s : List ℕ} → Joining t b (string_literal s)
  a_question : Joining t b question
  a_plus : Joining t b (operator plus)
  a_name : {c : ℕ} → declared_type t b c ≡ STRING → Joining t b (name c)

-- ---- the kinds that they have
abbrev textual : Kind → Bool
textual integers = false
textual logicals = false
textual binaries = false
textual strings = true
textual (items y) = false
textual undetermined = true
textual untyped = false

-- what fits STRING
fits_string : (k : Kind) → comparable (common strings k) ≡ true → textual k ≡ true
fits_string integers e = e
fits_string logicals e = e
fits_string binaries e = e
fits_string strings e = refl
fits_string (items y) e = rw (ne_eqb (y + 6) 1 (λ q. omega arith), ne_eqb 5 (y + 6) (λ q. omega arith)) at e
fits_string undetermined e = refl
fits_string untyped e = e

common_textual : (j k : Kind) → textual (common j k) ≡ true → (textual j ≡ true) × (textual k ≡ true)
common_textual j k h = by (same j undetermined) (same k undetermined) (same j k) refl refl refl h
  where
    by :
        (p q r : Bool) → same j undetermined ≡ p → same k undetermined ≡ q → same j k ≡ r →
        textual (cond p k (cond q j (cond r j untyped))) ≡ true → (textual j ≡ true) × (textual k ≡ true)
    by true q r x y z i = (ap textual (same_kinds j undetermined x), i)
    by false true r x y z i = (i, ap textual (same_kinds k undetermined y))
    by false false true x y z i = (i, ap textual (sym (same_kinds j k z)) ∙ i)
    by false false false x y z i = absurd (false≢true i)

textual_type : (d : Declared) → textual (kind_of_type d) ≡ true → d ≡ STRING
textual_type INTEGER e = absurd (false≢true e)
textual_type BOOLEAN e = absurd (false≢true e)
textual_type LOGICAL e = absurd (false≢true e)
textual_type BINARY e = absurd (false≢true e)
textual_type STRING e = refl
textual_type (enumeration y) e = absurd (false≢true e)
textual_type other e = absurd (false≢true e)

sign_textual : (o : Sign) → textual (result_of_one o) ≡ false
sign_textual positive = refl
sign_textual negative = refl
sign_textual not = refl

module _ (t : Table) (b : List ℕ) (f : Formed t) (k : ℕ → Kind) where
  -- ---- one node of such a kind
  none_else : {A : Type 0} {j : Kind} (n : ℕ) → j ≡ k n → textual j ≡ false → textual (k n) ≡ true → A
  none_else n q u h = absurd (false≢true (sym u ∙ ap textual q ∙ h))

  -- the kind of two operands
  abbrev both : ℕ → Kind
  both n = common (k (left t n)) (k (last n))

  joining : (n : ℕ) → Part (kind t n) → textual (k n) ≡ true → (s : Shape) → Decoded t t b n s → finding t b k n s ≡ of_kind (k n) → Joining t b s
  unfolding mem
  joining n p h (integer_literal v) d i = none_else n (let q : integers ≡ k n = cc in q) refl h
  joining n p h (logical_literal v) d i = none_else n (let q : logicals ≡ k n = cc in q) refl h
  joining n p h (binary_literal v) d i = none_else n (let q : binaries ≡ k n = cc in q) refl h
  joining n p h (string_literal v) d i = a_literal
  joining n p h question d i = a_question
  joining n p h (item m) d i = none_else n (let q : items (owner t m) ≡ k n = cc in q) refl h
  joining n p h (name c) d i =
      a_name (textual_type (declared_type t b c) (ap textual (evaluated_kind (declared_type t b c) {k = k n} i) ∙ h))
  joining n p h (unary o) d i = none_else n (fits_kind (takes_one o (k (last n))) i).1 (sign_textual o) h
  joining n p h (operator plus) d i = a_plus
  joining n p h (operator (arithmetic o)) d i = none_else n (fits_kind (takes (arithmetic o) (both n)) {j = integers} i).1 refl h
  joining n p h (operator (relation o)) d i = none_else n (fits_kind (takes (relation o) (both n)) {j = logicals} i).1 refl h
  joining n p h (operator (connective o)) d i = none_else n (fits_kind (takes (connective o) (both n)) {j = logicals} i).1 refl h
  joining n p h (interval o x) d i =
      none_else n
      (fits_kind (takes (relation o) (common (k (low t n)) (k (middle t n))) && takes (relation x) (common (k (middle t n)) (k (last n)))) {j = logicals} i).1 refl h
  joining n p h interval_operator d i = none_else n (let q : untyped ≡ k n = cc in q) refl h
  joining n p h (type c) d i = none_else n (evaluated_kind c {j = untyped} i) refl h
  joining n p h (constant c) d i = absurd (false≢true (rw d.0 at p))
  joining n p h unevaluated d i = clash (cc)

  -- and the operands of a `+`
  operands : (n : ℕ) → textual (k n) ≡ true → finding t b k n (operator plus) ≡ of_kind (k n) → (textual (k (left t n)) ≡ true) × (textual (k (last n)) ≡ true)
  operands n h i = common_textual (k (left t n)) (k (last n)) (ap textual (fits_kind (takes plus (both n)) {j = both n} i).1 ∙ h)

  -- ---- all nodes below one
  module _ (d : ℕ) (fits : (n : ℕ) → first t d ≤ n → n ≤ d → Fits t b k n) where
    joining_below :
        (z n : ℕ) → n < z → n < count t → n < d → first t d ≤ first t n → Part (kind t n) → textual (k n) ≡ true → (m : ℕ) → first t n ≤ m → m ≤ n →
        Joining t b (shape t b m)
    joining_below zero n a l u w p h m lo hi = absurd (omega arith)
    joining_below (suc z) n a l u w p h m lo hi =
        by (ℕ_discrete m n)
        (λ c q. let y = q.under in let s = in_expression t f n c l p (record { from = q.from; upto = omega arith }) in joining_below z c (omega arith) (omega arith) (omega arith) (omega (arith, s.whole)) s.part)
      where
        fit : Fits t b k n
        fit = let i = f.inside n l in let s = f.some n l in fits n (omega arith) (omega arith)

        here : Joining t b (shape t b n)
        here = joining n p h (shape t b n) (decoded t b n) fit

        -- a node without operands is the only one
        alone : {A : Type 0} {x : Shape} → m < n → shape t b n ≡ x → (Operation x → ⊥) → A
        alone v q y =
            ⊎_elim (λ r. absurd (omega arith)) (λ o. absurd (y (rw q at o))) (alone_or_operation t t b n f l p)

        descend :
            {x : Shape} → m < n → shape t b n ≡ x → Decoded t t b n x → finding t b k n x ≡ of_kind (k n) →
            ((c : ℕ) → Below t n c → textual (k c) ≡ true → (m : ℕ) → first t c ≤ m → m ≤ c → Joining t b (shape t b m)) →
            Joining t b x → Joining t b (shape t b m)
        descend v q d i down a_literal = alone v q (λ o. o)
        descend v q d i down a_question = alone v q (λ o. o)
        descend v q d i down (a_name e) = alone v q (λ o. o)
        descend v q d i down a_plus =
            let g = (f.operator n l d).all in
            let j = f.inside n l in
            let w = left_below t f n l d in
            let r = operands n h i in
            let y : 1 ≤ size t (left t n) = f.some (left t n) (omega (arith, w.0.under)) in
            at (dec_lt m (first t (last n)))
            (λ s. down (left t n) w.0 r.0 m (omega arith) (omega arith)) (λ s. down (last n) w.1 r.1 m (omega arith) (omega arith))
          where
            at : {A : Type 0} → Dec (m < first t (last n)) → (m < first t (last n) → A) → (first t (last n) ≤ m → A) → A
            at (yes s) x y = x s
            at (no s) x y = y (omega arith)

        by : Dec (m ≡ n) → ((c : ℕ) → Below t n c → textual (k c) ≡ true → (m : ℕ) → first t c ≤ m → m ≤ c → Joining t b (shape t b m)) → Joining t b (shape t b m)
        by (yes q) down = rw q here
        by (no q) down = descend (omega arith) refl (decoded t b n) fit down here

-- THE EXPRESSION OF A STRING CONSTANT: strings, names of such constants and `?`, joined by `+`
pub string_expression :
    (t : Table) (b : List ℕ) → Formed t → WellTyped t b → (d : ℕ) → d < count t → kind t d ≡ node.constant → declared_type t b d ≡ STRING →
    (m : ℕ) → first t (last d) ≤ m → m ≤ last d → Joining t b (shape t b m)
string_expression t b f w d l h e m lo hi =
    let c = value_below t f d l h in
    let u = c.under in
    let s = in_constant t f d (last d) l h c.from u in
    let fits : (n : ℕ) → first t d ≤ n → n ≤ d → Fits t b w.kinds n = λ n x y. w.fits n (constant_of t f n (record { root = d; known = l; is_constant = h; from = x; upto = y })) in
    let r = constant_shape t b d h ∙ ap constant e in
    let i = f.inside d l in
    let z = f.some d l in
    joining_below t b f w.kinds d fits (suc (last d)) (last d) (omega arith) (omega arith) u s.whole s.part
    (fits_string (w.kinds (last d)) (fits_kind (comparable (common strings (w.kinds (last d)))) {k = w.kinds d} (rw r at (fits d (omega arith) (omega arith)))).0) m lo hi
