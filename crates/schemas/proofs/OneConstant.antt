-- One constant: what is held from the value of its expression is its answer; and its string is the bytes of its leaves.
use mathlib.Core.Path.{◌≡◌, refl, sym, ap, ap₂, subst, ◌∙◌}
use mathlib.Core.Bool.{Bool, true, false, false≢true}
use mathlib.Core.List.{List}
use Prim.Native.Nat.{ℕ, ◌+◌, ◌-◌, ◌≤◌, ◌<◌}
use native.Mathlib.Omega.{arith}
use borrow.Author.Tests.{eqb-true, eq-eqb}
use lib.Dec.{eqb}
use lib.IntN.{ℤ, pos}
use lib.ListN.{length, get_or, set, take, drop}
use lib.Seq.{sets}
use Rattle.columns.proofs.Laws.{take_rows}
use Rattle.express.specs.Syntax.NodeKind as node
use Rattle.express.specs.Syntax.Tree.{Table, count, kind, size, first, last}
use Rattle.express.specs.Tokens.Lexis.{most_bytes}
use Rattle.express.specs.Names.Scope as scope
use Rattle.express.specs.Semantics.Answer.{Answer, string}
use Rattle.express.specs.Semantics.AnswerRow.{AnswerRow, row_of, row_at, bytes_of, natural}
use Rattle.express.specs.Semantics.Declared.{Declared, INTEGER, BOOLEAN, LOGICAL, BINARY, STRING, enumeration, other, declared_type}
use Rattle.express.specs.Semantics.DeclaredColumn.{declared_number}
use Rattle.express.specs.Semantics.Evaluate.{answer_at, held, value}
use Rattle.express.specs.Semantics.Kind.{WellTyped}
use Rattle.express.specs.Semantics.Shape.{plus, arithmetic, relation, connective, Shape, integer_literal, logical_literal, binary_literal, string_literal, question, item, name}
use Rattle.express.specs.Semantics.Shape.{unary, operator, interval, interval_operator, type, constant, unevaluated, shape}
use Rattle.express.proofs.Semantics.Operations.{ends_range}
use Rattle.express.proofs.Syntax.FormedRows.{formed_rows}
use Rattle.operations.specs.Meaning.{answer_of, sized}
use Rattle.operations.specs.declared.Answer as code
use Rattle.operations.proofs.Sized.{answer_sized, sized_held}
use Rattle.answer_rows.specs.Stored.{stored}
use Rattle.answer_rows.proofs.Stored.{sized_row}
use Rattle.node_answers.specs.Answers.{answers_in, Stores}
use Rattle.node_answers.specs.NodeAnswer.{Against, HeldIn}
use Rattle.node_answers.proofs.Literals.{spelled}
use Rattle.node_answers.proofs.Rows.{same, made}
use Rattle.string_laws.specs.Leaves.{leaves}
use Rattle.string_laws.proofs.Values.{constant_value}
use Rattle.string_laws.proofs.Strings.{string_leaves}
use Rattle.string_laws.proofs.Expressions.{Joining, string_expression}
use Rattle.string_laws.proofs.Expressions as joining
use Rattle.string_laws.proofs.Answers.{StringAnswer, string_answer}
use Rattle.string_laws.proofs.Answers as laws
use Rattle.string_bytes.specs.Spelling.{Spells, SpellsNodes, Writes, nodes_bytes}
use Rattle.string_bytes.specs.Reading.{Columns, Readable}
use Rattle.string_bytes.proofs.Reading.{nodes_leaves}
use Rattle.string_relations.specs.Comparing.{Comparison}
use Rattle.string_relations.specs.Comparing as comparing
use Rattle.evaluate.specs.Evaluation.{Knows, Comparable, EvaluatesNodes}
use Rattle.schemas.specs.Rows.{answer_of_constant, is_string, measured, OfFile, Room, EvaluatesConstant, MeasuresConstant, WritesString}
use Rattle.schemas.proofs.Settled.{settled}
use Rattle.schemas.proofs.Nodes.{valued, root_first, root_part}

pub against :
    {t : Table} {bytes starts lengths terminals kinds tokens sizes bindings declared order : List ℕ} →
    OfFile t bytes starts lengths terminals kinds tokens sizes bindings declared order →
    Against t t bytes starts lengths terminals kinds tokens sizes bindings kinds declared
against O =
    record {
      bytes_are = O.bytes_are;
      starts_are = O.starts_are;
      lengths_are = O.lengths_are;
      terminals_are = O.terminals_are;
      kinds_are = O.kinds_are;
      tokens_are = O.tokens_are;
      sizes_are = O.sizes_are;
      file_kinds_are = O.kinds_are;
      declares = O.declares;
      spelled = spelled O.read O.scanned;
    }

-- a row tells the same of a string and of its length
stores_sized :
    {a x : Answer} {i j : ℕ} {ks : List ℕ} {zs : List ℤ} {ls ks' : List ℕ} {zs' : List ℤ} {ls' : List ℕ} → x ≡ sized a → i ≡ j →
    Stores x i ks zs ls ks' zs' ls' → Stores a j ks zs ls ks' zs' ls'
stores_sized {a} {x} {i} {j} {ks} {zs} {ls} {ks'} {zs'} {ls'} p q S =
    let T : Stores (sized a) j ks zs ls ks' zs' ls' =
    subst (λ (y : Answer). Stores y j ks zs ls ks' zs' ls') p (subst (λ (h : ℕ). Stores x h ks zs ls ks' zs' ls') q S) in
    let e = sized_row 0 a in
    record {
      kinds_are = T.kinds_are ∙ ap (λ (r : AnswerRow). set_kind ks j r) e;
      numbers_are = T.numbers_are ∙ ap (λ (r : AnswerRow). set_number zs j r) e;
      lengths_are = T.lengths_are ∙ ap (λ (r : AnswerRow). set_length ls j r) e;
    }
  where
    set_kind : List ℕ → ℕ → AnswerRow → List ℕ
    set_kind xs j r = set xs j r.kind

    set_number : List ℤ → ℕ → AnswerRow → List ℤ
    set_number xs j r = set xs j r.number

    set_length : List ℕ → ℕ → AnswerRow → List ℕ
    set_length xs j r = set xs j r.length

module _ {t : Table} {bytes starts lengths terminals kinds tokens sizes bindings declared order : List ℕ}
    (O : OfFile t bytes starts lengths terminals kinds tokens sizes bindings declared order) (d : ℕ) (l : d < count t) (h : kind t d ≡ node.constant) where
  -- the answer of a constant is what its type holds of the value of its expression
  pub answer_held : held (declared_type t bindings d) (value t bindings (answer_of_constant t) (last d)) ≡ answer_of_constant t d
  answer_held =
      sym (constant_value t bindings (formed_rows O.read) (answer_of_constant t) d l h) ∙ ap (λ (b : List ℕ). value t b (answer_of_constant t) d) (sym O.bindings_are) ∙
      sym (settled O.read O.named d (eq-eqb (kind t d) node.constant h) l)

  -- declared by number
  pub string_number : get_or declared d 0 ≡ declared_number (declared_type t (scope.bindings t) d)
  string_number = O.declares.constants d l h ∙ ap (λ (b : List ℕ). declared_number (declared_type t b d)) (sym O.bindings_are)

  pub string_told : {n : ℕ} → n ≡ get_or declared d 0 → n ≡ declared_number STRING → is_string t d ≡ true
  string_told e f = eq-eqb _ _ (sym string_number ∙ sym e ∙ f)

  -- the nodes of the expression, by the sizes
  first_told : {s k lo : ℕ} → s ≡ get_or sizes d 0 → k ≡ s - 2 → lo ≡ d - k → lo ≡ first t (last d)
  first_told {s} S N L =
      let q : size t d ≡ s = rw O.sizes_are (sym S) in
      let z = ((formed_rows O.read).constant d l h).all in
      let i = (formed_rows O.read).inside d l in
      let r = root_first O d l h in omega (arith, r.0, r.1)

declared_string : (d : Declared) → eqb (declared_number d) (declared_number STRING) ≡ true → d ≡ STRING
declared_string INTEGER e = absurd (false≢true e)
declared_string BOOLEAN e = absurd (false≢true e)
declared_string LOGICAL e = absurd (false≢true e)
declared_string BINARY e = absurd (false≢true e)
declared_string STRING e = refl
declared_string (enumeration y) e = absurd (let q = eqb-true (y + 6) 5 e in omega arith)
declared_string other e = absurd (false≢true e)

-- of a constant that is declared STRING
pub is_declared : (t : Table) (d : ℕ) → is_string t d ≡ true → declared_type t (scope.bindings t) d ≡ STRING
is_declared t d e = declared_string (declared_type t (scope.bindings t) d) e

module _ {bytes starts lengths terminals kinds tokens sizes bindings declared row_of : List ℕ} {d at : ℕ} {aks : List ℕ} {azs : List ℤ} {als vks : List ℕ} {vzs : List ℤ}
    {vls room vks' : List ℕ} {vzs' : List ℤ} {vls' aks' : List ℕ} {azs' : List ℤ} {als' : List ℕ} where
  pub one_constant :
      {s k lo p j y : ℕ} {r : code.Answer} → s ≡ get_or sizes d 0 → k ≡ s - 2 → lo ≡ d - k →
      EvaluatesNodes bytes starts lengths terminals kinds tokens sizes bindings lo d kinds declared row_of at aks azs als room vks vzs vls vks' vzs' vls' →
      p ≡ get_or row_of d 0 → j ≡ p - at → y ≡ get_or declared d 0 → HeldIn y vks' vzs' vls' d r → Stores (stored (answer_of r)) j aks azs als aks' azs' als' →
      EvaluatesConstant bytes starts lengths terminals kinds tokens sizes bindings declared row_of d at aks azs als vks vzs vls room aks' azs' als'
  one_constant {s} {k = k} {lo} {p} {j} {y} {r} S N L E P J Y G Q = record { is = evaluated }
    where
      evaluated :
          (t : Table) (order : List ℕ) → OfFile t bytes starts lengths terminals kinds tokens sizes bindings declared order → Room t vks vzs vls → d < count t →
          kind t d ≡ node.constant → Knows t t bindings (answer_of_constant t) row_of at aks azs als (first t (last d)) d →
          Comparable t t bindings (answer_of_constant t) row_of at aks azs als room (first t (last d)) d →
          Stores (answer_of_constant t d) (get_or row_of d 0 - at) aks azs als aks' azs' als'
      evaluated t order O M l h W C =
          let e = first_told O d l h S N L in
          let f = root_first O d l h in
          let g = answer_of_constant t in
          let B = subst (λ (x : ℕ). EvaluatesNodes bytes starts lengths terminals kinds tokens sizes bindings x d kinds declared row_of at aks azs als room vks vzs vls vks' vzs' vls') e E in
          let T = B.is t t g (value t bindings g) (against O) (valued O d l h) W C (omega (arith, M.kinds_long)) (omega (arith, M.numbers_long)) (omega (arith, M.lengths_long)) in
          let z : 1 ≤ size t (last d) = (formed_rows O.read).some (last d) (omega (arith, l, f.1)) in
          let u : answer_at (answers_in vks' vzs' vls') (last d) ≡ sized (value t bindings g (last d)) = T.is (last d) (omega (arith, z)) (omega (arith, f.1)) in
          let v = G.is (declared_type t bindings d) (Y ∙ O.declares.constants d l h) in
          let w : answer_of r ≡ sized (g d) =
          sym (answer_sized r) ∙ ap sized (v.is ∙ ap (held (declared_type t bindings d)) u) ∙ sized_held (declared_type t bindings d) (value t bindings g (last d)) ∙
          ap sized (answer_held O d l h) in
          stores_sized (made (same (sym v.is ∙ w) v)) (J ∙ ap (λ (x : ℕ). x - at) P) Q

-- ---- measuring: in the expression of a string nothing is compared
abbrev is_comparison : Shape → Bool
is_comparison (integer_literal v) = false
is_comparison (logical_literal v) = false
is_comparison (binary_literal v) = false
is_comparison (string_literal v) = false
is_comparison question = false
is_comparison (item m) = false
is_comparison (name m) = false
is_comparison (unary o) = false
is_comparison (operator plus) = false
is_comparison (operator (arithmetic o)) = false
is_comparison (operator (relation o)) = true
is_comparison (operator (connective o)) = false
is_comparison (interval o p) = true
is_comparison interval_operator = false
is_comparison (type k) = false
is_comparison (constant k) = false
is_comparison unevaluated = false

comparison_is : {s : Shape} → Comparison s → is_comparison s ≡ true
comparison_is comparing.a_relation = refl
comparison_is comparing.an_interval = refl

joining_is : {t : Table} {b : List ℕ} {s : Shape} → Joining t b s → is_comparison s ≡ false
joining_is joining.a_literal = refl
joining_is joining.a_question = refl
joining_is joining.a_plus = refl
joining_is (joining.a_name e) = refl

module _ {t : Table} {bytes starts lengths terminals kinds tokens sizes bindings declared order : List ℕ}
    (O : OfFile t bytes starts lengths terminals kinds tokens sizes bindings declared order) (d : ℕ) (l : d < count t) (h : kind t d ≡ node.constant) (e : is_string t d ≡ true) where
  declared_here : declared_type t bindings d ≡ STRING
  declared_here = ap (λ (b : List ℕ). declared_type t b d) (sym O.bindings_are) ∙ is_declared t d e

  pub string_node : (m : ℕ) → first t (last d) ≤ m → m < d → Joining t bindings (shape t bindings m)
  string_node m a b =
      let f = root_first O d l h in
      string_expression t bindings (formed_rows O.read) O.typed d l h declared_here m a (omega (arith, f.1))

  pub comparable_none :
      {row_of : List ℕ} {at : ℕ} {aks : List ℕ} {azs : List ℤ} {als room : List ℕ} → Comparable t t bindings (answer_of_constant t) row_of at aks azs als room (first t (last d)) d
  comparable_none = record { is = λ m a b c. absurd (false≢true (sym (joining_is (string_node m a b)) ∙ comparison_is c)) }

pub measured_string : (t : Table) (d : ℕ) → is_string t d ≡ true → measured t d ≡ answer_of_constant t d
measured_string t d e = rw e

stores_same : {x y : Answer} {i j : ℕ} {ks : List ℕ} {zs : List ℤ} {ls ks' : List ℕ} {zs' : List ℤ} {ls' : List ℕ} → x ≡ y → i ≡ j → Stores x i ks zs ls ks' zs' ls' →
    Stores y j ks zs ls ks' zs' ls'
stores_same {x = x} {y = y} {i = i} {j = j} {ks = ks} {zs = zs} {ls = ls} {ks' = ks'} {zs' = zs'} {ls' = ls'} p q S =
    subst (λ (a : Answer). Stores a j ks zs ls ks' zs' ls') p (subst (λ (h : ℕ). Stores x h ks zs ls ks' zs' ls') q S)

module _ {bytes starts lengths terminals kinds tokens sizes bindings declared row_of : List ℕ} {d at : ℕ} {aks : List ℕ} {azs : List ℤ} {als vks : List ℕ} {vzs : List ℤ}
    {vls aks' : List ℕ} {azs' : List ℤ} {als' : List ℕ} {n : ℕ} (N : n ≡ get_or declared d 0) where
  pub measured_length :
      {room : List ℕ} → n ≡ declared_number STRING → EvaluatesConstant bytes starts lengths terminals kinds tokens sizes bindings declared row_of d at aks azs als vks vzs vls room aks' azs' als' →
      MeasuresConstant bytes starts lengths terminals kinds tokens sizes bindings declared row_of d at aks azs als vks vzs vls aks' azs' als'
  measured_length q E =
      record {
        is = λ t order O M l h W.
            let s = string_told O d l h N q in
            stores_same (sym (measured_string t d s)) refl (E.is t order O M l h (W s) (comparable_none O d l h s));
      }

-- ---- writing the string of a constant

row_told : (row_of : List ℕ) (d at : ℕ) {p j : ℕ} → p ≡ get_or row_of d 0 → j ≡ p - at → j ≡ get_or row_of d 0 - at
row_told row_of d at P J = J ∙ ap (λ (x : ℕ). x - at) P

module _ {bytes starts lengths terminals kinds tokens sizes bindings row_of : List ℕ} {d at : ℕ} {aks : List ℕ} {azs : List ℤ} {als room : List ℕ} {p j k : ℕ} (P : p ≡ get_or row_of d 0)
    (J : j ≡ p - at) (K : k ≡ get_or aks j 0) where
  pub string_written :
      k ≡ 5 → {s b lo : ℕ} → s ≡ get_or sizes d 0 → b ≡ s - 2 → lo ≡ d - b → {out out' : List ℕ} {n : ℕ} →
      SpellsNodes bytes starts lengths terminals kinds tokens bindings kinds row_of at aks azs als room lo d out out' n → length out ≡ most_bytes →
      {st : ℕ} → st ≡ natural (get_or azs j (pos 0)) → {room' : List ℕ} {r : ℕ} → Writes (take n (drop 0 out')) st room room' r →
      WritesString bytes starts lengths terminals kinds tokens sizes bindings row_of d at aks azs als room room'
  string_written five {s} {b} {lo} S B L {out} {out'} {n} Z long {st} Q {room'} W = record { is = written }
    where
      written :
          (t : Table) (declared order : List ℕ) → OfFile t bytes starts lengths terminals kinds tokens sizes bindings declared order → d < count t → kind t d ≡ node.constant →
          is_string t d ≡ true → Readable t t bindings (answer_of_constant t) row_of at aks azs als room (first t (last d)) d →
          (start : ℕ) → get_or aks (get_or row_of d 0 - at) 0 ≡ (row_at start (answer_of_constant t d)).kind →
          get_or azs (get_or row_of d 0 - at) (pos 0) ≡ (row_at start (answer_of_constant t d)).number → room' ≡ sets room start (bytes_of (answer_of_constant t d))
      written t declared order O l h e R start kk nn =
          by (answer_of_constant t d) refl (string_answer t O.scanned O.read O.named well d l h (is_declared t d e)) kk nn
        where
          well : WellTyped t (scope.bindings t)
          well = subst (WellTyped t) (sym O.bindings_are) O.typed

          kind_here : get_or aks (get_or row_of d 0 - at) 0 ≡ 5
          kind_here = ap (λ (x : ℕ). get_or aks x 0) (sym (row_told row_of d at P J)) ∙ sym K ∙ five

          by : (a : Answer) → answer_of_constant t d ≡ a → StringAnswer a → get_or aks (get_or row_of d 0 - at) 0 ≡ (row_at start a).kind →
              get_or azs (get_or row_of d 0 - at) (pos 0) ≡ (row_at start a).number → room' ≡ sets room start (bytes_of (answer_of_constant t d))
          by a q laws.no_value kk nn = absurd (let z : ◌≡◌ {A = ℕ} 0 5 = sym kk ∙ kind_here in omega arith)
          by a q (laws.an_end {e = x} m) kk nn = absurd (let z : x ≡ 5 = sym kk ∙ kind_here in let u = ends_range m in omega (arith, u.0))
          by a q (laws.a_string {s = v} short) kk nn =
              let f = root_first O d l h in
              let g = answer_of_constant t in
              let lo_is = first_told O d l h S B L in
              let i = (formed_rows O.read).inside (last d) (omega (arith, l, f.1)) in
              let size_is : d - lo ≡ size t (last d) = omega (arith, lo_is, f.1, i) in
              let C : Columns t t bytes starts lengths terminals kinds tokens kinds =
              record {
                bytes_are = O.bytes_are;
                starts_are = O.starts_are;
                lengths_are = O.lengths_are;
                terminals_are = O.terminals_are;
                kinds_are = O.kinds_are;
                tokens_are = O.tokens_are;
                file_kinds_are = O.kinds_are;
              } in
              let root : value t bindings g (last d) ≡ string v = sym (ap (λ (x : Declared). held x (value t bindings g (last d))) (declared_here O d l h e)) ∙ answer_held O d l h ∙ q in
              let bytes_are : nodes_bytes bytes starts lengths terminals kinds tokens bindings kinds row_of at aks azs als room lo d ≡ v =
              nodes_leaves C lo d (subst (λ (x : ℕ). Readable t t bindings g row_of at aks azs als room x d) (sym lo_is) R) ∙ ap₂ (leaves t t bindings g) lo_is size_is ∙
              string_leaves t t bindings (formed_rows O.read) g (last d) (omega (arith, l, f.1)) (root_part O d l h) v root in
              let Y : Spells v out out' n = subst (λ (x : List ℕ). Spells x out out' n) bytes_are Z.is in
              let n_is : n ≡ length v = omega (arith, Y.ends, long, short) in
              let front : take n out' ≡ v = ap₂ take n_is Y.is ∙ take_rows out v (omega (arith, long, short)) in
              let st_is : st ≡ start = Q ∙ ap (λ (x : ℕ). natural (get_or azs x (pos 0))) (row_told row_of d at P J) ∙ ap natural nn in
              W.is ∙ ap₂ (sets room) st_is (front ∙ sym (ap bytes_of q))
