-- What the columns give for nodes are the leaves of the tables that they stand for.
use mathlib.Core.Path.{◌≡◌, refl, sym, ap, ap₂, ◌∙◌}
use mathlib.Core.Logic.{⊎_elim}
use mathlib.Core.Bool.{Bool, true, false, cond, not, ◌||◌, false≢true}
use mathlib.Core.Option.{Option, none, some}
use mathlib.Core.List.{List, [], ◌++◌, flat_map}
use Prim.Native.Nat.{ℕ, zero, suc, ◌-◌, ◌≤◌}
use native.Mathlib.Omega.{arith}
use borrow.Author.Tests.{eqb-true}
use lib.Dec.{eqb}
use lib.IntN.{ℤ}
use lib.ListN.{get_or}
use Rattle.relations.specs.Select.{span}
use Rattle.relations.proofs.Select.{and_fst, and_snd, or_cases}
use Rattle.express.specs.Syntax.NodeKind as node
use Rattle.express.specs.Syntax.Tree.{Table, kind, terminal, is}
use Rattle.express.specs.Tokens.Lexis.{string_value}
use Rattle.express.specs.Tokens.Terminal.{the}
use Rattle.express.specs.Tokens.Terminal as word
use Rattle.express.specs.Semantics.Answer.{Answer}
use Rattle.express.specs.Semantics.AnswerRow.{bytes_of}
use Rattle.express.specs.Semantics.Declared.{declaration, bound}
use Rattle.express.specs.Semantics.Shape.{Operator, Shape, name, evaluated, operator_of, name_shape_in, is_string, shape_in}
use Rattle.express.specs.Semantics.Shape as shapes
use Rattle.string_laws.specs.Leaves.{leaf_bytes, leaves}
use Rattle.string_bytes.specs.Spelling.{row_bytes, node_bytes, nodes_bytes}
use Rattle.string_bytes.specs.Reading.{Columns, Readable}

choose : (P : Shape → Type 0) (b : Bool) {x y : Shape} → (b ≡ true → P x) → (b ≡ false → P y) → P (cond b x y)
choose P true f g = f refl
choose P false f g = g refl

-- the shape of a name, or of an item by its type
pub name_shape : (t e : Table) (b : List ℕ) (m : ℕ) → (is e node.name m || is e node.qualified_item m) ≡ true → shape_in t e b m ≡ name_shape_in t e b m
unfolding shape_in
name_shape t e b m i =
    ⊎_elim (λ q. rw (eqb-true (kind e m) node.name q)) (λ q. rw (eqb-true (kind e m) node.qualified_item q)) (or_cases (is e node.name m) (is e node.qualified_item m) i)

module _ (t e : Table) (b : List ℕ) (g : ℕ → Answer) (m : ℕ) where
  abbrev Bare : Shape → Type 0
  Bare s = leaf_bytes g s ≡ []

  operator_bare : (o : Option Operator) → Bare (evaluated o)
  operator_bare none = refl
  operator_bare (some o) = refl

  -- a node that is neither a string nor a name gives nothing
  other_bare : is e node.other_literal m ≡ false → (is e node.name m || is e node.qualified_item m) ≡ false → Bare (shape_in t e b m)
  unfolding shape_in
  other_bare h i =
      choose Bare (is e node.integer_literal m) (λ _. refl)
      (λ _. choose Bare (is e node.binary_literal m) (λ _. refl)
      (λ _. choose Bare (is e node.logical_literal m) (λ _. refl)
      (λ _. choose Bare (is_string e m) (λ q. absurd (false≢true (sym h ∙ and_fst (is e node.other_literal m) _ q)))
      (λ _. choose Bare (is e node.question m) (λ _. refl)
      (λ _. choose Bare (is e node.name m || is e node.qualified_item m) (λ q. absurd (false≢true (sym i ∙ q)))
      (λ _. choose Bare (is e node.unary m) (λ _. refl)
      (λ _. choose Bare (is e node.two_operand m) (λ _. operator_bare (operator_of (terminal e m)))
      (λ _. choose Bare (is e node.interval m) (λ _. refl)
      (λ _. choose Bare (is e node.interval_operator m) (λ _. refl)
      (λ _. choose Bare (is e node.simple_type m) (λ _. refl)
      (λ _. choose Bare (is e node.constant m) (λ _. refl) (λ _. refl))))))))))))

  -- a literal of the other kinds: a string, or nothing
  literal_leaf : kind e m ≡ node.other_literal →
      leaf_bytes g (shape_in t e b m) ≡ cond (eqb (terminal e m) (the word.string)) (string_value (shapes.text e m)) []
  unfolding shape_in
  literal_leaf h = rw h (by (eqb (terminal e m) (the word.string)))
    where
      by : (x : Bool) → leaf_bytes g (cond x (shapes.string_literal (string_value (shapes.text e m))) shapes.unevaluated)
          ≡ cond x (string_value (shapes.text e m)) []
      by true = refl
      by false = refl

  -- what is bound to a constant is not bound to an item
  constant_shape : bound t b node.constant m ≡ true → name_shape_in t e b m ≡ name (declaration b m)
  constant_shape h =
      let k = eqb-true (kind t (declaration b m)) node.constant (and_snd (not (eqb (get_or b m 0) 0)) (is t node.constant (declaration b m)) h) in
      let some = and_fst (not (eqb (get_or b m 0) 0)) (is t node.constant (declaration b m)) h in
      rw (k, some)

  other_shape : bound t b node.constant m ≡ false → Bare (name_shape_in t e b m)
  other_shape h = choose Bare (bound t b node.enumeration_item m) (λ _. refl) (λ _. choose Bare (bound t b node.constant m) (λ q. absurd (false≢true (sym h ∙ q))) (λ _. refl))

module _ {t e : Table} {bytes starts lengths terminals kinds tokens file_kinds : List ℕ} (C : Columns t e bytes starts lengths terminals kinds tokens file_kinds)
  where
    -- one node
    node_leaf :
        (bindings : List ℕ) (g : ℕ → Answer) (row_of : List ℕ) (first : ℕ) (aks : List ℕ) (azs : List ℤ) (als room : List ℕ) (m : ℕ) → ((c : ℕ) → shape_in t e bindings m ≡ name c → row_bytes room aks azs als (get_or row_of c 0 - first) ≡ bytes_of (g c)) →
        node_bytes bytes starts lengths terminals kinds tokens bindings file_kinds row_of first aks azs als room m ≡ leaf_bytes g (shape_in t e bindings m)
    node_leaf bindings g row_of first aks azs als room m R =
        rw (← C.bytes_are, ← C.starts_are, ← C.lengths_are, ← C.terminals_are, ← C.kinds_are, ← C.tokens_are, ← C.file_kinds_are)
        (by (is e node.other_literal m) (is e node.name m || is e node.qualified_item m) refl refl)
      where
        named : (x : Bool) → bound t bindings node.constant m ≡ x → (is e node.name m || is e node.qualified_item m) ≡ true →
            cond x (row_bytes room aks azs als (get_or row_of (declaration bindings m) 0 - first)) [] ≡ leaf_bytes g (shape_in t e bindings m)
        named true h i =
            let s = name_shape t e bindings m i ∙ constant_shape t e bindings g m h in
            R (declaration bindings m) s ∙ sym (ap (leaf_bytes g) s)
        named false h i = sym (ap (leaf_bytes g) (name_shape t e bindings m i) ∙ other_shape t e bindings g m h)

        by : (x y : Bool) → is e node.other_literal m ≡ x → (is e node.name m || is e node.qualified_item m) ≡ y →
            cond x (cond (eqb (terminal e m) (the word.string)) (string_value (shapes.text e m)) [])
            (cond y (cond (bound t bindings node.constant m) (row_bytes room aks azs als (get_or row_of (declaration bindings m) 0 - first)) []) [])
            ≡ leaf_bytes g (shape_in t e bindings m)
        by true y h i = sym (literal_leaf t e bindings g m (eqb-true (kind e m) node.other_literal h))
        by false true h i = named (bound t bindings node.constant m) refl i
        by false false h i = sym (other_bare t e bindings g m h i)

    -- and several
    pub nodes_leaves :
        {bindings : List ℕ} {g : ℕ → Answer} {row_of : List ℕ} {first : ℕ} {aks : List ℕ} {azs : List ℤ} {als room : List ℕ} (lo hi : ℕ) → Readable t e bindings g row_of first aks azs als room lo hi →
        nodes_bytes bytes starts lengths terminals kinds tokens bindings file_kinds row_of first aks azs als room lo hi ≡ leaves t e bindings g lo (hi - lo)
    unfolding flat_map span
    nodes_leaves {bindings} {g} {row_of} {first} {aks} {azs} {als} {room} lo hi R = go (hi - lo) lo (omega arith) (omega arith)
      where
        go : (k n : ℕ) → lo ≤ n → k ≤ hi - n →
            flat_map (node_bytes bytes starts lengths terminals kinds tokens bindings file_kinds row_of first aks azs als room) (span n k)
            ≡ flat_map (λ m. leaf_bytes g (shape_in t e bindings m)) (span n k)
        go zero n a b = refl
        go (suc k) n a b =
            ap₂ (λ (x y : List ℕ). x ++ y) (node_leaf bindings g row_of first aks azs als room n (λ c s. R.is n a (omega arith) c s)) (go k (suc n) (omega arith) (omega arith))
