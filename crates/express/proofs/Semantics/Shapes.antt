-- What the shape of a node tells of its row.
use mathlib.Core.Path.{◌≡◌, refl}
use mathlib.Core.Bool.{Bool, true, false, cond, not, ◌||◌}
use mathlib.Core.Option.{Option, none, some}
use mathlib.Core.List.{List}
use Prim.Native.Nat.{ℕ}
use borrow.Author.Tests.{eqb-true}
use lib.Dec.{eqb}
use lib.ListN.{get_or}
use Rattle.express.specs.Tokens.Lexis.{integer_value, binary_bits, string_value}
use Rattle.express.specs.Tokens.Terminal.{the}
use Rattle.express.specs.Tokens.Terminal as word
use Rattle.express.specs.Syntax.NodeKind as node
use Rattle.express.specs.Syntax.Tree.{Table, kind, terminal, is}
use Rattle.express.specs.Semantics.Declared.{declaration, bound, declared_type}
use Rattle.express.specs.Semantics.Shape.{Operator, Shape, integer_literal, logical_literal, binary_literal, string_literal, question, item, name, unary, operator}
use Rattle.express.specs.Semantics.Shape.{interval, interval_operator, type, constant, unevaluated, text, operator_of, evaluated, name_shape_in, is_string, shape, shape_in}
use Rattle.relations.proofs.Select.{and_fst, and_snd}

-- of a node n of the table e, whose names are bound by b to nodes of the table t
abbrev pub Decoded : Table → Table → List ℕ → ℕ → Shape → Type 0
Decoded t e b n (integer_literal v) = (kind e n ≡ node.integer_literal) × (v ≡ integer_value (text e n))
Decoded t e b n (logical_literal l) = Unit {0}
Decoded t e b n (binary_literal s) = (kind e n ≡ node.binary_literal) × (s ≡ binary_bits (text e n))
Decoded t e b n (string_literal s) = ((kind e n ≡ node.other_literal) × (terminal e n ≡ the word.string)) × (s ≡ string_value (text e n))
Decoded t e b n question = Unit {0}
Decoded t e b n (item m) = kind t m ≡ node.enumeration_item
Decoded t e b n (name c) = kind t c ≡ node.constant
Decoded t e b n (unary o) = kind e n ≡ node.unary
Decoded t e b n (operator o) = kind e n ≡ node.two_operand
Decoded t e b n (interval o p) = kind e n ≡ node.interval
Decoded t e b n interval_operator = Unit {0}
Decoded t e b n (type d) = Unit {0}
Decoded t e b n (constant d) = (kind e n ≡ node.constant) × (d ≡ declared_type e b n)
Decoded t e b n unevaluated = Unit {0}

-- a property of what a test chooses
choose : (P : Shape → Type 0) (b : Bool) {x y : Shape} → (b ≡ true → P x) → P y → P (cond b x y)
choose P true f g = f refl
choose P false f g = g

module _ (t e : Table) (b : List ℕ) (n : ℕ) where
  abbrev Says : Shape → Type 0
  Says s = Decoded t e b n s

  operator_decoded : (o : Option Operator) → kind e n ≡ node.two_operand → Says (evaluated o)
  operator_decoded none i = tt
  operator_decoded (some o) i = i

  bound_kind : (k : ℕ) → bound t b k n ≡ true → kind t (declaration b n) ≡ k
  bound_kind k i = eqb-true (kind t (declaration b n)) k (and_snd (not (eqb (get_or b n 0) 0)) (is t k (declaration b n)) i)

  name_decoded : Says (name_shape_in t e b n)
  name_decoded =
      choose Says (bound t b node.enumeration_item n) (bound_kind node.enumeration_item)
      (choose Says (bound t b node.constant n) (bound_kind node.constant) tt)

  is_kind : (k : ℕ) → is e k n ≡ true → kind e n ≡ k
  is_kind k = eqb-true (kind e n) k

  string_kind : is_string e n ≡ true → (kind e n ≡ node.other_literal) × (terminal e n ≡ the word.string)
  string_kind i =
      let k = is e node.other_literal n in
      let w = eqb (terminal e n) (the word.string) in
      (is_kind node.other_literal (and_fst k w i), eqb-true (terminal e n) (the word.string) (and_snd k w i))

  pub decoded_in : Says (shape_in t e b n)
  unfolding shape_in
  decoded_in =
      choose Says (is e node.integer_literal n) (λ i. (is_kind node.integer_literal i, refl))
      (choose Says (is e node.binary_literal n) (λ i. (is_kind node.binary_literal i, refl))
      (choose Says (is e node.logical_literal n) (λ i. tt)
      (choose Says (is_string e n) (λ i. (string_kind i, refl))
      (choose Says (is e node.question n) (λ i. tt)
      (choose Says (is e node.name n || is e node.qualified_item n) (λ i. name_decoded)
      (choose Says (is e node.unary n) (is_kind node.unary)
      (choose Says (is e node.two_operand n) (λ i. operator_decoded (operator_of (terminal e n)) (is_kind node.two_operand i))
      (choose Says (is e node.interval n) (is_kind node.interval)
      (choose Says (is e node.interval_operator n) (λ i. tt)
      (choose Says (is e node.simple_type n) (λ i. tt)
      (choose Says (is e node.constant n) (λ i. (is_kind node.constant i, refl)) tt)))))))))))

module _ (t : Table) (b : List ℕ) (n : ℕ) where
  pub decoded : Decoded t t b n (shape t b n)
  decoded = decoded_in t t b n

  -- and a constant has the shape of one
  pub constant_shape : kind t n ≡ node.constant → shape t b n ≡ constant (declared_type t b n)
  unfolding shape_in
  constant_shape e = rw e
