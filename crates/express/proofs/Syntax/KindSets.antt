-- The kinds of nodes by where they stand, as sets.
use mathlib.Core.Path.{◌≡◌, refl, sym, ◌∙◌}
use mathlib.Core.Bool.{true, false≢true}
use mathlib.Core.List.{List, [], ◌∷◌, ◌++◌}
use Prim.Native.Nat.{ℕ}
use Rattle.ebnf.specs.Set.{mem, disjoint, subset}
use Rattle.ebnf.proofs.Sets.{apart, in_more}
use Rattle.express.specs.Syntax.NodeKind.{integer_literal, binary_literal, logical_literal, question, other_literal, name, qualified_item, self, unary, two_operand, interval, interval_operator}
use Rattle.express.specs.Syntax.NodeKind.{simple_type, enumeration_item, enumeration, select, constant, type, attribute_name, attribute_group, optional_group, derived_attribute, rule, entity}

-- the node of an expression: an operand without operators, or an operation
abbrev pub primary_kinds : List ℕ
primary_kinds = integer_literal ∷ binary_literal ∷ logical_literal ∷ question ∷ other_literal ∷ name ∷ qualified_item ∷ self ∷ []

abbrev pub operation_kinds : List ℕ
operation_kinds = unary ∷ two_operand ∷ interval ∷ []

abbrev pub expression_kinds : List ℕ
expression_kinds = primary_kinds ++ operation_kinds

-- the type of a constant or an attribute
abbrev pub base_kinds : List ℕ
base_kinds = simple_type ∷ name ∷ []

-- the nodes below a constant: those without children, and operations
abbrev pub leaf_kinds : List ℕ
leaf_kinds = primary_kinds ++ (interval_operator ∷ simple_type ∷ [])

abbrev pub below_constant : List ℕ
below_constant = leaf_kinds ++ operation_kinds

-- an expression and the nodes below it
abbrev pub in_expression : List ℕ
in_expression = expression_kinds ++ (interval_operator ∷ [])

-- a rule and the nodes below it
abbrev pub in_rule : List ℕ
in_rule = in_expression ++ (rule ∷ [])

-- the nodes below a type
abbrev pub below_type : List ℕ
below_type = in_rule ++ (simple_type ∷ enumeration_item ∷ enumeration ∷ select ∷ [])

-- what an entity or a type's WHERE declares
abbrev pub member_kinds : List ℕ
member_kinds = attribute_name ∷ derived_attribute ∷ rule ∷ []

-- the nodes below a declaration, of any of the three
abbrev pub below_declaration : List ℕ
below_declaration = below_type ++ (attribute_name ∷ attribute_group ∷ optional_group ∷ derived_attribute ∷ [])

abbrev pub declaration_kinds : List ℕ
declaration_kinds = constant ∷ type ∷ entity ∷ []

-- the nodes below a schema
abbrev pub below_schema : List ℕ
below_schema = below_declaration ++ declaration_kinds

-- no kind is in two sets that have nothing in common
pub not_both : (k : ℕ) (l m : List ℕ) → disjoint l m ≡ true → mem k l ≡ true → mem k m ≡ true → ⊥
not_both k l m d h g = false≢true (sym (apart k l m d h) ∙ g)

-- a type has no children
pub base_leaf : (k : ℕ) → mem k base_kinds ≡ true → mem k leaf_kinds ≡ true
unfolding mem subset
base_leaf k h = in_more k base_kinds leaf_kinds refl h
