-- The numbers of kinds (G32) and roles (G35) of nodes, by name.
use Rattle.std.specs.Prelude.{ℕ}

-- The kinds of nodes (G32). First those of expressions: literals that are evaluated, `?`, other literals and PI and CONST_E, names, `type.item` (named by
-- the item), SELF, operations with one, two and three operands; and the operators in an interval.
abbrev pub integer_literal : ℕ
integer_literal = 1

abbrev pub binary_literal : ℕ
binary_literal = 2

abbrev pub logical_literal : ℕ
logical_literal = 3

abbrev pub question : ℕ
question = 4

abbrev pub other_literal : ℕ
other_literal = 5

abbrev pub name : ℕ
name = 6

abbrev pub qualified_item : ℕ
qualified_item = 7

abbrev pub self : ℕ
self = 8

abbrev pub unary : ℕ
unary = 9

abbrev pub two_operand : ℕ
two_operand = 10

abbrev pub interval : ℕ
interval = 11

abbrev pub interval_operator : ℕ
interval_operator = 12

abbrev pub simple_type : ℕ
simple_type = 13

abbrev pub enumeration_item : ℕ
enumeration_item = 14

abbrev pub enumeration : ℕ
enumeration = 15

abbrev pub select : ℕ
select = 16

abbrev pub constant : ℕ
constant = 17

abbrev pub type : ℕ
type = 18

abbrev pub attribute_name : ℕ
attribute_name = 19

abbrev pub attribute_group : ℕ
attribute_group = 20

abbrev pub optional_group : ℕ
optional_group = 21

abbrev pub derived_attribute : ℕ
derived_attribute = 22

abbrev pub rule : ℕ
rule = 23

abbrev pub entity : ℕ
entity = 24

abbrev pub schema : ℕ
schema = 25

abbrev pub file : ℕ
file = 26

-- G32, G34: one more than the greatest kind
abbrev pub kind_limit : ℕ
kind_limit = 27

-- the roles of a name (G35), by the rule of the grammar that left it: in an expression; the type of a constant or an attribute; the type that a
-- type renames; in a select list; in a SUBTYPE OF list
abbrev pub in_expression : ℕ
in_expression = 1

abbrev pub type_name : ℕ
type_name = 2

abbrev pub renamed_type : ℕ
renamed_type = 3

abbrev pub select_name : ℕ
select_name = 4

abbrev pub supertype_name : ℕ
supertype_name = 5

-- G35: the roles of a rule
abbrev pub labelled : ℕ
labelled = 1

abbrev pub unlabelled : ℕ
unlabelled = 2
