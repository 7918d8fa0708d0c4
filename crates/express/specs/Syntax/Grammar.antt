-- The grammar (G1 to G25), each rule with its number in annex A of the standard, and with the nodes that it leaves (G2, G32).
use Rattle.std.specs.Prelude.{List, ◌++◌, ℕ}
use Rattle.ebnf.specs.Grammar.{silent, here, node, leaf, Ebnf, none, mark, step, seq, alt, star, fork, nt}
use Rattle.express.specs.Tokens.Terminal.{identifier, integer, real, string, binary, question, dot, comma, semicolon, colon, times, plus, minus, equal, slash, less, greater}
use Rattle.express.specs.Tokens.Terminal.{lbrace, rbrace, lparen, rparen, less_equal, unequal, greater_equal, becomes, power, instance_equal, instance_unequal, AND, BINARY}
use Rattle.express.specs.Tokens.Terminal.{BOOLEAN, CONSTANT, CONST_E, DERIVE, DIV, END_CONSTANT, END_ENTITY, END_SCHEMA, END_TYPE, ENTITY, ENUMERATION, FALSE, INTEGER}
use Rattle.express.specs.Tokens.Terminal.{LOGICAL, MOD, NOT, NUMBER, OF, OPTIONAL, OR, PI, REAL, SCHEMA, SELECT, SELF, STRING, SUBTYPE, TRUE, TYPE, UNKNOWN, WHERE, XOR}
use Rattle.express.specs.Syntax.NodeKind as kind

pub data Nonterminal : Type 0 where
  file schema constants constant base type_declaration underlying where_clause domain_rule entity attributes derived : Nonterminal
  expression sum term factor operand atom interval : Nonterminal

-- ---- how a rule is written

infixr 30 ◌·◌
infixr 20 ◌∣◌
-- a b
abbrev pub ◌·◌ : Ebnf Nonterminal → Ebnf Nonterminal → Ebnf Nonterminal
a · b = seq a b

-- a | b
abbrev pub ◌∣◌ : Ebnf Nonterminal → Ebnf Nonterminal → Ebnf Nonterminal
a ∣ b = alt a b

-- [ a ]
abbrev pub opt : Ebnf Nonterminal → Ebnf Nonterminal
opt a = alt a none

-- a token of the set
abbrev pub tok : List ℕ → Ebnf Nonterminal
tok cs = step silent cs none

-- a token of the set, which names the rule's next node (where a rule names none, its node is named by the rule's first token)
abbrev pub named : List ℕ → Ebnf Nonterminal
named cs = step here cs none

-- a token of the set, which leaves a node of the kind with nothing below it
abbrev pub leaves : List ℕ → ℕ → Ebnf Nonterminal
leaves cs k = step (leaf k 0) cs none

-- here the rule leaves a node of the kind, over the nodes that it has left so far
abbrev pub row : ℕ → Ebnf Nonterminal
row k = mark (node k 0)

-- c d a | b, where b too may begin with c: the second token tells. The rule's next node is named by c.
abbrev pub ahead : List ℕ → List ℕ → Ebnf Nonterminal → Ebnf Nonterminal → Ebnf Nonterminal
ahead c d a b = fork here c d a b

-- a name, with the role that its rule gives it (G35)
abbrev pub name : ℕ → Ebnf Nonterminal
name role = step (leaf kind.name role) identifier none

-- a rule of a WHERE, labelled or not (G35)
abbrev pub rule_row : ℕ → Ebnf Nonterminal
rule_row role = mark (node kind.rule role)

-- ( id { , id } )
abbrev pub ids : Ebnf Nonterminal → Ebnf Nonterminal
ids id = tok lparen · id · star (tok comma · id) · tok rparen

-- ---- sets of terminals

-- G7, 289 simple_types: without width
abbrev pub simple_types : List ℕ
simple_types = BINARY ++ BOOLEAN ++ INTEGER ++ LOGICAL ++ NUMBER ++ REAL ++ STRING

-- G15, 268 rel_op
abbrev pub relations : List ℕ
relations = less ++ greater ++ less_equal ++ greater_equal ++ unequal ++ equal ++ instance_unequal ++ instance_equal

-- G16, 158 add_like_op
abbrev pub additions : List ℕ
additions = plus ++ minus ++ OR ++ XOR

-- G17, 244 multiplication_like_op: without `||`
abbrev pub multiplications : List ℕ
multiplications = times ++ slash ++ DIV ++ MOD ++ AND

-- G19, 308 unary_op
abbrev pub signs : List ℕ
signs = plus ++ minus ++ NOT

-- G21, 233 interval_op
abbrev pub comparisons : List ℕ
comparisons = less ++ less_equal

-- G20, 242 logical_literal
abbrev pub logicals : List ℕ
logicals = TRUE ++ FALSE ++ UNKNOWN

-- G20: the literals and constants that are never evaluated (K10)
abbrev pub others : List ℕ
others = real ++ string ++ PI ++ CONST_E

-- ---- the rules

abbrev pub rules : Nonterminal → Ebnf Nonterminal
-- G3, 302 syntax
rules file = nt schema · star (nt schema) · row kind.file
-- G4, 281 schema_decl, 280 schema_body
rules schema =
    tok SCHEMA · named identifier · tok semicolon · opt (nt constants) · star (nt type_declaration ∣ nt entity) · tok END_SCHEMA · tok semicolon
    · row kind.schema
-- G5, 185 constant_decl
rules constants = tok CONSTANT · nt constant · star (nt constant) · tok END_CONSTANT · tok semicolon
-- G6, 184 constant_body
rules constant = named identifier · tok colon · nt base · tok becomes · nt expression · tok semicolon · row kind.constant
-- G7, 171 base_type: a simple type, or the name of a type
rules base = leaves simple_types kind.simple_type ∣ name kind.type_name
-- G8, 304 type_decl
rules type_declaration =
    tok TYPE · named identifier · tok equal · nt underlying · tok semicolon · opt (nt where_clause) · tok END_TYPE · tok semicolon · row kind.type
-- G9, 309 underlying_type, 201 enumeration_type, 284 select_type
rules underlying =
    leaves simple_types kind.simple_type
    ∣ name kind.renamed_type
    ∣ named ENUMERATION · tok OF · ids (leaves identifier kind.enumeration_item) · row kind.enumeration
    ∣ named SELECT · ids (name kind.select_name) · row kind.select
-- G10, 315 where_clause
rules where_clause = tok WHERE · nt domain_rule · star (nt domain_rule)
-- G11, G24, 192 domain_rule: labelled exactly when the second token is `:`
rules domain_rule =
    ahead identifier colon (nt expression · tok semicolon · rule_row kind.labelled) (nt expression · tok semicolon · rule_row kind.unlabelled)
-- G12, 196 entity_decl, 197 entity_head, 194 entity_body, 296 subtype_declaration, 191 derive_clause
rules entity =
    tok ENTITY · named identifier · opt (tok SUBTYPE · tok OF · ids (name kind.supertype_name)) · tok semicolon · star (nt attributes)
    · opt (tok DERIVE · nt derived · star (nt derived)) · opt (nt where_clause) · tok END_ENTITY · tok semicolon · row kind.entity
-- G13, 203 explicit_attr
rules attributes =
    leaves identifier kind.attribute_name · star (tok comma · leaves identifier kind.attribute_name) · tok colon
    · (tok OPTIONAL · nt base · tok semicolon · row kind.optional_group ∣ nt base · tok semicolon · row kind.attribute_group)
-- G14, 190 derived_attr
rules derived = named identifier · tok colon · nt base · tok becomes · nt expression · tok semicolon · row kind.derived_attribute
-- G15, 204 expression
rules expression = nt sum · opt (named relations · nt sum · row kind.two_operand)
-- G16, G22, 287 simple_expression: operators of one level group to the left
rules sum = nt term · star (named additions · nt term · row kind.two_operand)
-- G17, 303 term
rules term = nt factor · star (named multiplications · nt factor · row kind.two_operand)
-- G18, G22, 206 factor (205 in annex A): a sign belongs to its operand
rules factor = nt operand · opt (named power · nt operand · row kind.two_operand)
-- G19, G25, 288 simple_factor, 200 enumeration_reference: a sign or NOT goes with an atom alone
rules operand =
    ahead identifier dot (leaves identifier kind.qualified_item) (nt interval ∣ named signs · nt atom · row kind.unary ∣ nt atom)
-- G20, G33, 288 simple_factor, 256 primary: of parentheses nothing is left
rules atom =
    tok lparen · nt expression · tok rparen
    ∣ leaves integer kind.integer_literal
    ∣ leaves binary kind.binary_literal
    ∣ leaves logicals kind.logical_literal
    ∣ leaves question kind.question
    ∣ leaves others kind.other_literal
    ∣ name kind.in_expression
    ∣ leaves SELF kind.self
-- G21, 229 interval: three sums and the two comparisons between them
rules interval =
    named lbrace · nt sum · leaves comparisons kind.interval_operator · nt sum · leaves comparisons kind.interval_operator · nt sum · tok rbrace · row kind.interval
