-- The lookahead tables of the grammar. Nothing here has to be believed: proofs/syntax/Syntax holds them to the rules by computation.
use Rattle.std.specs.Prelude.{List, [], ◌++◌, ℕ}
use Rattle.ebnf.specs.Parse.{Tables}
use Rattle.express.specs.Tokens.Terminal.{identifier, integer, binary, question, dot, comma, semicolon, colon, lbrace, lparen, power, CONSTANT, ENTITY, ENUMERATION, OF}
use Rattle.express.specs.Tokens.Terminal.{SCHEMA, SELECT, SELF, TYPE, WHERE}
use Rattle.express.specs.Syntax.Grammar.{Nonterminal, file, schema, constants, constant, base, type_declaration, underlying, where_clause, domain_rule, entity, attributes}
use Rattle.express.specs.Syntax.Grammar.{derived, expression, sum, term, factor, operand, atom, interval, simple_types, relations, additions, multiplications, signs}
use Rattle.express.specs.Syntax.Grammar.{logicals, others}

-- an expression in parentheses or a primary; an operand; and so a factor, a term, a sum and an expression
abbrev pub atom_begins : List ℕ
atom_begins = lparen ++ integer ++ binary ++ logicals ++ question ++ others ++ identifier ++ SELF

abbrev pub operand_begins : List ℕ
operand_begins = identifier ++ lbrace ++ signs ++ atom_begins

abbrev begins : Nonterminal → List ℕ
begins file = SCHEMA
begins schema = SCHEMA
begins constants = CONSTANT
begins constant = identifier
begins base = simple_types ++ identifier
begins type_declaration = TYPE
begins underlying = simple_types ++ identifier ++ ENUMERATION ++ SELECT
begins where_clause = WHERE
begins domain_rule = operand_begins
begins entity = ENTITY
begins attributes = identifier
begins derived = identifier
begins expression = operand_begins
begins sum = operand_begins
begins term = operand_begins
begins factor = operand_begins
begins operand = operand_begins
begins atom = atom_begins
begins interval = lbrace

abbrev goes_on : Nonterminal → List ℕ
goes_on file = SCHEMA
goes_on schema = []
goes_on constants = []
goes_on constant = []
goes_on base = []
goes_on type_declaration = []
goes_on underlying = []
goes_on where_clause = colon ++ operand_begins
goes_on domain_rule = colon
goes_on entity = []
goes_on attributes = []
goes_on derived = []
goes_on expression = relations ++ additions ++ multiplications ++ power ++ dot
goes_on sum = additions ++ multiplications ++ power ++ dot
goes_on term = multiplications ++ power ++ dot
goes_on factor = power ++ dot
goes_on operand = dot
goes_on atom = []
goes_on interval = []

abbrev operand_seconds : List ℕ
operand_seconds = dot ++ operand_begins

abbrev seconds : Nonterminal → List ℕ
seconds file = identifier ++ SCHEMA
seconds schema = identifier
seconds constants = identifier
seconds constant = colon
seconds base = []
seconds type_declaration = identifier
seconds underlying = OF ++ lparen
seconds where_clause = operand_begins
seconds domain_rule = colon ++ semicolon ++ relations ++ additions ++ multiplications ++ power ++ operand_seconds
seconds entity = identifier
seconds attributes = comma ++ colon
seconds derived = colon
seconds expression = relations ++ additions ++ multiplications ++ power ++ operand_seconds
seconds sum = additions ++ multiplications ++ power ++ operand_seconds
seconds term = multiplications ++ power ++ operand_seconds
seconds factor = power ++ operand_seconds
seconds operand = operand_seconds
seconds atom = operand_begins
seconds interval = operand_begins

abbrev depth : Nonterminal → ℕ
depth file = 5
depth schema = 3
depth constants = 3
depth constant = 3
depth base = 3
depth type_declaration = 3
depth underlying = 6
depth where_clause = 3
depth domain_rule = 24
depth entity = 3
depth attributes = 3
depth derived = 3
depth expression = 21
depth sum = 19
depth term = 17
depth factor = 15
depth operand = 13
depth atom = 9
depth interval = 3

abbrev pub tables : Tables Nonterminal
tables = record { begins = begins; goes_on = goes_on; seconds = seconds; depth = depth; bound = 25 }
