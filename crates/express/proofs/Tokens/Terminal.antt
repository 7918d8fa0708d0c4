-- The names of terminals are right: each symbol and reserved word that has a name is spelled so. By computation.
use mathlib.Core.Path.{◌≡◌, refl}
use mathlib.Core.List.{[], ◌∷◌, map}
use Rattle.express.specs.Tokens.Bytes.{upper, same}
use Rattle.express.specs.Tokens.Terminal.{bytes, the, among, word_terminal, symbol_terminal, question, dot, comma, semicolon, colon, times, plus, minus, equal, slash, less, greater}
use Rattle.express.specs.Tokens.Terminal.{lbrace, rbrace, lparen, rparen, less_equal, unequal, greater_equal, becomes, power, instance_equal, instance_unequal, AND, BINARY, BOOLEAN}
use Rattle.express.specs.Tokens.Terminal.{CONSTANT, CONST_E, DERIVE, DIV, END_CONSTANT, END_ENTITY, END_SCHEMA, END_TYPE, ENTITY, ENUMERATION, FALSE, INTEGER, LOGICAL, MOD, NOT}
use Rattle.express.specs.Tokens.Terminal.{NUMBER, OF, OPTIONAL, OR, PI, REAL, SCHEMA, SELECT, SELF, STRING, SUBTYPE, TRUE, TYPE, UNKNOWN, WHERE, XOR}

pub names_are :
    (map (λ s. symbol_terminal (bytes s)) (
    "?" ∷ "." ∷ "," ∷ ";" ∷ ":" ∷ "*" ∷ "+" ∷ "-" ∷ "=" ∷ "/" ∷ "<" ∷ ">" ∷ "{" ∷ "}" ∷ "(" ∷ ")" ∷ "<=" ∷ "<>" ∷ ">=" ∷ ":=" ∷ "**" ∷ ":=:" ∷ ":<>:" ∷ []) ≡
    map the (
    question ∷ dot ∷ comma ∷ semicolon ∷ colon ∷ times ∷ plus ∷ minus ∷ equal ∷ slash ∷ less ∷ greater ∷ lbrace ∷ rbrace ∷ lparen ∷ rparen ∷ less_equal ∷
    unequal ∷ greater_equal ∷ becomes ∷ power ∷ instance_equal ∷ instance_unequal ∷ [])) ×
    (map (λ s. word_terminal (bytes s)) (
    "AND" ∷ "BINARY" ∷ "BOOLEAN" ∷ "CONSTANT" ∷ "CONST_E" ∷ "DERIVE" ∷ "DIV" ∷ "END_CONSTANT" ∷ "END_ENTITY" ∷ "END_SCHEMA" ∷ "END_TYPE" ∷ "ENTITY" ∷
    "ENUMERATION" ∷ "FALSE" ∷ "INTEGER" ∷ "LOGICAL" ∷ "MOD" ∷ "NOT" ∷ "NUMBER" ∷ "OF" ∷ "OPTIONAL" ∷ "OR" ∷ "PI" ∷ "REAL" ∷ "SCHEMA" ∷ "SELECT" ∷
    "SELF" ∷ "STRING" ∷ "SUBTYPE" ∷ "TRUE" ∷ "TYPE" ∷ "UNKNOWN" ∷ "WHERE" ∷ "XOR" ∷ []) ≡
    map the (
    AND ∷ BINARY ∷ BOOLEAN ∷ CONSTANT ∷ CONST_E ∷ DERIVE ∷ DIV ∷ END_CONSTANT ∷ END_ENTITY ∷ END_SCHEMA ∷ END_TYPE ∷ ENTITY ∷ ENUMERATION ∷ FALSE ∷
    INTEGER ∷ LOGICAL ∷ MOD ∷ NOT ∷ NUMBER ∷ OF ∷ OPTIONAL ∷ OR ∷ PI ∷ REAL ∷ SCHEMA ∷ SELECT ∷ SELF ∷ STRING ∷ SUBTYPE ∷ TRUE ∷ TYPE ∷ UNKNOWN ∷ WHERE ∷
    XOR ∷ []))
unfolding among same upper
names_are = (refl, refl)
