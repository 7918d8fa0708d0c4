-- The terminals (T20): each has a code, and 0 is no terminal. Those that the grammar uses have names, each the set of one code.
use Rattle.std.specs.Prelude.{List, [], ◌∷◌, map, ℕ, suc, cond, eqb, get_or}
use Prim.Native.Char.{code}
use Prim.Native.String.{String, [] as none, ◌∷◌ as ◌then◌}
use Rattle.express.specs.Tokens.Bytes.{token_bytes, upper, within, same}

-- the bytes of a text
abbrev pub bytes : String → List ℕ
bytes none = []
bytes (c then s) = code c ∷ bytes s

-- a terminal that has one spelling
pub record Fixed : Type 0 where
  pub spelling : List ℕ
  pub code : ℕ

-- spellings with their codes, which count from k
abbrev pub numbered : ℕ → List String → List Fixed
numbered k [] = []
numbered k (w ∷ ws) = record { spelling = bytes w; code = k } ∷ numbered (suc k) ws

-- the symbols (T15); their codes are 6 to 34
abbrev pub symbols : List Fixed
symbols =
    numbered 6 (
    "?" ∷ "." ∷ "," ∷ ";" ∷ ":" ∷ "*" ∷ "+" ∷ "-" ∷ "=" ∷ "\\" ∷ "/" ∷ "<" ∷ ">" ∷ "[" ∷ "]" ∷ "{" ∷ "}" ∷ "|" ∷ "(" ∷ ")" ∷ "<=" ∷ "<>" ∷
    ">=" ∷ "<*" ∷ ":=" ∷ "||" ∷ "**" ∷ ":=:" ∷ ":<>:" ∷ [])

-- the reserved words (T9), in upper case; their codes are 35 to 153
abbrev pub reserved : List Fixed
reserved =
    numbered 35 (
    "ABS" ∷ "ABSTRACT" ∷ "ACOS" ∷ "AGGREGATE" ∷ "ALIAS" ∷ "AND" ∷ "ANDOR" ∷ "ARRAY" ∷ "AS" ∷ "ASIN" ∷ "ATAN" ∷ "BAG" ∷ "BEGIN" ∷ "BINARY" ∷
    "BLENGTH" ∷ "BOOLEAN" ∷ "BY" ∷ "CASE" ∷ "CONSTANT" ∷ "CONST_E" ∷ "CONTEXT" ∷ "COS" ∷ "DERIVE" ∷ "DIV" ∷ "ELSE" ∷ "END" ∷ "END_ALIAS" ∷
    "END_CASE" ∷ "END_CONSTANT" ∷ "END_CONTEXT" ∷ "END_ENTITY" ∷ "END_FUNCTION" ∷ "END_IF" ∷ "END_LOCAL" ∷ "END_MODEL" ∷ "END_PROCEDURE" ∷
    "END_REPEAT" ∷ "END_RULE" ∷ "END_SCHEMA" ∷ "END_TYPE" ∷ "ENTITY" ∷ "ENUMERATION" ∷ "ESCAPE" ∷ "EXISTS" ∷ "EXP" ∷ "FALSE" ∷ "FIXED" ∷
    "FOR" ∷ "FORMAT" ∷ "FROM" ∷ "FUNCTION" ∷ "GENERIC" ∷ "HIBOUND" ∷ "HIINDEX" ∷ "IF" ∷ "IN" ∷ "INSERT" ∷ "INTEGER" ∷ "INVERSE" ∷ "LENGTH" ∷
    "LIKE" ∷ "LIST" ∷ "LOBOUND" ∷ "LOCAL" ∷ "LOG" ∷ "LOG10" ∷ "LOG2" ∷ "LOGICAL" ∷ "LOINDEX" ∷ "MOD" ∷ "MODEL" ∷ "NOT" ∷ "NUMBER" ∷ "NVL" ∷
    "ODD" ∷ "OF" ∷ "ONEOF" ∷ "OPTIONAL" ∷ "OR" ∷ "OTHERWISE" ∷ "PI" ∷ "PROCEDURE" ∷ "QUERY" ∷ "REAL" ∷ "REFERENCE" ∷ "REMOVE" ∷ "REPEAT" ∷
    "RETURN" ∷ "ROLESOF" ∷ "RULE" ∷ "SCHEMA" ∷ "SELECT" ∷ "SELF" ∷ "SET" ∷ "SIN" ∷ "SIZEOF" ∷ "SKIP" ∷ "SQRT" ∷ "STRING" ∷ "SUBTYPE" ∷
    "SUPERTYPE" ∷ "TAN" ∷ "THEN" ∷ "TO" ∷ "TRUE" ∷ "TYPE" ∷ "TYPEOF" ∷ "UNIQUE" ∷ "UNKNOWN" ∷ "UNTIL" ∷ "USE" ∷ "USEDIN" ∷ "VALUE" ∷
    "VALUE_IN" ∷ "VALUE_UNIQUE" ∷ "VAR" ∷ "WHERE" ∷ "WHILE" ∷ "XOR" ∷ [])

-- ---- names

-- the code in a set of one
abbrev pub the : List ℕ → ℕ
the set = get_or set 0 0

-- T20: a word that is not reserved, and the literals, whose codes are the kinds of their tokens
abbrev pub identifier : List ℕ
identifier = 1 ∷ []

abbrev pub integer : List ℕ
integer = 2 ∷ []

abbrev pub real : List ℕ
real = 3 ∷ []

abbrev pub string : List ℕ
string = 4 ∷ []

abbrev pub binary : List ℕ
binary = 5 ∷ []

-- symbols and reserved words: `names_are` of proofs/tokens/Terminal holds each name to its spelling
abbrev pub question : List ℕ
question = 6 ∷ []

abbrev pub dot : List ℕ
dot = 7 ∷ []

abbrev pub comma : List ℕ
comma = 8 ∷ []

abbrev pub semicolon : List ℕ
semicolon = 9 ∷ []

abbrev pub colon : List ℕ
colon = 10 ∷ []

abbrev pub times : List ℕ
times = 11 ∷ []

abbrev pub plus : List ℕ
plus = 12 ∷ []

abbrev pub minus : List ℕ
minus = 13 ∷ []

abbrev pub equal : List ℕ
equal = 14 ∷ []

abbrev pub slash : List ℕ
slash = 16 ∷ []

abbrev pub less : List ℕ
less = 17 ∷ []

abbrev pub greater : List ℕ
greater = 18 ∷ []

abbrev pub lbrace : List ℕ
lbrace = 21 ∷ []

abbrev pub rbrace : List ℕ
rbrace = 22 ∷ []

abbrev pub lparen : List ℕ
lparen = 24 ∷ []

abbrev pub rparen : List ℕ
rparen = 25 ∷ []

abbrev pub less_equal : List ℕ
less_equal = 26 ∷ []

abbrev pub unequal : List ℕ
unequal = 27 ∷ []

abbrev pub greater_equal : List ℕ
greater_equal = 28 ∷ []

abbrev pub becomes : List ℕ
becomes = 30 ∷ []

abbrev pub power : List ℕ
power = 32 ∷ []

abbrev pub instance_equal : List ℕ
instance_equal = 33 ∷ []

abbrev pub instance_unequal : List ℕ
instance_unequal = 34 ∷ []

abbrev pub AND : List ℕ
AND = 40 ∷ []

abbrev pub BINARY : List ℕ
BINARY = 48 ∷ []

abbrev pub BOOLEAN : List ℕ
BOOLEAN = 50 ∷ []

abbrev pub CONSTANT : List ℕ
CONSTANT = 53 ∷ []

abbrev pub CONST_E : List ℕ
CONST_E = 54 ∷ []

abbrev pub DERIVE : List ℕ
DERIVE = 57 ∷ []

abbrev pub DIV : List ℕ
DIV = 58 ∷ []

abbrev pub END_CONSTANT : List ℕ
END_CONSTANT = 63 ∷ []

abbrev pub END_ENTITY : List ℕ
END_ENTITY = 65 ∷ []

abbrev pub END_SCHEMA : List ℕ
END_SCHEMA = 73 ∷ []

abbrev pub END_TYPE : List ℕ
END_TYPE = 74 ∷ []

abbrev pub ENTITY : List ℕ
ENTITY = 75 ∷ []

abbrev pub ENUMERATION : List ℕ
ENUMERATION = 76 ∷ []

abbrev pub FALSE : List ℕ
FALSE = 80 ∷ []

abbrev pub INTEGER : List ℕ
INTEGER = 92 ∷ []

abbrev pub LOGICAL : List ℕ
LOGICAL = 102 ∷ []

abbrev pub MOD : List ℕ
MOD = 104 ∷ []

abbrev pub NOT : List ℕ
NOT = 106 ∷ []

abbrev pub NUMBER : List ℕ
NUMBER = 107 ∷ []

abbrev pub OF : List ℕ
OF = 110 ∷ []

abbrev pub OPTIONAL : List ℕ
OPTIONAL = 112 ∷ []

abbrev pub OR : List ℕ
OR = 113 ∷ []

abbrev pub PI : List ℕ
PI = 115 ∷ []

abbrev pub REAL : List ℕ
REAL = 118 ∷ []

abbrev pub SCHEMA : List ℕ
SCHEMA = 125 ∷ []

abbrev pub SELECT : List ℕ
SELECT = 126 ∷ []

abbrev pub SELF : List ℕ
SELF = 127 ∷ []

abbrev pub STRING : List ℕ
STRING = 133 ∷ []

abbrev pub SUBTYPE : List ℕ
SUBTYPE = 134 ∷ []

abbrev pub TRUE : List ℕ
TRUE = 139 ∷ []

abbrev pub TYPE : List ℕ
TYPE = 140 ∷ []

abbrev pub UNKNOWN : List ℕ
UNKNOWN = 143 ∷ []

abbrev pub WHERE : List ℕ
WHERE = 151 ∷ []

abbrev pub XOR : List ℕ
XOR = 153 ∷ []

-- ---- the terminal of a token

-- the code of a spelling in a table, or else `other`
unfoldable pub among : List Fixed → List ℕ → ℕ → ℕ
among [] s other = other
among (f ∷ fs) s other = let more = among fs s other in cond (same f.spelling s) f.code more

-- a word that is no reserved one, letters without case, is an identifier
abbrev pub word_terminal : List ℕ → ℕ
word_terminal s = among reserved (map upper s) (the identifier)

abbrev pub symbol_terminal : List ℕ → ℕ
symbol_terminal s = among symbols s 0

-- T20: the terminal of a token, by its kind (T18) and its spelling
unfoldable pub terminal_of : ℕ → List ℕ → ℕ
terminal_of kind s =
    cond (eqb kind 1) (word_terminal s)
    (cond (eqb kind 6) (symbol_terminal s)
    (cond (within 2 5 kind) kind 0))

-- the terminal of each token of a table (R9): of a kind, from a start on, so many bytes
unfoldable pub terminals : List ℕ → List ℕ → List ℕ → List ℕ → List ℕ
terminals text [] starts sizes = []
terminals text (k ∷ ks) [] sizes = []
terminals text (k ∷ ks) (p ∷ ps) [] = []
terminals text (k ∷ ks) (p ∷ ps) (n ∷ ns) = terminal_of k (token_bytes text p n) ∷ terminals text ks ps ns
