-- Small texts, and what the parse says of them.
use mathlib.Core.List.{List, [], ◌∷◌, ◌++◌}
use mathlib.Core.Path.{◌≡◌, refl}
use Prim.Native.Nat.{ℕ, zero, suc}
use Rattle.ebnf.specs.Set.{mem}
use Rattle.ebnf.specs.Rows.{Row}
use Rattle.ebnf.specs.Parse.{descend, budget, parse}
use Rattle.ebnf.specs.Depth.{first_deep, good, unexpected, too_deep}
use Rattle.express.specs.Tokens.Terminal.{identifier, integer, question, dot, comma, semicolon, colon, minus, equal, less, greater, lbrace, rbrace, lparen, rparen, less_equal, unequal}
use Rattle.express.specs.Tokens.Terminal.{becomes, power, CONSTANT, DERIVE, END_CONSTANT, END_ENTITY, END_SCHEMA, ENTITY, INTEGER, OPTIONAL, REAL, SCHEMA, SELF, WHERE}
use Rattle.express.specs.Syntax.Grammar.{file, expression}
use Rattle.express.specs.Syntax.Syntax.{whole, parsed}

-- SCHEMA s; CONSTANT c : INTEGER := e; END_CONSTANT; END_SCHEMA;     (e begins at token 8)
abbrev with_constant : List ℕ → List ℕ
with_constant e =
    SCHEMA ++ identifier ++ semicolon ++ CONSTANT ++ identifier ++ colon ++ INTEGER ++ becomes ++ e ++ semicolon ++ END_CONSTANT ++ semicolon
    ++ END_SCHEMA ++ semicolon

-- a row without a role, and one with it
abbrev row : ℕ → ℕ → ℕ → Row
row k t n = record { kind = k; token = t; size = n; role = 0 }

abbrev row' : ℕ → ℕ → ℕ → ℕ → Row
row' k t n o = record { kind = k; token = t; size = n; role = o }

-- -10 ** 2: the sign binds closer
minus_ten_squared : parsed file (with_constant (minus ++ integer ++ power ++ integer)) ≡
    good (whole (row 13 6 1 ∷ row 1 9 1 ∷ row 9 8 2 ∷ row 1 11 1 ∷ row 10 10 4 ∷ row 17 4 6 ∷ row 25 1 7 ∷ row 26 0 8 ∷ []))
unfolding parsed first_deep parse descend mem budget
minus_ten_squared = refl

-- 1 < 2 < 3: refused at the second `<`
no_chain : parsed file (with_constant (integer ++ less ++ integer ++ less ++ integer)) ≡ unexpected 11
unfolding parsed first_deep parse descend mem budget
no_chain = refl

-- 2 ** 3 ** 2: refused at the second `**`
no_tower : parsed expression (integer ++ power ++ integer ++ power ++ integer) ≡ unexpected 3
unfolding parsed first_deep parse descend mem budget
no_tower = refl

-- colour.red = c, as one expression
an_item : parsed expression (identifier ++ dot ++ identifier ++ equal ++ identifier) ≡ good (whole (row 7 2 1 ∷ row' 6 4 1 1 ∷ row 10 3 3 ∷ []))
unfolding parsed first_deep parse descend mem budget
an_item = refl

-- -colour.red: refused at the dot
no_sign : parsed file (with_constant (minus ++ identifier ++ dot ++ identifier)) ≡ unexpected 10
unfolding parsed first_deep parse descend mem budget
no_sign = refl

-- { 0 <= x < 9 }
an_interval : parsed file (with_constant (lbrace ++ integer ++ less_equal ++ identifier ++ less ++ integer ++ rbrace)) ≡
    good
    (whole
    (row 13 6 1 ∷ row 1 9 1 ∷ row 12 10 1 ∷ row' 6 11 1 1 ∷ row 12 12 1 ∷ row 1 13 1 ∷ row 11 8 6 ∷ row 17 4 8 ∷ row 25 1 9 ∷ row 26 0 10 ∷ []))
unfolding parsed first_deep parse descend mem budget
an_interval = refl

-- SCHEMA s; ENTITY e; a, b : OPTIONAL REAL; DERIVE d : t := a; WHERE w : d > 0; SELF <> ?; END_ENTITY; END_SCHEMA;
an_entity : parsed file
    (SCHEMA ++ identifier ++ semicolon ++ ENTITY ++ identifier ++ semicolon
    ++ identifier ++ comma ++ identifier ++ colon ++ OPTIONAL ++ REAL ++ semicolon
    ++ DERIVE ++ identifier ++ colon ++ identifier ++ becomes ++ identifier ++ semicolon
    ++ WHERE ++ identifier ++ colon ++ identifier ++ greater ++ integer ++ semicolon ++ SELF ++ unequal ++ question ++ semicolon
    ++ END_ENTITY ++ semicolon ++ END_SCHEMA ++ semicolon) ≡
    good
    (whole
    (row 19 6 1 ∷ row 19 8 1 ∷ row 13 11 1 ∷ row 21 6 4
    ∷ row' 6 16 1 2 ∷ row' 6 18 1 1 ∷ row 22 14 3
    ∷ row' 6 23 1 1 ∷ row 1 25 1 ∷ row 10 24 3 ∷ row' 23 21 4 1
    ∷ row 8 27 1 ∷ row 4 29 1 ∷ row 10 28 3 ∷ row' 23 27 4 2
    ∷ row 24 4 16 ∷ row 25 1 17 ∷ row 26 0 18 ∷ []))
unfolding parsed first_deep parse descend mem budget
an_entity = refl

-- empty input stops early
empty_input : parsed file [] ≡ unexpected 0
unfolding parsed first_deep parse descend mem budget
empty_input = refl

-- an expression that begins with n parentheses: the 65th is too deep, and 4 comes before 5
abbrev parentheses : ℕ → List ℕ → List ℕ
parentheses zero l = l
parentheses (suc n) l = lparen ++ parentheses n l

sixty_five : parsed expression (parentheses 65 integer) ≡ too_deep 64
unfolding parsed first_deep parse descend mem budget
sixty_five = refl

sixty_four : parsed expression (parentheses 64 rparen) ≡ unexpected 64
unfolding parsed first_deep parse descend mem budget
sixty_four = refl
