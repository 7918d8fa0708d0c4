-- Files of tests/cases and what the program prints of them: each by its name there, the lengths of the three tables and of the room, its
-- lines, and the text after the last line feed, in parts.
use mathlib.Core.List.{List, [], ◌∷◌, ◌++◌, flat_map}
use Prim.Native.Nat.{ℕ}
use Prim.Native.String.{String}
use Rattle.express.specs.Tokens.Terminal.{bytes}
use Rattle.express.specs.Whole.Listing.{line}

pub record File : Type 0 where
  pub tokens : ℕ
  pub nodes : ℕ
  pub answers : ℕ
  pub room : ℕ
  pub text : List ℕ
  pub listing : List ℕ

abbrev pub lines : List String → List ℕ
lines ls = flat_map (λ l. line (bytes l)) ls

abbrev run : ℕ → ℕ → ℕ → ℕ → List String → List String → List String → File
run t n a r ls rest out = record { tokens = t; nodes = n; answers = a; room = r; text = lines ls ++ flat_map bytes rest; listing = lines out }

abbrev pub files : List File
files =
    -- listing-lathe
    run 8192 8192 1024 261120 ("SCHEMA Lathe;" ∷ "CONSTANT" ∷ "  travel : INTEGER := feed * 5;" ∷ "  feed : INTEGER := -9 DIV 2;" ∷
    "  near : LOGICAL := {1 < feed < 40} OR ?;" ∷ "  tool : BINARY := %01 + %110;" ∷ "END_CONSTANT;" ∷ "END_SCHEMA;" ∷ []) []
    ("accepted 4" ∷ "lathe.travel = -25" ∷ "lathe.feed = -5" ∷ "lathe.near = UNKNOWN" ∷ "lathe.tool = %01110" ∷ []) ∷
    -- table-exact-minimal
    run 5 2 0 0 [] ("SCHEMA s;END_SCHEMA;" ∷ [])
    ("accepted 0" ∷ []) ∷
    -- token-remark-nested
    run 8192 8192 1024 261120 [] ("SCHEMA s; (* a (* b *) END_SCHEMA (* c (* d *) *) *) END_SCHEMA;" ∷ [])
    ("accepted 0" ∷ []) ∷
    -- token-minus-minus
    run 8192 8192 1024 261120 ("SCHEMA s;" ∷ "CONSTANT" ∷ "  a : INTEGER := 5--3;" ∷ "  ;" ∷ "END_CONSTANT;" ∷ "END_SCHEMA;" ∷ []) []
    ("accepted 1" ∷ "s.a = 5" ∷ []) ∷
    -- item-plain
    run 8192 8192 1024 261120 ("SCHEMA s;" ∷ "CONSTANT" ∷ "  a : t := j;" ∷ "END_CONSTANT;" ∷ "TYPE t = ENUMERATION OF (i, j);" ∷ "END_TYPE;" ∷ "END_SCHEMA;" ∷ []) []
    ("accepted 1" ∷ "s.a = j" ∷ []) ∷
    -- item-hidden-by-constant
    run 8192 8192 1024 261120 ("SCHEMA s;" ∷ "CONSTANT" ∷ "  i : INTEGER := 5;" ∷ "  a : INTEGER := i + 1;" ∷ "END_CONSTANT;" ∷
    "TYPE t = ENUMERATION OF (i, j);" ∷ "END_TYPE;" ∷ "END_SCHEMA;" ∷ []) []
    ("accepted 2" ∷ "s.i = 5" ∷ "s.a = 6" ∷ []) ∷
    -- value-not-the-first-only
    run 8192 8192 1024 261120 ("SCHEMA s;" ∷ "CONSTANT" ∷ "  a : INTEGER := 1;" ∷ "  b : INTEGER := 2;" ∷ "  c : LOGICAL := FALSE;" ∷
    "  d : BINARY := %0;" ∷ "END_CONSTANT;" ∷ "END_SCHEMA;" ∷ []) []
    ("accepted 4" ∷ "s.a = 1" ∷ "s.b = 2" ∷ "s.c = FALSE" ∷ "s.d = %0" ∷ []) ∷
    -- cycle-not-constant-shared
    run 8192 8192 1024 261120 ("SCHEMA s;" ∷ "CONSTANT" ∷ "  a : INTEGER := b + c;" ∷ "  b : INTEGER := d;" ∷ "  c : INTEGER := d + d;" ∷
    "  d : INTEGER := 2;" ∷ "END_CONSTANT;" ∷ "END_SCHEMA;" ∷ []) []
    ("accepted 4" ∷ "s.a = 6" ∷ "s.b = 2" ∷ "s.c = 4" ∷ "s.d = 2" ∷ []) ∷
    -- order-2-before-6
    run 0 0 0 0 [] ("SCHEMA s;END_SCHEMA;@" ∷ [])
    ("refused 2 at 20" ∷ []) ∷
    -- token-integer-over
    run 8192 8192 1024 261120 ("SCHEMA s;" ∷ "CONSTANT" ∷ "  a : INTEGER := 9223372036854775808;" ∷ "END_CONSTANT;" ∷ "END_SCHEMA;" ∷ []) []
    ("refused 3 at 36" ∷ []) ∷
    -- order-3-before-2-in-text
    run 8192 8192 1024 261120 ("SCHEMA s;" ∷ "99999999999999999999 @END_SCHEMA;" ∷ []) []
    ("refused 3 at 10" ∷ []) ∷
    -- token-empty-input
    run 8192 8192 1024 261120 [] []
    ("refused 4 at 0" ∷ []) ∷
    -- syntax-stop-semicolon
    run 8192 8192 1024 261120 ("SCHEMA s;" ∷ []) ("END_SCHEMA" ∷ [])
    ("refused 4 at 20" ∷ []) ∷
    -- order-4-before-7
    run 6 0 0 0 ("SCHEMA s;" ∷ "END_SCHEMA;" ∷ []) (";" ∷ [])
    ("refused 4 at 22" ∷ []) ∷
    -- open-65-unclosed
    run 8192 8192 1024 261120 [] ("SCHEMA s; CONSTANT a : INTEGER := (((((((((((((((((((((((((((((((((((((((((((((((((((((((((((((((((" ∷ [])
    ("refused 5 at 98" ∷ []) ∷
    -- table-token-short
    run 4 2 0 0 [] ("SCHEMA s;END_SCHEMA;" ∷ [])
    ("refused 6 at 5" ∷ []) ∷
    -- table-node-short
    run 5 1 0 0 [] ("SCHEMA s;END_SCHEMA;" ∷ [])
    ("refused 7 at 2" ∷ []) ∷
    -- table-constant-answer-zero
    run 14 5 0 0 ("SCHEMA s; CONSTANT c : INTEGER := 1; END_CONSTANT; END_SCHEMA;" ∷ []) []
    ("refused 8 at 1" ∷ []) ∷
    -- twice-schema-case
    run 8192 8192 1024 261120 ("SCHEMA abc;" ∷ "END_SCHEMA;" ∷ "SCHEMA d;" ∷ "END_SCHEMA;" ∷ "SCHEMA aBC;" ∷ "END_SCHEMA;" ∷ []) []
    ("refused 9 at 53" ∷ []) ∷
    -- twice-item
    run 8192 8192 1024 261120 ("SCHEMA s;" ∷ "TYPE t = ENUMERATION OF (i, j, I);" ∷ "END_TYPE;" ∷ "END_SCHEMA;" ∷ []) []
    ("refused 9 at 41" ∷ []) ∷
    -- order-10-before-11-expressions
    run 8192 8192 1024 261120 ("SCHEMA s;" ∷ "CONSTANT" ∷ "  a : INTEGER := none + SELF;" ∷ "END_CONSTANT;" ∷ "END_SCHEMA;" ∷ []) []
    ("refused 10 at 36" ∷ []) ∷
    -- type-not-found-supertype
    run 8192 8192 1024 261120 ("SCHEMA s;" ∷ "ENTITY e SUBTYPE OF (none);" ∷ "END_ENTITY;" ∷ "END_SCHEMA;" ∷ []) []
    ("refused 10 at 31" ∷ []) ∷
    -- where-label
    run 8192 8192 1024 261120 ("SCHEMA s;" ∷ "TYPE r = INTEGER;" ∷ "WHERE" ∷ "  w : v;" ∷ "  v : TRUE;" ∷ "END_TYPE;" ∷ "END_SCHEMA;" ∷ []) []
    ("refused 11 at 40" ∷ []) ∷
    -- name-self-constant
    run 8192 8192 1024 261120 ("SCHEMA s;" ∷ "CONSTANT" ∷ "  a : INTEGER := 1 + SELF;" ∷ "END_CONSTANT;" ∷ "END_SCHEMA;" ∷ []) []
    ("refused 11 at 40" ∷ []) ∷
    -- item-two-enumerations
    run 8192 8192 1024 261120 ("SCHEMA s;" ∷ "CONSTANT" ∷ "  a : t := j;" ∷ "  b : t := i;" ∷ "END_CONSTANT;" ∷ "TYPE t = ENUMERATION OF (i, j);" ∷
    "END_TYPE;" ∷ "TYPE u = ENUMERATION OF (i, k);" ∷ "END_TYPE;" ∷ "END_SCHEMA;" ∷ []) []
    ("refused 12 at 44" ∷ []) ∷
    -- clash-attribute
    run 8192 8192 1024 261120 ("SCHEMA s;" ∷ "ENTITY a;" ∷ "  x : INTEGER;" ∷ "DERIVE" ∷ "  y : INTEGER := x;" ∷ "WHERE" ∷ "  w : TRUE;" ∷
    "END_ENTITY;" ∷ "ENTITY b SUBTYPE OF (a);" ∷ "  x : INTEGER;" ∷ "END_ENTITY;" ∷ "END_SCHEMA;" ∷ []) []
    ("refused 12 at 119" ∷ []) ∷
    -- cycle-renaming-lead-self
    run 8192 8192 1024 261120 ("SCHEMA s;" ∷ "TYPE a = b;" ∷ "END_TYPE;" ∷ "TYPE b = b;" ∷ "END_TYPE;" ∷ "END_SCHEMA;" ∷ []) []
    ("refused 13 at 37" ∷ []) ∷
    -- cycle-supertype-self
    run 8192 8192 1024 261120 ("SCHEMA s;" ∷ "ENTITY a SUBTYPE OF (a);" ∷ "END_ENTITY;" ∷ "END_SCHEMA;" ∷ []) []
    ("refused 13 at 17" ∷ []) ∷
    -- cycle-constant-lead-self
    run 8192 8192 1024 261120 ("SCHEMA s;" ∷ "CONSTANT" ∷ "  a : INTEGER := b;" ∷ "  b : INTEGER := b;" ∷ "END_CONSTANT;" ∷ "END_SCHEMA;" ∷ []) []
    ("refused 13 at 41" ∷ []) ∷
    -- kind-14-slash
    run 8192 8192 1024 261120 ("SCHEMA s;" ∷ "CONSTANT" ∷ "  a : INTEGER := 4 / 2;" ∷ "END_CONSTANT;" ∷ "END_SCHEMA;" ∷ []) []
    ("refused 14 at 38" ∷ []) ∷
    -- order-14-first-at-one-node
    run 8192 8192 1024 261120 ("SCHEMA s;" ∷ "CONSTANT" ∷ "  a : INTEGER := TRUE / 1;" ∷ "END_CONSTANT;" ∷ "END_SCHEMA;" ∷ []) []
    ("refused 14 at 41" ∷ []) ∷
    -- kind-15-minus-unknown-logical
    run 8192 8192 1024 261120 ("SCHEMA s;" ∷ "CONSTANT" ∷ "  a : LOGICAL := -?;" ∷ "END_CONSTANT;" ∷ "END_SCHEMA;" ∷ []) []
    ("refused 15 at 21" ∷ []) ∷
    -- order-14-before-15-nodes
    run 8192 8192 1024 261120 ("SCHEMA s;" ∷ "CONSTANT" ∷ "  a : REAL := 1.5;" ∷ "  b : INTEGER := TRUE;" ∷ "END_CONSTANT;" ∷ "END_SCHEMA;" ∷ []) []
    ("refused 14 at 25" ∷ []) ∷
    -- entity-diamond
    run 8192 8192 1024 261120 ("SCHEMA s;" ∷ "ENTITY top;" ∷ "  x : INTEGER;" ∷ "END_ENTITY;" ∷ "ENTITY left SUBTYPE OF (top);" ∷ "END_ENTITY;" ∷
    "ENTITY right SUBTYPE OF (top);" ∷ "END_ENTITY;" ∷ "ENTITY low SUBTYPE OF (left, right);" ∷ "WHERE" ∷ "  x = 1;" ∷ "END_ENTITY;" ∷ "END_SCHEMA;" ∷ []) []
    ("accepted 0" ∷ []) ∷
    -- entity-two-inherited
    run 8192 8192 1024 261120 ("SCHEMA s;" ∷ "ENTITY a;" ∷ "  x : INTEGER;" ∷ "END_ENTITY;" ∷ "ENTITY b;" ∷ "  x : INTEGER;" ∷ "END_ENTITY;" ∷
    "ENTITY c SUBTYPE OF (a, b);" ∷ "WHERE" ∷ "  x = 1;" ∷ "END_ENTITY;" ∷ "END_SCHEMA;" ∷ []) []
    ("refused 12 at 120" ∷ []) ∷
    -- item-hidden-by-type-item
    run 8192 8192 1024 261120 ("SCHEMA s;" ∷ "CONSTANT" ∷ "  i : INTEGER := 5;" ∷ "  a : t := t.i;" ∷ "  b : LOGICAL := t.i < j;" ∷ "END_CONSTANT;" ∷
    "TYPE t = ENUMERATION OF (i, j);" ∷ "END_TYPE;" ∷ "END_SCHEMA;" ∷ []) []
    ("accepted 3" ∷ "s.i = 5" ∷ "s.a = i" ∷ "s.b = TRUE" ∷ []) ∷
    -- listing-each-answer
    run 8192 8192 1024 261120 ("SCHEMA s;" ∷ "CONSTANT" ∷ "  a : INTEGER := -5;" ∷ "  b : LOGICAL := TRUE;" ∷ "  c : LOGICAL := FALSE;" ∷
    "  d : LOGICAL := UNKNOWN;" ∷ "  e : BINARY := %0;" ∷ "  f : col := blue;" ∷ "  g : INTEGER := ?;" ∷ "  h : INTEGER := 2 ** 63;" ∷
    "  i : INTEGER := 1 DIV 0;" ∷ "  j : INTEGER := 1 ** -1;" ∷ "  k : BOOLEAN := UNKNOWN;" ∷ "END_CONSTANT;" ∷
    "TYPE col = ENUMERATION OF (red, blue);" ∷ "END_TYPE;" ∷ "END_SCHEMA;" ∷ []) []
    ("accepted 11" ∷ "s.a = -5" ∷ "s.b = TRUE" ∷ "s.c = FALSE" ∷ "s.d = UNKNOWN" ∷ "s.e = %0" ∷ "s.f = blue" ∷ "s.g = ?" ∷ "s.h = end 16" ∷
    "s.i = end 17" ∷ "s.j = end 18" ∷ "s.k = end 19" ∷ []) ∷
    -- value-range-sign
    run 8192 8192 1024 261120 ("SCHEMA s;" ∷ "CONSTANT" ∷ "  least : INTEGER := -9223372036854775807 - 1;" ∷
    "  most : INTEGER := 9223372036854775807;" ∷ "  c1 : INTEGER := -least;" ∷ "  c2 : INTEGER := +least;" ∷ "  c3 : INTEGER := -most;" ∷
    "  c4 : INTEGER := +most;" ∷ "  c5 : INTEGER := -(-most);" ∷ "  c6 : INTEGER := -0;" ∷ "  c7 : INTEGER := -(least + 1);" ∷ "END_CONSTANT;" ∷
    "END_SCHEMA;" ∷ []) []
    ("accepted 9" ∷ "s.least = -9223372036854775808" ∷ "s.most = 9223372036854775807" ∷ "s.c1 = end 16" ∷ "s.c2 = -9223372036854775808" ∷
    "s.c3 = -9223372036854775807" ∷ "s.c4 = 9223372036854775807" ∷ "s.c5 = 9223372036854775807" ∷ "s.c6 = 0" ∷ "s.c7 = 9223372036854775807" ∷ []) ∷
    -- string-values
    run 8192 8192 1024 261120 [] ("SCHEMA s; CONSTANT a : STRING := ''; b : STRING := ''''; c : STRING := 'Ab'; END_CONSTANT; END_SCHEMA;" ∷ [])
    ("accepted 3" ∷ "s.a = ''" ∷ "s.b = ''''" ∷ "s.c = 'Ab'" ∷ []) ∷
    -- string-plus-unknown
    run 8192 8192 1024 261120 [] ("SCHEMA s; CONSTANT a : STRING := ? + 'x'; b : STRING := ? + ?; c : LOGICAL := ? + 'x' = 'y'; END_CONSTANT; END_SCHEMA;" ∷ [])
    ("accepted 3" ∷ "s.a = ?" ∷ "s.b = ?" ∷ "s.c = UNKNOWN" ∷ []) ∷
    -- string-order
    run 8192 8192 1024 261120 []
    ("SCHEMA s; CONSTANT a : LOGICAL := 'a' = 'A'; b : LOGICAL := 'Z' < 'a'; c : LOGICAL := 'ab' < 'abc'; " ∷
    "d : LOGICAL := 'b' > 'abc'; e : LOGICAL := {'' < ' ' <= ' '}; f : LOGICAL := 'x' = ?; END_CONSTANT; END_SCHEMA;" ∷ [])
    ("accepted 6" ∷ "s.a = FALSE" ∷ "s.b = TRUE" ∷ "s.c = TRUE" ∷ "s.d = TRUE" ∷ "s.e = TRUE" ∷ "s.f = UNKNOWN" ∷ []) ∷
    -- string-renamed
    run 8192 8192 1024 261120 [] ("SCHEMA s; CONSTANT c : name := 'y'; END_CONSTANT; TYPE name = label; END_TYPE; TYPE label = STRING; WHERE SELF + 1 <> -'x'; END_TYPE; END_SCHEMA;" ∷ [])
    ("accepted 1" ∷ "s.c = 'y'" ∷ []) ∷
    -- string-room-exact
    run 8192 8192 1024 7 [] ("SCHEMA s; CONSTANT a : STRING := b + '!'; b : STRING := 'xy'; c : STRING := b; END_CONSTANT; END_SCHEMA;" ∷ [])
    ("accepted 3" ∷ "s.a = 'xy!'" ∷ "s.b = 'xy'" ∷ "s.c = 'xy'" ∷ []) ∷
    -- string-room-short
    run 8192 8192 1024 6 [] ("SCHEMA s; CONSTANT a : STRING := b + '!'; b : STRING := 'xy'; c : STRING := b; END_CONSTANT; END_SCHEMA;" ∷ [])
    ("refused 20 at 6" ∷ []) ∷
    -- string-joins
    run 8192 8192 1024 261120 []
    ("SCHEMA s; CONSTANT " ∷
    "l : STRING := 'xxxxxxxxxxxxxxxxxxxxxxxxxxxxxxxxxxxxxxxxxxxxxxxxxxxxxxxxxxxxxxxxxxxxxxxxxxxxxxxxxxxxxxxxxxxxxxxxxxxxxxxxxxxxxxxxxxxxxxxxxxxxxxxxxxxxxxxxxxxxxxxxxxxxxxxxxxxxxxxxxxxxxxxxxxxxxxxxxxxxxxxxxxxxxxxxxxxxxxxx'; " ∷
    "a : STRING := l + 'yyyyyyyyyyyyyyyyyyyyyyyyyyyyyyyyyyyyyyyyyyyyyyyyyyyyyyy'; " ∷
    "b : STRING := l + 'yyyyyyyyyyyyyyyyyyyyyyyyyyyyyyyyyyyyyyyyyyyyyyyyyyyyyyyy'; c : STRING := ? + l + l; d : STRING := l + l + ?; " ∷
    "e : STRING := ? + (l + l); END_CONSTANT; END_SCHEMA;" ∷ [])
    ("accepted 6" ∷
    "s.l = 'xxxxxxxxxxxxxxxxxxxxxxxxxxxxxxxxxxxxxxxxxxxxxxxxxxxxxxxxxxxxxxxxxxxxxxxxxxxxxxxxxxxxxxxxxxxxxxxxxxxxxxxxxxxxxxxxxxxxxxxxxxxxxxxxxxxxxxxxxxxxxxxxxxxxxxxxxxxxxxxxxxxxxxxxxxxxxxxxxxxxxxxxxxxxxxxxxxxxxxxx'" ∷
    "s.a = 'xxxxxxxxxxxxxxxxxxxxxxxxxxxxxxxxxxxxxxxxxxxxxxxxxxxxxxxxxxxxxxxxxxxxxxxxxxxxxxxxxxxxxxxxxxxxxxxxxxxxxxxxxxxxxxxxxxxxxxxxxxxxxxxxxxxxxxxxxxxxxxxxxxxxxxxxxxxxxxxxxxxxxxxxxxxxxxxxxxxxxxxxxxxxxxxxxxxxxxxxyyyyyyyyyyyyyyyyyyyyyyyyyyyyyyyyyyyyyyyyyyyyyyyyyyyyyyy'" ∷
    "s.b = end 16" ∷ "s.c = ?" ∷ "s.d = end 16" ∷ "s.e = end 16" ∷ []) ∷
    -- string-bound-256
    run 8192 8192 1024 261120 []
    ("SCHEMA s; CONSTANT c : STRING := " ∷
    "'aaaaaaaaaaaaaaaaaaaaaaaaaaaaaaaaaaaaaaaaaaaaaaaaaaaaaaaaaaaaaaaaaaaaaaaaaaaaaaaaaaaaaaaaaaaaaaaaaaaaaaaaaaaaaaaaaaaaaaaaaaaaaaaaaaaaaaaaaaaaaaaaaaaaaaaaaaaaaaaaaaaaaaaaaaaaaaaaaaaaaaaaaaaaaaaaaaaaaaaaaaaaaaaaaaaaaaaaaaaaaaaaaaaaaaaaaaaaaaaaaaaaaaaaaaaaaaaa'; " ∷
    "END_CONSTANT; END_SCHEMA;" ∷ [])
    ("refused 3 at 33" ∷ []) ∷
    -- string-misfit-plus-binary
    run 8192 8192 1024 261120 [] ("SCHEMA s; CONSTANT c : STRING := 'a' + %1; END_CONSTANT; END_SCHEMA;" ∷ [])
    ("refused 15 at 37" ∷ []) ∷
    -- string-misfit-items
    run 8192 8192 1024 261120 [] ("SCHEMA s; CONSTANT c : LOGICAL := red = 'red'; END_CONSTANT; TYPE t = ENUMERATION OF (red); END_TYPE; END_SCHEMA;" ∷ [])
    ("refused 15 at 38" ∷ []) ∷
    -- string-misfit-declared
    run 8192 8192 1024 261120 [] ("SCHEMA s; CONSTANT c : INTEGER := 'a'; END_CONSTANT; END_SCHEMA;" ∷ [])
    ("refused 15 at 19" ∷ []) ∷
    -- string-plus-pi
    run 8192 8192 1024 261120 [] ("SCHEMA s; CONSTANT c : STRING := 'a' + PI; END_CONSTANT; END_SCHEMA;" ∷ [])
    ("refused 14 at 39" ∷ []) ∷
    -- string-room-after-15
    run 8192 8192 1024 0 [] ("SCHEMA s; CONSTANT a : STRING := 'xy'; b : INTEGER := 'z'; END_CONSTANT; END_SCHEMA;" ∷ [])
    ("refused 15 at 39" ∷ []) ∷
    []
