-- The rows of four files of tests/cases, as their files there have them: a line for each row of the token, node and answer tables, by its columns, and
-- one for the room. The first file has every kind of declaration; the second has two schemas that share all their names; the others have strings.
use mathlib.Core.Path.{◌≡◌, refl, ap, ◌∙◌}
use mathlib.Core.List.{List, [], ◌∷◌, ◌++◌, map, flat_map}
use Prim.Native.Nat.{ℕ}
use Prim.Native.String.{String}
use lib.IntN.{pow, one}
use lib.ListN.{length, get_or}
use Rattle.ebnf.specs.Set.{mem}
use Rattle.ebnf.specs.Parse.{descend, budget, parse}
use Rattle.ebnf.specs.Depth.{first_deep}
use Rattle.express.specs.Tokens.Bytes.{upper, lower, word_byte, space, same}
use Rattle.express.specs.Tokens.Lexis.{tokens, end_of_run, end_of_remark, skipped_in, skipped, numeral, unpaired, string_value, end_of_integer, end_of_exponent, end_of_real, end_of_string, end_of_short_string, end_of_binary}
use Rattle.express.specs.Tokens.Lexis.{lone, size_of_symbol, end_of_symbol, token_kind_at, end_of_token, lexed_in, integer_value, binary_bits}
use Rattle.express.specs.Tokens.Terminal.{bytes, among, terminal_of}
use Rattle.express.specs.Tokens.Spelling.{symbol_of, symbols_of}
use Rattle.express.specs.Syntax.Syntax.{parsed}
use Rattle.express.specs.Syntax.Tree.{count, owner, schema_of}
use Rattle.express.specs.Names.Scope.{declarations, items, own, super_edges, renaming_edges, type_edges, inherited, candidates, type_meant, items_of, item_meant, means, binding, bindings}
use Rattle.express.specs.Names.Fault.{sort, scope, repeated, type_name_fault, cyclic, qualified, expression, constant_edges}
use Rattle.express.specs.Names.Names.{stages, least, first_fault, names}
use Rattle.express.specs.Semantics.Integer.{exact, quotient, remainder, DIV, MOD, power}
use Rattle.express.specs.Semantics.Logic.{AND, OR, XOR}
use Rattle.relations.specs.Order.{compare_lists}
use Rattle.express.specs.Semantics.Bits.{join}
use Rattle.express.specs.Semantics.Strings.{join_strings}
use Rattle.express.specs.Semantics.Declared.{simple, denoted_in}
use Rattle.express.specs.Semantics.Shape.{operator_of, shape_in}
use Rattle.express.specs.Semantics.Kind.{type_nodes_in, type_constants, typing}
use Rattle.express.specs.Semantics.Evaluate.{run_in, evaluate, answers}
use Rattle.express.specs.Semantics.Order.{constant_order}
use Rattle.express.specs.Semantics.AnswerRow.{rows_from}
use Rattle.relations.specs.Select.{span, first_from, keep, any}
use Rattle.relations.specs.Reach.{added, closure}
use Rattle.express.specs.Whole.Reply.{Accepted, Checked, accepted, refused, checked_with, checked, token_kinds, token_starts, token_lengths, node_kinds, node_tokens, node_sizes}
use Rattle.express.specs.Whole.Reply.{node_bindings, answer_kinds, answer_numbers, answer_lengths, answer_room}
use Rattle.express.specs.Whole.Listing.{digits, decimal, signed, line}
use Rattle.express.proofs.Tokens.Fast.{fast}
use Rattle.examples.proofs.Files.{lines}
use Rattle.examples.proofs.Cases.{checked_fast}

-- ---- the rows of a table, printed

-- a name, and the numbers of a row
abbrev pub entry : String → List (List ℕ) → List ℕ
entry name ns = line (bytes name ++ flat_map (λ (n : List ℕ). bytes " " ++ n) ns)

-- so many rows of columns of printed numbers
abbrev pub table_lines : String → ℕ → List (List (List ℕ)) → List ℕ
table_lines name n columns = flat_map (λ (i : ℕ). entry name (map (λ (c : List (List ℕ)). get_or c i []) columns)) (span 0 n)

abbrev pub token_lines : Accepted → List ℕ
token_lines a = table_lines "token" (length a.tokens) (map decimal (token_kinds a) ∷ map decimal (token_starts a) ∷ map decimal (token_lengths a) ∷ [])

abbrev pub node_lines : Accepted → List ℕ
node_lines a =
    table_lines "node" (count a.table)
    (map decimal (node_kinds a) ∷ map decimal (node_tokens a) ∷ map decimal (node_sizes a) ∷ map decimal (node_bindings a) ∷ [])

abbrev pub answer_lines : Accepted → List ℕ
answer_lines a = table_lines "answer" (length a.answers) (map decimal (answer_kinds a) ∷ map signed (answer_numbers a) ∷ map decimal (answer_lengths a) ∷ [])

-- the bytes that the room holds, before the zeros
abbrev pub room_line : Accepted → List ℕ
room_line a = entry "room" (decimal (length (answer_room a)) ∷ answer_room a ∷ [])

-- of an accepted file
abbrev pub printed_rows : (Accepted → List ℕ) → Checked → List ℕ
printed_rows f (accepted a) = f a
printed_rows f (refused k p) = []

-- ---- rows-all-kinds

abbrev pub rows_all_kinds : List ℕ
rows_all_kinds =
    lines ("SCHEMA s;" ∷ "CONSTANT" ∷ "  a : INTEGER := -b + 1;" ∷ "  b : n := 2;" ∷ "  c : LOGICAL := {0 < a <= b} AND TRUE;" ∷
    "  d : BINARY := %01 + ?;" ∷ "  e : t := t.j;" ∷ "  f : t := i;" ∷ "END_CONSTANT;" ∷ "TYPE n = INTEGER;" ∷ "WHERE" ∷ "  w : SELF > 0;" ∷
    "  PI < 1.5;" ∷ "END_TYPE;" ∷ "TYPE t = ENUMERATION OF (i, j);" ∷ "END_TYPE;" ∷ "TYPE u = SELECT (n, g);" ∷ "END_TYPE;" ∷ "ENTITY g;" ∷
    "  x, y : n;" ∷ "  z : OPTIONAL g;" ∷ "END_ENTITY;" ∷ "ENTITY h SUBTYPE OF (g);" ∷ "DERIVE" ∷ "  v : INTEGER := x;" ∷ "WHERE" ∷ "  v = a;" ∷
    "  y = b;" ∷ "END_ENTITY;" ∷ "END_SCHEMA;" ∷ [])

abbrev pub rows_all_kinds_tokens : List String
rows_all_kinds_tokens =
    "token 1 0 6" ∷ "token 1 7 1" ∷ "token 6 8 1" ∷ "token 1 10 8" ∷ "token 1 21 1" ∷ "token 6 23 1" ∷ "token 1 25 7" ∷ "token 6 33 2" ∷
    "token 6 36 1" ∷ "token 1 37 1" ∷ "token 6 39 1" ∷ "token 2 41 1" ∷ "token 6 42 1" ∷ "token 1 46 1" ∷ "token 6 48 1" ∷ "token 1 50 1" ∷
    "token 6 52 2" ∷ "token 2 55 1" ∷ "token 6 56 1" ∷ "token 1 60 1" ∷ "token 6 62 1" ∷ "token 1 64 7" ∷ "token 6 72 2" ∷ "token 6 75 1" ∷
    "token 2 76 1" ∷ "token 6 78 1" ∷ "token 1 80 1" ∷ "token 6 82 2" ∷ "token 1 85 1" ∷ "token 6 86 1" ∷ "token 1 88 3" ∷ "token 1 92 4" ∷
    "token 6 96 1" ∷ "token 1 100 1" ∷ "token 6 102 1" ∷ "token 1 104 6" ∷ "token 6 111 2" ∷ "token 5 114 3" ∷ "token 6 118 1" ∷ "token 6 120 1" ∷
    "token 6 121 1" ∷ "token 1 125 1" ∷ "token 6 127 1" ∷ "token 1 129 1" ∷ "token 6 131 2" ∷ "token 1 134 1" ∷ "token 6 135 1" ∷ "token 1 136 1" ∷
    "token 6 137 1" ∷ "token 1 141 1" ∷ "token 6 143 1" ∷ "token 1 145 1" ∷ "token 6 147 2" ∷ "token 1 150 1" ∷ "token 6 151 1" ∷
    "token 1 153 12" ∷ "token 6 165 1" ∷ "token 1 167 4" ∷ "token 1 172 1" ∷ "token 6 174 1" ∷ "token 1 176 7" ∷ "token 6 183 1" ∷
    "token 1 185 5" ∷ "token 1 193 1" ∷ "token 6 195 1" ∷ "token 1 197 4" ∷ "token 6 202 1" ∷ "token 2 204 1" ∷ "token 6 205 1" ∷ "token 1 209 2" ∷
    "token 6 212 1" ∷ "token 3 214 3" ∷ "token 6 217 1" ∷ "token 1 219 8" ∷ "token 6 227 1" ∷ "token 1 229 4" ∷ "token 1 234 1" ∷ "token 6 236 1" ∷
    "token 1 238 11" ∷ "token 1 250 2" ∷ "token 6 253 1" ∷ "token 1 254 1" ∷ "token 6 255 1" ∷ "token 1 257 1" ∷ "token 6 258 1" ∷
    "token 6 259 1" ∷ "token 1 261 8" ∷ "token 6 269 1" ∷ "token 1 271 4" ∷ "token 1 276 1" ∷ "token 6 278 1" ∷ "token 1 280 6" ∷ "token 6 287 1" ∷
    "token 1 288 1" ∷ "token 6 289 1" ∷ "token 1 291 1" ∷ "token 6 292 1" ∷ "token 6 293 1" ∷ "token 1 295 8" ∷ "token 6 303 1" ∷ "token 1 305 6" ∷
    "token 1 312 1" ∷ "token 6 313 1" ∷ "token 1 317 1" ∷ "token 6 318 1" ∷ "token 1 320 1" ∷ "token 6 322 1" ∷ "token 1 324 1" ∷ "token 6 325 1" ∷
    "token 1 329 1" ∷ "token 6 331 1" ∷ "token 1 333 8" ∷ "token 1 342 1" ∷ "token 6 343 1" ∷ "token 1 345 10" ∷ "token 6 355 1" ∷
    "token 1 357 6" ∷ "token 1 364 1" ∷ "token 1 366 7" ∷ "token 1 374 2" ∷ "token 6 377 1" ∷ "token 1 378 1" ∷ "token 6 379 1" ∷ "token 6 380 1" ∷
    "token 1 382 6" ∷ "token 1 391 1" ∷ "token 6 393 1" ∷ "token 1 395 7" ∷ "token 6 403 2" ∷ "token 1 406 1" ∷ "token 6 407 1" ∷ "token 1 409 5" ∷
    "token 1 417 1" ∷ "token 6 419 1" ∷ "token 1 421 1" ∷ "token 6 422 1" ∷ "token 1 426 1" ∷ "token 6 428 1" ∷ "token 1 430 1" ∷ "token 6 431 1" ∷
    "token 1 433 10" ∷ "token 6 443 1" ∷ "token 1 445 10" ∷ "token 6 455 1" ∷ []

abbrev pub rows_all_kinds_nodes : List String
rows_all_kinds_nodes =
    "node 13 6 1 0" ∷ "node 6 9 1 9" ∷ "node 9 8 2 0" ∷ "node 1 11 1 0" ∷ "node 10 10 4 0" ∷ "node 17 4 6 0" ∷ "node 6 15 1 40" ∷ "node 1 17 1 0" ∷
    "node 17 13 3 0" ∷ "node 13 21 1 0" ∷ "node 1 24 1 0" ∷ "node 12 25 1 0" ∷ "node 6 26 1 6" ∷ "node 12 27 1 0" ∷ "node 6 28 1 9" ∷
    "node 11 23 6 0" ∷ "node 3 31 1 0" ∷ "node 10 30 8 0" ∷ "node 17 19 10 0" ∷ "node 13 35 1 0" ∷ "node 2 37 1 0" ∷ "node 4 39 1 0" ∷
    "node 10 38 3 0" ∷ "node 17 33 5 0" ∷ "node 6 43 1 44" ∷ "node 7 47 1 42" ∷ "node 17 41 3 0" ∷ "node 6 51 1 44" ∷ "node 6 53 1 41" ∷
    "node 17 49 3 0" ∷ "node 13 60 1 0" ∷ "node 8 65 1 0" ∷ "node 1 67 1 0" ∷ "node 10 66 3 0" ∷ "node 23 63 4 0" ∷ "node 5 69 1 0" ∷
    "node 5 71 1 0" ∷ "node 10 70 3 0" ∷ "node 23 69 4 0" ∷ "node 18 58 10 0" ∷ "node 14 81 1 0" ∷ "node 14 83 1 0" ∷ "node 15 78 3 0" ∷
    "node 18 76 4 0" ∷ "node 6 93 1 40" ∷ "node 6 95 1 56" ∷ "node 16 91 3 0" ∷ "node 18 89 4 0" ∷ "node 19 103 1 0" ∷ "node 19 105 1 0" ∷
    "node 6 107 1 40" ∷ "node 20 103 4 0" ∷ "node 19 109 1 0" ∷ "node 6 112 1 56" ∷ "node 21 109 3 0" ∷ "node 24 101 8 0" ∷ "node 6 121 1 56" ∷
    "node 13 127 1 0" ∷ "node 6 129 1 49" ∷ "node 22 125 3 0" ∷ "node 6 132 1 60" ∷ "node 6 134 1 6" ∷ "node 10 133 3 0" ∷ "node 23 132 4 0" ∷
    "node 6 136 1 50" ∷ "node 6 138 1 9" ∷ "node 10 137 3 0" ∷ "node 23 136 4 0" ∷ "node 24 117 13 0" ∷ "node 25 1 70 0" ∷ "node 26 0 71 0" ∷ []

abbrev pub rows_all_kinds_answers : List String
rows_all_kinds_answers =
    "answer 1 -1 0" ∷ "answer 1 2 0" ∷ "answer 2 0 0" ∷ "answer 0 0 0" ∷ "answer 4 41 0" ∷ "answer 4 40 0" ∷ []

-- ---- rows-two-schemas

abbrev pub rows_two_schemas : List ℕ
rows_two_schemas =
    lines ("SCHEMA one;" ∷ "CONSTANT" ∷ "  a : t := x;" ∷ "END_CONSTANT;" ∷ "TYPE t = ENUMERATION OF (x, y);" ∷ "END_TYPE;" ∷ "END_SCHEMA;" ∷
    "SCHEMA two;" ∷ "CONSTANT" ∷ "  a : t := x;" ∷ "  b : t := a;" ∷ "END_CONSTANT;" ∷ "TYPE t = ENUMERATION OF (y, x);" ∷ "END_TYPE;" ∷
    "END_SCHEMA;" ∷ [])

abbrev pub rows_two_schemas_nodes : List String
rows_two_schemas_nodes =
    "node 6 6 1 7" ∷ "node 6 8 1 4" ∷ "node 17 4 3 0" ∷ "node 14 18 1 0" ∷ "node 14 20 1 0" ∷ "node 15 15 3 0" ∷ "node 18 13 4 0" ∷
    "node 25 1 8 0" ∷ "node 6 33 1 18" ∷ "node 6 35 1 16" ∷ "node 17 31 3 0" ∷ "node 6 39 1 18" ∷ "node 6 41 1 11" ∷ "node 17 37 3 0" ∷
    "node 14 51 1 0" ∷ "node 14 53 1 0" ∷ "node 15 48 3 0" ∷ "node 18 46 4 0" ∷ "node 25 28 11 0" ∷ "node 26 0 20 0" ∷ []

abbrev pub rows_two_schemas_answers : List String
rows_two_schemas_answers =
    "answer 4 3 0" ∷ "answer 4 15 0" ∷ "answer 4 15 0" ∷ []

-- ---- string-room-rows

abbrev pub string_room_rows : List ℕ
string_room_rows =
    bytes "SCHEMA s; CONSTANT a : STRING := b + '!'; b : STRING := 'xy'; n : LOGICAL := 'p' < 'q'; d : STRING := ?; END_CONSTANT; END_SCHEMA; " ++
    bytes "SCHEMA t; CONSTANT e : STRING := 'xy'; END_CONSTANT; END_SCHEMA;"

abbrev pub string_room_rows_answers : List String
string_room_rows_answers =
    "answer 5 0 3" ∷ "answer 5 3 2" ∷ "answer 2 2 0" ∷ "answer 0 0 0" ∷ "answer 5 5 2" ∷ []

abbrev pub string_room_rows_room : List String
string_room_rows_room =
    "room 7 xy!xyxy" ∷ []

-- ---- string-room-empty: with a room of 2 bytes

abbrev pub string_room_empty : List ℕ
string_room_empty =
    bytes "SCHEMA s; CONSTANT a : STRING := 'xy'; b : STRING := ''; c : STRING := b; END_CONSTANT; END_SCHEMA;"

abbrev pub string_room_empty_answers : List String
string_room_empty_answers =
    "answer 5 0 2" ∷ "answer 5 2 0" ∷ "answer 5 2 0" ∷ []

abbrev pub string_room_empty_room : List String
string_room_empty_room =
    "room 2 xy" ∷ []

-- ---- by computation

-- with a room of so many bytes
abbrev read : List ℕ → ℕ → Checked
read s room = checked_with s (fast s) 8192 8192 1024 room

abbrev pub all_lines : Accepted → List ℕ
all_lines a = token_lines a ++ node_lines a ++ answer_lines a

abbrev pub tree_lines : Accepted → List ℕ
tree_lines a = node_lines a ++ answer_lines a

abbrev pub string_lines : Accepted → List ℕ
string_lines a = answer_lines a ++ room_line a

computed :
    (printed_rows all_lines (read rows_all_kinds 261120) ≡ lines (rows_all_kinds_tokens ++ rows_all_kinds_nodes ++ rows_all_kinds_answers)) ×
    (printed_rows tree_lines (read rows_two_schemas 261120) ≡ lines (rows_two_schemas_nodes ++ rows_two_schemas_answers)) ×
    (printed_rows string_lines (read string_room_rows 261120) ≡ lines (string_room_rows_answers ++ string_room_rows_room)) ×
    (printed_rows string_lines (read string_room_empty 2) ≡ lines (string_room_empty_answers ++ string_room_empty_room))
unfolding word_byte space upper lower end_of_run end_of_remark skipped_in skipped numeral end_of_integer end_of_exponent end_of_real end_of_string
    unpaired string_value end_of_short_string end_of_binary lone size_of_symbol end_of_symbol token_kind_at end_of_token lexed_in terminal_of among same symbol_of symbols_of parsed
    first_deep parse descend mem budget span first_from keep any owner schema_of added closure declarations items own super_edges renaming_edges
    type_edges inherited candidates type_meant items_of item_meant means binding bindings flat_map names stages least first_fault sort scope
    repeated type_name_fault cyclic qualified expression constant_edges integer_value binary_bits exact quotient remainder DIV MOD power pow one
    AND OR XOR join join_strings compare_lists simple denoted_in operator_of shape_in type_nodes_in type_constants typing run_in evaluate answers tokens constant_order digits rows_from
computed = (refl, refl, refl, refl)

pub all_kinds_rows : printed_rows all_lines (checked rows_all_kinds 8192 8192 1024 261120) ≡ lines (rows_all_kinds_tokens ++ rows_all_kinds_nodes ++ rows_all_kinds_answers)
all_kinds_rows = ap (printed_rows all_lines) (checked_fast rows_all_kinds 8192 8192 1024 261120) ∙ computed.0

pub two_schemas_rows : printed_rows tree_lines (checked rows_two_schemas 8192 8192 1024 261120) ≡ lines (rows_two_schemas_nodes ++ rows_two_schemas_answers)
two_schemas_rows = ap (printed_rows tree_lines) (checked_fast rows_two_schemas 8192 8192 1024 261120) ∙ computed.1

pub rows_in_room : printed_rows string_lines (checked string_room_rows 8192 8192 1024 261120) ≡ lines (string_room_rows_answers ++ string_room_rows_room)
rows_in_room = ap (printed_rows string_lines) (checked_fast string_room_rows 8192 8192 1024 261120) ∙ computed.2

pub empty_in_room : printed_rows string_lines (checked string_room_empty 8192 8192 1024 2) ≡ lines (string_room_empty_answers ++ string_room_empty_room)
empty_in_room = ap (printed_rows string_lines) (checked_fast string_room_empty 8192 8192 1024 2) ∙ computed.3
