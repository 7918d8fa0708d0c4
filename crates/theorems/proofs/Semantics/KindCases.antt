-- Two small files, through the token reader, the parse, the names, the typing and the evaluation, by computation; they meet all that
-- `exactness` asks, and so the rules give their constants these answers and no others.
use mathlib.Core.Path.{◌≡◌, refl, subst}
use mathlib.Core.Bool.{true, false, not, ◌||◌}
use mathlib.Core.List.{List, [], ◌∷◌, ◌++◌, flat_map}
use Prim.Native.Nat.{ℕ, ◌<◌}
use Prim.Native.String.{String}
use native.Mathlib.Omega.{arith}
use lib.IntN.{negsuc}
use Rattle.ebnf.specs.Set.{mem}
use Rattle.ebnf.specs.Rows.{Row}
use Rattle.ebnf.specs.Parse.{descend, budget, parse}
use Rattle.ebnf.specs.Depth.{first_deep, good}
use Rattle.express.specs.Semantics.Answer.{UNKNOWN, TRUE, integer, logical, binary, item, string, end}
use Rattle.express.specs.Tokens.Terminal.{bytes, among, terminal_of}
use Rattle.express.specs.Tokens.Spelling.{symbol_of, symbols_of}
use Rattle.express.specs.Syntax.Tree.{Table, kind, nodes, is, owner, schema_of}
use Rattle.relations.specs.Select.{span, first_from, keep, any}
use Rattle.express.specs.Syntax.Syntax.{whole, parsed, with_rows}
use Rattle.express.specs.Syntax.Grammar.{file}
use Rattle.express.specs.Syntax.NodeKind.{constant}
use Rattle.express.specs.Tokens.Bytes.{upper, lower, word_byte, space, same}
use Rattle.relations.specs.Reach.{added, closure}
use Rattle.express.specs.Names.Scope.{declarations, items, own, super_edges, renaming_edges, type_edges, inherited, candidates, type_meant, items_of, item_meant, means, binding, bindings}
use Rattle.express.specs.Tokens.Lexis.{end_of_run, end_of_remark, skipped_in, skipped, end_of_integer, end_of_exponent, end_of_real, end_of_string, end_of_short_string}
use Rattle.express.specs.Tokens.Lexis.{end_of_binary, lone, size_of_symbol, end_of_symbol, token_kind_at, end_of_token, lexed_in, numeral, integer_value, binary_bits, unpaired, string_value}
use Rattle.express.specs.Semantics.Integer.{exact, quotient, remainder, DIV, MOD, power}
use Rattle.express.specs.Semantics.Logic.{AND, OR, XOR}
use Rattle.relations.specs.Order.{compare_lists}
use Rattle.express.specs.Semantics.Bits.{join}
use Rattle.express.specs.Semantics.Strings.{join_strings}
use Rattle.express.specs.Semantics.Declared.{simple, denoted_in}
use Rattle.express.specs.Semantics.Shape.{operator_of, shape_in}
use Rattle.express.specs.Names.Fault.{sort, scope, repeated, type_name_fault, cyclic, qualified, expression, constant_edges}
use Rattle.express.specs.Names.Names.{stages, least, first_fault, names}
use Rattle.express.specs.Tokens.Scanned.{Scanned}
use Rattle.express.proofs.Tokens.Fast.{scanned_by}
use Rattle.express.specs.Semantics.Rule.{Exactly}
use Rattle.express.specs.Semantics.Operate.{Kind}
use Rattle.express.specs.Semantics.Kind.{Typing, typed, ill_typed, type_nodes_in, type_constants, typing}
use Rattle.express.specs.Semantics.Evaluate.{run_in, evaluate, answers, answer_at}
use Rattle.express.proofs.Syntax.Syntax.{read_good}
use Rattle.express.proofs.Names.Names.{names_passes}
use Rattle.theorems.proofs.Semantics.OrderTest.{every, in_order, order_passes}
use Rattle.theorems.proofs.Semantics.OrderTest as order
use Rattle.express.proofs.Theorems.File.{file_exact}

abbrev kinds_in : Typing → List Kind
kinds_in (typed ks) = ks
kinds_in (ill_typed k n) = []

abbrev row : ℕ → ℕ → ℕ → ℕ → Row
row k t n o = record { kind = k; token = t; size = n; role = o }

-- constants of four kinds, one of them before the one that it names
abbrev lathe_text : String
lathe_text = "SCHEMA Lathe; CONSTANT travel : INTEGER := feed * 5; feed : INTEGER := -9 DIV 2; near : LOGICAL := {1 < feed < 40} OR ?; tool : BINARY := %01 + %110; maker : STRING := 'O''Neil' + '!'; END_CONSTANT; END_SCHEMA;"

abbrev lathe_rows : List Row
lathe_rows =
    row 13 6 1 0 ∷ row 6 8 1 1 ∷ row 1 10 1 0 ∷ row 10 9 3 0 ∷ row 17 4 5 0 ∷ row 13 14 1 0 ∷ row 1 17 1 0 ∷ row 9 16 2 0 ∷
    row 1 19 1 0 ∷ row 10 18 4 0 ∷ row 17 12 6 0 ∷ row 13 23 1 0 ∷ row 1 26 1 0 ∷ row 12 27 1 0 ∷ row 6 28 1 1 ∷ row 12 29 1 0 ∷
    row 1 30 1 0 ∷ row 11 25 6 0 ∷ row 4 33 1 0 ∷ row 10 32 8 0 ∷ row 17 21 10 0 ∷ row 13 37 1 0 ∷ row 2 39 1 0 ∷ row 2 41 1 0 ∷
    row 10 40 3 0 ∷ row 17 35 5 0 ∷ row 13 45 1 0 ∷ row 5 47 1 0 ∷ row 5 49 1 0 ∷ row 10 48 3 0 ∷ row 17 43 5 0 ∷ row 25 1 32 0 ∷
    row 26 0 33 0 ∷ []

abbrev pub lathe : Table
lathe =
    with_rows
    (record {
      bytes = bytes lathe_text;
      starts =
          0 ∷ 7 ∷ 12 ∷ 14 ∷ 23 ∷ 30 ∷ 32 ∷ 40 ∷ 43 ∷ 48 ∷ 50 ∷ 51 ∷ 53 ∷ 58 ∷ 60 ∷ 68 ∷ 71 ∷ 72 ∷ 74 ∷ 78 ∷ 79 ∷ 81 ∷ 86 ∷ 88 ∷ 96 ∷ 99 ∷ 100 ∷ 102 ∷
          104 ∷ 109 ∷ 111 ∷ 113 ∷ 115 ∷ 118 ∷ 119 ∷ 121 ∷ 126 ∷ 128 ∷ 135 ∷ 138 ∷ 142 ∷ 144 ∷ 148 ∷ 150 ∷ 156 ∷ 158 ∷ 165 ∷ 168 ∷ 178 ∷ 180 ∷ 183 ∷
          185 ∷ 197 ∷ 199 ∷ 209 ∷ [];
      lengths =
          6 ∷ 5 ∷ 1 ∷ 8 ∷ 6 ∷ 1 ∷ 7 ∷ 2 ∷ 4 ∷ 1 ∷ 1 ∷ 1 ∷ 4 ∷ 1 ∷ 7 ∷ 2 ∷ 1 ∷ 1 ∷ 3 ∷ 1 ∷ 1 ∷ 4 ∷ 1 ∷ 7 ∷ 2 ∷ 1 ∷ 1 ∷ 1 ∷ 4 ∷ 1 ∷ 2 ∷ 1 ∷ 2 ∷ 1 ∷ 1 ∷
          4 ∷ 1 ∷ 6 ∷ 2 ∷ 3 ∷ 1 ∷ 4 ∷ 1 ∷ 5 ∷ 1 ∷ 6 ∷ 2 ∷ 9 ∷ 1 ∷ 3 ∷ 1 ∷ 12 ∷ 1 ∷ 10 ∷ 1 ∷ [];
      terminals =
          125 ∷ 1 ∷ 9 ∷ 53 ∷ 1 ∷ 10 ∷ 92 ∷ 30 ∷ 1 ∷ 11 ∷ 2 ∷ 9 ∷ 1 ∷ 10 ∷ 92 ∷ 30 ∷ 13 ∷ 2 ∷ 58 ∷ 2 ∷ 9 ∷ 1 ∷ 10 ∷ 102 ∷ 30 ∷ 21 ∷ 2 ∷ 17 ∷ 1 ∷ 17 ∷
          2 ∷ 22 ∷ 113 ∷ 6 ∷ 9 ∷ 1 ∷ 10 ∷ 48 ∷ 30 ∷ 5 ∷ 12 ∷ 5 ∷ 9 ∷ 1 ∷ 10 ∷ 133 ∷ 30 ∷ 4 ∷ 12 ∷ 4 ∷ 9 ∷ 63 ∷ 9 ∷ 73 ∷ 9 ∷ [];
      symbols =
          0 ∷ 1 ∷ 2 ∷ 3 ∷ 4 ∷ 5 ∷ 6 ∷ 7 ∷ 8 ∷ 9 ∷ 10 ∷ 11 ∷ 8 ∷ 13 ∷ 14 ∷ 15 ∷ 16 ∷ 17 ∷ 18 ∷ 19 ∷ 20 ∷ 21 ∷ 22 ∷ 23 ∷ 24 ∷ 25 ∷ 26 ∷ 27 ∷ 8 ∷ 29 ∷
          30 ∷ 31 ∷ 32 ∷ 33 ∷ 34 ∷ 35 ∷ 36 ∷ 37 ∷ 38 ∷ 39 ∷ 40 ∷ 41 ∷ 42 ∷ 43 ∷ 44 ∷ 45 ∷ 46 ∷ 47 ∷ 48 ∷ 49 ∷ 50 ∷ 51 ∷ 52 ∷ 53 ∷ 54 ∷ [];
      kinds = [];
      tokens = [];
      sizes = [];
      roles = [];
    })
    lathe_rows

abbrev lathe_bindings : List ℕ
lathe_bindings = 0 ∷ 11 ∷ 0 ∷ 0 ∷ 0 ∷ 0 ∷ 0 ∷ 0 ∷ 0 ∷ 0 ∷ 0 ∷ 0 ∷ 0 ∷ 0 ∷ 11 ∷ 0 ∷ 0 ∷ 0 ∷ 0 ∷ 0 ∷ 0 ∷ 0 ∷ 0 ∷ 0 ∷ 0 ∷ 0 ∷ 0 ∷ 0 ∷ 0 ∷ 0 ∷ 0 ∷ 0 ∷ 0 ∷ []

lathe_bound : bindings lathe ≡ lathe_bindings
unfolding span first_from keep any owner schema_of added closure declarations items own super_edges renaming_edges type_edges inherited candidates
    type_meant items_of item_meant means binding bindings flat_map
lathe_bound = refl

-- an order of its constants
abbrev lathe_plan : List ℕ
lathe_plan = 10 ∷ 4 ∷ 20 ∷ 25 ∷ 30 ∷ []

lathe_scanned : Scanned lathe
unfolding word_byte space upper end_of_run end_of_remark skipped_in skipped numeral end_of_integer end_of_exponent end_of_real end_of_string
    unpaired string_value end_of_short_string end_of_binary lone size_of_symbol end_of_symbol token_kind_at end_of_token lexed_in terminal_of among same lower symbol_of symbols_of span first_from
lathe_scanned = scanned_by lathe refl refl refl refl

lathe_parsed : parsed file lathe.terminals ≡ good (whole lathe_rows)
unfolding parsed first_deep parse descend mem budget
lathe_parsed = refl

lathe_named : (names lathe).number ≡ 0
unfolding span first_from keep any owner schema_of added closure declarations items own super_edges renaming_edges type_edges inherited candidates
    type_meant items_of item_meant means binding bindings flat_map names stages least first_fault sort scope repeated type_name_fault cyclic qualified
    expression constant_edges
lathe_named = refl

lathe_typed : typing lathe lathe_bindings ≡ typed (kinds_in (typing lathe lathe_bindings))
unfolding typing type_constants type_nodes_in span keep flat_map numeral integer_value binary_bits unpaired string_value exact quotient remainder DIV MOD power AND OR XOR
    join join_strings compare_lists simple denoted_in operator_of shape_in run_in evaluate answers owner first_from
lathe_typed = refl

lathe_order : (in_order lathe lathe_bindings [] lathe_plan ≡ true) × (every (λ c. not (is lathe constant c) || order.among lathe_plan c) (nodes lathe) ≡ true)
unfolding in_order every any span keep flat_map numeral integer_value binary_bits unpaired string_value exact quotient remainder DIV MOD power AND OR XOR join join_strings compare_lists
    simple denoted_in operator_of shape_in run_in evaluate answers owner first_from
lathe_order = (refl, refl)

lathe_file : (c : ℕ) → c < 33 → kind lathe c ≡ constant → Exactly lathe (bindings lathe) c (answer_at (answers lathe lathe_bindings lathe_plan) c)
lathe_file c l e =
    subst (λ (b : List ℕ). Exactly lathe (bindings lathe) c (answer_at (answers lathe b lathe_plan) c)) lathe_bound
    (file_exact lathe lathe_scanned (read_good file lathe (whole lathe_rows) lathe_parsed) ((names_passes lathe).0 lathe_named) (kinds_in (typing lathe lathe_bindings))
    (rw lathe_bound lathe_typed) lathe_plan (rw lathe_bound (order_passes lathe lathe_bindings lathe_plan lathe_order.0 lathe_order.1)) c l e)

pub lathe_exact :
    Exactly lathe (bindings lathe) 4 (integer (negsuc 24)) ×
    Exactly lathe (bindings lathe) 10 (integer (negsuc 4)) ×
    Exactly lathe (bindings lathe) 20 (logical UNKNOWN) ×
    Exactly lathe (bindings lathe) 25 (binary (false ∷ true ∷ true ∷ true ∷ false ∷ [])) ×
    Exactly lathe (bindings lathe) 30 (string (bytes "O'Neil!"))
unfolding span keep flat_map numeral integer_value binary_bits unpaired string_value exact quotient remainder DIV MOD power AND OR XOR join join_strings compare_lists simple denoted_in
    operator_of shape_in run_in evaluate answers owner first_from
lathe_exact =
    (lathe_file 4 (omega arith) refl, lathe_file 10 (omega arith) refl, lathe_file 20 (omega arith) refl, lathe_file 25 (omega arith) refl, lathe_file 30 (omega arith) refl)

-- an enumeration, a renaming of it, UNKNOWN for a BOOLEAN, and the first of two ends
abbrev shade_text : List ℕ
shade_text =
    bytes "SCHEMA s; CONSTANT warm : BOOLEAN := NOT (hue >= colour.green); hue : shade := red; doubt : BOOLEAN := hue = ?; "
    ++ bytes "late : LOGICAL := doubt AND (1 DIV 0 = 2); END_CONSTANT; "
    ++ bytes "TYPE colour = ENUMERATION OF (red, green); END_TYPE; TYPE shade = colour; END_TYPE; END_SCHEMA;"

abbrev shade_rows : List Row
shade_rows =
    row 13 6 1 0 ∷ row 6 10 1 1 ∷ row 7 14 1 0 ∷ row 10 11 3 0 ∷ row 9 8 4 0 ∷ row 17 4 6 0 ∷ row 6 19 1 2 ∷ row 6 21 1 1 ∷
    row 17 17 3 0 ∷ row 13 25 1 0 ∷ row 6 27 1 1 ∷ row 4 29 1 0 ∷ row 10 28 3 0 ∷ row 17 23 5 0 ∷ row 13 33 1 0 ∷ row 6 35 1 1 ∷
    row 1 38 1 0 ∷ row 1 40 1 0 ∷ row 10 39 3 0 ∷ row 1 42 1 0 ∷ row 10 41 5 0 ∷ row 10 36 7 0 ∷ row 17 31 9 0 ∷ row 14 53 1 0 ∷
    row 14 55 1 0 ∷ row 15 50 3 0 ∷ row 18 48 4 0 ∷ row 6 63 1 3 ∷ row 18 61 2 0 ∷ row 25 1 30 0 ∷ row 26 0 31 0 ∷ []

abbrev pub shade : Table
shade =
    with_rows
    (record {
      bytes = shade_text;
      starts =
          0 ∷ 7 ∷ 8 ∷ 10 ∷ 19 ∷ 24 ∷ 26 ∷ 34 ∷ 37 ∷ 41 ∷ 42 ∷ 46 ∷ 49 ∷ 55 ∷ 56 ∷ 61 ∷ 62 ∷ 64 ∷ 68 ∷ 70 ∷ 76 ∷ 79 ∷ 82 ∷ 84 ∷ 90 ∷ 92 ∷
          100 ∷ 103 ∷ 107 ∷ 109 ∷ 110 ∷ 112 ∷ 117 ∷ 119 ∷ 127 ∷ 130 ∷ 136 ∷ 140 ∷ 141 ∷ 143 ∷ 147 ∷ 149 ∷ 151 ∷ 152 ∷ 153 ∷ 155 ∷ 167 ∷
          169 ∷ 174 ∷ 181 ∷ 183 ∷ 195 ∷ 198 ∷ 199 ∷ 202 ∷ 204 ∷ 209 ∷ 210 ∷ 212 ∷ 220 ∷ 222 ∷ 227 ∷ 233 ∷ 235 ∷ 241 ∷ 243 ∷ 251 ∷ 253 ∷
          263 ∷ [];
      lengths =
          6 ∷ 1 ∷ 1 ∷ 8 ∷ 4 ∷ 1 ∷ 7 ∷ 2 ∷ 3 ∷ 1 ∷ 3 ∷ 2 ∷ 6 ∷ 1 ∷ 5 ∷ 1 ∷ 1 ∷ 3 ∷ 1 ∷ 5 ∷ 2 ∷ 3 ∷ 1 ∷ 5 ∷ 1 ∷ 7 ∷ 2 ∷ 3 ∷ 1 ∷ 1 ∷ 1 ∷ 4 ∷
          1 ∷ 7 ∷ 2 ∷ 5 ∷ 3 ∷ 1 ∷ 1 ∷ 3 ∷ 1 ∷ 1 ∷ 1 ∷ 1 ∷ 1 ∷ 12 ∷ 1 ∷ 4 ∷ 6 ∷ 1 ∷ 11 ∷ 2 ∷ 1 ∷ 3 ∷ 1 ∷ 5 ∷ 1 ∷ 1 ∷ 8 ∷ 1 ∷ 4 ∷ 5 ∷ 1 ∷ 6 ∷
          1 ∷ 8 ∷ 1 ∷ 10 ∷ 1 ∷ [];
      terminals =
          125 ∷ 1 ∷ 9 ∷ 53 ∷ 1 ∷ 10 ∷ 50 ∷ 30 ∷ 106 ∷ 24 ∷ 1 ∷ 28 ∷ 1 ∷ 7 ∷ 1 ∷ 25 ∷ 9 ∷ 1 ∷ 10 ∷ 1 ∷ 30 ∷ 1 ∷ 9 ∷ 1 ∷ 10 ∷ 50 ∷ 30 ∷ 1 ∷
          14 ∷ 6 ∷ 9 ∷ 1 ∷ 10 ∷ 102 ∷ 30 ∷ 1 ∷ 40 ∷ 24 ∷ 2 ∷ 58 ∷ 2 ∷ 14 ∷ 2 ∷ 25 ∷ 9 ∷ 63 ∷ 9 ∷ 140 ∷ 1 ∷ 14 ∷ 76 ∷ 110 ∷ 24 ∷ 1 ∷ 8 ∷ 1 ∷
          25 ∷ 9 ∷ 74 ∷ 9 ∷ 140 ∷ 1 ∷ 14 ∷ 1 ∷ 9 ∷ 74 ∷ 9 ∷ 73 ∷ 9 ∷ [];
      symbols =
          0 ∷ 1 ∷ 2 ∷ 3 ∷ 4 ∷ 5 ∷ 6 ∷ 7 ∷ 8 ∷ 9 ∷ 10 ∷ 11 ∷ 12 ∷ 13 ∷ 14 ∷ 15 ∷ 16 ∷ 10 ∷ 18 ∷ 19 ∷ 20 ∷ 21 ∷ 22 ∷ 23 ∷ 24 ∷ 25 ∷ 26 ∷ 10 ∷ 28 ∷ 29 ∷
          30 ∷ 31 ∷ 32 ∷ 33 ∷ 34 ∷ 23 ∷ 36 ∷ 37 ∷ 38 ∷ 39 ∷ 40 ∷ 41 ∷ 42 ∷ 43 ∷ 44 ∷ 45 ∷ 46 ∷ 47 ∷ 12 ∷ 49 ∷ 50 ∷ 51 ∷ 52 ∷ 21 ∷ 54 ∷ 14 ∷ 56 ∷ 57 ∷
          58 ∷ 59 ∷ 60 ∷ 19 ∷ 62 ∷ 12 ∷ 64 ∷ 65 ∷ 66 ∷ 67 ∷ 68 ∷ [];
      kinds = [];
      tokens = [];
      sizes = [];
      roles = [];
    })
    shade_rows

abbrev shade_bindings : List ℕ
shade_bindings = 0 ∷ 9 ∷ 25 ∷ 0 ∷ 0 ∷ 0 ∷ 29 ∷ 24 ∷ 0 ∷ 0 ∷ 9 ∷ 0 ∷ 0 ∷ 0 ∷ 0 ∷ 14 ∷ 0 ∷ 0 ∷ 0 ∷ 0 ∷ 0 ∷ 0 ∷ 0 ∷ 0 ∷ 0 ∷ 0 ∷ 0 ∷ 27 ∷ 0 ∷ 0 ∷ 0 ∷ []

shade_bound : bindings shade ≡ shade_bindings
unfolding span first_from keep any owner schema_of added closure declarations items own super_edges renaming_edges type_edges inherited candidates
    type_meant items_of item_meant means binding bindings flat_map
shade_bound = refl

-- an order of its constants
abbrev shade_plan : List ℕ
shade_plan = 8 ∷ 13 ∷ 5 ∷ 22 ∷ []

shade_scanned : Scanned shade
unfolding word_byte space upper end_of_run end_of_remark skipped_in skipped numeral end_of_integer end_of_exponent end_of_real end_of_string
    end_of_binary lone size_of_symbol end_of_symbol token_kind_at end_of_token lexed_in terminal_of among same lower symbol_of symbols_of span first_from
shade_scanned = scanned_by shade refl refl refl refl

shade_parsed : parsed file shade.terminals ≡ good (whole shade_rows)
unfolding parsed first_deep parse descend mem budget
shade_parsed = refl

shade_named : (names shade).number ≡ 0
unfolding span first_from keep any owner schema_of added closure declarations items own super_edges renaming_edges type_edges inherited candidates
    type_meant items_of item_meant means binding bindings flat_map names stages least first_fault sort scope repeated type_name_fault cyclic qualified
    expression constant_edges
shade_named = refl

shade_typed : typing shade shade_bindings ≡ typed (kinds_in (typing shade shade_bindings))
unfolding typing type_constants type_nodes_in span keep flat_map numeral integer_value binary_bits exact quotient remainder DIV MOD power AND OR XOR
    join compare_lists simple denoted_in operator_of shape_in run_in evaluate answers owner first_from
shade_typed = refl

shade_order : (in_order shade shade_bindings [] shade_plan ≡ true) × (every (λ c. not (is shade constant c) || order.among shade_plan c) (nodes shade) ≡ true)
unfolding in_order every any span keep flat_map numeral integer_value binary_bits exact quotient remainder DIV MOD power AND OR XOR join compare_lists
    simple denoted_in operator_of shape_in run_in evaluate answers owner first_from
shade_order = (refl, refl)

shade_file : (c : ℕ) → c < 31 → kind shade c ≡ constant → Exactly shade (bindings shade) c (answer_at (answers shade shade_bindings shade_plan) c)
shade_file c l e =
    subst (λ (b : List ℕ). Exactly shade (bindings shade) c (answer_at (answers shade b shade_plan) c)) shade_bound
    (file_exact shade shade_scanned (read_good file shade (whole shade_rows) shade_parsed) ((names_passes shade).0 shade_named) (kinds_in (typing shade shade_bindings))
    (rw shade_bound shade_typed) shade_plan (rw shade_bound (order_passes shade shade_bindings shade_plan shade_order.0 shade_order.1)) c l e)

pub shade_exact :
    Exactly shade (bindings shade) 5 (logical TRUE) ×
    Exactly shade (bindings shade) 8 (item 23) ×
    Exactly shade (bindings shade) 13 (end 19) ×
    Exactly shade (bindings shade) 22 (end 19)
unfolding span keep flat_map numeral integer_value binary_bits exact quotient remainder DIV MOD power AND OR XOR join compare_lists simple denoted_in
    operator_of shape_in run_in evaluate answers owner first_from
shade_exact = (shade_file 5 (omega arith) refl, shade_file 8 (omega arith) refl, shade_file 13 (omega arith) refl, shade_file 22 (omega arith) refl)
