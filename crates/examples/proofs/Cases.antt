-- By computation, from the bytes on: the cases of whole/Case have their answers, and files of tests/cases their listings.
use mathlib.Core.Path.{◌≡◌, refl, ap, ◌∙◌}
use Prim.Native.Nat.{ℕ}
use mathlib.Core.Option.{some}
use mathlib.Core.List.{List, [], ◌∷◌, map, flat_map}
use lib.IntN.{pow, one}
use Rattle.ebnf.specs.Set.{mem}
use Rattle.ebnf.specs.Parse.{descend, budget, parse}
use Rattle.ebnf.specs.Depth.{first_deep}
use Rattle.express.specs.Tokens.Bytes.{upper, lower, word_byte, space, same}
use Rattle.express.specs.Tokens.Lexis.{Lexed, tokens, end_of_run, end_of_remark, skipped_in, skipped, numeral, unpaired, string_value, end_of_integer, end_of_exponent, end_of_real, end_of_string, end_of_short_string}
use Rattle.express.specs.Tokens.Lexis.{end_of_binary, lone, size_of_symbol, end_of_symbol, token_kind_at, end_of_token, lexed_in, integer_value, binary_bits}
use Rattle.express.specs.Tokens.Terminal.{among, terminal_of}
use Rattle.express.specs.Tokens.Spelling.{symbol_of, symbols_of}
use Rattle.express.specs.Syntax.Syntax.{parsed}
use Rattle.relations.specs.Select.{span, first_from, keep, any}
use Rattle.express.specs.Syntax.Tree.{owner, schema_of}
use Rattle.relations.specs.Reach.{added, closure}
use Rattle.express.specs.Names.Scope.{declarations, items, own, super_edges, renaming_edges, type_edges, inherited, candidates, type_meant, items_of, item_meant, means, binding, bindings}
use Rattle.express.specs.Names.Fault.{sort, scope, repeated, type_name_fault, cyclic, qualified, expression, constant_edges}
use Rattle.express.specs.Names.Names.{stages, least, first_fault, names}
use Rattle.express.specs.Semantics.Integer.{exact, quotient, remainder, DIV, MOD, power}
use Rattle.express.specs.Semantics.Logic.{AND, OR, XOR}
use Rattle.relations.specs.Order.{compare_lists}
use Rattle.express.specs.Semantics.Bits.{join}
use Rattle.express.specs.Semantics.Strings.{join_strings}
use Rattle.express.specs.Semantics.Declared.{simple, denoted_in}
use Rattle.express.specs.Semantics.Shape.{operator_of, shape_in}
use Rattle.express.specs.Semantics.Kind.{type_nodes_in, type_constants, typing}
use Rattle.express.specs.Semantics.Evaluate.{run_in, evaluate, answers}
use Rattle.express.specs.Semantics.Order.{constant_order}
use Rattle.express.specs.Whole.Reply.{Checked, checked_with, checked}
use Rattle.express.specs.Whole.Listing.{digits, listing}
use Rattle.express.specs.Whole.Case.{Case, cases, file_of, answers_of}
use Rattle.express.proofs.Tokens.Fast.{fast, fast_is, map_same}
use Rattle.examples.proofs.Files.{File, files}

-- the outcome by the fast reading of tokens
pub checked_fast : (s : List ℕ) (tokens nodes answers room : ℕ) → checked s tokens nodes answers room ≡ checked_with s (fast s) tokens nodes answers room
unfolding checked
checked_fast s tokens nodes answers room = ap (λ (l : Lexed). checked_with s l tokens nodes answers room) (fast_is s)

-- each expression, as the only constant of a file, has its answer
abbrev Cases : Type 0
Cases = map (λ (c : Case). answers_of (checked (file_of c.type c.expression) 8192 8192 1024 261120)) cases ≡ map (λ (c : Case). some (c.answer ∷ [])) cases

-- each file has its listing
abbrev Listings : Type 0
Listings = map (λ (f : File). listing (checked f.text f.tokens f.nodes f.answers f.room)) files ≡ map (λ (f : File). f.listing) files

-- the same by the fast reading of tokens
abbrev read : List ℕ → ℕ → ℕ → ℕ → ℕ → Checked
read s tokens nodes answers room = checked_with s (fast s) tokens nodes answers room

computed :
    (map (λ (c : Case). answers_of (read (file_of c.type c.expression) 8192 8192 1024 261120)) cases ≡ map (λ (c : Case). some (c.answer ∷ [])) cases) ×
    (map (λ (f : File). listing (read f.text f.tokens f.nodes f.answers f.room)) files ≡ map (λ (f : File). f.listing) files)
unfolding word_byte space upper lower end_of_run end_of_remark skipped_in skipped numeral end_of_integer end_of_exponent end_of_real end_of_string
    unpaired string_value end_of_short_string end_of_binary lone size_of_symbol end_of_symbol token_kind_at end_of_token lexed_in terminal_of among same symbol_of symbols_of parsed
    first_deep parse descend mem budget span first_from keep any owner schema_of added closure declarations items own super_edges renaming_edges
    type_edges inherited candidates type_meant items_of item_meant means binding bindings flat_map names stages least first_fault sort scope
    repeated type_name_fault cyclic qualified expression constant_edges integer_value binary_bits exact quotient remainder DIV MOD power pow one
    AND OR XOR join join_strings compare_lists simple denoted_in operator_of shape_in type_nodes_in type_constants typing run_in evaluate answers tokens constant_order digits listing
computed = (refl, refl)

pub all_cases : Cases
all_cases = map_same _ _ (λ (c : Case). ap answers_of (checked_fast (file_of c.type c.expression) 8192 8192 1024 261120)) cases ∙ computed.0

pub all_files : Listings
all_files = map_same _ _ (λ (f : File). ap listing (checked_fast f.text f.tokens f.nodes f.answers f.room)) files ∙ computed.1
