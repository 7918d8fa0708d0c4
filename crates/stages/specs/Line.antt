-- THE STAGES of a check in their order (R3): how each of them ends, from how the one before it did.
use Rattle.std.specs.Prelude.{cond, List, ℕ, eqb, leb, length, get_or, Result, Ok, Err}
use Rattle.ebnf.specs.Rows.{Rows}
use Rattle.ebnf.specs.Depth.{Outcome, good, unexpected, too_deep}
use Rattle.express.specs.Tokens.Lexis as lexis
use Rattle.express.specs.Tokens.Lexis.{lexed, tokens}
use Rattle.express.specs.Tokens.Scanned.{token_table}
use Rattle.express.specs.Syntax.Grammar.{file}
use Rattle.express.specs.Syntax.Syntax.{parsed, with_rows}
use Rattle.express.specs.Syntax.Tree.{Table, place}
use Rattle.express.specs.Names.Scope.{bindings}
use Rattle.express.specs.Names.Fault.{Fault}
use Rattle.express.specs.Names.Names.{names}
use Rattle.express.specs.Semantics.Kind.{Typing, typed, ill_typed, typing}
use Rattle.express.specs.Semantics.AnswerRow.{room_of}
use Rattle.express.specs.Whole.Reply.{Accepted, Checked, accepted, refused, Report}
use Rattle.parsing.specs.Parsing.{rows_of}
use Rattle.constants.specs.Constants.{row_in, file_answers}
use Rattle.stages.specs.declared.Refusal.{Refusal}

-- a stage that is done, with a count, or the refusal of it or of one before it
abbrev pub Stage : Type 0
Stage = Result ℕ Refusal

abbrev pub refusal : ℕ → ℕ → Stage
refusal k p = Err (record { reply = k; number = p })

-- a stage begins only where those before it are done; the count may be handed on
abbrev pub then_stage : Stage → (ℕ → Stage) → Stage
then_stage (Ok n) next = next n
then_stage (Err f) next = Err f

-- the count of a stage that is done, and 0 after a refusal (R6)
abbrev pub count_of : Stage → ℕ
count_of (Ok n) = n
count_of (Err f) = 0

-- ---- each stage by itself

-- T17, 1 to 3; 6: a reading of tokens
abbrev pub of_reading : lexis.Reading → Stage
of_reading (lexis.at n) = Ok n
of_reading (lexis.refused k p) = refusal k p

-- G27, G28, 4 and 5, at the start of a token or at the end of the bytes; 7, where the node table has so many entries
abbrev pub of_syntax : List ℕ → ℕ → ℕ → Outcome Rows → Stage
of_syntax starts size entries (good r) = cond (leb (length r.rows) entries) (Ok (length r.rows)) (refusal 7 (length r.rows))
of_syntax starts size entries (unexpected j) = refusal 4 (get_or starts j size)
of_syntax starts size entries (too_deep k) = refusal 5 (get_or starts k size)

-- 8: the constants of nodes of these kinds, where the answer table has so many entries
abbrev pub of_constants : List ℕ → ℕ → Stage
of_constants kinds entries = let n = row_in kinds (length kinds) in cond (leb n entries) (Ok n) (refusal 8 n)

-- N19, 9 to 13
abbrev pub of_names : Fault → ℕ → Stage
of_names f n = cond (eqb f.number 0) (Ok n) (refusal f.number f.place)

-- K11, 14 and 15
abbrev pub of_kinds : Table → Typing → ℕ → Stage
of_kinds t (typed ks) n = Ok n
of_kinds t (ill_typed f m) n = refusal f (place t m)

-- K36, 20: the bytes that the strings among the answers take, where the room has so many; the number is the room's
abbrev pub of_room : ℕ → ℕ → ℕ → Stage
of_room needed room n = cond (leb needed room) (Ok n) (refusal 20 room)

-- ---- the stages of a file s, with tables of so many entries and a room of so many bytes

-- its tokens and its nodes; there are none where it is refused by then
abbrev pub table_of : List ℕ → Table
table_of s = with_rows (token_table s) (rows_of (parsed file (token_table s).terminals))

-- done with the number of tokens
abbrev pub token_stage : List ℕ → ℕ → Stage
token_stage s token_rows = of_reading (tokens (lexed s) token_rows)

-- done with the number of nodes
abbrev pub node_stage : List ℕ → ℕ → ℕ → Stage
node_stage s token_rows node_rows =
    then_stage (token_stage s token_rows) (λ _. of_syntax (lexis.starts (lexed s)) (length s) node_rows (parsed file (token_table s).terminals))

-- done with the number of constants, as all stages from here on
abbrev pub constant_stage : List ℕ → ℕ → ℕ → ℕ → Stage
constant_stage s token_rows node_rows answer_rows = then_stage (node_stage s token_rows node_rows) (λ _. of_constants (table_of s).kinds answer_rows)

abbrev pub name_stage : List ℕ → ℕ → ℕ → ℕ → Stage
name_stage s token_rows node_rows answer_rows = then_stage (constant_stage s token_rows node_rows answer_rows) (of_names (names (table_of s)))

abbrev pub kind_stage : List ℕ → ℕ → ℕ → ℕ → Stage
kind_stage s token_rows node_rows answer_rows =
    then_stage (name_stage s token_rows node_rows answer_rows) (of_kinds (table_of s) (typing (table_of s) (bindings (table_of s))))

-- the bytes that the strings among its answers take
abbrev pub room_needed : Table → ℕ
room_needed t = length (room_of (file_answers t))

abbrev pub room_stage : List ℕ → ℕ → ℕ → ℕ → ℕ → Stage
room_stage s token_rows node_rows answer_rows room_bytes =
    then_stage (kind_stage s token_rows node_rows answer_rows) (of_room (room_needed (table_of s)) room_bytes)

-- ---- what the last stage says of the file

-- what a file whose stages are all done is accepted with
abbrev pub accepted_with : List ℕ → Accepted
accepted_with s = record { tokens = (lexed s).rows; table = table_of s; bindings = bindings (table_of s); answers = file_answers (table_of s) }

abbrev pub outcome_by : List ℕ → Stage → Checked
outcome_by s (Ok n) = accepted (accepted_with s)
outcome_by s (Err f) = refused f.reply f.number

-- the report, from the numbers of tokens and nodes and the end of the last stage (R6)
abbrev pub reported : ℕ → ℕ → Stage → Report
reported tokens nodes (Ok n) = record { reply = 0; number = 0; tokens = tokens; nodes = nodes; constants = n }
reported tokens nodes (Err f) = record { reply = f.reply; number = f.number; tokens = 0; nodes = 0; constants = 0 }

-- the entries of a table that stand: none after a refusal (R7)
abbrev pub kept_of : Stage → ℕ → ℕ
kept_of (Ok n) entries = entries
kept_of (Err f) entries = 0
