-- The end of a check: zeros behind what stands, and the report (R6, R7).
use Rattle.std.specs.Prelude.{◌≡◌, ℕ, length}
use Rattle.columns.specs.Column.{cleared}
use Rattle.express.specs.Whole.Reply.{Tables}
use Rattle.stages.specs.Line.{Stage, count_of, kept_of}
use Rattle.reports.specs.declared.Report.{Report}
use Rattle.reports.specs.Reporting.{Reports, ClearsTokens, ClearsNodes, ClearsAnswers}

-- `conclude`: the report, and zeros in each table from its count on, all of it after a refusal; then the room is cleared too
pub record Concludes (tokens nodes : ℕ) (last : Stage) (l m : Tables) (r : Report) : Type 0 where
  pub reports : Reports tokens nodes last r
  pub of_tokens : ClearsTokens (kept_of last tokens) l.token_kinds l.token_starts l.token_lengths m.token_kinds m.token_starts m.token_lengths
  pub of_nodes : ClearsNodes (kept_of last nodes) l.node_kinds l.node_tokens l.node_sizes l.node_bindings m.node_kinds m.node_tokens m.node_sizes m.node_bindings
  pub of_answers : ClearsAnswers (count_of last) l.answer_kinds l.answer_numbers l.answer_lengths m.answer_kinds m.answer_numbers m.answer_lengths
  pub of_room : m.room ≡ cleared 0 (kept_of last (length l.room)) l.room
