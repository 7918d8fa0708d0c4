-- The report of a stage, and the tables cleared behind what stands.
use mathlib.Core.Path.{◌≡◌, sym}
use Prim.Native.Nat.{ℕ}
use lib.ListN.{length}
use Rattle.columns.specs.Column.{cleared}
use Rattle.express.specs.Whole.Reply.{Tables}
use Rattle.stages.specs.Line.{Stage, count_of, kept_of}
use Rattle.reports.specs.declared.Report.{Report}
use Rattle.reports.specs.Reporting.{Reports, ClearsTokens, ClearsNodes, ClearsAnswers}
use Rattle.conclusions.specs.Conclusion.{Concludes}

module _ {tokens nodes : ℕ} {last : Stage} {l m : Tables} {r : Report} where
  pub concludes : {t n a b : ℕ} → t ≡ kept_of last tokens → n ≡ kept_of last nodes → a ≡ count_of last → b ≡ kept_of last (length l.room) →
      ClearsTokens t l.token_kinds l.token_starts l.token_lengths m.token_kinds m.token_starts m.token_lengths →
      ClearsNodes n l.node_kinds l.node_tokens l.node_sizes l.node_bindings m.node_kinds m.node_tokens m.node_sizes m.node_bindings →
      ClearsAnswers a l.answer_kinds l.answer_numbers l.answer_lengths m.answer_kinds m.answer_numbers m.answer_lengths →
      m.room ≡ cleared 0 b l.room → Reports tokens nodes last r →
      Concludes tokens nodes last l m r
  concludes t n a b T N A B R =
      record { reports = R; of_tokens = rw (sym t) T; of_nodes = rw (sym n) N; of_answers = rw (sym a) A; of_room = rw (sym b) B }
