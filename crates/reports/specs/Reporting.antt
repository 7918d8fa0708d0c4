-- The report, and zeros behind what stands of a table (R6, R7, R10).
use Rattle.std.specs.Prelude.{◌≡◌, List, ℕ, ◌≤◌, ℤ, pos}
use Rattle.columns.specs.Column.{cleared}
use Rattle.express.specs.Tokens.Lexis.{most}
use Rattle.express.specs.Whole.Reply as express
use Rattle.stages.specs.Line.{Stage, count_of, reported}
use Rattle.reports.specs.declared.Report.{Report}

-- R10: a report of the code
abbrev pub report_of : Report → express.Report
report_of r = record { reply = r.reply; number = r.number; tokens = r.tokens; nodes = r.nodes; constants = r.constants }

-- `summary`, of counts that a file may have
pub record Reports (tokens nodes : ℕ) (last : Stage) (r : Report) : Type 0 where
  pub is : tokens ≤ most → nodes ≤ most → count_of last ≤ most → report_of r ≡ reported tokens nodes last

-- ---- zeros

pub record ClearsTokens (from : ℕ) (kinds starts lengths kinds' starts' lengths' : List ℕ) : Type 0 where
  pub kinds_are : kinds' ≡ cleared 0 from kinds
  pub starts_are : starts' ≡ cleared 0 from starts
  pub lengths_are : lengths' ≡ cleared 0 from lengths

pub record ClearsNodes (from : ℕ) (kinds tokens sizes bindings kinds' tokens' sizes' bindings' : List ℕ) : Type 0 where
  pub kinds_are : kinds' ≡ cleared 0 from kinds
  pub tokens_are : tokens' ≡ cleared 0 from tokens
  pub sizes_are : sizes' ≡ cleared 0 from sizes
  pub bindings_are : bindings' ≡ cleared 0 from bindings

pub record ClearsAnswers (from : ℕ) (kinds : List ℕ) (numbers : List ℤ) (lengths kinds' : List ℕ) (numbers' : List ℤ) (lengths' : List ℕ) : Type 0 where
  pub kinds_are : kinds' ≡ cleared 0 from kinds
  pub numbers_are : numbers' ≡ cleared (pos 0) from numbers
  pub lengths_are : lengths' ≡ cleared 0 from lengths
