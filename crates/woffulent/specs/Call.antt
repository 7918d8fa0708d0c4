-- The report of a call in numbers (R10).
use Rattle.std.specs.Prelude.{ℕ}
use Rattle.express.specs.Whole.Reply.{Report}

abbrev pub report_by : ℕ → ℕ → ℕ → ℕ → ℕ → Report
report_by reply number tokens nodes constants = record { reply = reply; number = number; tokens = tokens; nodes = nodes; constants = constants }
