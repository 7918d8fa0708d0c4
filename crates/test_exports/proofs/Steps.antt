-- The promise of `scan`, with its step as two numbers.
use Prim.Native.Nat.{ℕ}
use mathlib.Core.Path.{◌≡◌, ap, ◌∙◌}
use mathlib.Core.List.{List}
use Rattle.blanks.specs.Step.{reading}
use Rattle.scan.specs.Scan.{ScanResult}
use Rattle.std.specs.Prelude.{Result}
use Rattle.blanks.specs.declared.Refusal.{Refusal}
use Rattle.express.specs.Syntax.Grammar.{file}
use Rattle.parsing.specs.Parsing as Parsing
use Rattle.parsing.specs.Parsing.{Parsed}
use Rattle.test_exports.specs.Reply.{reply, number, Scans, Parses}

pub scans : {limit : ℕ} {src k₀ s₀ z₀ k s z : List ℕ} {step : Result ℕ Refusal} {r n : ℕ} → ScanResult limit src k₀ s₀ z₀ step k s z
    → n ≡ number (reading step) → r ≡ reply (reading step) → Scans limit src k₀ s₀ z₀ r n k s z
scans whole counted replied =
    record {
      replies = replied ∙ ap reply whole.is;
      counts = counted ∙ ap number whole.is;
      kinds = whole.kinds;
      starts = whole.starts;
      lengths = whole.lengths;
    }

pub parses : {ts s k t z o s' k' t' z' o' : List ℕ} {a : Parsed} {r n : ℕ} → Parsing.Parsing file ts a s k t z o s' k' t' z' o' → n ≡ Parsing.token_or_count a → r ≡ Parsing.reply a →
    Parses ts r n s k t z o s' k' t' z' o'
parses {a = a} p counted replied = record { answer = a; parses = p; replies = replied; counts = counted }
