-- The report of how the last stage ended.
use mathlib.Core.Path.{◌≡◌}
use Prim.Native.Nat.{ℕ, ◌≤◌, ◌<◌}
use native.Mathlib.Omega.{arith}
use Rattle.std.specs.Prelude.{Ok, Err}
use Rattle.express.specs.Tokens.Lexis.{most}
use Rattle.stages.specs.declared.Refusal.{Refusal}
use Rattle.stages.specs.Line.{Stage}
use Rattle.reports.specs.Reporting.{Reports}

module _ {tokens nodes : ℕ} {last : Stage} where
  pub done_report : {n a b c : ℕ} → last ≡ Ok n → (tokens < 4294967296 → a ≡ tokens) → (nodes < 4294967296 → b ≡ nodes) → (n < 4294967296 → c ≡ n) →
      Reports tokens nodes last (record { reply = 0; number = 0; tokens = a; nodes = b; constants = c })
  done_report {n} {a} {b} {c} e f g h =
      record {
        is = λ t m k.
            let few : n ≤ most = rw e at k in
            let u : a ≡ tokens = f (omega arith) in
            let v : b ≡ nodes = g (omega arith) in
            let w : c ≡ n = h (omega arith) in
            rw (e, u, v, w);
      }

  pub refused_report : {f : Refusal} → last ≡ Err f → Reports tokens nodes last (record { reply = f.reply; number = f.number; tokens = 0; nodes = 0; constants = 0 })
  refused_report e = record { is = λ t m k. rw e }
