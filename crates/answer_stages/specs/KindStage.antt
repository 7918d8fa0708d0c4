-- The stage of kinds, after the names (replies 14 and 15): what its code leaves.
use Rattle.std.specs.Prelude.{◌≡◌, List, ℕ, ◌≤◌, length, get_or, Result, Ok, Err}
use Rattle.express.specs.Syntax.Tree.{Table, count}
use Rattle.express.specs.Semantics.DeclaredColumn.{DeclaredColumn}
use Rattle.express.specs.Semantics.Kind.{typing}
use Rattle.declared_types.specs.Promise.{ColumnsOf, Accepted}
use Rattle.typing.specs.declared.IllTyped.{IllTyped}
use Rattle.stages.specs.declared.Refusal.{Refusal}
use Rattle.stages.specs.Line.{Stage, refusal, of_kinds}

-- the answer of a typing as a stage that is done with n; a fault is at the start of its node's token
abbrev pub of_typing : List ℕ → List ℕ → Result (Unit {0}) IllTyped → ℕ → Stage
of_typing starts tokens (Ok _) n = Ok n
of_typing starts tokens (Err i) n = refusal i.reply (get_or starts (get_or tokens i.node 0) 0)

-- the columns of a file whose names are right and bound, an order of its declarations (N7), and room for a number for each node
pub record NamedColumns (t : Table) (starts terminals kinds tokens sizes bindings order declared scratch : List ℕ) : Type 0 where
  pub columns : ColumnsOf t terminals kinds tokens sizes
  pub starts_are : t.starts ≡ starts
  pub accepted : Accepted t bindings order declared
  pub room : count t ≤ length scratch

-- `type_file`: how the stage ends, and the column of declared types
pub record TypesFile (before : Stage) (starts terminals kinds tokens sizes bindings order declared scratch : List ℕ) (r : Stage) (declared' : List ℕ) : Type 0 where
  pub passed_on : (f : Refusal) → before ≡ Err f → r ≡ Err f
  pub is :
      (t : Table) → NamedColumns t starts terminals kinds tokens sizes bindings order declared scratch → (n : ℕ) → before ≡ Ok n →
      (r ≡ of_kinds t (typing t bindings) n) × DeclaredColumn t bindings declared'
