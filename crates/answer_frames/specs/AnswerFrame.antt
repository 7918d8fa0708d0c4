-- The answers of a file, with what is computed for each node in arrays of their own (replies 14, 15 and 20, the answer columns and the room).
use Rattle.std.specs.Prelude.{◌≡◌, List, ℕ, ◌≤◌, ℤ, length, take, Ok, Err}
use Rattle.relations.specs.Reach.{Joins}
use Rattle.relations.specs.Sorted.{Arranged}
use Rattle.express.specs.Tokens.Scanned.{Scanned}
use Rattle.express.specs.Syntax.Grammar.{file}
use Rattle.express.specs.Syntax.Syntax.{Read}
use Rattle.express.specs.Syntax.Tree.{Table, count}
use Rattle.express.specs.Names.Scope.{type_edges}
use Rattle.express.specs.Names.Scope as scope
use Rattle.express.specs.Names.Fault.{constant_edges}
use Rattle.express.specs.Names.Names.{WellNamed}
use Rattle.express.specs.Semantics.Kind as kind
use Rattle.scopes.specs.Range.{vertex_count, declared_nodes}
use Rattle.constants.specs.Constants.{Holds}
use Rattle.stages.specs.declared.Refusal.{Refusal}
use Rattle.stages.specs.Line.{Stage}
use Rattle.answer_stages.specs.AnswerStage.{Answered}

-- a file whose names are right (R17) and bound (N18): its columns, its declarations in order by types (N7) and by constants (N17) at the fronts of two, and room for its answers
pub record NamedFile (bytes starts lengths terminals kinds tokens sizes bindings types constants answer_kinds : List ℕ) (answer_numbers : List ℤ) (answer_lengths : List ℕ) (t : Table)
    : Type 0 where
  pub scanned : Scanned t
  pub read : Read file t
  pub named : WellNamed t
  pub bytes_are : bytes ≡ t.bytes
  pub starts_are : starts ≡ t.starts
  pub lengths_are : lengths ≡ t.lengths
  pub terminals_are : terminals ≡ t.terminals
  pub kinds_are : kinds ≡ t.kinds
  pub tokens_are : tokens ≡ t.tokens
  pub sizes_are : sizes ≡ t.sizes
  pub bound : bindings ≡ scope.bindings t
  pub types_room : vertex_count t ≤ length types
  pub constants_room : vertex_count t ≤ length constants
  pub types_arranged : Arranged (Joins (type_edges t)) (declared_nodes t) (take (vertex_count t) types)
  pub constants_arranged : Arranged (Joins (constant_edges t)) (declared_nodes t) (take (vertex_count t) constants)
  pub answer_room : Holds (length (kind.constants t)) answer_kinds answer_numbers answer_lengths

-- `answer_named`, of every such file with at most so many nodes
pub record AnswersWithin (nodes_most : ℕ) (before : Stage) (bytes starts lengths terminals kinds tokens sizes bindings types constants answer_kinds : List ℕ) (answer_numbers : List ℤ)
    (answer_lengths room : List ℕ) (r : Stage) (answer_kinds' : List ℕ) (answer_numbers' : List ℤ) (answer_lengths' room' : List ℕ) : Type 0 where
  pub passed_on : (f : Refusal) → before ≡ Err f → r ≡ Err f
  pub is :
      (t : Table) → NamedFile bytes starts lengths terminals kinds tokens sizes bindings types constants answer_kinds answer_numbers answer_lengths t → count t ≤ nodes_most →
      (n : ℕ) → before ≡ Ok n →
      Answered t bindings n r answer_kinds answer_numbers answer_lengths room answer_kinds' answer_numbers' answer_lengths' room'
