-- From names that are bound to answers: the stage of kinds and, where it is done, the evaluation and the room for strings. What the code of them leaves.
use Rattle.std.specs.Prelude.{◌≡◌, List, ℕ, ◌≤◌, ℤ, length, Ok, Err}
use Rattle.columns.specs.Column.{padded}
use Rattle.relations.specs.Select.{keep}
use Rattle.relations.specs.Reach.{Joins}
use Rattle.relations.specs.Sorted.{Arranged}
use Rattle.express.specs.Tokens.Lexis.{most}
use Rattle.express.specs.Tokens.Scanned.{Scanned}
use Rattle.express.specs.Syntax.Tree.{Table, count, nodes, is_declaration}
use Rattle.express.specs.Names.Fault.{constant_edges}
use Rattle.express.specs.Semantics.AnswerRow.{room_of}
use Rattle.express.specs.Semantics.Kind.{constants, typing}
use Rattle.constants.specs.Constants.{file_answers, Room, Holds, WrittenRows, EvaluatesConstants}
use Rattle.stages.specs.declared.Refusal.{Refusal}
use Rattle.stages.specs.Line.{Stage, then_stage, of_kinds, of_room, room_needed}
use Rattle.answer_stages.specs.KindStage.{NamedColumns}

-- `of_room`: the bytes needed against those of the room, whose number fits into 32 bits where it is short
pub record FitsRoom (needed room n : ℕ) (r : Stage) : Type 0 where
  pub is : needed ≤ 4294967296 → r ≡ of_room needed room n

-- THE END of the stages of kinds and of the room (14, 15 and 20) of a file with n constants: how the last of them ends, and where it is done the rows of
-- the answers, and their strings with zeros behind
pub record Answered (t : Table) (bindings : List ℕ) (n : ℕ) (r : Stage) (aks : List ℕ) (azs : List ℤ) (als room aks' : List ℕ) (azs' : List ℤ) (als' room' : List ℕ) : Type 0 where
  pub is : r ≡ then_stage (of_kinds t (typing t bindings) n) (of_room (room_needed t) (length room))
  pub rows : (m : ℕ) → r ≡ Ok m → WrittenRows aks azs als (file_answers t) aks' azs' als'
  pub strings : (m : ℕ) → r ≡ Ok m → room' ≡ padded 0 (length room) (room_of (file_answers t))

module _ (bytes starts lengths terminals kinds tokens sizes bindings : List ℕ) where
  -- `evaluate_file`: the evaluation, if the stages before it are done, and whether the room has the bytes that it needs
  pub record EvaluatesFile (before : Stage) (declared order was aks : List ℕ) (azs : List ℤ) (als vks : List ℕ) (vzs : List ℤ) (vls room : List ℕ) (r : Stage)
      (row_of' aks' : List ℕ) (azs' : List ℤ) (als' room' : List ℕ) : Type 0 where
    pub passed_on : (f : Refusal) → before ≡ Err f → r ≡ Err f
    pub is :
        (n : ℕ) → before ≡ Ok n →
        (needed : ℕ) × FitsRoom needed (length room) n r
        × EvaluatesConstants bytes starts lengths terminals kinds tokens sizes bindings declared order was aks azs als vks vzs vls room row_of' aks' azs' als' room' needed

  -- the columns of a file whose names are right and bound, with orders of its declarations by types (N7) and by constants (N17), and room for what
  -- is computed of each node and of each constant; it has no more nodes than a file may have
  pub record BoundColumns (t : Table) (type_order constant_order declared row_of aks : List ℕ) (azs : List ℤ) (als vks : List ℕ) (vzs : List ℤ) (vls : List ℕ) : Type 0 where
    pub named : NamedColumns t starts terminals kinds tokens sizes bindings type_order declared row_of
    pub scanned : Scanned t
    pub few : count t ≤ most
    pub bytes_are : t.bytes ≡ bytes
    pub lengths_are : t.lengths ≡ lengths
    pub arranged : Arranged (Joins (constant_edges t)) (keep (is_declaration t) (nodes t)) constant_order
    pub value_room : Room t vks vzs vls
    pub answer_room : Holds (length (constants t)) aks azs als

  -- `answer_file`
  pub record AnswersFile (before : Stage) (type_order constant_order declared row_of aks : List ℕ) (azs : List ℤ) (als vks : List ℕ) (vzs : List ℤ) (vls room : List ℕ) (r : Stage)
      (aks' : List ℕ) (azs' : List ℤ) (als' room' : List ℕ) : Type 0 where
    pub passed_on : (f : Refusal) → before ≡ Err f → r ≡ Err f
    pub is :
        (t : Table) → BoundColumns t type_order constant_order declared row_of aks azs als vks vzs vls → (n : ℕ) → before ≡ Ok n →
        Answered t bindings n r aks azs als room aks' azs' als' room'
