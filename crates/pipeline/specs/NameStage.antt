-- The stage of names, after the room for answers (replies 9 to 13): what its code leaves.
use Rattle.std.specs.Prelude.{◌≡◌, List, ℕ, length, take, Result, Ok, Err}
use Rattle.relations.specs.Reach.{Joins}
use Rattle.relations.specs.Sorted.{Arranged}
use Rattle.express.specs.Tokens.Lexis.{most}
use Rattle.express.specs.Syntax.Tree.{Table}
use Rattle.express.specs.Names.Scope.{type_edges}
use Rattle.express.specs.Names.Scope as scope
use Rattle.express.specs.Names.Fault.{constant_edges}
use Rattle.express.specs.Names.Names.{names}
use Rattle.scopes.specs.Range.{vertex_count, declared_nodes}
use Rattle.faults.specs.Meaning.{number_of}
use Rattle.resolutions.specs.declared.Refusal as resolution
use Rattle.resolutions.specs.declared.Refusal.TheVariants.{Faulty, Unfit}
use Rattle.names.specs.Resolution.{FileRead, NamesRoom}
use Rattle.stages.specs.declared.Refusal.{Refusal}
use Rattle.stages.specs.Line.{Stage, refusal, of_names}

-- the answer of a resolution as a stage that is done with n; columns that do not fit are those of no file
abbrev pub of_resolution : Result (Unit {0}) resolution.Refusal → ℕ → Stage
of_resolution (Ok x) n = Ok n
of_resolution (Err (Faulty f)) n = refusal (number_of f.reply) f.place
of_resolution (Err Unfit) n = refusal 1 most

-- the end of the stage: no fault, with the bindings and two orders of the declarations, or the fault of N19
pub record NamesEnd (t : Table) (n : ℕ) (r : Stage) (bindings types constants : List ℕ) : Type 0 where
  pub is : r ≡ of_names (names t) n
  pub bound : (m : ℕ) → r ≡ Ok m → bindings ≡ scope.bindings t
  pub types_arranged : (m : ℕ) → r ≡ Ok m → Arranged (Joins (type_edges t)) (declared_nodes t) (take (vertex_count t) types)
  pub constants_arranged : (m : ℕ) → r ≡ Ok m → Arranged (Joins (constant_edges t)) (declared_nodes t) (take (vertex_count t) constants)

-- `name_file`, of every file that is read, with room for what the stage writes. The column of bindings holds the roles before.
pub record NamesFile (before : Stage) (src starts lengths terminals kinds tokens sizes bindings roles symbols keys nodes heads next first to types constants scratch : List ℕ) (r : Stage)
    (bindings' types' constants' : List ℕ) : Type 0 where
  pub passed_on : (f : Refusal) → before ≡ Err f → r ≡ Err f
  pub is :
      (t : Table) → FileRead src starts lengths terminals kinds tokens sizes bindings t →
      NamesRoom t (length roles) (length symbols) (length keys) (length nodes) (length heads) (length next) (length first) (length to) (length types) (length constants) (length scratch) →
      (n : ℕ) → before ≡ Ok n → NamesEnd t n r bindings' types' constants'
