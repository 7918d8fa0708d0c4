-- The names of a file, with all scratch but the orders of the declarations in arrays of their own (replies 9 to 13).
use Rattle.std.specs.Prelude.{◌≡◌, List, ℕ, ◌+◌, ◌*◌, ◌/◌, ◌<◌, ◌≤◌, length, Ok, Err}
use Rattle.express.specs.Tokens.Lexis.{most}
use Rattle.express.specs.Syntax.Tree.{Table}
use Rattle.scopes.specs.Range.{vertex_count}
use Rattle.names.specs.Resolution.{FileRead}
use Rattle.stages.specs.declared.Refusal.{Refusal}
use Rattle.stages.specs.Line.{Stage}
use Rattle.pipeline.specs.NameStage.{NamesEnd}

-- sizes of arrays for a file of at most so many tokens, which has at most as many nodes, half as many entries of the dictionary and arcs, and a
-- declaration for each five tokens, with six words of the search for each of these
pub record FrameSizes (rows half eighth fifth search : ℕ) : Type 0 where
  pub few : rows ≤ most
  pub some : 0 < rows
  pub half_is : rows ≡ 2 * half
  pub eighth_is : rows ≡ 8 * eighth
  pub fifth_is : fifth ≡ rows / 5 + 1
  pub search_is : search ≡ 6 * fifth

-- `name_file`, of every file that is read and has at most so many tokens, with two columns for an order of its declarations
pub record NamesWithin (tokens_most : ℕ) (before : Stage) (src starts lengths terminals kinds tokens sizes bindings types constants : List ℕ) (r : Stage)
    (bindings' types' constants' : List ℕ) : Type 0 where
  pub passed_on : (f : Refusal) → before ≡ Err f → r ≡ Err f
  pub is :
      (t : Table) → FileRead src starts lengths terminals kinds tokens sizes bindings t → length starts ≤ tokens_most →
      vertex_count t ≤ length types → vertex_count t ≤ length constants → (n : ℕ) → before ≡ Ok n → NamesEnd t n r bindings' types' constants'
