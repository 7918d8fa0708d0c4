-- A pass over the nodes of a file, from the last to the first, declaration by declaration: of each node there is a fault or none, an arc or none, and
-- an entry of a column.
use Rattle.std.specs.Prelude.{◌≡◌, true, cond, List, ℕ, ◌-◌, ◌≤◌, ◌<◌, leb, length, get_or, set, Option}
use Rattle.relations.specs.Select.{span}
use Rattle.express.specs.Syntax.Tree.{Table, count, is_declaration, nodes}
use Rattle.express.specs.Names.Fault.{Fault, fine}
use Rattle.express.specs.Names.Names.{sooner, least}
use Rattle.scopes.specs.Range.{vertex_count, node_of, range_start}
use Rattle.faults.specs.Meaning.{fault_of}
use Rattle.faults.specs.declared.Fault as code
use Rattle.dependencies.specs.Target.{Targets, behind_all}
use Rattle.dependencies.specs.Graph.{Added, Storing, Building, GraphOf}
use Rattle.type_names.specs.declared.Finding.{Finding}
use Rattle.type_names.specs.declared.Progress.{Progress}

-- what a pass is to find of each node: its fault in a stage of N19, the target of its arc or 0, its entry, and what the entry was before
pub record Pass : Type 0 where
  pub stage : ℕ → Fault
  pub target : ℕ → ℕ
  pub entry : ℕ → ℕ
  pub entry_before : ℕ → ℕ

-- what is found of a node is right
pub record Finds (p : Pass) (n : ℕ) (f : Finding) : Type 0 where
  pub fault_is : fault_of f.fault ≡ p.stage n
  pub target_is : f.target ≡ p.target n
  pub entry_is : f.binding ≡ p.entry n

-- a node of which nothing is to be found
pub record Skipped (p : Pass) (n : ℕ) : Type 0 where
  pub fault_none : p.stage n ≡ fine
  pub target_none : p.target n ≡ 0
  pub entry_kept : p.entry n ≡ p.entry_before n

-- `store`
pub record Stored (n : ℕ) (f : Finding) (before : Progress) (bound to : List ℕ) (after : Progress) (bound' to' : List ℕ) : Type 0 where
  pub bound_is : bound' ≡ set bound n f.binding
  pub added : Added to before.arcs f.target after.arcs to'
  pub least_is : fault_of after.least ≡ sooner (fault_of f.fault) (fault_of before.least)

-- the nodes from i on are passed; `was` is the column of arcs before the pass
pub record Passing (t : Table) (p : Pass) (was : List ℕ) (i : ℕ) (so_far : Progress) (bound to : List ℕ) : Type 0 where
  pub least_is : fault_of so_far.least ≡ least p.stage (span i (behind_all t - i))
  pub storing : Storing t p.target was i so_far.arcs to
  pub room : count t ≤ length bound
  pub entries : (n : ℕ) → n < count t → get_or bound n 0 ≡ cond (leb i n) (p.entry n) (p.entry_before n)

-- ---- the nodes of one declaration

-- lo and hi are the ends of the range of v
pub record RangeOf (t : Table) (v lo hi : ℕ) : Type 0 where
  pub number : v < vertex_count t
  pub from_is : lo ≡ range_start t v
  pub upto_is : hi ≡ node_of t v

-- those from i on are passed, in any file of which it is asked
pub record PassesRange (Asked : Table → ℕ → Type 0) (pass : Table → Pass) (lo hi : ℕ) (before : Progress) (bound to : List ℕ) (i : ℕ) (after : Progress) (bound' to' : List ℕ) : Type 0 where
  pub is :
      (t : Table) (was : List ℕ) (v : ℕ) → RangeOf t v lo hi → Asked t v → Passing t (pass t) was hi before bound to →
      Passing t (pass t) was i after bound' to'

-- ---- the declarations

-- nothing is to be found of a declaration itself, nor behind all of them
pub record WithinDeclarations (t : Table) (p : Pass) : Type 0 where
  pub targets : Targets t p.target
  pub declared : (n : ℕ) → is_declaration t n ≡ true → Skipped p n
  pub behind : (n : ℕ) → behind_all t ≤ n → n < count t → Skipped p n

-- the declarations from v on are passed
pub record PassingFrom (t : Table) (p : Pass) (was : List ℕ) (v : ℕ) (first : List ℕ) (so_far : Progress) (bound to : List ℕ) : Type 0 where
  pub passing : Passing t p was (range_start t v) so_far bound to
  pub building : Building t p.target was v first so_far.arcs to

-- ALL NODES are passed: the fault of the stage with the smallest place (N19), an entry for each node, and the graph
pub record PassedAll (t : Table) (p : Pass) (r : Option code.Fault) (bound first to : List ℕ) : Type 0 where
  pub reply : fault_of r ≡ least p.stage (nodes t)
  pub entries : (n : ℕ) → n < count t → get_or bound n 0 ≡ p.entry n
  pub graph : GraphOf t p.target first to
