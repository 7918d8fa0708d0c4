-- Reply 9 by the entries of a file's dictionary: an entry with the key of an earlier one is declared twice (N2, N3).
use Rattle.std.specs.Prelude.{◌≡◌, List, ℕ, ◌+◌, get_or, Option, Some, None}
use Rattle.express.specs.Syntax.Tree as tree
use Rattle.express.specs.Syntax.Tree.{Table}
use Rattle.express.specs.Names.Fault.{Fault, fault, fine, repeated}
use Rattle.express.specs.Names.Names.{least}
use Rattle.index.specs.Dictionary.{first_with, Indexed}
use Rattle.scopes.specs.Preparation.{Prepared}
use Rattle.faults.specs.Meaning.{fault_of}
use Rattle.faults.specs.declared.Fault as code

module _ (tokens starts : List ℕ) where
  -- at the name of the later entry
  abbrev pub repetition_fault : List ℕ → Option ℕ → Fault
  repetition_fault nodes None = fine
  repetition_fault nodes (Some j) = fault 9 (get_or starts (get_or tokens (get_or nodes j 0) 0) 0)

  -- of an entry: the fault of the next one with its key
  abbrev pub entry_fault : List ℕ → List ℕ → ℕ → Fault
  entry_fault keys nodes e = repetition_fault nodes (first_with keys (get_or keys e 0) (e + 1))

  pub record Repetition (keys nodes next : List ℕ) (e : ℕ) (r : Option code.Fault) : Type 0 where
    pub is : (heads : List ℕ) → Indexed keys heads next → fault_of r ≡ entry_fault keys nodes e

  -- STAGE 9 of a file, from the columns of its dictionary
  pub record Duplicates (keys nodes next : List ℕ) (r : Option code.Fault) : Type 0 where
    pub is : (t : Table) (heads : List ℕ) → Prepared t keys nodes heads next → tokens ≡ t.tokens → starts ≡ t.starts →
        fault_of r ≡ least (repeated t) (tree.nodes t)
