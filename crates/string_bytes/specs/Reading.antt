-- The columns in which the leaves of an expression are read (K13).
use Rattle.std.specs.Prelude.{◌≡◌, List, ℕ, ◌-◌, ◌≤◌, ◌<◌, ℤ, get_or}
use Rattle.express.specs.Syntax.Tree.{Table}
use Rattle.express.specs.Semantics.Answer.{Answer}
use Rattle.express.specs.Semantics.AnswerRow.{bytes_of}
use Rattle.express.specs.Semantics.Shape.{name, shape_in}
use Rattle.string_bytes.specs.Spelling.{row_bytes}

-- the columns of an expression's table e, and the kinds of the file's table t
pub record Columns (t e : Table) (bytes starts lengths terminals kinds tokens file_kinds : List ℕ) : Type 0 where
  pub bytes_are : e.bytes ≡ bytes
  pub starts_are : e.starts ≡ starts
  pub lengths_are : e.lengths ≡ lengths
  pub terminals_are : e.terminals ≡ terminals
  pub kinds_are : e.kinds ≡ kinds
  pub tokens_are : e.tokens ≡ tokens
  pub file_kinds_are : t.kinds ≡ file_kinds

-- K35: the bytes of each constant that a node from lo up to hi names lie in the room, where its row says; g gives the answers of constants
pub record Readable (t e : Table) (bindings : List ℕ) (g : ℕ → Answer) (row_of : List ℕ) (first : ℕ) (aks : List ℕ) (azs : List ℤ) (als room : List ℕ) (lo hi : ℕ) : Type 0 where
  pub is : (m : ℕ) → lo ≤ m → m < hi → (c : ℕ) → shape_in t e bindings m ≡ name c → row_bytes room aks azs als (get_or row_of c 0 - first) ≡ bytes_of (g c)
