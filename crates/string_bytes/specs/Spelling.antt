-- The bytes of a string, read from columns: those of its leaves in node order (K13, K21).
use Rattle.std.specs.Prelude.{◌≡◌, cond, not, ◌&&◌, ◌||◌, ℕ, min, ◌-◌, eqb, ℤ, pos, length, get_or, take, drop}
use mathlib.Core.List.{List, [], flat_map}
use Rattle.std.proofs.lemmas.List.Edits.{sets}
use Rattle.relations.specs.Select.{span}
use Rattle.express.specs.Syntax.NodeKind as node
use Rattle.express.specs.Tokens.Lexis.{string_value}
use Rattle.express.specs.Tokens.Terminal.{the}
use Rattle.express.specs.Tokens.Terminal as word
use Rattle.express.specs.Semantics.AnswerRow.{natural}

-- bytes are stored from an index on, as far as there are places; r of them there are
pub record Writes (bytes : List ℕ) (at : ℕ) (out out' : List ℕ) (r : ℕ) : Type 0 where
  pub many : r ≡ length bytes
  pub is : out' ≡ sets out at bytes

-- bytes are stored from the start on, as far as there are places, and r places hold them
pub record Spells (bytes out out' : List ℕ) (r : ℕ) : Type 0 where
  pub ends : r ≡ min (length bytes) (length out)
  pub is : out' ≡ sets out 0 bytes

-- K35: the bytes in the room of the string in row i; none of a row that holds no string
abbrev pub row_bytes : List ℕ → List ℕ → List ℤ → List ℕ → ℕ → List ℕ
row_bytes room kinds numbers lengths i =
    cond (eqb (get_or kinds i 0) 5) (take (get_or lengths i 0) (drop (natural (get_or numbers i (pos 0))) room)) []

pub record WritesRow (room kinds : List ℕ) (numbers : List ℤ) (lengths : List ℕ) (i at : ℕ) (out out' : List ℕ) (r : ℕ) : Type 0 where
  pub is : Writes (row_bytes room kinds numbers lengths i) at out out' r

-- K13: the bytes of a name, by its binding: those of the constant that it names, by that constant's row in columns that start with row `first`
abbrev pub named_bytes : List ℕ → List ℕ → ℕ → List ℕ → List ℤ → List ℕ → List ℕ → ℕ → List ℕ
named_bytes file_kinds row_of first kinds numbers lengths room binding =
    let bytes = row_bytes room kinds numbers lengths (get_or row_of (binding - 1) 0 - first) in
    cond (not (eqb binding 0) && eqb (get_or file_kinds (binding - 1) 0) node.constant) bytes []

pub record WritesName (file_kinds row_of : List ℕ) (first : ℕ) (kinds : List ℕ) (numbers : List ℤ) (lengths room : List ℕ) (binding at : ℕ) (out out' : List ℕ) (r : ℕ) : Type 0 where
  pub is : Writes (named_bytes file_kinds row_of first kinds numbers lengths room binding) at out out' r

-- T19: the value of a literal that is a string
abbrev pub literal_bytes : List ℕ → List ℕ → List ℕ → List ℕ → ℕ → List ℕ
literal_bytes bytes starts lengths terminals token =
    cond (eqb (get_or terminals token 0) (the word.string)) (string_value (take (get_or lengths token 0) (drop (get_or starts token 0) bytes))) []

pub record WritesLiteral (bytes starts lengths terminals : List ℕ) (token at : ℕ) (out out' : List ℕ) (r : ℕ) : Type 0 where
  pub is : Writes (literal_bytes bytes starts lengths terminals token) at out out' r

module _ (bytes starts lengths terminals kinds tokens bindings file_kinds row_of : List ℕ) (first : ℕ) (answer_kinds : List ℕ) (answer_numbers : List ℤ) (answer_lengths room : List ℕ) where
  -- what node n gives as a leaf
  abbrev pub node_bytes : ℕ → List ℕ
  node_bytes n =
      let k = get_or kinds n 0 in
      let literal = literal_bytes bytes starts lengths terminals (get_or tokens n 0) in
      let named = named_bytes file_kinds row_of first answer_kinds answer_numbers answer_lengths room (get_or bindings n 0) in
      cond (eqb k node.other_literal) literal (cond (eqb k node.name || eqb k node.qualified_item) named [])

  pub record WritesNode (n at : ℕ) (out out' : List ℕ) (r : ℕ) : Type 0 where
    pub is : Writes (node_bytes n) at out out' r

  -- and the nodes from lo up to hi, one after the other
  abbrev pub nodes_bytes : ℕ → ℕ → List ℕ
  nodes_bytes lo hi = flat_map node_bytes (span lo (hi - lo))

  pub record SpellsNodes (lo hi : ℕ) (out out' : List ℕ) (r : ℕ) : Type 0 where
    pub is : Spells (nodes_bytes lo hi) out out' r
