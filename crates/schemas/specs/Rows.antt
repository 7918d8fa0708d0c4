-- The answers of the constants of a schema in the rows of the answer columns, and their strings in the room (K13, K26, K36).
use Rattle.std.specs.Prelude.{◌≡◌, Bool, true, false, cond, ◌&&◌, ◌⊎◌, ℕ, ◌-◌, ◌≤◌, ◌<◌, eqb, leb, ltb, ℤ, pos, length, get_or, take, drop}
use mathlib.Core.List.{List, map, Memᴰ}
use Rattle.std.proofs.lemmas.List.Edits.{sets}
use Rattle.relations.specs.Select.{keep}
use Rattle.relations.specs.Reach.{Joins}
use Rattle.relations.specs.Sorted.{Arranged}
use Rattle.express.specs.Syntax.NodeKind as node
use Rattle.express.specs.Syntax.Grammar.{file}
use Rattle.express.specs.Syntax.Syntax.{Read}
use Rattle.express.specs.Syntax.Tree.{Table, count, kind, first, last, nodes, is_declaration, schema_of}
use Rattle.express.specs.Tokens.Scanned.{Scanned}
use Rattle.express.specs.Names.Scope as scope
use Rattle.express.specs.Names.Fault.{constant_edges}
use Rattle.express.specs.Names.Names.{WellNamed}
use Rattle.express.specs.Semantics.Answer.{Answer, indeterminate}
use Rattle.express.specs.Semantics.AnswerRow.{AnswerRow, row_of, row_at, bytes_of, room_of}
use Rattle.express.specs.Semantics.Declared.{STRING, declared_type}
use Rattle.express.specs.Semantics.DeclaredColumn.{DeclaredColumn, declared_number}
use Rattle.express.specs.Semantics.Kind.{constants, WellTyped}
use Rattle.express.specs.Semantics.Order.{constant_order}
use Rattle.express.specs.Semantics.Evaluate.{answers, answer_at}
use Rattle.constant_rows.specs.Numbering.{row_in}
use Rattle.node_answers.specs.Answers.{Stores}
use Rattle.string_bytes.specs.Reading.{Readable}
use Rattle.evaluate.specs.Evaluation.{Knows, Comparable}

abbrev pub row : Table → ℕ → ℕ
row t n = row_in t.kinds n

-- the answer of a constant, by its node
abbrev pub answer_of_constant : Table → ℕ → Answer
answer_of_constant t c = answer_at (answers t (scope.bindings t) (constant_order t)) c

-- the answers of a file's constants in the order of the text
abbrev pub file_answers : Table → List Answer
file_answers t = map (answer_of_constant t) (constants t)

-- K36: where the strings of the constants before a node end in the room: of a constant, where its own string starts
abbrev pub start_of : Table → ℕ → ℕ
start_of t n = length (room_of (take (row t n) (file_answers t)))

-- K35, K36: the row of a constant, by its node
abbrev pub row_of_constant : Table → ℕ → AnswerRow
row_of_constant t c = row_at (start_of t c) (answer_of_constant t c)

-- a constant that is declared STRING, seen through renamings (K2)
abbrev pub is_string : Table → ℕ → Bool
is_string t c = eqb (declared_number (declared_type t (scope.bindings t) c)) (declared_number STRING)

-- before the bytes of strings are there: the answer of a constant that is declared STRING, of which a row tells the length; `?` of the others
abbrev pub measured : Table → ℕ → Answer
measured t c = cond (is_string t c) (answer_of_constant t c) indeterminate

abbrev pub measured_row : Table → ℕ → AnswerRow
measured_row t c = row_of (measured t c)

-- a constant from lo up to hi
abbrev pub due : List ℕ → ℕ → ℕ → ℕ → Bool
due kinds lo hi d = leb lo d && (ltb d hi && eqb (get_or kinds d 0) node.constant)

-- THE COLUMNS OF A FILE that is read and typed, with its bindings, what it declares, and an order of its declarations in which each constant stands after those
-- that it names
pub record OfFile (t : Table) (bytes starts lengths terminals kinds tokens sizes bindings declared order : List ℕ) : Type 0 where
  pub read : Read file t
  pub scanned : Scanned t
  pub named : WellNamed t
  pub typed : WellTyped t bindings
  pub few : count t ≤ 4294967296
  pub bytes_are : t.bytes ≡ bytes
  pub starts_are : t.starts ≡ starts
  pub lengths_are : t.lengths ≡ lengths
  pub terminals_are : t.terminals ≡ terminals
  pub kinds_are : t.kinds ≡ kinds
  pub tokens_are : t.tokens ≡ tokens
  pub sizes_are : t.sizes ≡ sizes
  pub bindings_are : scope.bindings t ≡ bindings
  pub declares : DeclaredColumn t bindings declared
  pub ordered : Arranged (Joins (constant_edges t)) (keep (is_declaration t) (nodes t)) order

-- the rows of the constants, by node
pub record Rows (t : Table) (row_of : List ℕ) : Type 0 where
  pub is : (n : ℕ) → n < count t → get_or row_of n 0 ≡ row t n

-- room for the answers of the nodes
pub record Room (t : Table) (kinds : List ℕ) (numbers : List ℤ) (lengths : List ℕ) : Type 0 where
  pub kinds_long : count t ≤ length kinds
  pub numbers_long : count t ≤ length numbers
  pub lengths_long : count t ≤ length lengths

-- room for so many rows
pub record Holds (n : ℕ) (kinds : List ℕ) (numbers : List ℤ) (lengths : List ℕ) : Type 0 where
  pub kinds_long : n ≤ length kinds
  pub numbers_long : n ≤ length numbers
  pub lengths_long : n ≤ length lengths

module _ (bytes starts lengths terminals kinds tokens sizes bindings : List ℕ) where
  -- THE STRING OF ONE CONSTANT: its bytes are stored in the room, where its row says
  pub record WritesString (row_of : List ℕ) (d at : ℕ) (aks : List ℕ) (azs : List ℤ) (als room room' : List ℕ) : Type 0 where
    pub is :
        (t : Table) (declared order : List ℕ) → OfFile t bytes starts lengths terminals kinds tokens sizes bindings declared order → d < count t → kind t d ≡ node.constant →
        is_string t d ≡ true → Readable t t bindings (answer_of_constant t) row_of at aks azs als room (first t (last d)) d →
        (start : ℕ) → get_or aks (get_or row_of d 0 - at) 0 ≡ (row_at start (answer_of_constant t d)).kind →
        get_or azs (get_or row_of d 0 - at) (pos 0) ≡ (row_at start (answer_of_constant t d)).number → room' ≡ sets room start (bytes_of (answer_of_constant t d))

module _ (bytes starts lengths terminals kinds tokens sizes bindings declared : List ℕ) where
  -- ONE CONSTANT: its answer is stored in its row, of a string the length
  pub record EvaluatesConstant (row_of : List ℕ) (d at : ℕ) (aks : List ℕ) (azs : List ℤ) (als vks : List ℕ) (vzs : List ℤ) (vls room aks' : List ℕ) (azs' : List ℤ) (als' : List ℕ)
      : Type 0 where
    pub is :
        (t : Table) (order : List ℕ) → OfFile t bytes starts lengths terminals kinds tokens sizes bindings declared order → Room t vks vzs vls → d < count t →
        kind t d ≡ node.constant → Knows t t bindings (answer_of_constant t) row_of at aks azs als (first t (last d)) d →
        Comparable t t bindings (answer_of_constant t) row_of at aks azs als room (first t (last d)) d →
        Stores (answer_of_constant t d) (get_or row_of d 0 - at) aks azs als aks' azs' als'

  -- what is measured of one constant is stored in its row
  pub record MeasuresConstant (row_of : List ℕ) (d at : ℕ) (aks : List ℕ) (azs : List ℤ) (als vks : List ℕ) (vzs : List ℤ) (vls aks' : List ℕ) (azs' : List ℤ) (als' : List ℕ)
      : Type 0 where
    pub is :
        (t : Table) (order : List ℕ) → OfFile t bytes starts lengths terminals kinds tokens sizes bindings declared order → Room t vks vzs vls → d < count t →
        kind t d ≡ node.constant → (is_string t d ≡ true → Knows t t bindings (answer_of_constant t) row_of at aks azs als (first t (last d)) d) →
        Stores (measured t d) (get_or row_of d 0 - at) aks azs als aks' azs' als'

  -- ONE CONSTANT, once the rows of strings are there: its string is written, or its answer stored
  pub record FillsConstant (row_of : List ℕ) (d at : ℕ) (aks : List ℕ) (azs : List ℤ) (als vks : List ℕ) (vzs : List ℤ) (vls room aks' : List ℕ) (azs' : List ℤ) (als' room' : List ℕ)
      : Type 0 where
    pub string :
        (t : Table) (order : List ℕ) → OfFile t bytes starts lengths terminals kinds tokens sizes bindings declared order → d < count t → kind t d ≡ node.constant →
        is_string t d ≡ true → (aks' ≡ aks) × (azs' ≡ azs) × (als' ≡ als) × WritesString bytes starts lengths terminals kinds tokens sizes bindings row_of d at aks azs als room room'
    pub other :
        (t : Table) (order : List ℕ) → OfFile t bytes starts lengths terminals kinds tokens sizes bindings declared order → d < count t → kind t d ≡ node.constant →
        is_string t d ≡ false → (room' ≡ room) × EvaluatesConstant row_of d at aks azs als vks vzs vls room aks' azs' als'

-- the nodes of a schema: an edge of constants does not leave them (N10)
pub record Schema (t : Table) (lo hi at : ℕ) : Type 0 where
  pub known : hi < count t
  pub start : at ≡ row t lo
  pub closed :
      (d c : ℕ) → lo ≤ d → d < hi → kind t d ≡ node.constant → kind t c ≡ node.constant → schema_of t d ≡ schema_of t c → (lo ≤ c) × (c < hi)

-- A PART OF THE ORDER with the constants from lo up to hi, each after those that it names
pub record Part (t : Table) (lo hi : ℕ) (part : List ℕ) : Type 0 where
  pub sorted : (i c : ℕ) → i < length part → Joins (constant_edges t) (get_or part i 0) c → lo ≤ c → Memᴰ c (take i part)
  pub complete : (c : ℕ) → lo ≤ c → c < hi → kind t c ≡ node.constant → Memᴰ c part

-- A COLUMN whose rows from `at` on are those of the constants from lo up to hi: f gives what stands in a constant's row; all other rows are as they were
pub record Filled {A : Type 0} (z : A) (f : ℕ → A) (t : Table) (lo hi at : ℕ) (was column : List A) : Type 0 where
  pub constants_are : (c : ℕ) → lo ≤ c → c < hi → kind t c ≡ node.constant → get_or column (row t c - at) z ≡ f c
  pub rest : (r : ℕ) → row t hi - at ≤ r → get_or column r z ≡ get_or was r z

-- the three columns, by what stands in a constant's row
pub record FilledRows (rows : ℕ → AnswerRow) (t : Table) (lo hi at : ℕ) (aks : List ℕ) (azs : List ℤ) (als aks' : List ℕ) (azs' : List ℤ) (als' : List ℕ) : Type 0 where
  pub kinds_are : Filled 0 (λ c. (rows c).kind) t lo hi at aks aks'
  pub numbers_are : Filled (pos 0) (λ c. (rows c).number) t lo hi at azs azs'
  pub lengths_are : Filled 0 (λ c. (rows c).length) t lo hi at als als'

-- the rows of the constants from lo up to hi that are declared STRING are there
pub record Placed (t : Table) (lo hi at : ℕ) (aks : List ℕ) (azs : List ℤ) (als : List ℕ) : Type 0 where
  pub kinds_are : (c : ℕ) → lo ≤ c → c < hi → kind t c ≡ node.constant → is_string t c ≡ true → get_or aks (row t c - at) 0 ≡ (row_of_constant t c).kind
  pub numbers_are : (c : ℕ) → lo ≤ c → c < hi → kind t c ≡ node.constant → is_string t c ≡ true → get_or azs (row t c - at) (pos 0) ≡ (row_of_constant t c).number
  pub lengths_are : (c : ℕ) → lo ≤ c → c < hi → kind t c ≡ node.constant → is_string t c ≡ true → get_or als (row t c - at) 0 ≡ (row_of_constant t c).length

-- THE ROOM with the strings of the constants from lo up to hi; all other bytes are as they were
pub record FilledRoom (t : Table) (lo hi : ℕ) (was room : List ℕ) : Type 0 where
  pub long : length room ≡ length was
  pub strings_are :
      (c : ℕ) → lo ≤ c → c < hi → kind t c ≡ node.constant →
      take (length (bytes_of (answer_of_constant t c))) (drop (start_of t c) room) ≡ bytes_of (answer_of_constant t c)
  pub rest : (i : ℕ) → (i < start_of t lo) ⊎ (start_of t hi ≤ i) → get_or room i 0 ≡ get_or was i 0

module _ (bytes starts lengths terminals kinds tokens sizes bindings declared : List ℕ) where
  -- THE LENGTHS OF STRINGS: in the rows of the constants of a file, in an order, stands what is measured of them
  pub record MeasuresConstants (order row_of aks : List ℕ) (azs : List ℤ) (als vks : List ℕ) (vzs : List ℤ) (vls aks' : List ℕ) (azs' : List ℤ) (als' : List ℕ) : Type 0 where
    pub is :
        (t : Table) → OfFile t bytes starts lengths terminals kinds tokens sizes bindings declared order → Rows t row_of → Room t vks vzs vls →
        Holds (length (constants t)) aks azs als → FilledRows (measured_row t) t 0 (count t) 0 aks azs als aks' azs' als'

module _ (bytes starts lengths terminals kinds tokens sizes bindings declared part : List ℕ) where
  -- A SCHEMA: the rows of its constants are filled, and its strings lie in the room
  pub record FillsSchema (row_of : List ℕ) (lo hi at : ℕ) (aks : List ℕ) (azs : List ℤ) (als vks : List ℕ) (vzs : List ℤ) (vls room aks' : List ℕ) (azs' : List ℤ) (als' room' : List ℕ)
      : Type 0 where
    pub is :
        (t : Table) (order : List ℕ) → OfFile t bytes starts lengths terminals kinds tokens sizes bindings declared order → Part t lo hi part → Rows t row_of →
        Schema t lo hi at → Room t vks vzs vls → Holds (row t hi - at) aks azs als → Placed t lo hi at aks azs als → start_of t hi ≤ length room →
        FilledRows (row_of_constant t) t lo hi at aks azs als aks' azs' als' × FilledRoom t lo hi room room'
