-- What is known at a node, as a loop over the nodes from the last to the first carries it along.
use Rattle.std.specs.Prelude.{◌≡◌, Bool, cond, ◌&&◌, ◌||◌, List, [], ℕ, ◌+◌, ◌*◌, ◌-◌, ◌/◌, ◌%◌, ◌<◌, eqb, length}
use Rattle.columns.specs.Column.{tabulated}
use Rattle.express.specs.Syntax.NodeKind.{name, enumeration_item, constant, type, attribute_name, derived_attribute, rule, entity, schema, labelled, supertype_name}
use Rattle.express.specs.Syntax.Tree.{Table, owner, schema_of}
use Rattle.scopes.specs.Entries.{none, schemas, declared, items_of_types, members, supertypes, sorts, radix, is_other, vertex, others_before}
use Rattle.scopes.specs.declared.Here.{Here}
use Rattle.scopes.specs.declared.Counts.{Counts}

-- a table with these columns: names are looked up by no others
abbrev pub table_of : List ℕ → List ℕ → List ℕ → List ℕ → Table
table_of kinds tokens roles symbols =
    record { bytes = []; starts = []; lengths = []; terminals = []; symbols = symbols; kinds = kinds; tokens = tokens; sizes = []; roles = roles }

-- ---- of a kind and a role: what `is_declaration`, `is_scope_member` and `sort` of express say of a node that has them

abbrev pub declares : ℕ → Bool
declares kind = eqb kind constant || eqb kind type || eqb kind entity

abbrev pub is_member : ℕ → ℕ → Bool
is_member kind role = (eqb kind attribute_name || eqb kind derived_attribute) || eqb kind rule && eqb role labelled

abbrev pub sort_by : ℕ → ℕ → ℕ
sort_by kind role =
    cond (eqb kind schema) schemas
    (cond (declares kind) declared
    (cond (eqb kind enumeration_item) items_of_types
    (cond (is_member kind role) members (cond (eqb kind name && eqb role supertype_name) supertypes none))))

-- how many entries a node of a sort has behind the declarations
abbrev pub entry_count : ℕ → ℕ
entry_count s = cond (is_other s) 1 0

-- ---- classes: a sort and the number of its entries behind the declarations, as one number

abbrev pub class_of : ℕ → ℕ
class_of s = s + sorts * entry_count s

-- the letter that stands for class 0
abbrev pub first_letter : ℕ
first_letter = 64

-- by kind and role, as letters: 32 rows of 8; a row's last entry is that of all roles from 7 on
unfoldable pub class_table : List ℕ
class_table = tabulated (λ i. first_letter + class_of (sort_by (i / 8) (i % 8))) 0 256

-- ---- at a node

-- its owner, its schema, and how many entries of each part come before its own
pub record Stands (t : Table) (n : ℕ) (h : Here) : Type 0 where
  pub owner_is : h.owner ≡ owner t n
  pub schema_is : h.schema ≡ schema_of t n
  pub vertex_is : h.vertex ≡ vertex t n
  pub other_is : h.other ≡ others_before t n

-- at a node, from its kind and its role and from what is known at the next
pub record Passed (kind role n : ℕ) (after h : Here) : Type 0 where
  pub owner_is : h.owner ≡ cond (declares kind) n after.owner
  pub schema_is : h.schema ≡ cond (eqb kind schema) n after.schema
  pub vertex_is : h.vertex ≡ after.vertex - cond (declares kind) 1 0
  pub other_is : h.other ≡ after.other - entry_count (sort_by kind role)

-- at a node of a class, whatever kind and role it has
pub record PassedBy (class n : ℕ) (after h : Here) : Type 0 where
  pub is : (kind role : ℕ) → class ≡ class_of (sort_by kind role) → Passed kind role n after h

-- past the last of n nodes
pub record Ended (n : ℕ) (c : Counts) (h : Here) : Type 0 where
  pub owner_is : h.owner ≡ n
  pub schema_is : h.schema ≡ n
  pub vertex_is : h.vertex ≡ c.declarations
  pub other_is : h.other ≡ c.others

-- how many entries of each part there are before a node
pub record Counted (t : Table) (n : ℕ) (c : Counts) : Type 0 where
  pub declarations_is : c.declarations ≡ vertex t n
  pub others_is : c.others ≡ others_before t n

-- of one node more
pub record More (kind role : ℕ) (before c : Counts) : Type 0 where
  pub declarations_is : c.declarations ≡ before.declarations + cond (declares kind) 1 0
  pub others_is : c.others ≡ before.others + entry_count (sort_by kind role)

pub record MoreBy (class : ℕ) (before c : Counts) : Type 0 where
  pub is : (kind role : ℕ) → class ≡ class_of (sort_by kind role) → More kind role before c

-- of all nodes, whatever the tokens are; a file has fewer nodes than the radix
pub record Counting (kinds roles : List ℕ) (c : Counts) : Type 0 where
  pub is : length kinds < radix → (tokens symbols : List ℕ) → Counted (table_of kinds tokens roles symbols) (length kinds) c
