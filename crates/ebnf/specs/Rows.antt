-- Derivations that make the rows of a node table, children before their parent (G30).
use Rattle.std.specs.Prelude.{List, [], ◌∷◌, ◌++◌, ℕ, suc, length}
use Rattle.ebnf.specs.Grammar.{Mark, silent, here, node, leaf, Actions}

-- A node's kind, the index of the token that names it, the number of nodes of its subtree, itself included, and its role.
pub record Row : Type 0 where
  pub kind : ℕ
  pub token : ℕ
  pub size : ℕ
  pub role : ℕ

-- the rows after a mark that is named by the token at i
abbrev pub stamp_rows : Mark → ℕ → List Row → List Row
stamp_rows silent i r = r
stamp_rows here i r = r
stamp_rows (node k o) i r = r ++ (record { kind = k; token = i; size = suc (length r); role = o } ∷ [])
stamp_rows (leaf k o) i r = r ++ (record { kind = k; token = i; size = 1; role = o } ∷ [])

-- the naming token of the next node, after a mark at the token i
abbrev pub stamp_name : Mark → ℕ → ℕ → ℕ
stamp_name silent i n = n
stamp_name here i n = i
stamp_name (node k o) i n = n
stamp_name (leaf k o) i n = n

-- The rows of a rule so far, and the token that names its next one: the one at which the rule began, until another is named.
pub record Rows : Type 0 where
  pub name : ℕ
  pub rows : List Row

abbrev pub in_rows : Actions
in_rows =
    record {
      Value = Rows;
      start = λ i. record { name = i; rows = [] };
      join = λ r s. record { name = r.name; rows = r.rows ++ s.rows };
      stamp = λ m i r. record { name = stamp_name m i r.name; rows = stamp_rows m i r.rows };
      close = λ m r. record { name = r.name; rows = stamp_rows m r.name r.rows };
    }
