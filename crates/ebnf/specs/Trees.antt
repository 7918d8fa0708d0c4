-- Derivations that make trees, for reading: the rows of a text are its trees in post-order (proofs/Trees.antt).
use Rattle.std.specs.Prelude.{List, [], ◌∷◌, ◌++◌, ℕ, suc, length}
use Rattle.ebnf.specs.Grammar.{Mark, silent, here, node, leaf, Actions}
use Rattle.ebnf.specs.Rows.{Row, Rows, stamp_name}

-- Trees side by side: the first one's kind, role, naming token and children, and the others.
pub data Forest : Type 0 where
  empty : Forest
  add : ℕ → ℕ → ℕ → Forest → Forest → Forest

abbrev pub beside : Forest → Forest → Forest
beside empty g = g
beside (add k o i c f) g = add k o i c (beside f g)

abbrev pub stamp_trees : Mark → ℕ → Forest → Forest
stamp_trees silent i f = f
stamp_trees here i f = f
stamp_trees (node k o) i f = add k o i f empty
stamp_trees (leaf k o) i f = beside f (add k o i empty empty)

-- the trees of a rule so far, and the token that names its next node
pub record Grove : Type 0 where
  pub name : ℕ
  pub trees : Forest

abbrev pub in_trees : Actions
in_trees =
    record {
      Value = Grove;
      start = λ i. record { name = i; trees = empty };
      join = λ r s. record { name = r.name; trees = beside r.trees s.trees };
      stamp = λ m i r. record { name = stamp_name m i r.name; trees = stamp_trees m i r.trees };
      close = λ m r. record { name = r.name; trees = stamp_trees m r.name r.trees };
    }

-- children before their parent, each row with the size of its subtree
abbrev pub flat : Forest → List Row
flat empty = []
flat (add k o i c f) = flat c ++ (record { kind = k; token = i; size = suc (length (flat c)); role = o } ∷ flat f)

-- the trees in post-order
abbrev pub laid : Grove → Rows
laid g = record { name = g.name; rows = flat g.trees }
