-- What a constant is declared with, seen through renamings (K2).
use Rattle.std.specs.Prelude.{Bool, cond, not, ◌&&◌, List, ℕ, zero, suc, ◌+◌, ◌-◌, eqb, get_or}
use Rattle.express.specs.Syntax.NodeKind.{simple_type, enumeration_item, type}
use Rattle.express.specs.Syntax.Tree.{Table, count, token, terminal, first, is, type_node}
use Rattle.express.specs.Tokens.Terminal.{the}
use Rattle.express.specs.Tokens.Terminal as word

-- the types that are evaluated (K2), an enumeration by the node of its type; and all others
pub data Declared : Type 0 where
  INTEGER BOOLEAN LOGICAL BINARY STRING : Declared
  enumeration : ℕ → Declared
  other : Declared

-- what a node is bound to: a binding is one more than the node of the declaration, or 0 (N18)
abbrev pub declaration : List ℕ → ℕ → ℕ
declaration b n = get_or b n 0 - 1

abbrev pub bound : Table → List ℕ → ℕ → ℕ → Bool
bound t b k n = not (eqb (get_or b n 0) 0) && is t k (declaration b n)

-- K2, K3: a simple type, by its word
unfoldable pub simple : ℕ → Declared
simple w =
    cond (eqb w (the word.INTEGER)) INTEGER
    (cond (eqb w (the word.BOOLEAN)) BOOLEAN
    (cond (eqb w (the word.LOGICAL)) LOGICAL
    (cond (eqb w (the word.BINARY)) BINARY
    (cond (eqb w (the word.STRING)) STRING other))))

-- `TYPE id '=' base`: the base of a type stands two tokens after its name; the names of a select list stand further on (`renames_is` of the crate
-- `theorems`, proofs/syntax/Renaming)
abbrev pub renames : Table → ℕ → Bool
renames t d = eqb (token t (first t d)) (token t d + 2)

-- The type that node n is or names. Each turn passes a type, and names that run in a cycle are refused earlier, so as many turns as there are
-- nodes are enough: `denoted_is` of proofs/kinds/Denotes says the same by rules, without a number of turns.
unfoldable pub denoted_in : ℕ → Table → List ℕ → ℕ → Declared
denoted_in zero t b n = other
denoted_in (suc f) t b n =
    let d = declaration b n in
    let renamed = denoted_in f t b (first t d) in
    let of_type = cond (is t enumeration_item (first t d)) (enumeration d) (cond (renames t d) renamed other) in
    cond (is t simple_type n) (simple (terminal t n)) (cond (bound t b type n) of_type other)

abbrev pub denoted : Table → List ℕ → ℕ → Declared
denoted t b n = denoted_in (count t) t b n

-- K2: the type that a constant is declared with
abbrev pub declared_type : Table → List ℕ → ℕ → Declared
declared_type t b c = denoted t b (type_node t c)
