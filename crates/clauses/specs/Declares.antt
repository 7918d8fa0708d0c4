-- The inner contracts of the readers of declarations, in terms of the grammar.
use Rattle.std.specs.Prelude.{not, cond, List, [], ◌∷◌, ℕ, ◌+◌, ◌*◌, ◌/◌, ◌%◌, eqb, get_or}
use Rattle.ebnf.specs.Set.{mem}
use Rattle.ebnf.specs.Grammar.{here, node, leaf, Ebnf, none, mark, step, seq, star, nt}
use Rattle.ebnf.specs.Rows.{Rows}
use Rattle.ebnf.specs.Parse.{Result}
use Rattle.express.specs.Tokens.Terminal.{identifier, semicolon, comma, DERIVE, TYPE}
use Rattle.express.specs.Syntax.Grammar.{Nonterminal, base, constant, derived, attributes, where_clause, type_declaration, entity, ◌·◌, tok, opt, simple_types}
use Rattle.express.specs.Syntax.NodeKind as kind
use Rattle.parsing.specs.Reading.{Read, At, Sound, Found, Reading, Leaf}

-- the end of a rule, at token p and row n: `;` and a row over all of it
pub record Closes (first label name : ℕ) (ts : List ℕ) (p n : ℕ) (r : Read) (a b : List ℕ) : Type 0 where
  pub ends : {want : Result Rows} {was : List ℕ} → Reading ts want first was (tok semicolon · mark (node (label % 256) (label / 256))) name (At p n) a → Found want first r was b

-- the same behind a type
pub record Groups (first label name : ℕ) (ts : List ℕ) (p n : ℕ) (r : Read) (a b : List ℕ) : Type 0 where
  pub ends : {want : Result Rows} {was : List ℕ} →
      Reading ts want first was (nt base · tok semicolon · mark (node (label % 256) (label / 256))) name (At p n) a → Found want first r was b

-- kind and role of a row in one number
abbrev pub label_of : ℕ → ℕ → ℕ
label_of kind role = kind + 256 * role

-- an identifier that leaves a row, and more of them behind commas
abbrev pub id_of : ℕ → Ebnf Nonterminal
id_of label = step (leaf (label % 256) (label / 256)) identifier none

abbrev pub names_of : ℕ → Ebnf Nonterminal
names_of label = id_of label · star (tok comma · id_of label)

pub record Leaves (label : ℕ) (ts : List ℕ) (p n : ℕ) (r : Read) (a b : List ℕ) : Type 0 where
  pub sound : Sound ts r
  pub leaf : Leaf (mem (get_or ts p 0) identifier) label p n r a b

-- kind and role of a type's row, by its token; 0 where none begins
abbrev pub type_label : ℕ → ℕ → ℕ
type_label c label = cond (mem c simple_types) kind.simple_type (cond (mem c identifier) label 0)

-- a simple type, or a name with the label
pub record Types (label : ℕ) (ts : List ℕ) (p n : ℕ) (r : Read) (a b : List ℕ) : Type 0 where
  pub sound : Sound ts r
  pub leaf : Leaf (not (eqb (type_label (get_or ts p 0) label) 0)) (type_label (get_or ts p 0) label) p n r a b

-- what is declared by an assignment: a constant, or a derived attribute
abbrev pub assigned_by : ℕ → Nonterminal
assigned_by label = cond (eqb label kind.constant) constant derived

-- what a token begins in a schema
abbrev pub declared_by : ℕ → Nonterminal
declared_by c = cond (mem c TYPE) type_declaration entity

-- a word, and an identifier behind it, which names the next row
pub record Heads (word : ℕ) (ts : List ℕ) (p n : ℕ) (r : Read) : Type 0 where
  pub sound : Sound ts r
  pub goes : {want : Result Rows} {k m : ℕ} {was b : List ℕ} {rest : Ebnf Nonterminal} →
      Reading ts want k was (seq (tok (word ∷ [])) (seq (step here identifier none) rest)) m (At p n) b → Reading ts want k was rest (p + 1) r b

-- what stands in an entity behind its head
abbrev pub members_of : Ebnf Nonterminal
members_of = star (nt attributes) · opt (tok DERIVE · nt derived · star (nt derived)) · opt (nt where_clause)
