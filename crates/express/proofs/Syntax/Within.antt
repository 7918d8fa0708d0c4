-- What lies within a node of a table that holds the rows of a derived text: nodes of an expression, the declaration and the schema that a
-- node lies in, and the file.
use mathlib.Core.Bool.{Bool, true, ◌&&◌, not, ◌||◌}
use mathlib.Core.List.{[], ◌∷◌, ◌++◌}
use mathlib.Core.Logic.{⊎_elim}
use mathlib.Core.Path.{◌≡◌, refl, sym, ◌∙◌, subst}
use Prim.Native.Nat.{ℕ, suc, ◌-◌, ◌≤◌, ◌<◌}
use native.Mathlib.Omega.{arith}
use lib.Dec.{eqb}
use lib.ListN.{length}
use borrow.Author.Tests.{eqb-true, not-true}
use Rattle.ebnf.specs.Set.{mem, subset}
use Rattle.ebnf.proofs.Sets.{and_split, lt_or_le, mem_one, in_more}
use Rattle.ebnf.proofs.Lookahead.{inside}
use Rattle.ebnf.proofs.Sorts.{sort, every, every_of}
use Rattle.ebnf.proofs.Parts.{Behind}
use Rattle.ebnf.proofs.PostOrder.{row_at, size_at, token_named, tokens_behind}
use Rattle.ebnf.proofs.Children.{last_one, no_more}
use Rattle.ebnf.proofs.Below.{every_part, below, child_of}
use Rattle.express.specs.Tokens.Terminal.{identifier, integer, binary, dot, power, the}
use Rattle.express.specs.Syntax.Tree.{Table, count, kind, token, size, role, terminal, first, is_declaration, owner, schema_of}
use Rattle.express.specs.Syntax.Grammar.{Nonterminal, file, expression, simple_types, relations, additions, multiplications, signs, comparisons, logicals}
use Rattle.express.specs.Syntax.Syntax.{Read}
use Rattle.relations.specs.Select.{first_from}
use Rattle.express.proofs.Syntax.Syntax.{express}
use Rattle.express.proofs.Syntax.Nodes.{expressions, kinds, all_rows, all_below, children_have, children_pass, named_by_some}
use Rattle.express.proofs.Syntax.FormedRows.{kind_is, role_is, size_is, token_is, count_is, node_at}
use Rattle.relations.proofs.Select.{first_of}
use Rattle.express.specs.Syntax.NodeKind as node
use Rattle.express.specs.Syntax.NodeKind.{kind_limit}
use Rattle.express.proofs.Syntax.KindSets as set

module _ {x : Nonterminal} {t : Table} (d : Read x t) where
  -- THE NAMING TOKEN of a node is one of those that name its kind
  pub named_at : (n : ℕ) → n < count t → mem (terminal t n) (kinds.named_by (kind t n) (role t n)) ≡ true
  named_at n l = rw (kind_is d n, role_is d n, token_is d n) (token_named kinds t.terminals d.rows n (node_at d n l) _ _ refl refl)

  -- so, kind by kind: an integer, a binary and a logical literal, a sign, an operator, an interval's operator and a simple type
  pub integer_named : (n : ℕ) → n < count t → kind t n ≡ node.integer_literal → terminal t n ≡ the integer
  integer_named n l e = mem_one (terminal t n) (the integer) (rw e at (named_at n l))

  pub binary_named : (n : ℕ) → n < count t → kind t n ≡ node.binary_literal → terminal t n ≡ the binary
  binary_named n l e = mem_one (terminal t n) (the binary) (rw e at (named_at n l))

  pub logical_named : (n : ℕ) → n < count t → kind t n ≡ node.logical_literal → mem (terminal t n) logicals ≡ true
  logical_named n l e = rw e at (named_at n l)

  pub sign_named : (n : ℕ) → n < count t → kind t n ≡ node.unary → mem (terminal t n) signs ≡ true
  sign_named n l e = rw e at (named_at n l)

  pub operator_named : (n : ℕ) → n < count t → kind t n ≡ node.two_operand → mem (terminal t n) (relations ++ additions ++ multiplications ++ power) ≡ true
  operator_named n l e = rw e at (named_at n l)

  pub comparison_named : (n : ℕ) → n < count t → kind t n ≡ node.interval_operator → mem (terminal t n) comparisons ≡ true
  comparison_named n l e = rw e at (named_at n l)

  pub simple_named : (n : ℕ) → n < count t → kind t n ≡ node.simple_type → mem (terminal t n) simple_types ≡ true
  simple_named n l e = rw e at (named_at n l)

  -- it stands in the text
  pub token_inside : (n : ℕ) → n < count t → token t n < length t.terminals
  token_inside n l = inside express t.terminals _ (token t n) (named_by_some (kind t n) (role t n)) (named_at n l)

  -- and behind an item's stand a dot and the name of its type
  pub item_behind : (n : ℕ) → n < count t → kind t n ≡ node.qualified_item → Behind t.terminals (token t n) (dot ∷ identifier ∷ [])
  item_behind n l e = rw (token_is d n) (tokens_behind kinds t.terminals d.rows n (node_at d n l) 7 (sym (kind_is d n) ∙ e))

  first_is_row : (n : ℕ) → first t n ≡ suc n - size_at d.rows n
  first_is_row n = let s = size_is d n in omega (arith, s)

  -- BELOW A NODE: what its children pass, all nodes below it pass, by kind and role, if the children of what passes do
  pub all_pass_below : (q : ℕ → Bool) (p : ℕ → ℕ → Bool) → ((k o : ℕ) → p k o ≡ true → q k ≡ true) →
      all_below kind_limit (λ k. not (q k) || every_part p (kinds.children k)) ≡ true → (n : ℕ) → n < count t →
      every_part p (kinds.children (kind t n)) ≡ true → (m : ℕ) → first t n ≤ m → m < n → p (kind t m) (role t m) ≡ true
  all_pass_below q p i c n l e m u v =
      rw (kind_is d m, role_is d m)
      (below kinds t.terminals p (λ k o h. children_have q p c k (i k o h)) d.rows n (node_at d n l) (rw (kind_is d n) at e) m (rw (first_is_row n) at u) v)

  -- the same by kind alone
  pub passes_below : (p : ℕ → Bool) → all_below kind_limit (λ k. not (p k) || every_part (λ j o. p j) (kinds.children k)) ≡ true → (n : ℕ) → n < count t →
      every_part (λ j o. p j) (kinds.children (kind t n)) ≡ true → (m : ℕ) → first t n ≤ m → m < n → p (kind t m) ≡ true
  passes_below p c n l e m u v = all_pass_below p (λ k o. p k) (λ k o h. h) c n l e m u v

  -- THE NODES OF AN EXPRESSION, itself and those below it
  pub expression_below : (n : ℕ) → n < count t → mem (kind t n) set.expression_kinds ≡ true → (m : ℕ) → first t n ≤ m → m ≤ n →
      mem (kind t m) set.in_expression ≡ true
  unfolding all_below every mem subset
  expression_below n l e m u v =
      ⊎_elim
      (λ (w : m < n). passes_below (λ k. mem k set.in_expression) refl n l (children_pass (λ k. mem k set.expression_kinds) (λ k. mem k set.in_expression) refl (kind t n) e) m u w)
      (λ (w : n ≤ m). let z : m ≡ n = omega arith in rw z (in_more (kind t n) set.expression_kinds set.in_expression refl e))
      (lt_or_le m n)

-- Node m is over node n, or is it: n lies in the subtree of m.
pub record Over (t : Table) (n m : ℕ) : Type 0 where
  pub known : m < count t
  pub from : first t m ≤ n
  pub to : n ≤ m

-- neither the kind that is looked for, nor a schema or the file
abbrev inner : (ℕ → Bool) → ℕ → Bool
inner q k = not (q k) && mem k set.below_schema

-- the tests, computed: the children of the kinds that are looked for are inner, and those of inner ones are
abbrev Nested : (ℕ → Bool) → Type 0
Nested q =
    (all_below kind_limit (λ k. not (q k) || every_part (λ j o. inner q j) (kinds.children k)) ≡ true)
    × (all_below kind_limit (λ k. not (inner q k) || every_part (λ j o. inner q j) (kinds.children k)) ≡ true)

module _ {x : Nonterminal} {t : Table} (d : Read x t) where
  -- The first node at or after n of the kinds that are looked for is the child of r that n lies in, where r's children are all of these kinds.
  pub first_over : (q : ℕ → Bool) → Nested q → (r : ℕ) → r < count t → every_part (λ j o. q j) (kinds.children (kind t r)) ≡ true →
      (n : ℕ) → first t r ≤ n → n < r →
      Over t n (first_from (λ k. q (kind t k)) n (count t - n)) × (q (kind t (first_from (λ k. q (kind t k)) n (count t - n))) ≡ true)
      × (first_from (λ k. q (kind t k)) n (count t - n) < r)
  first_over q s r l e n u v =
      let c =
      child_of kinds t.terminals (λ k o. q k) d.rows r (node_at d r l) (rw (kind_is d r) at e) n (rw (first_is_row d r) at u) v in
      let m = c.child in
      let a = c.above in
      let w : m < count t = omega (arith, a, l) in
      let o : q (kind t m) ≡ true = rw (kind_is d m) c.passes in
      let f : first t m ≤ n = rw (first_is_row d m) c.from in
      let z =
      first_of (λ k. q (kind t k)) (count t) n m c.to w o
      (λ j g h.
      not-true _ (and_split (not (q (kind t j))) _
      (passes_below d (inner q) s.1 m w (children_pass q (inner q) s.0 (kind t m) o) j (omega (arith, f, g)) h)).0) in
      subst (λ (k : ℕ). Over t n k × (q (kind t k) ≡ true) × (k < r)) (sym z) (record { known = w; from = f; to = c.to }, o, a)

-- ---- an expression that is read by itself

module _ {t : Table} (d : Read expression t) where
  -- THE EXPRESSION is the last node, over all others
  pub expression_last : (1 ≤ count t) × (mem (kind t (count t - 1)) set.expression_kinds ≡ true) × (size t (count t - 1) ≡ count t)
  unfolding every mem
  expression_last =
      let l = last_one d.rows 0 (length d.rows) [] expressions (all_rows expression t.terminals d.rows d.parses) in
      let e = count_is d in
      let u = l.1 in
      let v = l.2 in
      let z = no_more d.rows _ _ l.3 in
      let k : mem (row_at d.rows (length d.rows - 1)).kind set.expression_kinds ≡ true =
      every_of (λ k o. mem k set.expression_kinds) expressions _ (row_at d.rows (length d.rows - 1)).role refl l.0 in
      let s = size_is d (length d.rows - 1) in
      rw e (omega (arith, u, v), rw (kind_is d (length d.rows - 1)) k, s ∙ omega (arith, u, v, z))

  -- so it declares nothing: all nodes are those of an expression
  pub expression_nodes : (n : ℕ) → n < count t → mem (kind t n) set.in_expression ≡ true
  expression_nodes n l =
      let f = expression_last in
      let s = f.2 in
      expression_below d (count t - 1) (omega arith) f.1 n (omega (arith, s)) (omega arith)

-- ---- a whole file

module _ {t : Table} (d : Read file t) where
  -- THE FILE is the last node, over all others
  pub file_last : (1 ≤ count t) × (kind t (count t - 1) ≡ node.file) × (size t (count t - 1) ≡ count t)
  unfolding every
  file_last =
      let l = last_one d.rows 0 (length d.rows) [] (sort node.file 0 ∷ []) (all_rows file t.terminals d.rows d.parses) in
      let e = count_is d in
      let u = l.1 in
      let v = l.2 in
      let z = no_more d.rows _ _ l.3 in
      let k : (row_at d.rows (length d.rows - 1)).kind ≡ node.file =
      eqb-true _ _ (every_of (λ k o. eqb k node.file) (sort node.file 0 ∷ []) _ (row_at d.rows (length d.rows - 1)).role refl l.0) in
      let s = size_is d (length d.rows - 1) in
      rw e (omega (arith, u, v), kind_is d (length d.rows - 1) ∙ k, s ∙ omega (arith, u, v, z))

  -- EACH NODE BUT THE FILE lies in one schema: the first at or after it
  pub schema_over : (n : ℕ) → suc n < count t → Over t n (schema_of t n) × (kind t (schema_of t n) ≡ node.schema) × (suc (schema_of t n) < count t)
  unfolding schema_of all_below every mem
  schema_over n l =
      let f = file_last in
      let s = f.2 in
      let o =
      first_over d (λ k. eqb k node.schema) (refl, refl) (count t - 1) (omega arith) (rw f.1 refl) n (omega (arith, s)) (omega arith) in
      let u = o.2 in
      (o.0, eqb-true _ _ o.1, omega (arith, u))

  -- EACH NODE BUT SCHEMAS AND THE FILE lies in one constant, type or entity: the first at or after it
  pub owner_over : (n : ℕ) → suc n < count t → n < schema_of t n → Over t n (owner t n) × (is_declaration t (owner t n) ≡ true) × (owner t n < schema_of t n)
  unfolding owner all_below every mem
  owner_over n l m =
      let s = schema_over n l in
      let u = s.2 in
      first_over d (λ k. eqb k node.constant || eqb k node.type || eqb k node.entity) (refl, refl) (schema_of t n) s.0.known (rw s.1 refl) n
      s.0.from m
