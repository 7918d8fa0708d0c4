-- What a file of so many tokens can declare at most: each row of its nodes weighs what it declares, and the grammar is tested for each such weight.
use mathlib.Core.Path.{◌≡◌, refl, ap, ◌∙◌}
use mathlib.Core.Bool.{Bool, true, false, cond, not, ◌&&◌, ◌||◌, false≢true}
use Prim.Native.Nat.{ℕ, ◌+◌, ◌*◌, ◌-◌, ◌≤◌}
use native.Mathlib.Omega.{arith}
use lib.Dec.{eqb}
use lib.ListN.{length, length-map}
use Rattle.ebnf.specs.Rows.{Row}
use Rattle.ebnf.proofs.Count.{counted}
use Rattle.relations.specs.Select.{span, keep}
use Rattle.express.specs.Syntax.NodeKind.{name, in_expression, renamed_type, select_name, supertype_name}
use Rattle.express.specs.Syntax.Tree.{Table, count, kind, role, nodes, is_name_in, is_declaration}
use Rattle.express.specs.Syntax.Grammar.{Nonterminal, file, schema, constants, constant, base, type_declaration, underlying, where_clause, domain_rule, entity}
use Rattle.express.specs.Syntax.Grammar.{attributes as explicit, derived, expression, sum, term, factor, operand, atom, interval, rules}
use Rattle.express.specs.Syntax.Syntax.{Read, whole}
use Rattle.express.specs.Names.Fault.{sort}
use Rattle.express.specs.Names.Scope.{is_use, means}
use Rattle.express.proofs.Syntax.Count as count_laws
use Rattle.scopes.specs.Entries.{is_other, declares_other, entries, vertex, others_before}
use Rattle.scopes.specs.Standing.{declares, sort_by}
use Rattle.scopes.specs.Range.{vertex_count}
use Rattle.scopes.proofs.Ranges.{range_below}
use Rattle.preparation.proofs.Preparing.{entries_total}
use Rattle.dependencies.specs.Target.{led_to, led_to_from, behind_all, target_of, type_target, constant_of, constant_target}
use Rattle.bounds.proofs.Weight.{Scale, pays, text_weight}
use Rattle.bounds.proofs.Total.{total, total_both, total_keep, keep_fewer, rows_total}

-- ---- the weights

-- The nonterminals of which, for some weight, a phrase uses a token of those before it, or leaves one; and all others.
abbrev other : ℕ
other = 0

abbrev of_base : ℕ
of_base = 1

abbrev of_underlying : ℕ
of_underlying = 2

abbrev of_rule : ℕ
of_rule = 3

abbrev of_explicit : ℕ
of_explicit = 4

abbrev of_expression : ℕ
of_expression = 5

abbrev part : Nonterminal → ℕ
part file = other
part schema = other
part constants = other
part constant = other
part base = of_base
part type_declaration = other
part underlying = of_underlying
part where_clause = other
part domain_rule = of_rule
part entity = other
part explicit = of_explicit
part derived = other
part expression = of_expression
part sum = of_expression
part term = of_expression
part factor = of_expression
part operand = of_expression
part atom = of_expression
part interval = of_expression

abbrev nowhere : Nonterminal → ℕ
nowhere x = 0

abbrev one_where : ℕ → Nonterminal → ℕ
one_where k x = cond (eqb (part x) k) 1 0

-- a row of a name in a role
abbrev named : ℕ → ℕ → ℕ → Bool
named role k o = eqb k name && eqb o role

-- 2 for an entry
abbrev entry_scale : Scale Nonterminal
entry_scale =
    record { row = λ k o. cond (declares k) 2 0 + cond (is_other (sort_by k o)) 2 0; loan = one_where of_explicit; gain = one_where of_explicit }

-- 5 for a constant, a type and an entity
abbrev vertex_scale : Scale Nonterminal
vertex_scale = record { row = λ k o. cond (declares k) 5 0; loan = nowhere; gain = one_where of_base }

-- 2 for a name of what is renamed, selected or a supertype
abbrev type_scale : Scale Nonterminal
type_scale =
    record {
      row = λ k o. cond (named renamed_type k o || named select_name k o || named supertype_name k o) 2 0;
      loan = one_where of_underlying;
      gain = nowhere;
    }

-- 2 for a name in an expression
abbrev use_scale : Scale Nonterminal
use_scale =
    record { row = λ k o. cond (named in_expression k o) 2 0; loan = λ x. one_where of_rule x + one_where of_expression x; gain = one_where of_rule }

-- the rules pass for each
record Passes (x : Nonterminal) : Type 0 where
  by_entries : pays entry_scale rules x ≡ true
  by_vertices : pays vertex_scale rules x ≡ true
  by_types : pays type_scale rules x ≡ true
  by_uses : pays use_scale rules x ≡ true

passes : (x : Nonterminal) → Passes x
passes file = record { by_entries = refl; by_vertices = refl; by_types = refl; by_uses = refl }
passes schema = record { by_entries = refl; by_vertices = refl; by_types = refl; by_uses = refl }
passes constants = record { by_entries = refl; by_vertices = refl; by_types = refl; by_uses = refl }
passes constant = record { by_entries = refl; by_vertices = refl; by_types = refl; by_uses = refl }
passes base = record { by_entries = refl; by_vertices = refl; by_types = refl; by_uses = refl }
passes type_declaration = record { by_entries = refl; by_vertices = refl; by_types = refl; by_uses = refl }
passes underlying = record { by_entries = refl; by_vertices = refl; by_types = refl; by_uses = refl }
passes where_clause = record { by_entries = refl; by_vertices = refl; by_types = refl; by_uses = refl }
passes domain_rule = record { by_entries = refl; by_vertices = refl; by_types = refl; by_uses = refl }
passes entity = record { by_entries = refl; by_vertices = refl; by_types = refl; by_uses = refl }
passes explicit = record { by_entries = refl; by_vertices = refl; by_types = refl; by_uses = refl }
passes derived = record { by_entries = refl; by_vertices = refl; by_types = refl; by_uses = refl }
passes expression = record { by_entries = refl; by_vertices = refl; by_types = refl; by_uses = refl }
passes sum = record { by_entries = refl; by_vertices = refl; by_types = refl; by_uses = refl }
passes term = record { by_entries = refl; by_vertices = refl; by_types = refl; by_uses = refl }
passes factor = record { by_entries = refl; by_vertices = refl; by_types = refl; by_uses = refl }
passes operand = record { by_entries = refl; by_vertices = refl; by_types = refl; by_uses = refl }
passes atom = record { by_entries = refl; by_vertices = refl; by_types = refl; by_uses = refl }
passes interval = record { by_entries = refl; by_vertices = refl; by_types = refl; by_uses = refl }

-- ---- the bounds

-- there is a target only where the test passes
target_passes : (b : Bool) (y : ℕ) → not (eqb (cond b y 0) 0) ≡ true → b ≡ true
target_passes true y e = refl
target_passes false y e = absurd (false≢true e)

module _ {t : Table} (R : Read file t) where
  nodes_are : count t ≡ length R.rows
  nodes_are = ap length R.kinds ∙ length-map R.rows (λ (r : Row). r.kind)

  -- a number for each node, not above what its row weighs
  pub total_few : (S : Scale Nonterminal) → ((x : Nonterminal) → pays S rules x ≡ true) → S.loan file ≡ 0 →
      (f : ℕ → ℕ) → ((n : ℕ) → f n ≤ S.row (kind t n) (role t n)) → total f (nodes t) ≤ length t.terminals
  total_few S g z f h =
      let a = text_weight rules S g file (whole R.rows) R.parses z in
      let b = rows_total S.row f R.rows 0 (λ k l. let e : 0 + k ≡ k = omega arith in rw (e, ← R.kinds, ← R.roles) (h k)) in
      rw nodes_are (omega (arith, a, b))

  -- nodes that pass a test and weigh at least m
  pub kept_few : (S : Scale Nonterminal) → ((x : Nonterminal) → pays S rules x ≡ true) → S.loan file ≡ 0 →
      (m : ℕ) (p : ℕ → Bool) → ((n : ℕ) → p n ≡ true → m ≤ S.row (kind t n) (role t n)) → m * length (keep p (nodes t)) ≤ length t.terminals
  kept_few S g z m p h = rw (total_keep m p (nodes t)) (total_few S g z (λ n. cond (p n) m 0) (λ n. by n (p n) refl))
    where
      by : (n : ℕ) (b : Bool) → p n ≡ b → cond b m 0 ≤ S.row (kind t n) (role t n)
      by n true e = h n e
      by n false e = omega arith

  -- NODES: no more than tokens
  pub nodes_few : count t ≤ length t.terminals
  nodes_few = omega (arith, nodes_are, counted count_laws.pays R.parses 0 0 refl)

  -- ENTRIES of the dictionary: each has two tokens
  pub entries_few : 2 * length (entries t) ≤ length t.terminals
  unfolding vertex others_before sort
  entries_few =
      let f : ℕ → ℕ = λ n. cond (is_declaration t n) 2 0 in
      let g : ℕ → ℕ = λ n. cond (declares_other t n) 2 0 in
      let a = total_few entry_scale (λ x. (passes x).by_entries) refl (λ n. f n + g n) (λ n. omega arith) in
      omega (arith, a, entries_total t, total_both f g (nodes t), total_keep 2 (is_declaration t) (nodes t), total_keep 2 (declares_other t) (nodes t))

  -- CONSTANTS, TYPES AND ENTITIES: each has five tokens
  pub vertices_few : 5 * vertex_count t ≤ length t.terminals
  unfolding vertex
  vertices_few = kept_few vertex_scale (λ x. (passes x).by_vertices) refl 5 (is_declaration t) (λ n e. rw e (omega arith))

  -- nodes that lead to something only if they pass a test, and then weigh at least 2
  led_few : (S : Scale Nonterminal) → ((x : Nonterminal) → pays S rules x ≡ true) → S.loan file ≡ 0 →
      (p : ℕ → Bool) (to : ℕ → ℕ) → ((n : ℕ) → p n ≡ true → 2 ≤ S.row (kind t n) (role t n)) →
      2 * length (led_to_from t (λ n. cond (p n) (to n) 0) 0) ≤ length t.terminals
  unfolding led_to
  led_few S g z p to h =
      let leads : ℕ → Bool = λ n. not (eqb (cond (p n) (to n) 0) 0) in
      let all = kept_few S g z 2 leads (λ n e. h n (target_passes (p n) (to n) e)) in
      let l = length-map (keep leads (span 0 (behind_all t - 0))) (λ n. cond (p n) (to n) 0 - 1) in
      let s = keep_fewer leads (behind_all t - 0) (count t) (omega (arith, range_below t (vertex_count t) (omega arith))) in
      omega (arith, all, l, s)

  -- ARCS between types and entities: each has two tokens
  pub type_arcs_few : 2 * length (led_to_from t (type_target t) 0) ≤ length t.terminals
  type_arcs_few =
      led_few type_scale (λ x. (passes x).by_types) refl (λ n. is_name_in t renamed_type n || is_name_in t select_name n || is_name_in t supertype_name n)
      (λ n. target_of t (means t n)) (λ n e. rw e (omega arith))

  -- ARCS to constants: each has two tokens
  pub constant_arcs_few : 2 * length (led_to_from t (constant_target t) 0) ≤ length t.terminals
  constant_arcs_few = led_few use_scale (λ x. (passes x).by_uses) refl (is_use t) (λ n. constant_of t (means t n)) (λ n e. rw e (omega arith))
