-- What a type is declared with, at the first node of its subtree: a simple type, the name of the type that it renames, the first item of an
-- enumeration or the first name of a select list; and that the place of the token tells which.
use mathlib.Core.Bool.{true, false≢true, ◌||◌}
use mathlib.Core.List.{List, [], ◌∷◌, ◌++◌}
use mathlib.Core.Path.{◌≡◌, refl, sym, ap, ◌∙◌, subst}
use Prim.Native.Nat.{ℕ, suc, ◌+◌, ◌-◌, ◌<◌}
use native.Mathlib.Omega.{arith}
use lib.ListN.{length, length-append}
use lib.Seq.{get_or-append_seam}
use borrow.Author.Tests.{eq-eqb, ne_eqb}
use Rattle.ebnf.specs.Grammar.{Mark, node as a_node, leaf, Ebnf, none, mark, step, nt, Derives, nothing, marked, both, right, rule, left, token}
use Rattle.ebnf.specs.Rows.{Row, Rows, in_rows}
use Rattle.ebnf.proofs.PostOrder.{no_row, row_at}
use Rattle.ebnf.proofs.Origin.{ends_with, without_or_ends, origin, rows_grow}
use Rattle.express.specs.Syntax.Tree.{Table, count, kind, role, first, is, is_name_in, token as naming}
use Rattle.express.specs.Syntax.Grammar.{Nonterminal, file, schema, constants, constant, base, type_declaration, underlying, where_clause}
use Rattle.express.specs.Syntax.Grammar.{domain_rule, entity, attributes, derived, expression, sum, term, factor, operand, atom, interval, rules, ◌·◌, opt, tok, named}
use Rattle.express.specs.Syntax.Syntax.{whole, Read}
use Rattle.express.specs.Semantics.Declared.{renames}
use Rattle.express.proofs.Syntax.FormedRows.{kind_is, role_is, size_is, token_is, count_is, sized}
use Rattle.express.specs.Syntax.NodeKind as node

abbrev pub row : ℕ → ℕ → ℕ → Row
row k o i = record { kind = k; token = i; size = 1; role = o }

-- the first row of an underlying type that begins at the token i
pub data First (i : ℕ) (r : Row) : Type 0 where
  simple : r ≡ row node.simple_type 0 i → First i r
  renamed : r ≡ row node.name node.renamed_type i → First i r
  item : r ≡ row node.enumeration_item 0 (suc (suc (suc i))) → First i r
  chosen : r ≡ row node.name node.select_name (suc (suc i)) → First i r

-- what stands first stays first
first_of : {a : Row} {s r : List Row} → (new : List Row) × (s ≡ (a ∷ []) ++ new) → (new : List Row) × (r ≡ s ++ new) → row_at r 0 ≡ a
first_of g f = ap (λ (l : List Row). row_at l 0) f.1 ∙ ap (λ (l : List Row). row_at (l ++ f.0) 0) g.1

last_row : (s : List Row) (a : Row) → row_at (s ++ (a ∷ [])) (length (s ++ (a ∷ [])) - 1) ≡ a
last_row s a =
    let z = length-append s (a ∷ []) in
    let e : length (s ++ (a ∷ [])) - 1 ≡ length s = omega (arith, z) in
    ap (λ (p : ℕ). row_at (s ++ (a ∷ [])) p) e ∙ get_or-append_seam s a [] no_row

no_first : (i : ℕ) → First i no_row → ⊥
no_first i (simple e) = let z : ◌≡◌ {A = ℕ} 0 13 = ap (λ (r : Row). r.kind) e in omega (arith, z)
no_first i (renamed e) = let z : ◌≡◌ {A = ℕ} 0 6 = ap (λ (r : Row). r.kind) e in omega (arith, z)
no_first i (item e) = let z : ◌≡◌ {A = ℕ} 0 14 = ap (λ (r : Row). r.kind) e in omega (arith, z)
no_first i (chosen e) = let z : ◌≡◌ {A = ℕ} 0 6 = ap (λ (r : Row). r.kind) e in omega (arith, z)

first_kept : (i : ℕ) (s r : List Row) → First i (row_at s 0) → First i (row_at (s ++ r) 0)
first_kept i [] r f = absurd (no_first i f)
first_kept i (a ∷ s) r f = f

settled_types : (x : Nonterminal) → without_or_ends rules node.type x ≡ true
settled_types file = refl
settled_types schema = refl
settled_types constants = refl
settled_types constant = refl
settled_types base = refl
settled_types type_declaration = refl
settled_types underlying = refl
settled_types where_clause = refl
settled_types domain_rule = refl
settled_types entity = refl
settled_types attributes = refl
settled_types derived = refl
settled_types expression = refl
settled_types sum = refl
settled_types term = refl
settled_types factor = refl
settled_types operand = refl
settled_types atom = refl
settled_types interval = refl

module _ (ts : List ℕ) where
  -- the first name of a list in parentheses
  listed : {k o i j n : ℕ} {cs ds : List ℕ} {e : Ebnf Nonterminal} {s : Rows} →
      Derives in_rows rules ts (tok cs · step (leaf k o) ds none · e) i (record { name = n; rows = [] }) j s → (new : List Row) × (s.rows ≡ (row k o (suc i) ∷ []) ++ new)
  listed (both (token c nothing) (both (token d nothing) g)) = rows_grow g

  enumerated : {k o i j : ℕ} {ps qs cs ds : List ℕ} {e : Ebnf Nonterminal} {m : Mark} {s : Rows} →
      Derives in_rows rules ts (named ps · tok qs · (tok cs · step (leaf k o) ds none · e) · mark m) i (in_rows.start i) j s →
      row_at s.rows 0 ≡ row k o (suc (suc (suc i)))
  enumerated (both (token c nothing) (both (token d nothing) (both l f))) = first_of (listed l) (rows_grow f)

  selected : {k o i j : ℕ} {ps cs ds : List ℕ} {e : Ebnf Nonterminal} {m : Mark} {s : Rows} →
      Derives in_rows rules ts (named ps · (tok cs · step (leaf k o) ds none · e) · mark m) i (in_rows.start i) j s → row_at s.rows 0 ≡ row k o (suc (suc i))
  selected (both (token c nothing) (both l f)) = first_of (listed l) (rows_grow f)

  underlying_first : {i j : ℕ} {s : Rows} → Derives in_rows rules ts (rules underlying) i (in_rows.start i) j s → First i (row_at s.rows 0)
  underlying_first (left (token c nothing)) = simple refl
  underlying_first (right (left (token c nothing))) = renamed refl
  underlying_first (right (right (left d))) = item (enumerated d)
  underlying_first (right (right (right d))) = chosen (selected d)

  -- an optional rule leaves the name of the next node as it is
  same_name : {x : Nonterminal} {i j : ℕ} {r s : Rows} → Derives in_rows rules ts (opt (nt x)) i r j s → s.name ≡ r.name
  same_name (left (rule d)) = refl
  same_name (right nothing) = refl

  -- what follows the underlying type: the last row has the name that is set before
  ended : {k o i j : ℕ} {cs ds es : List ℕ} {x : Nonterminal} {r s : Rows} →
      Derives in_rows rules ts (tok cs · opt (nt x) · tok ds · tok es · mark (a_node k o)) i r j s → (row_at s.rows (length s.rows - 1)).token ≡ r.name
  ended (both (token c nothing) (both {s = w} f (both (token d nothing) (both (token e nothing) marked)))) =
      ap (λ (r : Row). r.token) (last_row w.rows _) ∙ same_name f

  -- the rows of a type that begins at the token i: the underlying type's come first, and the last one is named by the token after TYPE
  record Typed (i : ℕ) (s : List Row) : Type 0 where
    under : First (suc (suc (suc i))) (row_at s 0)
    name : (row_at s (length s - 1)).token ≡ suc i

  type_rows : {i j : ℕ} {s : Rows} → Derives in_rows rules ts (rules type_declaration) i (in_rows.start i) j s → Typed i s.rows
  type_rows {i = i} (both (token a nothing) (both (token b nothing) (both (token c nothing) (both (rule {s = u} d) g)))) =
      let more = rows_grow g in
      record {
        under = subst (λ (l : List Row). First (suc (suc (suc i))) (row_at l 0)) (sym more.1) (first_kept _ u.rows more.0 (underlying_first d));
        name = ended g;
      }

-- only a type's declaration leaves a type
only_types : (y : Nonterminal) → ends_with rules node.type (rules y) ≡ true → y ≡ type_declaration
only_types file h = absurd (false≢true h)
only_types schema h = absurd (false≢true h)
only_types constants h = absurd (false≢true h)
only_types constant h = absurd (false≢true h)
only_types base h = absurd (false≢true h)
only_types type_declaration h = refl
only_types underlying h = absurd (false≢true h)
only_types where_clause h = absurd (false≢true h)
only_types domain_rule h = absurd (false≢true h)
only_types entity h = absurd (false≢true h)
only_types attributes h = absurd (false≢true h)
only_types derived h = absurd (false≢true h)
only_types expression h = absurd (false≢true h)
only_types sum h = absurd (false≢true h)
only_types term h = absurd (false≢true h)
only_types factor h = absurd (false≢true h)
only_types operand h = absurd (false≢true h)
only_types atom h = absurd (false≢true h)
only_types interval h = absurd (false≢true h)

module _ {x : Nonterminal} {t : Table} (d : Read x t) where
  -- THE FIRST NODE OF A TYPE, and how far behind the type's name it stands
  pub type_first : (n : ℕ) → n < count t → kind t n ≡ node.type →
      (i : ℕ) × (naming t n ≡ suc i) × First (suc (suc (suc i))) (row_at d.rows (first t n))
  type_first n l e =
      let o = origin rules node.type t.terminals settled_types x (whole d.rows) d.parses n (rw (count_is d) at l) (sym (kind_is d n) ∙ e) in
      let y = only_types o.rule_of o.ends in
      let w =
      type_rows t.terminals
      (subst (λ (z : Nonterminal). Derives in_rows rules t.terminals (rules z) o.from (in_rows.start o.from) o.to o.value) y o.derived) in
      let f = o.fits in
      let s = size_is d n in
      let z = o.sized in
      let u = (sized d n l).0 in
      let a : (suc n - length o.value.rows) + 0 ≡ first t n = omega (arith, s, z) in
      let b : (suc n - length o.value.rows) + (length o.value.rows - 1) ≡ n = omega (arith, f, s, z, u) in
      let p : row_at d.rows (first t n) ≡ row_at o.value.rows 0 =
      ap (λ (q : ℕ). row_at d.rows q) (sym a) ∙ o.same 0 (omega (arith, s, z, u)) in
      let r : row_at d.rows n ≡ row_at o.value.rows (length o.value.rows - 1) =
      ap (λ (q : ℕ). row_at d.rows q) (sym b) ∙ o.same (length o.value.rows - 1) (omega (arith, s, z, u)) in
      (o.from, token_is d n ∙ (ap (λ (q : Row). q.token) r ∙ w.name), subst (λ (q : Row). First (suc (suc (suc o.from))) q) (sym p) w.under)

  -- A TYPE RENAMES, or has a simple type, exactly where its first node stands two tokens behind its name
  pub renames_is : (n : ℕ) → n < count t → kind t n ≡ node.type →
      renames t n ≡ (is t node.simple_type (first t n) || is_name_in t node.renamed_type (first t n))
  renames_is n l e =
      let f = type_first n l e in
      by f.0 (row_at d.rows (first t n)) f.1 (token_is d (first t n)) (kind_is d (first t n)) (role_is d (first t n)) f.2
    where
      by : (i : ℕ) (r : Row) → naming t n ≡ suc i → naming t (first t n) ≡ r.token → kind t (first t n) ≡ r.kind → role t (first t n) ≡ r.role →
          First (suc (suc (suc i))) r → renames t n ≡ (is t node.simple_type (first t n) || is_name_in t node.renamed_type (first t n))
      by i r a b c g (simple h) =
          let u : naming t (first t n) ≡ suc (suc (suc i)) = b ∙ ap (λ (q : Row). q.token) h in
          let k : kind t (first t n) ≡ 13 = c ∙ ap (λ (q : Row). q.kind) h in
          eq-eqb (naming t (first t n)) (naming t n + 2) (omega (arith, a, u)) ∙ rw k refl
      by i r a b c g (renamed h) =
          let u : naming t (first t n) ≡ suc (suc (suc i)) = b ∙ ap (λ (q : Row). q.token) h in
          let k : kind t (first t n) ≡ 6 = c ∙ ap (λ (q : Row). q.kind) h in
          let o : role t (first t n) ≡ 3 = g ∙ ap (λ (q : Row). q.role) h in
          eq-eqb (naming t (first t n)) (naming t n + 2) (omega (arith, a, u)) ∙ rw (k, o) refl
      by i r a b c g (item h) =
          let u : naming t (first t n) ≡ suc (suc (suc (suc (suc (suc i))))) = b ∙ ap (λ (q : Row). q.token) h in
          let k : kind t (first t n) ≡ 14 = c ∙ ap (λ (q : Row). q.kind) h in
          ne_eqb (naming t (first t n)) (naming t n + 2) (λ (z : naming t (first t n) ≡ naming t n + 2). omega (arith, a, u, z)) ∙ rw k refl
      by i r a b c g (chosen h) =
          let u : naming t (first t n) ≡ suc (suc (suc (suc (suc i)))) = b ∙ ap (λ (q : Row). q.token) h in
          let k : kind t (first t n) ≡ 6 = c ∙ ap (λ (q : Row). q.kind) h in
          let o : role t (first t n) ≡ 4 = g ∙ ap (λ (q : Row). q.role) h in
          ne_eqb (naming t (first t n)) (naming t n + 2) (λ (z : naming t (first t n) ≡ naming t n + 2). omega (arith, a, u, z)) ∙ rw (k, o) refl
