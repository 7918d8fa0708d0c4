-- The sorts of nodes: for each kind the tokens that name it and its children; and that the grammar leaves such nodes alone.
use mathlib.Core.Bool.{Bool, true, false, ◌&&◌, cond, false≢true, not, ◌||◌}
use mathlib.Core.List.{List, [], ◌∷◌, ◌++◌}
use mathlib.Core.Logic.{⊎_elim}
use mathlib.Core.Path.{◌≡◌, refl, ap}
use Prim.Native.Nat.{ℕ, zero, suc, ◌≤◌, ◌<◌}
use native.Mathlib.Omega.{arith}
use lib.Dec.{eqb}
use lib.ListN.{length, get_or, get_or-eq_default}
use borrow.Author.Tests.{not-true}
use Rattle.ebnf.specs.Set.{mem, subset}
use Rattle.ebnf.specs.Rows.{Row}
use Rattle.ebnf.proofs.Sets.{and_split, lt_or_le}
use Rattle.ebnf.proofs.Sorts.{Sort, sort, of_sorts, every}
use Rattle.ebnf.proofs.Parts.{Part, one, many, within, fits, Kinds, known, keeps}
use Rattle.ebnf.proofs.PostOrder.{Ends, Node, post_order, text_ends}
use Rattle.ebnf.proofs.Below.{every_part}
use Rattle.express.specs.Tokens.Terminal.{identifier, integer, binary, question, dot, lbrace, power, ENUMERATION, SCHEMA, SELECT, SELF}
use Rattle.express.specs.Syntax.Tree.{role}
use Rattle.express.specs.Syntax.Grammar.{Nonterminal, file, schema, constants, constant, base, type_declaration, underlying, where_clause, domain_rule, entity, attributes, derived}
use Rattle.express.specs.Syntax.Grammar.{expression, sum, term, factor, operand, atom, interval, simple_types, relations, additions, multiplications, signs, comparisons, logicals, others, rules}
use Rattle.express.specs.Syntax.Lookahead.{operand_begins, tables}
use Rattle.express.specs.Syntax.Syntax.{whole, Parses}
use Rattle.express.proofs.Syntax.Syntax.{express}
use Rattle.express.specs.Syntax.NodeKind as kind
use Rattle.express.specs.Syntax.NodeKind.{kind_limit}

-- a kind without a role
abbrev plain : ℕ → List Sort
plain k = sort k 0 ∷ []

-- a name in a role
abbrev name_in : ℕ → List Sort
name_in role = sort kind.name role ∷ []

abbrev pub expressions : List Sort
expressions =
    plain kind.integer_literal ++ plain kind.binary_literal ++ plain kind.logical_literal ++ plain kind.question ++ plain kind.other_literal
    ++ name_in kind.in_expression ++ plain kind.qualified_item ++ plain kind.self ++ plain kind.unary ++ plain kind.two_operand ++ plain kind.interval

abbrev pub operators : List Sort
operators = plain kind.interval_operator

abbrev pub bases : List Sort
bases = plain kind.simple_type ++ name_in kind.type_name

abbrev pub underlyings : List Sort
underlyings = plain kind.simple_type ++ name_in kind.renamed_type ++ plain kind.enumeration ++ plain kind.select

abbrev pub items : List Sort
items = plain kind.enumeration_item

abbrev pub domain_rules : List Sort
domain_rules = sort kind.rule kind.labelled ∷ sort kind.rule kind.unlabelled ∷ []

abbrev pub names : List Sort
names = plain kind.attribute_name

abbrev pub groups : List Sort
groups = plain kind.attribute_group ++ plain kind.optional_group

abbrev pub schemas : List Sort
schemas = plain kind.schema

record Entry : Type 0 where
  tokens : List ℕ
  parts : List Part

abbrev entry : List ℕ → List Part → Entry
entry n p = record { tokens = n; parts = p }

-- the kinds from 0 on: the tokens that name a node, and its children
abbrev table : List Entry
table =
    entry [] []  -- 0
    ∷ entry integer []  -- 1
    ∷ entry binary []  -- 2
    ∷ entry logicals []  -- 3
    ∷ entry question []  -- 4
    ∷ entry others []  -- 5
    ∷ entry identifier []  -- 6
    ∷ entry identifier []  -- 7
    ∷ entry SELF []  -- 8
    ∷ entry signs (one expressions ∷ [])  -- 9
    ∷ entry (relations ++ additions ++ multiplications ++ power) (one expressions ∷ one expressions ∷ [])  -- 10
    ∷ entry lbrace (one expressions ∷ one operators ∷ one expressions ∷ one operators ∷ one expressions ∷ [])  -- 11
    ∷ entry comparisons []  -- 12
    ∷ entry simple_types []  -- 13
    ∷ entry identifier []  -- 14
    ∷ entry ENUMERATION (one items ∷ many items ∷ [])  -- 15
    ∷ entry SELECT (one (name_in kind.select_name) ∷ many (name_in kind.select_name) ∷ [])  -- 16
    ∷ entry identifier (one bases ∷ one expressions ∷ [])  -- 17
    ∷ entry identifier (one underlyings ∷ many domain_rules ∷ [])  -- 18
    ∷ entry identifier []  -- 19
    ∷ entry identifier (one names ∷ many names ∷ one bases ∷ [])  -- 20
    ∷ entry identifier (one names ∷ many names ∷ one bases ∷ [])  -- 21
    ∷ entry identifier (one bases ∷ one expressions ∷ [])  -- 22
    ∷ entry operand_begins (one expressions ∷ [])  -- 23
    ∷ entry identifier (many (name_in kind.supertype_name) ∷ many groups ∷ many (plain kind.derived_attribute) ∷ many domain_rules ∷ [])  -- 24
    ∷ entry identifier (many (plain kind.constant) ∷ many (plain kind.type ++ plain kind.entity) ∷ [])  -- 25
    ∷ entry SCHEMA (one schemas ∷ many schemas ∷ [])  -- 26
    ∷ []

-- what each nonterminal leaves
abbrev left_by : Nonterminal → List Part
left_by file = one (plain kind.file) ∷ []
left_by schema = one schemas ∷ []
left_by constants = one (plain kind.constant) ∷ many (plain kind.constant) ∷ []
left_by constant = one (plain kind.constant) ∷ []
left_by base = one bases ∷ []
left_by type_declaration = one (plain kind.type) ∷ []
left_by underlying = one underlyings ∷ []
left_by where_clause = one domain_rules ∷ many domain_rules ∷ []
left_by domain_rule = one domain_rules ∷ []
left_by entity = one (plain kind.entity) ∷ []
left_by attributes = one groups ∷ []
left_by derived = one (plain kind.derived_attribute) ∷ []
left_by expression = one expressions ∷ []
left_by sum = one expressions ∷ []
left_by term = one expressions ∷ []
left_by factor = one expressions ∷ []
left_by operand = one expressions ∷ []
left_by atom = one expressions ∷ []
left_by interval = one (plain kind.interval) ∷ []

abbrev pub kinds : Kinds Nonterminal
kinds =
    record {
      named_by = λ k o. cond (eqb k kind.rule && eqb o kind.labelled) identifier (get_or table k (entry [] [])).tokens;  -- a label is a name
      behind = λ k. cond (eqb k kind.qualified_item) (dot ∷ identifier ∷ []) [];  -- an item stands behind its type and a dot
      children = λ k. (get_or table k (entry [] [])).parts;
      leaves = left_by;
    }

kept : (x : Nonterminal) → keeps kinds rules tables x ≡ true
unfolding keeps known fits within of_sorts every mem subset
kept file = refl
kept schema = refl
kept constants = refl
kept constant = refl
kept base = refl
kept type_declaration = refl
kept underlying = refl
kept where_clause = refl
kept domain_rule = refl
kept entity = refl
kept attributes = refl
kept derived = refl
kept expression = refl
kept sum = refl
kept term = refl
kept factor = refl
kept operand = refl
kept atom = refl
kept interval = refl

-- EACH ROW OF A TEXT is that of a node by the table, with its children's rows right before it.
pub each_row : (x : Nonterminal) (ts : List ℕ) (s : List Row) → Parses x ts s → (n : ℕ) → n < length s → Node kinds ts s n
each_row x ts s d n l = post_order kinds ts express kept x (whole s) d n l

-- ALL ROWS of a text are those of what its start symbol leaves.
pub all_rows : (x : Nonterminal) (ts : List ℕ) (s : List Row) → Parses x ts s → Ends s 0 (length s) (kinds.leaves x)
all_rows x ts s d = text_ends kinds ts express kept x (whole s) d

-- ---- tests of all kinds

unfoldable pub all_below : ℕ → (ℕ → Bool) → Bool
all_below zero q = true
all_below (suc n) q = q n && all_below n q

each_below : (n : ℕ) (q : ℕ → Bool) → all_below n q ≡ true → (k : ℕ) → k < n → q k ≡ true
unfolding all_below
each_below zero q e k l = absurd (omega arith)
each_below (suc n) q e k l =
    let p = and_split (q n) _ e in
    ⊎_elim (λ (h : k < n). each_below n q p.1 k h) (λ (h : n ≤ k). let z : k ≡ n = omega arith in rw z p.0) (lt_or_le k n)

-- a kind past the table has no children
no_kind : (k : ℕ) → kind_limit ≤ k → kinds.children k ≡ []
no_kind k l = ap (λ (e : Entry). e.parts) (get_or-eq_default table (entry [] []) l)

abbrev pub no_parts : List Part → Bool
no_parts [] = true
no_parts (p ∷ ps) = false

no_parts_is : (ps : List Part) → no_parts ps ≡ true → ps ≡ []
no_parts_is [] h = refl
no_parts_is (p ∷ ps) h = absurd (false≢true h)

-- kinds that pass a test have no children, where this holds of the kinds of the table
pub childless_kind : (p : ℕ → Bool) → all_below kind_limit (λ k. not (p k) || no_parts (kinds.children k)) ≡ true → (k : ℕ) → p k ≡ true → kinds.children k ≡ []
childless_kind p e k h =
    ⊎_elim
    (λ (l : k < kind_limit).
    let q = each_below kind_limit (λ j. not (p j) || no_parts (kinds.children j)) e k l in
    no_parts_is (kinds.children k) (rw h at q))
    (λ (l : kind_limit ≤ k). no_kind k l)
    (lt_or_le k kind_limit)

-- the children of the kinds that pass one test pass another, where this holds of the kinds of the table
pub children_have : (q : ℕ → Bool) (p : ℕ → ℕ → Bool) → all_below kind_limit (λ k. not (q k) || every_part p (kinds.children k)) ≡ true →
    (k : ℕ) → q k ≡ true → every_part p (kinds.children k) ≡ true
children_have q p e k h =
    ⊎_elim
    (λ (l : k < kind_limit). let r = each_below kind_limit (λ j. not (q j) || every_part p (kinds.children j)) e k l in rw h at r)
    (λ (l : kind_limit ≤ k). rw (no_kind k l) refl)
    (lt_or_le k kind_limit)

pub children_pass : (q p : ℕ → Bool) → all_below kind_limit (λ k. not (q k) || every_part (λ j o. p j) (kinds.children k)) ≡ true →
    (k : ℕ) → q k ≡ true → every_part (λ j o. p j) (kinds.children k) ≡ true
children_pass q p e k h = children_have q (λ j o. p j) e k h

-- no kind is named by the token 0, which stands past the end of a text
pub named_by_some : (k o : ℕ) → mem 0 (kinds.named_by k o) ≡ false
unfolding mem all_below
named_by_some k o = cond_false (eqb k kind.rule && eqb o kind.labelled) identifier _ refl (⊎_elim inside past (lt_or_le k kind_limit))
  where
    inside : k < kind_limit → mem 0 (get_or table k (entry [] [])).tokens ≡ false
    inside l = not-true _ (each_below kind_limit (λ j. not (mem 0 (get_or table j (entry [] [])).tokens)) refl k l)

    past : kind_limit ≤ k → mem 0 (get_or table k (entry [] [])).tokens ≡ false
    past l = rw (get_or-eq_default table (entry [] []) l) refl

    cond_false : (b : Bool) (cs ds : List ℕ) → mem 0 cs ≡ false → mem 0 ds ≡ false → mem 0 (cond b cs ds) ≡ false
    cond_false true cs ds u v = u
    cond_false false cs ds u v = v
