-- The parse as recursive descent, rule by rule: what the proofs of the readers cite. Fuel is gone, and the rows of a rule are lists.
use mathlib.Core.Bool.{Bool, true, ◌&&◌, cond}
use mathlib.Core.List.{List, [], ◌∷◌, ◌++◌}
use mathlib.Core.Option.{Option, some, none as nowhere}
use mathlib.Core.Path.{◌≡◌, refl, ap, ◌∙◌}
use Prim.Native.Nat.{ℕ, suc, ◌≤◌}
use lib.ListN.{length, get_or, take}
use Rattle.ebnf.specs.Set.{mem, disjoint}
use Rattle.ebnf.specs.Grammar.{leaf, Ebnf, none, step, star, nt}
use Rattle.ebnf.specs.Rows.{Row, Rows, in_rows}
use Rattle.ebnf.specs.Parse.{Result, at, refused, bind, Verdict, verdict, parse}
use Rattle.ebnf.specs.Check.{ok}
use Rattle.ebnf.specs.Depth.{first_deep, uncut, cut_at, outcome_to}
use Rattle.ebnf.proofs.Predictive.{Ok, ok_of}
use Rattle.express.specs.Tokens.Terminal.{identifier, integer, binary, question, dot, comma, semicolon, colon, equal, lbrace, rbrace, lparen, rparen, becomes, power}
use Rattle.express.specs.Tokens.Terminal.{CONSTANT, DERIVE, END_CONSTANT, END_ENTITY, END_SCHEMA, END_TYPE, ENTITY, ENUMERATION, OF, OPTIONAL, SCHEMA, SELECT, SELF, SUBTYPE}
use Rattle.express.specs.Tokens.Terminal.{TYPE, WHERE}
use Rattle.express.specs.Syntax.Grammar.{Nonterminal, file, schema, constants, constant, base, type_declaration, underlying, where_clause, domain_rule, entity, attributes}
use Rattle.express.specs.Syntax.Grammar.{derived, expression, sum, term, factor, operand, atom, interval, ◌·◌, ◌∣◌, tok, named, row, simple_types, relations, additions}
use Rattle.express.specs.Syntax.Grammar.{multiplications, signs, comparisons, logicals, others, rules}
use Rattle.express.specs.Syntax.Lookahead.{tables}
use Rattle.express.specs.Syntax.Syntax.{opening, closing, nesting, parsed}
use Rattle.express.proofs.Syntax.Syntax.{express}
use Rattle.express.specs.Syntax.NodeKind as kind
use Rattle.ebnf.proofs.Descent as descent

-- the rows of a rule so far, of which the next is named by the token at n
abbrev pub so : ℕ → List Row → Rows
so n r = record { name = n; rows = r }

-- rows, and behind them one of kind k and role o over them all, named by the token at n
abbrev pub over : ℕ → ℕ → ℕ → List Row → List Row
over k o n r = r ++ (record { kind = k; token = n; size = suc (length r); role = o } ∷ [])

-- rows, and behind them one with nothing below it
abbrev pub and_leaf : ℕ → ℕ → ℕ → List Row → List Row
and_leaf k o n r = r ++ (record { kind = k; token = n; size = 1; role = o } ∷ [])

-- what is repeated: declarations; ids behind the first, by the sort of their rows; operators with their right operands
abbrev pub declaration : Ebnf Nonterminal
declaration = nt type_declaration ∣ nt entity

abbrev pub next_id : ℕ → ℕ → Ebnf Nonterminal
next_id k o = tok comma · step (leaf k o) identifier none

abbrev pub next_operand : List ℕ → Nonterminal → Ebnf Nonterminal
next_operand cs x = named cs · nt x · row kind.two_operand

module _ (ts : List ℕ) where
  -- what the rule of x comes to at i, and a repetition
  abbrev pub phrase : Nonterminal → ℕ → Result Rows
  phrase = descent.phrase express in_rows ts

  abbrev pub repeat : Ebnf Nonterminal → ℕ → Rows → Result Rows
  repeat = descent.repeat express in_rows ts

  -- the token at i is of the set
  abbrev pub sees : List ℕ → ℕ → Bool
  sees cs i = mem (get_or ts i 0) cs

  -- it is, and then the rest; or it cannot stand
  abbrev pub expect : List ℕ → ℕ → Result Rows → Result Rows
  expect cs i x = cond (sees cs i) x (refused i)

  -- A WHOLE TEXT: the phrase at 0, and nothing behind it
  pub parse_is : (x : Nonterminal) → parse in_rows rules tables x ts ≡ verdict (length ts) (bind (phrase x 0) (λ j s. at j (so 0 s.rows)))
  parse_is x = descent.parse_is express in_rows ts x

  pub phrase_placed : (x : Nonterminal) (i : ℕ) → i ≤ length ts → descent.Placed express in_rows ts 1 i (phrase x i)
  phrase_placed = descent.phrase_placed express in_rows ts

  pub repeat_placed : (a : Ebnf Nonterminal) → Ok tables (star a) → (i : ℕ) (r : Rows) → i ≤ length ts → descent.Placed express in_rows ts 0 i (repeat a i r)
  repeat_placed = descent.repeat_placed express in_rows ts

  -- ---- repetitions, by what is repeated: a nonterminal; a declaration; a comma and an id; an operator and its right operand

  abbrev Nonterminals : Nonterminal → Type 0
  Nonterminals x = (i n : ℕ) (r : List Row) → i ≤ length ts →
      repeat (nt x) i (so n r) ≡ cond (sees (tables.begins x) i) (bind (phrase x i) (λ j s. repeat (nt x) j (so n (r ++ s.rows)))) (at i (so n r))

  nonterminals : (x : Nonterminal) → ok tables (star (nt x)) ≡ true → Nonterminals x
  nonterminals x o i n r l = descent.repeat_walks express ts (nt x) (ok_of tables (star (nt x)) o) i (so n r) l

  pub schemas_are : Nonterminals schema
  unfolding mem disjoint
  schemas_are = nonterminals schema refl

  pub constants_are : Nonterminals constant
  unfolding mem disjoint
  constants_are = nonterminals constant refl

  pub rules_are : Nonterminals domain_rule
  unfolding mem disjoint
  rules_are = nonterminals domain_rule refl

  pub attributes_are : Nonterminals attributes
  unfolding mem disjoint
  attributes_are = nonterminals attributes refl

  pub derived_are : Nonterminals derived
  unfolding mem disjoint
  derived_are = nonterminals derived refl

  pub declarations_are : (i n : ℕ) (r : List Row) → i ≤ length ts →
      repeat declaration i (so n r) ≡
      cond (sees (TYPE ++ ENTITY) i)
      (cond (sees TYPE i) (bind (phrase type_declaration i) (λ j s. repeat declaration j (so n (r ++ s.rows))))
      (bind (phrase entity i) (λ j s. repeat declaration j (so n (r ++ s.rows)))))
      (at i (so n r))
  unfolding mem disjoint
  declarations_are i n r l = descent.repeat_walks express ts declaration (ok_of tables (star declaration) refl) i (so n r) l

  pub ids_are : (k o i n : ℕ) (r : List Row) → i ≤ length ts →
      repeat (next_id k o) i (so n r) ≡
      cond (sees comma i) (expect comma i (expect identifier (suc i) (repeat (next_id k o) (suc (suc i)) (so n (and_leaf k o (suc i) r))))) (at i (so n r))
  unfolding mem disjoint
  ids_are k o i n r l = descent.repeat_walks express ts (next_id k o) (ok_of tables (star (next_id k o)) refl) i (so n r) l

  abbrev Operands : List ℕ → Nonterminal → Type 0
  Operands cs x = (i n : ℕ) (r : List Row) → i ≤ length ts →
      repeat (next_operand cs x) i (so n r) ≡
      cond (sees cs i)
      (expect cs i (bind (phrase x (suc i)) (λ j s. repeat (next_operand cs x) j (so i (over kind.two_operand 0 i (r ++ s.rows))))))
      (at i (so n r))

  pub terms_are : Operands additions term
  unfolding mem disjoint
  terms_are i n r l =
      descent.repeat_walks express ts (next_operand additions term) (ok_of tables (star (next_operand additions term)) refl) i (so n r) l

  pub factors_are : Operands multiplications factor
  unfolding mem disjoint
  factors_are i n r l =
      descent.repeat_walks express ts (next_operand multiplications factor) (ok_of tables (star (next_operand multiplications factor)) refl) i (so n r) l

  -- ---- the rules, from the file down

  pub file_is : (i : ℕ) → i ≤ length ts →
      phrase file i ≡
      bind (phrase schema i) (λ j s. bind (repeat (nt schema) j (so i s.rows)) (λ k r. at k (so i (over kind.file 0 i r.rows))))
  file_is i l = descent.phrase_walks express ts file i l

  -- what stands behind the constants of a schema that is named by the token at n
  abbrev pub schema_rest : ℕ → ℕ → List Row → Result Rows
  schema_rest n j r =
      bind (repeat declaration j (so n r)) (λ k s.
      expect END_SCHEMA k (expect semicolon (suc k) (at (suc (suc k)) (so n (over kind.schema 0 n s.rows)))))

  pub schema_is : (i : ℕ) → i ≤ length ts →
      phrase schema i ≡
      expect SCHEMA i
      (expect identifier (suc i)
      (expect semicolon (suc (suc i))
      (cond (sees CONSTANT (suc (suc (suc i))))
      (bind (phrase constants (suc (suc (suc i)))) (λ j s. schema_rest (suc i) j s.rows))
      (schema_rest (suc i) (suc (suc (suc i))) []))))
  schema_is i l = descent.phrase_walks express ts schema i l

  pub constants_is : (i : ℕ) → i ≤ length ts →
      phrase constants i ≡
      expect CONSTANT i
      (bind (phrase constant (suc i)) (λ j s.
      bind (repeat (nt constant) j (so i s.rows)) (λ k r. expect END_CONSTANT k (expect semicolon (suc k) (at (suc (suc k)) (so i r.rows))))))
  constants_is i l = descent.phrase_walks express ts constants i l

  -- id ':' base ':=' expression ';'
  abbrev pub assigned : ℕ → ℕ → Result Rows
  assigned k i =
      expect identifier i
      (expect colon (suc i)
      (bind (phrase base (suc (suc i))) (λ j b.
      expect becomes j
      (bind (phrase expression (suc j)) (λ m e. expect semicolon m (at (suc m) (so i (over k 0 i (b.rows ++ e.rows)))))))))

  pub constant_is : (i : ℕ) → i ≤ length ts → phrase constant i ≡ assigned kind.constant i
  constant_is i l = descent.phrase_walks express ts constant i l

  pub derived_is : (i : ℕ) → i ≤ length ts → phrase derived i ≡ assigned kind.derived_attribute i
  derived_is i l = descent.phrase_walks express ts derived i l

  -- a token that leaves a row of kind k and role o
  abbrev pub takes : List ℕ → ℕ → ℕ → ℕ → Result Rows
  takes cs k o i = expect cs i (at (suc i) (so i (and_leaf k o i [])))

  pub base_is : (i : ℕ) → i ≤ length ts →
      phrase base i ≡ cond (sees simple_types i) (takes simple_types kind.simple_type 0 i) (takes identifier kind.name kind.type_name i)
  base_is i l = descent.phrase_walks express ts base i l

  -- '(' id { ',' id } ')' with a row for each id, and what stands behind them
  abbrev pub id_list : ℕ → ℕ → ℕ → ℕ → (ℕ → List Row → Result Rows) → Result Rows
  id_list k o n i f =
      expect lparen i
      (expect identifier (suc i)
      (bind (repeat (next_id k o) (suc (suc i)) (so n (and_leaf k o (suc i) []))) (λ j r. expect rparen j (f (suc j) r.rows))))

  pub underlying_is : (i : ℕ) → i ≤ length ts →
      phrase underlying i ≡
      cond (sees simple_types i) (takes simple_types kind.simple_type 0 i)
      (cond (sees identifier i) (takes identifier kind.name kind.renamed_type i)
      (cond (sees ENUMERATION i)
      (expect ENUMERATION i (expect OF (suc i) (id_list kind.enumeration_item 0 i (suc (suc i)) (λ j r. at j (so i (over kind.enumeration 0 i r))))))
      (expect SELECT i (id_list kind.name kind.select_name i (suc i) (λ j r. at j (so i (over kind.select 0 i r)))))))
  underlying_is i l = descent.phrase_walks express ts underlying i l

  -- [ where ], and what stands behind it
  abbrev pub optional_where : ℕ → List Row → (ℕ → List Row → Result Rows) → Result Rows
  optional_where i r f = cond (sees WHERE i) (bind (phrase where_clause i) (λ j s. f j (r ++ s.rows))) (f i r)

  pub type_is : (i : ℕ) → i ≤ length ts →
      phrase type_declaration i ≡
      expect TYPE i
      (expect identifier (suc i)
      (expect equal (suc (suc i))
      (bind (phrase underlying (suc (suc (suc i)))) (λ j u.
      expect semicolon j
      (optional_where (suc j) u.rows (λ k r.
      expect END_TYPE k (expect semicolon (suc k) (at (suc (suc k)) (so (suc i) (over kind.type 0 (suc i) r))))))))))
  type_is i l = descent.phrase_walks express ts type_declaration i l

  pub where_is : (i : ℕ) → i ≤ length ts →
      phrase where_clause i ≡
      expect WHERE i (bind (phrase domain_rule (suc i)) (λ j s. bind (repeat (nt domain_rule) j (so i s.rows)) (λ k r. at k (so i r.rows))))
  where_is i l = descent.phrase_walks express ts where_clause i l

  -- expression `;` at j, of a rule that is named by the token at n
  abbrev pub ruled : ℕ → ℕ → ℕ → Result Rows
  ruled o n j = bind (phrase expression j) (λ k e. expect semicolon k (at (suc k) (so n (over kind.rule o n e.rows))))

  pub rule_is : (i : ℕ) → i ≤ length ts →
      phrase domain_rule i ≡ cond (sees identifier i && sees colon (suc i)) (ruled kind.labelled i (suc (suc i))) (ruled kind.unlabelled i i)
  rule_is i l = descent.phrase_walks express ts domain_rule i l

  -- the body of an entity that is named by the token at n: attributes; derived ones; rules and the end
  abbrev pub entity_rules : ℕ → ℕ → List Row → Result Rows
  entity_rules n i r =
      optional_where i r (λ k s. expect END_ENTITY k (expect semicolon (suc k) (at (suc (suc k)) (so n (over kind.entity 0 n s)))))

  abbrev pub entity_derived : ℕ → ℕ → List Row → Result Rows
  entity_derived n i r =
      cond (sees DERIVE i)
      (expect DERIVE i
      (bind (phrase derived (suc i)) (λ j s.
      bind (repeat (nt derived) j (so n (r ++ s.rows))) (λ k d. entity_rules n k d.rows))))
      (entity_rules n i r)

  abbrev pub entity_body : ℕ → ℕ → List Row → Result Rows
  entity_body n i r = expect semicolon i (bind (repeat (nt attributes) (suc i) (so n r)) (λ j s. entity_derived n j s.rows))

  pub entity_is : (i : ℕ) → i ≤ length ts →
      phrase entity i ≡
      expect ENTITY i
      (expect identifier (suc i)
      (cond (sees SUBTYPE (suc (suc i)))
      (expect SUBTYPE (suc (suc i))
      (expect OF (suc (suc (suc i)))
      (id_list kind.name kind.supertype_name (suc i) (suc (suc (suc (suc i)))) (λ j r. entity_body (suc i) j r))))
      (entity_body (suc i) (suc (suc i)) [])))
  entity_is i l = descent.phrase_walks express ts entity i l

  -- base ';' and a row of kind k over the names of a group
  abbrev pub grouped : ℕ → ℕ → ℕ → List Row → Result Rows
  grouped k n i r = bind (phrase base i) (λ j b. expect semicolon j (at (suc j) (so n (over k 0 n (r ++ b.rows)))))

  pub attributes_is : (i : ℕ) → i ≤ length ts →
      phrase attributes i ≡
      expect identifier i
      (bind (repeat (next_id kind.attribute_name 0) (suc i) (so i (and_leaf kind.attribute_name 0 i []))) (λ j r.
      expect colon j
      (cond (sees OPTIONAL (suc j)) (expect OPTIONAL (suc j) (grouped kind.optional_group i (suc (suc j)) r.rows))
      (grouped kind.attribute_group i (suc j) r.rows))))
  attributes_is i l = descent.phrase_walks express ts attributes i l

  -- ---- expressions

  -- x [ operator x ]
  abbrev pub once : List ℕ → Nonterminal → ℕ → Result Rows
  once cs x i =
      bind (phrase x i) (λ j a.
      cond (sees cs j) (expect cs j (bind (phrase x (suc j)) (λ k b. at k (so j (over kind.two_operand 0 j (a.rows ++ b.rows))))))
      (at j (so i a.rows)))

  pub expression_is : (i : ℕ) → i ≤ length ts → phrase expression i ≡ once relations sum i
  expression_is i l = descent.phrase_walks express ts expression i l

  pub factor_is : (i : ℕ) → i ≤ length ts → phrase factor i ≡ once power operand i
  factor_is i l = descent.phrase_walks express ts factor i l

  -- x { operator x }
  abbrev pub often : List ℕ → Nonterminal → ℕ → Result Rows
  often cs x i = bind (phrase x i) (λ j a. bind (repeat (next_operand cs x) j (so i a.rows)) (λ k r. at k (so r.name r.rows)))

  pub sum_is : (i : ℕ) → i ≤ length ts → phrase sum i ≡ often additions term i
  sum_is i l = descent.phrase_walks express ts sum i l

  pub term_is : (i : ℕ) → i ≤ length ts → phrase term i ≡ often multiplications factor i
  term_is i l = descent.phrase_walks express ts term i l

  pub operand_is : (i : ℕ) → i ≤ length ts →
      phrase operand i ≡
      cond (sees identifier i && sees dot (suc i))
      (expect identifier (suc (suc i)) (at (suc (suc (suc i))) (so i (and_leaf kind.qualified_item 0 (suc (suc i)) []))))
      (cond (sees lbrace i) (bind (phrase interval i) (λ j s. at j (so i s.rows)))
      (cond (sees signs i) (expect signs i (bind (phrase atom (suc i)) (λ j s. at j (so i (over kind.unary 0 i s.rows)))))
      (bind (phrase atom i) (λ j s. at j (so i s.rows)))))
  operand_is i l = descent.phrase_walks express ts operand i l

  pub atom_is : (i : ℕ) → i ≤ length ts →
      phrase atom i ≡
      cond (sees lparen i) (expect lparen i (bind (phrase expression (suc i)) (λ j s. expect rparen j (at (suc j) (so i s.rows)))))
      (cond (sees integer i) (takes integer kind.integer_literal 0 i)
      (cond (sees binary i) (takes binary kind.binary_literal 0 i)
      (cond (sees logicals i) (takes logicals kind.logical_literal 0 i)
      (cond (sees question i) (takes question kind.question 0 i)
      (cond (sees others i) (takes others kind.other_literal 0 i)
      (cond (sees identifier i) (takes identifier kind.name kind.in_expression i)
      (takes SELF kind.self 0 i)))))))
  atom_is i l = descent.phrase_walks express ts atom i l

  -- a sum and a comparison, and what stands behind them
  abbrev pub compared : ℕ → List Row → (ℕ → List Row → Result Rows) → Result Rows
  compared i r f =
      bind (phrase sum i) (λ j s. expect comparisons j (f (suc j) (and_leaf kind.interval_operator 0 j (r ++ s.rows))))

  pub interval_is : (i : ℕ) → i ≤ length ts →
      phrase interval i ≡
      expect lbrace i
      (compared (suc i) [] (λ j r.
      compared j r (λ k s.
      bind (phrase sum k) (λ m u. expect rbrace m (at (suc m) (so i (over kind.interval 0 i (s ++ u.rows))))))))
  interval_is i l = descent.phrase_walks express ts interval i l

-- ---- a whole text, with the limit on nesting: all tokens, or those up to and including the first that is too deep

abbrev pub judged : Nonterminal → List ℕ → Verdict Rows
judged x ts = verdict (length ts) (bind (phrase ts x 0) (λ j s. at j (so 0 s.rows)))

pub parsed_uncut : (x : Nonterminal) (ts : List ℕ) → first_deep opening closing nesting 0 ts ≡ nowhere → parsed x ts ≡ uncut (judged x ts)
unfolding parsed
parsed_uncut x ts e = ap (λ (o : Option ℕ). outcome_to in_rows rules tables x o ts) e ∙ ap uncut (parse_is ts x)

pub parsed_cut : (x : Nonterminal) (ts : List ℕ) (k : ℕ) → first_deep opening closing nesting 0 ts ≡ some k → parsed x ts ≡ cut_at k (judged x (take (suc k) ts))
unfolding parsed
parsed_cut x ts k e = ap (λ (o : Option ℕ). outcome_to in_rows rules tables x o ts) e ∙ ap (cut_at k) (parse_is (take (suc k) ts) x)
