-- The grammar passes the check, so its parse is exact, for every start symbol.
use mathlib.Core.Bool.{true}
use mathlib.Core.List.{List}
use mathlib.Core.Logic.{◌↔◌}
use mathlib.Core.Path.{◌≡◌, refl, ap, subst}
use Prim.Native.Nat.{ℕ}
use Rattle.ebnf.specs.Set.{mem, disjoint, subset}
use Rattle.ebnf.specs.Grammar.{rule, Text, Stuck}
use Rattle.ebnf.specs.Rows.{Row, Rows, in_rows}
use Rattle.ebnf.specs.Parse.{accepted, refused_at, parse}
use Rattle.ebnf.specs.Check.{productive, passes}
use Rattle.ebnf.specs.Depth.{Outcome, good}
use Rattle.ebnf.proofs.Predictive.{Predictive, predictive}
use Rattle.express.specs.Syntax.Tree.{Table}
use Rattle.express.specs.Syntax.Grammar.{Nonterminal, file, schema, constants, constant, base, type_declaration, underlying, where_clause, domain_rule, entity, attributes}
use Rattle.express.specs.Syntax.Grammar.{derived, expression, sum, term, factor, operand, atom, interval, rules}
use Rattle.express.specs.Syntax.Lookahead.{tables}
use Rattle.express.specs.Syntax.Syntax.{whole, Parses, opening, closing, nesting, Holds, parsed, Read, with_rows}
use Rattle.ebnf.proofs.Exact as exact
use Rattle.ebnf.proofs.Limit as limit

checked : (x : Nonterminal) → passes rules tables 60 x ≡ true
unfolding passes productive mem disjoint subset
checked file = refl
checked schema = refl
checked constants = refl
checked constant = refl
checked base = refl
checked type_declaration = refl
checked underlying = refl
checked where_clause = refl
checked domain_rule = refl
checked entity = refl
checked attributes = refl
checked derived = refl
checked expression = refl
checked sum = refl
checked term = refl
checked factor = refl
checked operand = refl
checked atom = refl
checked interval = refl

pub express : Predictive rules tables
express = predictive rules tables 60 checked

module _ (x : Nonterminal) where
  -- ACCEPTED exactly with the rows that the grammar derives
  pub accepted_iff : (ts : List ℕ) (s : List Row) → (parse in_rows rules tables x ts ≡ accepted (whole s)) ↔ Parses x ts s
  accepted_iff ts s = exact.accepted_iff express in_rows x ts (whole s)

  -- UNIQUE: a text has one list of rows
  pub unique : (ts : List ℕ) (s t : List Row) → Parses x ts s → Parses x ts t → s ≡ t
  unique ts s t d e = ap (λ (r : Rows). r.rows) (exact.unique express in_rows x ts (whole s) (whole t) d e)

  -- REFUSED at the first token that cannot stand
  pub refused_stuck : (ts : List ℕ) (k : ℕ) → parse in_rows rules tables x ts ≡ refused_at k → Stuck in_rows rules x ts k
  refused_stuck ts k e = exact.refused_stuck express in_rows x ts k e

  -- WITH THE LIMIT ON NESTING: the outcome that is computed is the one that holds
  pub parsed_iff : (ts : List ℕ) (o : Outcome Rows) → (parsed x ts ≡ o) ↔ Holds x ts o
  unfolding parsed mem
  parsed_iff ts o = limit.outcome_iff express in_rows x opening closing nesting refl ts o

  -- the value of a text is its rows: nothing is named beyond them
  pub whole_value : (ts : List ℕ) (r : Rows) → Text in_rows rules x ts r → r ≡ whole r.rows
  whole_value ts r (rule d) = refl

  -- A TABLE WITH THE ROWS that the parse gives holds the rows of its terminals
  pub read_good : (t : Table) (r : Rows) → parsed x t.terminals ≡ good r → Read x (with_rows t r.rows)
  read_good t r e =
      let d = ((parsed_iff t.terminals (good r)).0 e).0 in
      record {
        rows = r.rows;
        parses = subst (λ (s : Rows). Text in_rows rules x t.terminals s) (whole_value _ r d) d;
        kinds = refl;
        tokens = refl;
        sizes = refl;
        roles = refl;
      }
