-- The values of the nodes of a constant's expression, by the answers of the constants.
use mathlib.Core.Path.{◌≡◌, refl}
use mathlib.Core.Logic.{inr}
use mathlib.Core.Bool.{false≢true}
use mathlib.Core.List.{List}
use Prim.Native.Nat.{ℕ, ◌+◌, ◌≤◌, ◌<◌}
use native.Mathlib.Omega.{arith}
use lib.ListN.{length, replicate}
use Rattle.ebnf.specs.Set.{mem, subset}
use Rattle.ebnf.proofs.Sets.{in_more}
use Rattle.express.specs.Syntax.NodeKind as node
use Rattle.express.specs.Syntax.Tree.{Table, count, kind, size, first, last}
use Rattle.express.specs.Tokens.Lexis.{most_bytes}
use Rattle.express.specs.Names.Scope as scope
use Rattle.express.specs.Semantics.Answer.{Answer, indeterminate}
use Rattle.express.specs.Semantics.AnswerRow.{bytes_of}
use Rattle.express.specs.Semantics.Order.{constant_order}
use Rattle.express.specs.Semantics.Evaluate.{value}
use Rattle.express.proofs.Syntax.Formed.{Formed, Pair}
use Rattle.express.proofs.Syntax.FormedRows.{formed_rows}
use Rattle.express.proofs.Syntax.KindSets.{expression_kinds, below_constant}
use Rattle.express.proofs.Tokens.Literals.{literals}
use Rattle.express.proofs.Semantics.Bounds.{Fitting, fit-?, fit_end, fit_integer, fit_logical, fit_binary, fit_string, fit_item, evaluate_fits, value_fits}
use Rattle.express.proofs.Semantics.Spans.{Part, Below, Inside, last_below, left_below, five_below, in_expression}
use Rattle.string_laws.proofs.Values.{value_step}
use Rattle.string_laws.proofs.Strings.{string_leaves}
use Rattle.evaluate.specs.Evaluation.{OperandOf, of_sign, left_of, right_of, low_of, item_of, high_of, value_of, Valued}
use Rattle.schemas.specs.Rows.{answer_of_constant, OfFile}
use Rattle.schemas.proofs.Settled.{blank}

-- what fits a row has at most 255 bytes
short_bytes : {t : Table} {a : Answer} → Fitting t a → length (bytes_of a) ≤ most_bytes
short_bytes fit-? = omega arith
short_bytes (fit_end h) = omega arith
short_bytes (fit_integer l) = omega arith
short_bytes fit_logical = omega arith
short_bytes (fit_binary l m) = omega arith
short_bytes (fit_string l) = l
short_bytes (fit_item m) = omega arith

-- a node of an expression is no constant
no_constant : (k : ℕ) → Part k → k ≡ node.constant → ⊥
unfolding mem
no_constant k p e = false≢true (rw e at p)

module _ {t : Table} {bytes starts lengths terminals kinds tokens sizes bindings declared order : List ℕ}
    (O : OfFile t bytes starts lengths terminals kinds tokens sizes bindings declared order) (d : ℕ) (l : d < count t) (h : kind t d ≡ node.constant) where
  formed : Formed t
  formed = formed_rows O.read

  pair : Pair t d
  pair = formed.constant d l h

  pub root_part : Part (kind t (last d))
  unfolding mem subset
  root_part = in_more (kind t (last d)) expression_kinds below_constant refl pair.value

  -- the expression lies between the type and the constant's own node
  pub root_first : (first t (last d) ≡ first t d + 1) × (last d + 1 ≡ d)
  root_first = let z = pair.all in let i = formed.inside d l in let s : 1 ≤ size t (last d) = formed.some (last d) (omega arith) in (omega arith, omega arith)

  fits_constant : (c : ℕ) → Fitting t (answer_of_constant t c)
  unfolding Rattle.express.specs.Semantics.Evaluate.answers
  fits_constant c =
      evaluate_fits t (scope.bindings t) (literals O.read O.scanned) (constant_order t) (replicate (count t) indeterminate) (λ m. rw (blank (count t) m) fit-?) c

  pub valued : Valued t t bindings (answer_of_constant t) (first t (last d)) d (value t bindings (answer_of_constant t))
  valued =
      record {
        known = omega arith;
        step = λ n a b. value_step t t bindings formed (answer_of_constant t) n (record { known = omega (arith, b, l); sort = inr (inside n a b).part });
        operands = λ n a b m o. operands n a b m o;
        inside = λ n a b. ((inside n a b).whole, formed.inside n (omega (arith, b, l)));
        strings = λ n a b s q. string_leaves t t bindings formed (answer_of_constant t) n (omega (arith, b, l)) (inside n a b).part s q;
        short = λ n a b. short_bytes (value_fits t t bindings (literals O.read O.scanned) (answer_of_constant t) fits_constant n);
      }
    where
      inside : (n : ℕ) → first t (last d) ≤ n → n < d → Inside t formed (last d) n
      inside n a b =
          let r = root_first in in_expression t formed (last d) n (omega (arith, l, r.1)) root_part (record { from = a; upto = omega (arith, b, r.1) })

      below : (n : ℕ) → first t (last d) ≤ n → n < d → {m : ℕ} → Below t n m → (first t (last d) ≤ m) × (m < n)
      below n a b B = (omega (arith, (inside n a b).whole, B.from), B.under)

      operands : (n : ℕ) → first t (last d) ≤ n → n < d → (m : ℕ) → OperandOf t n m → (first t (last d) ≤ m) × (m < n)
      operands n a b m (of_sign k) = below n a b (last_below t formed n (omega (arith, b, l)) k)
      operands n a b m (left_of k) = below n a b (left_below t formed n (omega (arith, b, l)) k).0
      operands n a b m (right_of k) = below n a b (left_below t formed n (omega (arith, b, l)) k).1
      operands n a b m (low_of k) = below n a b (five_below t formed n (omega (arith, b, l)) k).low_below
      operands n a b m (item_of k) = below n a b (five_below t formed n (omega (arith, b, l)) k).middle_below
      operands n a b m (high_of k) = below n a b (five_below t formed n (omega (arith, b, l)) k).high_below
      operands n a b m (value_of k) = absurd (no_constant (kind t n) (inside n a b).part k)
