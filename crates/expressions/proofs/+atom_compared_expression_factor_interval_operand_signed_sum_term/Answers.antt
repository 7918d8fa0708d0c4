-- The readers of expressions, which call each other: each call is nearer to the end of the list, or at the same token one level further in. By Operators and Operands.
use mathlib.Core.Path.{refl, sym, ◌∙◌}
use native.Mathlib.Omega.{arith}
use borrow.Author.Rules.{rules}
use lib.ListN.{get_or}
use Rattle.ebnf.specs.Set.{mem}
use Rattle.express.specs.Tokens.Terminal.{power}
use Rattle.express.specs.Syntax.Grammar.{expression as expression', sum as sum', term as term', factor as factor', operand as operand', relations, additions, multiplications}
use Rattle.express.proofs.Syntax.Syntax.{express}
use Rattle.expressions.proofs.Operators.{before_first, often_refused, often_ends}
use Rattle.expressions.proofs.Operators.{often_again, turned_refused, turned_both, turned_alone, turned_again, once_refused, once_alone, once_ready, once_stopped, once_both}
use Rattle.ebnf.proofs.Sets.{mem_one}
use Rattle.parsing.specs.Reading.{atom_label}
use Rattle.parsing.proofs.Terminals.{is_one, seen, seen_one, seen_other}
use Rattle.parsing.proofs.Steps.{onward, onward_row, one_inside}
use Rattle.parsing.proofs.Laws.{handed_on, reads_at}
use Rattle.expressions.proofs.Operands.{atom_nested, atom_refused, atom_row, atom_none, operand_interval, sign_ready, signed_refused, signed_row, operand_plain}
use Rattle.expressions.proofs.Operands.{comparison_inside, compared_there, compared_not, low_refused}
use Rattle.expressions.proofs.Operands.{item_refused, high_refused, end_refused, interval_whole}
use Rattle.expressions.proofs.+atom_compared_expression_factor_interval_operand_signed_sum_term.Goals as goal
use Rattle.expressions.proofs.+atom_compared_expression_factor_interval_operand_signed_sum_term.Goals.{factor-then-at-from-via-then-at-from, factor-then-at-from-via-else-at-from+then-get_or-ne-POWER}

pub atom-returns-in_err-inner : goal.atom-returns-in_err-inner
atom-returns-in_err-inner t c = rw (handed_on c.from_residual.ensures.1 c.in_err-inner.was) (atom_refused c.requires
    c.get_or-c.result c.get_or-c.ensures
    c.if-c-eq-LPAREN.true c.expression.ensures c.in_err-inner.was)

pub atom-returns-then-c-eq-LPAREN : goal.atom-returns-then-c-eq-LPAREN
atom-returns-then-c-eq-LPAREN t c = atom_nested c.requires
    c.get_or-c.result
    c.get_or-c.ensures c.if-c-eq-LPAREN.true
    c.expression.ensures c.in_ok-inner.was c.expect.ensures

pub atom-returns-in_default : goal.atom-returns-in_default
atom-returns-in_default t c = atom_none c.requires c.get_or-c.result c.get_or-c.ensures
    (atom_label c.get_or-c.result) c.if-c-eq-LPAREN.false refl c.in_default.ensures

pub atom-returns : goal.atom-returns
atom-returns t c = atom_row c.requires c.get_or-c.result c.get_or-c.ensures
    c.in-Some.label c.if-c-eq-LPAREN.false
    c.in-Some.ensures.0 (λ z. omega (arith, z, c.in-Some.ensures.1)) c.put_row.ensures

pub compared-sum-requires : goal.compared-sum-requires
compared-sum-requires t c = let l = comparison_inside c.requires
    c.is_comparison.result c.get_or.result
    c.get_or.ensures c.is_comparison.ensures
    c.if-not-is_comparison.false in (
      omega (arith, c.decreases, l),
      onward_row
          c.requires l,
    )

pub compared-returns : goal.compared-returns
compared-returns t c = compared_there c.requires
    c.is_comparison.result
    c.get_or.result
    c.get_or.ensures
    c.is_comparison.ensures
    c.if-not-is_comparison.false c.put_row.ensures
    c.sum.ensures

pub compared-returns-then-not-is_comparison : goal.compared-returns-then-not-is_comparison
compared-returns-then-not-is_comparison t c = compared_not c.requires c.is_comparison.result c.get_or.result
    c.get_or.ensures c.is_comparison.ensures c.if-not-is_comparison.true

pub expression-returns-in_err-left : goal.expression-returns-in_err-left
expression-returns-in_err-left t c = rw (handed_on c.from_residual.ensures.1 c.in_err-left.was) (once_refused expression' sum' relations refl c.requires
    c.sum.ensures c.in_err-left.was)

pub expression-returns-then-not-is_relation : goal.expression-returns-then-not-is_relation
expression-returns-then-not-is_relation t c = once_alone expression' sum' relations refl c.requires
    c.sum.ensures c.in_ok-left.was
    (seen c.args.terminals.now
    c.in_ok-left.left.token relations c.get_or.ensures c.is_relation.ensures c.if-not-is_relation.true)

pub expression-sum-requires-2 : goal.expression-sum-requires-2
unfolding mem
expression-sum-requires-2 t c = let t = seen c.args.terminals.now
    c.in_ok-left.left.token relations c.get_or.ensures c.is_relation.ensures c.if-not-is_relation.false in
    let g = once_ready expression' sum' relations refl c.requires
    c.sum.ensures c.in_ok-left.was t refl in (
      omega (
        arith,
        c.decreases,
        reads_at
            c.sum.ensures c.in_ok-left.was,
        g.within,
      ),
      g,
    )

pub expression-returns-in_err-right : goal.expression-returns-in_err-right
expression-returns-in_err-right t c = rw (handed_on c.from_residual-in_err-right.ensures.1 c.in_err-right.was) (once_stopped expression' sum' relations refl c.requires c.sum.ensures
    c.in_ok-left.was
    (seen c.args.terminals.now c.in_ok-left.left.token relations
    c.get_or.ensures c.is_relation.ensures
    c.if-not-is_relation.false)
    c.sum-2.ensures c.in_err-right.was)

pub expression-returns : goal.expression-returns
expression-returns t c = once_both expression' sum' relations refl c.requires
    c.sum.ensures
    c.in_ok-left.was
    (seen c.args.terminals.now c.in_ok-left.left.token relations c.get_or.ensures
    c.is_relation.ensures c.if-not-is_relation.false)
    c.sum-2.ensures c.in_ok-right.was c.put_row.ensures

pub factor-loop-right-init : goal.factor-loop-right-init
factor-loop-right-init t c = (refl, before_first c.requires)

pub factor-returns-in_err-right : goal.factor-returns-in_err-right
factor-returns-in_err-right t c = rw (handed_on c.from_residual.ensures.1 c.in_err-right.was) (turned_refused factor' operand' power refl c.requires
    c.loop-right.invariant.1 c.operand.ensures c.in_err-right.was)

pub factor-returns-then-at-from : goal.factor-returns-then-at-from
factor-returns-then-at-from t c = elim c.then-at-from.branch [
  | factor-then-at-from-via-then-at-from w ↦ turned_both factor' operand' power refl c.requires c.loop-right.invariant.1
      c.operand.ensures c.in_ok-right.was c.combined-row.ensures w.if-at-from.true
  | factor-then-at-from-via-else-at-from+then-get_or-ne-POWER w ↦ turned_alone factor' operand' power refl c.requires
      c.loop-right.invariant.1 c.operand.ensures c.in_ok-right.was c.combined-row.ensures w.if-at-from.false
      (seen_other c.args.terminals.now c.in_ok-right.right.token 32 w.get_or.ensures w.if-get_or-ne-POWER.true)
]

pub factor-loop-right-preserved : goal.factor-loop-right-preserved
unfolding mem
factor-loop-right-preserved t c = (
  search rules,
  turned_again factor' operand' power refl
      c.requires
      c.loop-right.invariant.1
      c.operand.ensures
      c.in_ok-right.was c.combined-row.ensures
      c.if-at-from.false refl (seen_one c.args.terminals.now c.in_ok-right.right.token 32 c.get_or.ensures c.if-get_or-ne-POWER.false),
)

pub interval-sum-requires : goal.interval-sum-requires
interval-sum-requires t c = let l = one_inside c.args.terminals.now c.args.from.token (get_or c.args.terminals.now
    c.args.from.token 0) 21 refl (mem_one _ _ c.requires.1) (omega arith) in
    (omega (arith, c.decreases, l), onward c.requires.0 l)

pub interval-returns-in_err-low : goal.interval-returns-in_err-low
interval-returns-in_err-low t c = rw (handed_on c.from_residual.ensures.1 c.in_err-low.was) (low_refused c.requires.0
    c.requires.1 c.sum.ensures c.in_err-low.was)

pub interval-returns-in_err-item : goal.interval-returns-in_err-item
interval-returns-in_err-item t c = rw (handed_on c.from_residual-in_err-item.ensures.1 c.in_err-item.was) (item_refused c.requires.0
    c.requires.1
    c.sum.ensures
    c.in_ok-low.was c.compared.ensures c.in_err-item.was)

pub interval-returns-in_err-high : goal.interval-returns-in_err-high
interval-returns-in_err-high t c = rw (handed_on c.from_residual-in_err-high.ensures.1 c.in_err-high.was) (high_refused c.requires.0 c.requires.1
    c.sum.ensures
    c.in_ok-low.was
    c.compared.ensures
    c.in_ok-item.was c.compared-2.ensures c.in_err-high.was)

pub interval-returns-in_err-end : goal.interval-returns-in_err-end
interval-returns-in_err-end t c = rw (handed_on c.from_residual-in_err-end.ensures.1 c.in_err-end.was) (end_refused c.requires.0 c.requires.1
    c.sum.ensures c.in_ok-low.was c.compared.ensures
    c.in_ok-item.was
    c.compared-2.ensures c.in_ok-high.was
    c.expect.ensures c.in_err-end.was)

pub interval-returns : goal.interval-returns
interval-returns t c = interval_whole c.requires.0
    c.requires.1
    c.sum.ensures
    c.in_ok-low.was c.compared.ensures c.in_ok-item.was c.compared-2.ensures
    c.in_ok-high.was
    c.expect.ensures c.in_ok-end.was c.put_row.ensures

pub operand-returns-then-is_qualified : goal.operand-returns-then-is_qualified
operand-returns-then-is_qualified t c = c.qualified.ensures

pub operand-interval-requires : goal.operand-interval-requires
operand-interval-requires t c = (
  omega (arith, c.decreases),
  (c.requires, is_one _ _ (sym c.get_or-c.ensures ∙ c.if-c-eq-LBRACE.true)),
)

pub operand-returns-then-c-eq-LBRACE : goal.operand-returns-then-c-eq-LBRACE
operand-returns-then-c-eq-LBRACE t c = operand_interval c.requires
    c.is_qualified.result c.is_qualified.ensures
    c.if-is_qualified.false c.get_or-c.result
    c.get_or-c.ensures c.if-c-eq-LBRACE.true c.interval.ensures

pub operand-returns-then-is_sign : goal.operand-returns-then-is_sign
operand-returns-then-is_sign t c = c.signed.ensures

pub operand-returns-else-is_sign : goal.operand-returns-else-is_sign
operand-returns-else-is_sign t c = operand_plain c.requires
    c.is_qualified.result
    c.is_qualified.ensures c.if-is_qualified.false
    c.get_or-c.result
    c.get_or-c.ensures c.if-c-eq-LBRACE.false
    c.is_sign.result c.is_sign.ensures c.if-is_sign.false
    c.atom.ensures

pub signed-atom-requires : goal.signed-atom-requires
signed-atom-requires t c = let g = sign_ready c.requires.0 c.requires.1 in
    (omega (arith, c.decreases, g.within), g)

pub signed-returns-in_err-inner : goal.signed-returns-in_err-inner
signed-returns-in_err-inner t c = rw (handed_on c.from_residual.ensures.1 c.in_err-inner.was) (signed_refused c.requires.0
    c.requires.1 c.atom.ensures c.in_err-inner.was)

pub signed-returns : goal.signed-returns
signed-returns t c = signed_row c.requires.0
    c.requires.1
    c.atom.ensures c.in_ok-inner.was
    c.put_row.ensures

pub sum-loop-right-init : goal.sum-loop-right-init
sum-loop-right-init t c = (refl, before_first c.requires)

pub sum-returns-in_err-right : goal.sum-returns-in_err-right
sum-returns-in_err-right t c = rw (handed_on c.from_residual.ensures.1 c.in_err-right.was) (often_refused sum' term' additions refl (express.ok sum').1 c.requires
    c.loop-right.invariant.1 c.term.ensures c.in_err-right.was)

pub sum-returns-then-not-is_addition : goal.sum-returns-then-not-is_addition
sum-returns-then-not-is_addition t c = often_ends sum' term' additions refl (express.ok sum').1 c.requires c.loop-right.invariant.1
    c.term.ensures
    c.in_ok-right.was c.combined-row.ensures
    (seen c.args.terminals.now
    c.in_ok-right.right.token additions c.get_or.ensures c.is_addition.ensures
    c.if-not-is_addition.true)

pub sum-loop-right-preserved : goal.sum-loop-right-preserved
unfolding mem
sum-loop-right-preserved t c = (
  search rules,
  often_again sum' term' additions refl (express.ok sum').1 c.requires c.loop-right.invariant.1
      c.term.ensures
      c.in_ok-right.was c.combined-row.ensures refl
      (seen c.args.terminals.now
      c.in_ok-right.right.token additions c.get_or.ensures c.is_addition.ensures
      c.if-not-is_addition.false),
)

pub term-loop-right-init : goal.term-loop-right-init
term-loop-right-init t c = (refl, before_first c.requires)

pub term-returns-in_err-right : goal.term-returns-in_err-right
term-returns-in_err-right t c = rw (handed_on c.from_residual.ensures.1 c.in_err-right.was) (often_refused term' factor' multiplications refl (express.ok term').1 c.requires
    c.loop-right.invariant.1 c.factor.ensures c.in_err-right.was)

pub term-returns-then-not-is_multiplication : goal.term-returns-then-not-is_multiplication
term-returns-then-not-is_multiplication t c = often_ends term' factor' multiplications refl (express.ok term').1
    c.requires
    c.loop-right.invariant.1
    c.factor.ensures
    c.in_ok-right.was c.combined-row.ensures
    (seen c.args.terminals.now
    c.in_ok-right.right.token multiplications c.get_or.ensures
    c.is_multiplication.ensures c.if-not-is_multiplication.true)

pub term-loop-right-preserved : goal.term-loop-right-preserved
unfolding mem
term-loop-right-preserved t c = (
  search rules,
  often_again term' factor' multiplications refl (express.ok term').1
      c.requires
      c.loop-right.invariant.1
      c.factor.ensures
      c.in_ok-right.was c.combined-row.ensures refl
      (seen c.args.terminals.now
      c.in_ok-right.right.token multiplications c.get_or.ensures
      c.is_multiplication.ensures c.if-not-is_multiplication.false),
)
