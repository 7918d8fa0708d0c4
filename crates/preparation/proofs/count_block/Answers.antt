-- `preparation::count_block` meets its contract: the nodes of a block are so few that a byte counts their entries. Assumes nothing.
use Rattle.preparation.proofs.Counting.{adding_starts, adding_goes_on, counting_small, adding_ends}
use lib.ListN.{get_or}
use Rattle.scopes.specs.Entries.{is_other}
use Rattle.scopes.specs.Standing.{declares, sort_by}
use Rattle.scopes.proofs.Passing.{one_or_none}
use native.Mathlib.Omega.{arith}
use mathlib.Core.Path.{refl}
use Rattle.preparation.proofs.count_block.Goals as goal

pub loop-i-init : goal.loop-i-init
loop-i-init c = (c.requires.from_le_to.0, adding_starts c.requires.counted_to)

pub overflow_add-declarations : goal.overflow_add-declarations
overflow_add-declarations c = omega (
  arith,
  c.loop-i.invariant.0,
  c.loop-i.invariant.1.few,
  c.requires.from_le_to.1,
  c.loop-i-test.true,
  c.declarations_of-declarations.ensures,
  one_or_none (declares (get_or
      c.args.kinds.now c.loop-i.i 0)),
)

pub overflow_add-others : goal.overflow_add-others
overflow_add-others c = omega (
  arith,
  c.loop-i.invariant.0,
  c.loop-i.invariant.1.less,
  c.requires.from_le_to.1,
  c.loop-i-test.true,
  c.others_of-others.ensures,
  one_or_none (is_other (sort_by (get_or c.args.kinds.now
      c.loop-i.i 0) (get_or
      c.args.roles.now c.loop-i.i 0))),
)

pub loop-i-preserved : goal.loop-i-preserved
loop-i-preserved c = (
  omega (arith, c.loop-i-test.true),
  adding_goes_on c.loop-i.invariant.1
      c.declarations_of-declarations.ensures c.others_of-others.ensures,
)

pub overflow_add-result : goal.overflow_add-result
overflow_add-result c = omega (
  arith,
  c.byte_index.ensures.1,
  (counting_small c.requires.counted_to (omega (
    arith,
    c.requires.from_le_to,
  ))).0,
)

pub overflow_add-result-2 : goal.overflow_add-result-2
overflow_add-result-2 c = omega (
  arith,
  c.byte_index-2.ensures.1,
  (counting_small c.requires.counted_to (omega (
    arith,
    c.requires.from_le_to,
  ))).1,
)

pub returns : goal.returns
returns c = adding_ends c.loop-i.invariant.1 c.loop-i.invariant.0
    c.loop-i-test.false c.byte_index.ensures.0 c.byte_index-2.ensures.0 refl refl
