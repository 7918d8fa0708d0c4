-- `preparation::class` meets its contract: the entry of a kind and a role. Assumes nothing.
use Rattle.preparation.proofs.Classes.{class_high, class_at}
use native.Mathlib.Omega.{arith}
use mathlib.Core.Path.{◌≡◌}
use Prim.Native.Nat.{◌+◌, ◌*◌}
use lib.ListN.{get_or}
use Rattle.scopes.specs.Standing.{sort_by, class_of, first_letter}
use Rattle.preparation.proofs.class.Goals as goal

-- the letter that is read
letter :
    (c : goal.After-result-1) →
    get_or c.args.classes.now (c.byte_index.result * 8 + c.min-column.result) 0
    ≡ first_letter + class_of (sort_by c.args.kind c.args.role)
letter c =
    class_at c.args.classes.now c.requires c.args.kind c.if-kind-ge-ROWS.false c.args.role c.min-column.result (c.byte_index.result * 8 + c.min-column.result) (λ h. omega (
      arith,
      h,
      c.min-column.ensures,
      c.index.ensures,
    )) (λ h. omega (arith, h, c.min-column.ensures, c.index.ensures)) (omega (arith, c.byte_index.ensures))

pub returns-then-kind-ge-ROWS : goal.returns-then-kind-ge-ROWS
returns-then-kind-ge-ROWS c = class_high c.args.kind c.args.role c.if-kind-ge-ROWS.true

pub overflow_mul-result : goal.overflow_mul-result
overflow_mul-result c = omega (arith, c.byte_index.ensures, c.min-column.ensures, c.if-kind-ge-ROWS.false)

pub overflow_add-result : goal.overflow_add-result
overflow_add-result c = omega (arith, c.byte_index.ensures, c.min-column.ensures, c.if-kind-ge-ROWS.false)

pub bounds-classes-byte_index : goal.bounds-classes-byte_index
bounds-classes-byte_index c = omega (arith, c.byte_index.ensures, c.min-column.ensures, c.if-kind-ge-ROWS.false)

pub overflow_sub-result : goal.overflow_sub-result
overflow_sub-result c = omega (arith, letter c)

pub returns : goal.returns
returns c = omega (arith, letter c)
