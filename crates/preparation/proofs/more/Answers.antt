-- `preparation::more` meets its contract: each field is what the calls give, and small counts stay small. Assumes nothing.
use Rattle.preparation.proofs.Classes.{more_by}
use Rattle.scopes.proofs.Passing.{one_or_none}
use native.Mathlib.Omega.{arith}
use lib.Dec.{eqb}
use mathlib.Core.Path.{refl}
use Rattle.preparation.proofs.more.Goals as goal

pub overflow_add-declarations : goal.overflow_add-declarations
overflow_add-declarations c = omega (arith, c.requires.0, c.choose.ensures, one_or_none (eqb c.sort_in.result 2))

pub overflow_add-others : goal.overflow_add-others
overflow_add-others c = omega (arith, c.requires.1, c.entries_in.ensures, c.ranges.class)

pub returns : goal.returns
returns c = more_by c.sort_in.ensures c.entries_in.ensures c.choose.ensures refl refl
