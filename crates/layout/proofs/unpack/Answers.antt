-- The loop fills the column up to the word that it is at.
use mathlib.Core.Path.{refl}
use native.Mathlib.Omega.{arith}
use borrow.Author.Rules.{rules}
use Rattle.parsing.proofs.Columns.{filled_none, filled_more, filled_all}
use Rattle.layout.proofs.unpack.Goals as goal

pub loop-i-init : goal.loop-i-init
loop-i-init g c = λ f h. filled_none f refl refl

pub loop-i-preserved : goal.loop-i-preserved
loop-i-preserved g c = λ f h. filled_more f (c.loop-i.invariant f h) (omega arith) refl (h _ _ (search rules) c.part.ensures)

pub returns : goal.returns
returns g c = λ f h. filled_all f (c.loop-i.invariant f h) (omega arith)
