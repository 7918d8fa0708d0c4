-- `inheritance::symbol` meets its contract. Assumes nothing.
use mathlib.Core.Path.{ap, ◌∙◌}
use Prim.Native.Nat.{ℕ}
use lib.ListN.{get_or}
use Rattle.inheritance.proofs.symbol.Goals as goal

pub returns : goal.returns
returns c = c.get_or-2.ensures ∙ ap (λ (i : ℕ). get_or c.args.symbols.now i 0) (c.index.ensures ∙ c.get_or.ensures)
