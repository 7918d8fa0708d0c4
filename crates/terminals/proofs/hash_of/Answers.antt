use mathlib.Core.Path.{◌∙◌}
use Rattle.terminals.proofs.Parts.{hash_is}
use Rattle.terminals.proofs.hash_of.Goals as goal

pub returns : goal.returns
returns c = let a = c.args in
    hash_is a.s.now a.start a.n c.requires.0 a.fold _ _ _ _ _
    (c.byte_index-first.ensures.0 ∙ c.letter.ensures)
    (c.byte_index-last.ensures.0 ∙ c.letter-2.ensures) c.saturating_sub.ensures
    (c.byte_index-before.ensures.0 ∙ c.letter-3.ensures) c.saturating_sub-2.ensures
