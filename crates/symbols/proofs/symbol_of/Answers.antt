-- `symbols::symbol_of` meets its contract: the token of the word's place is the least that is spelled so. Assumes nothing.
use Rattle.symbols.proofs.Interning.{no_heads, finds_known, finds_free}
use native.Mathlib.Omega.{arith}
use Rattle.symbols.proofs.symbol_of.Goals as goal

pub returns-then-is_empty : goal.returns-then-is_empty
returns-then-is_empty c = no_heads _ _ _ (grind arith)

pub returns-in-Known : goal.returns-in-Known
returns-in-Known c = finds_known _ _ _ (grind arith) c.word_place.ensures c.in-Known.is

pub returns-in-Free : goal.returns-in-Free
returns-in-Free c = finds_free _ _ _ (grind arith) c.word_place.ensures c.in-Free.is
