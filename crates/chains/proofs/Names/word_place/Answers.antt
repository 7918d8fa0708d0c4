-- `chains::Names::word_place` meets its contract: the tokens that have all columns are as many as the shortest has entries. Assumes nothing.
use Rattle.chains.proofs.Places.{in_bucket, all_lined, word_nowhere, places_word}
use native.Mathlib.Omega.{arith}
use Rattle.chains.proofs.Names.word_place.Goals as goal

pub returns-then-self-eq0 : goal.returns-then-self-eq0
returns-then-self-eq0 c = word_nowhere _ _ _ c.if-self-eq0.true

pub range-b-requires : goal.range-b-requires
range-b-requires c = (c.hash.ensures.small, omega (arith, c.if-self-eq0.false))

pub place_from-requires : goal.place_from-requires
place_from-requires c = (
  all_lined _ _ _ (omega (arith, c.min.ensures, c.min-limit.ensures)),
  in_bucket c.range-b.ensures c.hash.ensures.is,
)

pub returns : goal.returns
returns c = places_word _ _ _ (omega (arith, c.min.ensures, c.min-limit.ensures)) c.place_from.ensures
