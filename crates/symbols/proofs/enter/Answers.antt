-- `symbols::enter` meets its contract: by the laws of `Enters`. Assumes nothing.
use Rattle.symbols.proofs.Interning.{known_low, free_low, enters_known, enters_free}
use native.Mathlib.Omega.{arith}
use Rattle.symbols.proofs.enter.Goals as goal

pub bounds-symbols-i : goal.bounds-symbols-i
bounds-symbols-i c = c.requires.stored

pub bounds-heads-b : goal.bounds-heads-b
bounds-heads-b c = free_low _ _ _ (c.token_place.ensures.is c.requires.lined c.requires.some) c.in-Free.is

pub bounds-symbols-i-in-Free : goal.bounds-symbols-i-in-Free
bounds-symbols-i-in-Free c = c.requires.stored

pub bounds-heads-b-in-Free : goal.bounds-heads-b-in-Free
bounds-heads-b-in-Free c = free_low _ _ _ (c.token_place.ensures.is c.requires.lined c.requires.some) c.in-Free.is

pub returns-in-Known : goal.returns-in-Known
returns-in-Known c = let small = c.requires.small in
    let place = c.token_place.ensures.is c.requires.lined c.requires.some in
    let known = c.in-Known.is in
    enters_known place known (c.number.ensures (omega (arith, small, known_low _ _ _ place known)))

pub returns-in-Free : goal.returns-in-Free
returns-in-Free c = let small = c.requires.small in
    let place = c.token_place.ensures.is c.requires.lined c.requires.some in
    enters_free place c.in-Free.is (c.number-in-Free.ensures (omega (arith, small))) (c.number-in-Free-2.ensures small)
