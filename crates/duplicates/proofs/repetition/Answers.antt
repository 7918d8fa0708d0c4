-- `duplicates::repetition` meets its contract: the next entry with the key is found by its chain. Assumes nothing.
use Rattle.duplicates.proofs.Repeats.{found_repetition}
use mathlib.Core.Path.{refl}
use Rattle.duplicates.proofs.repetition.Goals as goal

pub returns-in_default : goal.returns-in_default
returns-in_default c = found_repetition c.next_of-later.ensures c.in_default.is refl

pub returns : goal.returns
returns c = found_repetition c.next_of-later.ensures c.in-Some.is (cc (
  c.fault_at.ensures,
  c.get_or-3.ensures,
  c.index-token.ensures,
  c.get_or-2.ensures,
  c.index.ensures,
  c.get_or.ensures,
))
