-- `scopes::dictionary::key` meets its contract: the definition, unfolded. Assumes nothing.
use Rattle.scopes.specs.Entries.{key_of}
use mathlib.Core.Path.{refl}
use Rattle.scopes.proofs.dictionary.key.Goals as goal

pub returns : goal.returns
unfolding key_of
returns c = refl
