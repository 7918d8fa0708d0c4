-- `index::dictionary::find` meets its contract: by the walk along the chain of the key's bucket. Assumes nothing.
use Rattle.index.proofs.Entries.{finds_none, finds_no_bucket, finds_walked}
use Rattle.index.proofs.dictionary.find.Goals.{then-key-eq0-via-then-key-eq0, then-key-eq0-via-else-key-eq0+then-is_empty}
use native.Mathlib.Omega.{arith}
use Rattle.index.proofs.dictionary.find.Goals as goal

pub returns-then-key-eq0 : goal.returns-then-key-eq0
returns-then-key-eq0 c =
    elim c.then-key-eq0.branch
    [ then-key-eq0-via-then-key-eq0 w ↦ finds_none w.if-key-eq0.true | then-key-eq0-via-else-key-eq0+then-is_empty w ↦ finds_no_bucket (grind arith) ]

pub returns : goal.returns
returns c = finds_walked _ c.if-key-eq0.false c.bucket-b.ensures c.index.ensures c.walk.ensures
