-- `index::dictionary::next_of` meets its contract: by the walk along the rest of the entry's chain. Assumes nothing.
use Rattle.index.proofs.Entries.{continues_past, continues_short, continues_none, continues_walked}
use Rattle.index.proofs.dictionary.next_of.Goals.{then-keys-entry-via-then-keys-entry, then-keys-entry-via-else-keys-entry+then-next-entry}
use Rattle.index.proofs.dictionary.next_of.Goals as goal

pub returns-then-keys-entry : goal.returns-then-keys-entry
returns-then-keys-entry c =
    elim c.then-keys-entry.branch [
      | then-keys-entry-via-then-keys-entry w ↦ continues_past w.if-keys-entry.true
      | then-keys-entry-via-else-keys-entry+then-next-entry w ↦ continues_short w.if-keys-entry.false w.if-next-entry.true
    ]

pub returns-then-key-eq0 : goal.returns-then-key-eq0
returns-then-key-eq0 c = continues_none c.if-key-eq0.true

pub returns : goal.returns
returns c = continues_walked c.if-keys-entry.false c.if-key-eq0.false c.index.ensures c.walk.ensures
