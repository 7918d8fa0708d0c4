-- Four marks, joined by `&`: the last of them tells whether all go on (`Words`).
use Rattle.scan.proofs.Words.{some_go_on, all_go_on}
use Rattle.scan.proofs.Bytes.word_bytes.Goals as goal

pub returns-then-d-eq0 : goal.returns-then-d-eq0
returns-then-d-eq0 c = some_go_on _ _ c.requires c.word_mark-a.ensures c.word_mark.ensures c.word_mark-2.ensures c.word_mark-3.ensures c.if-d-eq0.true

pub returns-else-d-eq0 : goal.returns-else-d-eq0
returns-else-d-eq0 c = all_go_on _ _ c.requires c.word_mark-a.ensures c.word_mark.ensures c.word_mark-2.ensures c.word_mark-3.ensures c.if-d-eq0.false
