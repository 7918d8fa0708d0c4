-- `chains::Names::leads` meets its contract: the two tokens are as long as each other, and surely spelled alike. Assumes nothing.
use Rattle.chains.proofs.Places.{leads_to}
use mathlib.Core.Bool.{false≢true}
use mathlib.Core.Path.{sym, ◌∙◌}
use Rattle.chains.proofs.Names.leads.Goals as goal

pub returns-then-first-eq0 : goal.returns-then-first-eq0
returns-then-first-eq0 c = λ z. absurd (false≢true z)

pub returns-then-i-first : goal.returns-then-i-first
returns-then-i-first c = λ z. absurd (false≢true z)

pub returns-then-index-n : goal.returns-then-index-n
returns-then-index-n c = λ z. absurd (false≢true z)

pub returns : goal.returns
returns c = λ z. leads_to c.args.self.now.bytes.now
    c.args.self.now.starts.now
    c.args.self.now.lengths.now
    c.if-first-eq0.false
    c.if-i-first.false c.index-2.ensures
    c.index-3.ensures c.index-n.ensures (sym
    c.index.ensures ∙ c.if-index-n.false) c.surely_alike.ensures z
