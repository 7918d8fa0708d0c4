-- `chains::Names::spelled` meets its contract: the part of the bytes is the token's spelling. Assumes nothing.
use Rattle.spellings.proofs.Spellings.{part_spelling}
use Rattle.express.specs.Tokens.Bytes.{lower, same}
use Prim.Native.Nat.{ℕ}
use mathlib.Core.List.{List, map}
use mathlib.Core.Path.{◌∙◌, ap}
use Rattle.chains.proofs.Names.spelled.Goals as goal

pub returns : goal.returns
returns c = c.alike.ensures ∙ ap (λ (xs : List ℕ). same xs (map lower
    c.args.word.now)) (part_spelling c.args.self.now.bytes.now c.args.self.now.starts.now c.args.self.now.lengths.now c.args.k _ _
    c.begin-from.ensures c.end-to.ensures)
