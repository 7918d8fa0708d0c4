-- `attribute_chains::enter` meets its contract. Assumes nothing.
use Rattle.attribute_chains.proofs.Entering.{entered, entered_heads}
use Rattle.attribute_chains.proofs.enter.Goals as goal

pub returns : goal.returns
returns c = let args = c.args in
    let symbol = c.index-s.ensures in
    let node = c.number.ensures in
    let first = c.put.ensures in
    let rank = c.index.ensures in (
      entered_heads args.heads.now args.count symbol c.number-3.ensures c.put-3.ensures,
      entered args.heads.now args.pairs.now args.count args.node symbol c.get_or.ensures c.index-link.ensures node first rank
          c.number-2.ensures c.put-2.ensures,
    )
