-- `chains::Names::token_bucket` meets its contract: the hash is that of the token's bytes. Assumes nothing.
use Rattle.chains.proofs.Places.{token_in}
use Rattle.chains.proofs.Names.token_bucket.Goals as goal

pub returns : goal.returns
returns c = token_in c.args.self.now.bytes.now
    c.args.self.now.starts.now
    c.args.self.now.lengths.now
    c.args.i c.range.ensures c.hash_at-h.ensures
    c.index.ensures c.index-2.ensures
