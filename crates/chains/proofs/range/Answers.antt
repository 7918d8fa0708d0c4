-- `chains::range` meets its contract: a part of the buckets is below them all. Assumes nothing.
use Rattle.index.proofs.Buckets.{range_fits, in_range}
use Rattle.chains.proofs.range.Goals as goal

pub overflow_mul-result : goal.overflow_mul-result
overflow_mul-result c = record { fits = range_fits c.args.buckets c.requires.0 c.min.ensures }

pub returns : goal.returns
returns c = in_range c.args.buckets c.requires.0 c.min.ensures c.requires.1
