-- `index::bucket` meets its contract: a small number has its own bucket, else a part of the buckets is below them all. Assumes nothing.
use Rattle.index.proofs.Buckets.{key_fits, own_bucket, mixed_bucket}
use Rattle.index.proofs.bucket.Goals as goal

pub returns-then-x-buckets : goal.returns-then-x-buckets
returns-then-x-buckets c = own_bucket c.args.buckets c.args.x c.if-x-buckets.true

pub overflow_mul-result : goal.overflow_mul-result
overflow_mul-result c = record { fits = key_fits c.args.buckets c.args.x c.mix.ensures c.min.ensures }

pub returns : goal.returns
returns c = mixed_bucket c.args.buckets c.args.x c.if-x-buckets.false c.mix.ensures c.min.ensures c.requires
