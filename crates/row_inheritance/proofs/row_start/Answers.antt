-- `row_inheritance::row_start` meets its contract. Assumes nothing.
use Rattle.row_inheritance.proofs.Storing.{start_fits, start_fits_bits, start_is}
use Rattle.row_inheritance.proofs.row_start.Goals as goal

pub overflow_mul-result : goal.overflow_mul-result
overflow_mul-result c = record {
  fits = start_fits c.args.width c.index.ensures c.min.ensures c.ranges.rank.fits;
}

pub overflow_mul-result-2 : goal.overflow_mul-result-2
overflow_mul-result-2 c = record {
  fits = start_fits_bits c.args.width c.index.ensures c.min.ensures c.ranges.rank.fits;
}

pub returns : goal.returns
returns c = start_is c.args.width c.index.ensures c.min.ensures
