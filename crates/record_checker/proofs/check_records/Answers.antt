-- `record_checker::check_records` meets its contract: a file of so many bytes has no more tokens. Assumes nothing.
use native.Mathlib.Omega.{arith}
use Rattle.record_demands.proofs.Theorem.{by_bytes, of_any}
use Rattle.record_checker.proofs.check_records.Goals as goal

pub returns-then-src-le-SMALL : goal.returns-then-src-le-SMALL
returns-then-src-le-SMALL c = by_bytes (omega arith) c.records_within.ensures

pub returns-then-src-le-MIDDLE : goal.returns-then-src-le-MIDDLE
returns-then-src-le-MIDDLE c = by_bytes (omega arith) c.records_within-then-src-le-MIDDLE.ensures

pub returns : goal.returns
returns c = of_any c.records_within-2.ensures
