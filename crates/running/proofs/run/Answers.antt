-- `running::run` meets its contract: a file has no more tokens than bytes. Assumes nothing.
use Rattle.reading.specs.FileReading.{small_bytes, middle_bytes}
use Rattle.running.proofs.Running.{of_bytes, of_any}
use Rattle.running.proofs.run.Goals as goal

pub returns-then-src-le-SMALL : goal.returns-then-src-le-SMALL
returns-then-src-le-SMALL c = of_bytes small_bytes c.if-src-le-SMALL.true c.run_within.ensures

pub returns-then-src-le-MIDDLE : goal.returns-then-src-le-MIDDLE
returns-then-src-le-MIDDLE c = of_bytes middle_bytes c.if-src-le-MIDDLE.true c.run_within-then-src-le-MIDDLE.ensures

pub returns : goal.returns
returns c = of_any c.run_within-2.ensures
