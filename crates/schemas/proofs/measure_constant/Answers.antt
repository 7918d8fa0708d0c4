-- `schemas::measure_constant` meets its contract: the test is that of the definition. Assumes nothing.
use Rattle.schemas.proofs.OneConstant.{measured_length}
use Rattle.schemas.proofs.measure_constant.Goals as goal

pub returns-then-get_or-eq-STRING : goal.returns-then-get_or-eq-STRING
returns-then-get_or-eq-STRING c = measured_length c.get_or.ensures
    c.if-get_or-eq-STRING.true
    c.evaluate_constant.ensures
