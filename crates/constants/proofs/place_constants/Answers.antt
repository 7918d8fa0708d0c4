-- `constants::place_constants` meets its contract: as many rows as the columns have are placed. Assumes nothing.
use borrow.Author.Rules.{rules}
use Rattle.constants.proofs.Starting.{constants_placed}
use Rattle.constants.proofs.place_constants.Goals as goal

pub returns : goal.returns
returns c = constants_placed
    c.measure_constants.ensures
    (search rules) (search rules) c.last.ensures c.index_at.ensures
    c.min-rows.ensures c.place_strings.ensures
