-- `name_stages::bind_declarations` meets its contract. Assumes nothing.
use Rattle.name_stages.proofs.Staged.{declarations_bound}
use Rattle.name_stages.proofs.bind_declarations.Goals as goal

pub returns : goal.returns
returns c = declarations_bound c.least_duplicate-repeated.ensures c.bind_type_names-unbound.ensures c.or_later.ensures
