-- `declared_types::declared_types` meets its contract: its two passes keep the promise. Assumes nothing.
use Rattle.declared_types.proofs.Declaring.{declares}
use Rattle.declared_types.proofs.declared_types.Goals as goal

pub returns : goal.returns
returns c = declares _ _ _ _ _ _ _ _ _ c.store_types.ensures c.store_constants.ensures
