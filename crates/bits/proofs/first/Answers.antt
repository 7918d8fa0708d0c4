use Rattle.bits.proofs.Strings.{first_number}
use Rattle.bits.proofs.first.Goals as goal

pub returns : goal.returns
returns c = search first_number
