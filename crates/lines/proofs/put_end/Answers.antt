use native.Mathlib.Omega.{arith}
use Rattle.express.specs.Tokens.Terminal.{bytes}
use Rattle.lines.proofs.Numbers.{put_before}
use Rattle.lines.proofs.put_end.Goals as goal

pub returns : goal.returns
returns c = put_before (bytes "end ") _ (omega arith) c.put_text-next.ensures
    c.put_decimal.ensures
