use mathlib.Core.Path.{◌∙◌, ap}
use Rattle.express.specs.Tokens.Lexis.{end_of_exponent}
use Rattle.scan.proofs.real_end.Goals as goal

pub returns : goal.returns
returns c = c.exponent_end.ensures ∙ ap (end_of_exponent c.args.s.now) c.run_end.ensures
