use mathlib.Core.Path.{refl, sym, ◌∙◌}
use Rattle.parsing.proofs.Terminals.{is_one, not_one}
use Rattle.clauses.proofs.type_label.Goals as goal

pub returns-then-is_simple : goal.returns-then-is_simple
returns-then-is_simple c = rw (sym c.is_simple.ensures ∙ c.if-is_simple.true) refl

pub returns-then-c-eq-IDENTIFIER : goal.returns-then-c-eq-IDENTIFIER
returns-then-c-eq-IDENTIFIER c = rw (sym c.is_simple.ensures ∙ c.if-is_simple.false, is_one c.args.c 1 c.if-c-eq-IDENTIFIER.true) refl

pub returns-else-c-eq-IDENTIFIER : goal.returns-else-c-eq-IDENTIFIER
returns-else-c-eq-IDENTIFIER c = rw (sym c.is_simple.ensures ∙ c.if-is_simple.false, not_one c.args.c 1 c.if-c-eq-IDENTIFIER.false) refl
