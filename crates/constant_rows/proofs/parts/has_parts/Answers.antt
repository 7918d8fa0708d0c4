-- `constant_rows::parts::has_parts` meets its contract: by the next schema, then by the order. Assumes nothing.
use mathlib.Core.Path.{◌∙◌}
use Rattle.constant_rows.proofs.Grouping.{parts_grouped, text_grouped}
use Rattle.constant_rows.proofs.parts.has_parts.Goals as goal

pub returns-then-is_ascending : goal.returns-then-is_ascending
returns-then-is_ascending c = parts_grouped c.args.kinds.now c.args.order.now c.args.behind c.next_of_kind.ensures c.if-next_of_kind-kinds.true
    (c.if-is_ascending.true ∙ text_grouped c.args.kinds.now c.args.order.now c.is_ascending.ensures c.if-is_ascending.true)
