-- `operations::compared` meets its contract: strings of which the lengths alone are told are ordered by them. Assumes nothing.
use mathlib.Core.Option.{some}
use mathlib.Core.Path.{ap, sym, ◌∙◌}
use Rattle.strings.proofs.Laws.{compare_zeros}
use Rattle.values.specs.Meaning.{ordering_of}
use Rattle.values.proofs.Orders.{number_order}
use Rattle.operations.proofs.compared.Goals as goal

pub returns-in-Text-Text : goal.returns-in-Text-Text
returns-in-Text-Text c = let t = c.in-Text-Text in
    rw (t.is-0, t.is-1) (ap some (ap ordering_of c.cmp-in-Text-Text.ensures ∙ number_order t.a t.b ∙ sym (compare_zeros t.a t.b)))
