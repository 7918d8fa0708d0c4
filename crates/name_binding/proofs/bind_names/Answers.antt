-- `name_binding::bind_names` meets its contract. Assumes nothing.
use mathlib.Core.Path.{◌∙◌}
use Rattle.name_binding.proofs.Bound.{names_bound}
use Rattle.name_binding.proofs.bind_names.Goals as goal

pub shape_of-bound : goal.shape_of-bound
shape_of-bound c = c.bind_expressions-used.auto.bound
    ∙ c.inherit_all.auto.bound ∙ c.bind_declarations-declared.auto.bound

pub shape_of-first : goal.shape_of-first
shape_of-first c = c.bind_expressions-used.auto.first ∙ c.bind_declarations-declared.auto.first

pub shape_of-to : goal.shape_of-to
shape_of-to c = c.bind_expressions-used.auto.to ∙ c.bind_declarations-declared.auto.to

pub shape_of-types : goal.shape_of-types
shape_of-types c = c.arrange-cyclic.auto.order ∙ c.inherit_all.auto.mark

pub shape_of-constants : goal.shape_of-constants
shape_of-constants c = c.bind_expressions-used.auto.order ∙ c.inherit_all.auto.queue

pub shape_of-scratch : goal.shape_of-scratch
shape_of-scratch c = c.bind_expressions-used.auto.scratch ∙ c.arrange-cyclic.auto.scratch ∙ c.inherit_all.auto.table

pub returns : goal.returns
returns c = names_bound c.bind_declarations-declared.ensures c.bind_declarations-declared.auto.bound c.bind_declarations-declared.auto.first
    c.bind_declarations-declared.auto.to c.inherit_all.ensures c.inherit_all.auto.bound c.inherit_all.auto.table c.inherit_all.auto.mark
    c.inherit_all.auto.queue c.arrange-cyclic.ensures c.bind_expressions-used.ensures c.or_later.ensures c.or_later-2.ensures
