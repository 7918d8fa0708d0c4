-- `type_names::type_name` meets its contract: one law for each meaning. Assumes nothing.
use borrow.Author.Rules.{rules}
use Rattle.type_names.proofs.TypeNames.{nothing_meant, one_meant, several_meant}
use Rattle.type_names.proofs.type_name.Goals as goal

pub bound_to-requires : goal.bound_to-requires
bound_to-requires c = let W = rw c.in-One.is at c.declaration_meant-meaning.ensures.within in search rules

pub returns-in-Nothing : goal.returns-in-Nothing
returns-in-Nothing c = nothing_meant c.declaration_meant-meaning.ensures c.in-Nothing.is c.unbound.ensures

pub returns-in-One : goal.returns-in-One
returns-in-One c = one_meant c.declaration_meant-meaning.ensures c.in-One.is c.bound_to.ensures

pub returns-in-Several : goal.returns-in-Several
returns-in-Several c = several_meant c.declaration_meant-meaning.ensures c.in-Several.is c.unbound-in-Several.ensures
