use mathlib.Core.Path.{sym, ap}
use Rattle.test_exports.specs.Places.{relation_at}
use Rattle.test_exports.proofs.logicals.relation.Goals as goal

pub returns-in-0 : goal.returns-in-0
returns-in-0 c = sym (ap relation_at c.in-0.is)

pub returns-in-1 : goal.returns-in-1
returns-in-1 c = sym (ap relation_at c.in-1.is)

pub returns-in-2 : goal.returns-in-2
returns-in-2 c = sym (ap relation_at c.in-2.is)

pub returns-in-3 : goal.returns-in-3
returns-in-3 c = sym (ap relation_at c.in-3.is)

pub returns-in-4 : goal.returns-in-4
returns-in-4 c = sym (ap relation_at c.in-4.is)

pub returns-in-5 : goal.returns-in-5
returns-in-5 c = sym (ap relation_at c.in-5.is)

pub returns-in-6 : goal.returns-in-6
returns-in-6 c = sym (ap relation_at c.in-6.is)
