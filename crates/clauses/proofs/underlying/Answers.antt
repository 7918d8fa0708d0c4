-- By its rule in Clauses, which takes each step's answer.
use mathlib.Core.Path.{sym, ◌∙◌}
use Rattle.parsing.proofs.Terminals.{is_one}
use Rattle.clauses.proofs.Clauses.{renamed_reads}
use Rattle.clauses.proofs.underlying.Goals as goal

pub enumeration-requires : goal.enumeration-requires
enumeration-requires c = (c.requires, is_one _ _ (sym c.get_or-c.ensures ∙ c.if-c-eq-ENUMERATION.true))

pub returns-then-c-eq-ENUMERATION : goal.returns-then-c-eq-ENUMERATION
returns-then-c-eq-ENUMERATION c = c.enumeration.ensures

pub selection-requires : goal.selection-requires
selection-requires c = (c.requires, is_one _ _ (sym c.get_or-c.ensures ∙ c.if-c-eq-SELECT.true))

pub returns-then-c-eq-SELECT : goal.returns-then-c-eq-SELECT
returns-then-c-eq-SELECT c = c.selection.ensures

pub returns-else-c-eq-SELECT : goal.returns-else-c-eq-SELECT
returns-else-c-eq-SELECT c = renamed_reads c.requires c.get_or-c.result
    c.get_or-c.ensures c.if-c-eq-ENUMERATION.false c.if-c-eq-SELECT.false
    c.base.ensures
