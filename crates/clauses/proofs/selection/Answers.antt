-- By its rule in Clauses, which takes each step's answer.
use mathlib.Core.Path.{refl}
use lib.ListN.{get_or}
use native.Mathlib.Omega.{arith}
use Rattle.ebnf.proofs.Sets.{mem_one}
use Rattle.parsing.proofs.Laws.{handed_on}
use Rattle.parsing.proofs.Steps.{onward, one_inside}
use Rattle.clauses.proofs.Clauses.{selection_refused, selection_reads}
use Rattle.clauses.proofs.selection.Goals as goal

pub ids-requires : goal.ids-requires
ids-requires c = (
  onward c.requires.0 (one_inside c.args.terminals.now c.args.from.token (get_or
      c.args.terminals.now c.args.from.token 0) 126 refl (mem_one _ _ c.requires.1) (omega arith)),
  omega arith,
)

pub returns-in_err-selected : goal.returns-in_err-selected
returns-in_err-selected c = rw (handed_on c.from_residual.ensures.1 c.in_err-selected.was) (selection_refused c.requires.0
    (mem_one _ _ c.requires.1) c.ids.ensures c.in_err-selected.was)

pub returns : goal.returns
returns c = selection_reads c.requires.0
    (mem_one _ _ c.requires.1)
    c.ids.ensures c.in_ok-selected.was
    c.put_row.ensures
