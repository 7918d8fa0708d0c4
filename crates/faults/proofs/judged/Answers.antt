-- `faults::judged` meets its contract: one arm for each meaning. Assumes nothing.
use Rattle.faults.proofs.judged.Goals as goal

pub returns-in-Nothing : goal.returns-in-Nothing
returns-in-Nothing c = rw c.in-Nothing.is c.fault_at.ensures

pub returns-in-One : goal.returns-in-One
returns-in-One c = rw c.in-One.is c.wrong_sort.ensures

pub returns-in-Several : goal.returns-in-Several
returns-in-Several c = rw c.in-Several.is c.fault_at-in-Several.ensures
