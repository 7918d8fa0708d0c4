-- What a fault in the code stands for: a reply from 9 to 13 and a place, or none (N19).
use Rattle.std.specs.Prelude.{ℕ, Bool, Option, Some, None, eqb}
use Rattle.express.specs.Names.Fault as express
use Rattle.faults.specs.declared.Reply.{Reply}
use Rattle.faults.specs.declared.Reply.TheVariants.{Repeated, NotFound, WrongSort, Ambiguous, Cycle, Other}
use Rattle.faults.specs.declared.Fault.{Fault}

-- the number of a reply (R2)
abbrev pub number_of : Reply → ℕ
number_of Repeated = 9
number_of NotFound = 10
number_of WrongSort = 11
number_of Ambiguous = 12
number_of Cycle = 13
number_of (Other n) = n

abbrev pub fault_of : Option Fault → express.Fault
fault_of None = express.fine
fault_of (Some f) = express.fault (number_of f.reply) f.place

abbrev pub is_fine : Option Fault → Bool
is_fine f = eqb (fault_of f).number 0
