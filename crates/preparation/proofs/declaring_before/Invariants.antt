use lib.ListN.{get_or}
use Rattle.scopes.specs.NoneFrom.{NoneFrom}
use Rattle.preparation.specs.Declaring.{may_declare}
use Rattle.preparation.proofs.declaring_before.Given as goal

abbrev pub invariant-loop-i : goal.invariant-loop-i
invariant-loop-i l = NoneFrom (λ n. may_declare (get_or l.kinds n 0) (get_or l.roles n 0)) 0 l.end l.i
