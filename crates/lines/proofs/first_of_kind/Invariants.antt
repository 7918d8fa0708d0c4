use mathlib.Core.Path.{◌≡◌}
use mathlib.Core.List.{[]}
use Prim.Native.Nat.{◌-◌}
use lib.ListN.{length}
use Rattle.relations.specs.Select.{first_from}
use Rattle.express.specs.Syntax.Tree.{is}
use Rattle.lines.specs.Print.{table_of}
use Rattle.lines.proofs.first_of_kind.Given as goal

abbrev pub invariant-loop-node : goal.invariant-loop-node
invariant-loop-node l = first_from (is (table_of [] [] [] l.kinds []) l.kind) l.node (length l.kinds - l.node) ≡ first_from (is (table_of [] [] [] l.kinds []) l.kind) l.from (length l.kinds - l.from)
