use lib.ListN.{length}
use Rattle.type_names.proofs.Passes.{PassingFile}
use Rattle.type_names.specs.Binding.{FileAsked}
use Rattle.type_names.specs.TypeName.{type_names}
use Rattle.type_names.proofs.bind_type_names.Given as goal

abbrev pub invariant-loop-v : goal.invariant-loop-v
invariant-loop-v l = PassingFile (FileAsked l.kinds l.tokens l.roles l.symbols l.starts l.keys l.nodes l.heads l.next (length l.initial.bound) (length l.initial.first)
    (length l.initial.to)) type_names l.initial.bound l.initial.first l.initial.to l.v l.first l.so_far l.bound l.to
