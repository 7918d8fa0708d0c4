-- DEMAND 3, of a file: where the tokens are those of the bytes, the nodes those of the grammar, the names in order and the typing accepts, the rules
-- give each constant exactly the answer that the evaluation gives it, in whatever order that takes the constants, and there is such an order.
use mathlib.Core.Path.{◌≡◌}
use mathlib.Core.List.{List}
use Prim.Native.Nat.{ℕ, ◌<◌}
use Rattle.express.specs.Syntax.NodeKind as node
use Rattle.express.specs.Syntax.Tree.{Table, count, kind}
use Rattle.express.specs.Syntax.Grammar.{file}
use Rattle.express.specs.Syntax.Syntax.{Read}
use Rattle.express.specs.Tokens.Scanned.{Scanned}
use Rattle.express.specs.Names.Scope.{bindings}
use Rattle.express.specs.Names.Names.{WellNamed}
use Rattle.express.specs.Semantics.Operate.{Kind}
use Rattle.express.specs.Semantics.Rule.{Exactly}
use Rattle.express.specs.Semantics.Kind.{typed, typing}
use Rattle.express.specs.Semantics.Evaluate.{answers, answer_at}
use Rattle.express.specs.Semantics.Order.{Order, constant_order}
use Rattle.express.proofs.Syntax.FormedRows.{formed_rows}
use Rattle.express.proofs.Semantics.ConstantOrder.{order_is}
use Rattle.express.proofs.Tokens.Literals.{literals}
use Rattle.express.proofs.Theorems.Exactness.{exactness}

module _ (t : Table) (scanned : Scanned t) (read : Read file t) (named : WellNamed t) (ks : List Kind) (accepted : typing t (bindings t) ≡ typed ks) where
  pub file_exact :
      (ds : List ℕ) → Order t (bindings t) ds → (c : ℕ) → c < count t → kind t c ≡ node.constant →
      Exactly t (bindings t) c (answer_at (answers t (bindings t) ds) c)
  file_exact ds o = exactness t (bindings t) (formed_rows read) (literals read scanned) ks accepted ds o

  pub file_order : Order t (bindings t) (constant_order t)
  file_order = order_is t named
