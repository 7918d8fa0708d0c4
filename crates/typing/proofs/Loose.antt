-- An expression that is read by itself meets what its typing against a file asks: nothing is declared in it.
use mathlib.Core.Path.{◌≡◌, refl, sym, ◌∙◌}
use mathlib.Core.Bool.{false, false≢true, not}
use mathlib.Core.List.{List}
use Prim.Native.Nat.{ℕ, suc}
use borrow.Author.Tests.{eqb-true}
use lib.Dec.{eqb}
use lib.ListN.{get_or}
use Rattle.ebnf.specs.Set.{mem}
use Rattle.relations.proofs.Select.{and_snd}
use Rattle.express.specs.Syntax.NodeKind as node
use Rattle.express.specs.Syntax.Tree.{Table, kind, is}
use Rattle.express.specs.Syntax.Grammar.{expression}
use Rattle.express.specs.Syntax.Syntax.{Read}
use Rattle.express.specs.Semantics.Declared.{declaration}
use Rattle.express.specs.Semantics.DeclaredColumn.{DeclaredColumn}
use Rattle.express.proofs.Syntax.KindSets.{in_expression}
use Rattle.express.proofs.Syntax.Within.{expression_nodes}
use Rattle.typing.specs.Typings.{Against}
use Rattle.typing.proofs.Nodes.{known}

module _ {e : Table} (R : Read expression e) where
  none : (n k : ℕ) → mem (suc k) in_expression ≡ false → kind e n ≡ suc k → ⊥
  none n k o h = false≢true (sym o ∙ (rw h at (expression_nodes R n (known e n k h))))

  pub loose_declared : (c column : List ℕ) → DeclaredColumn e c column
  unfolding mem
  loose_declared c column =
      record {
        constants = λ n l h. absurd (none n 16 refl h);
        types = λ n l h. absurd (none (declaration c n) 17 refl (eqb-true _ _ (and_snd (not (eqb (get_or c n 0) 0)) (is e node.type (declaration c n)) h)));
        items = λ n l h. absurd (none n 13 refl h);
      }

  -- against a file whose column of declared types is at hand
  pub loose_against :
      (t : Table) (b c declared : List ℕ) → DeclaredColumn t b declared → Against t b e e.terminals e.kinds e.tokens e.sizes c t.kinds declared
  loose_against t b c declared D =
      record {
        terminals_are = refl;
        tokens_are = refl;
        sizes_are = refl;
        names = record { own_kinds = refl; file_kinds_are = refl; own_declared = loose_declared c declared; file_declared = D };
      }
