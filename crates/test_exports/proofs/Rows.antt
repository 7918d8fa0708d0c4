-- The row of what an operation makes of operands that are given by their rows.
use mathlib.Core.Path.{◌≡◌}
use mathlib.Core.Bool.{Bool}
use Prim.Native.Nat.{ℕ}
use lib.IntN.{ℤ}
use mir.Syntax.{w64}
use mir.Val.{SFits, to_z, of_z}
use Rattle.express.specs.Semantics.Answer.{Answer}
use Rattle.express.specs.Semantics.AnswerRow.{AnswerRow, row_of}
use Rattle.express.specs.Semantics.Declared.{Declared}
use Rattle.express.specs.Semantics.Evaluate.{held}
use Rattle.express.specs.Semantics.Operate.{combined, applied, between}
use Rattle.express.specs.Semantics.Relation.{Relation}
use Rattle.express.specs.Semantics.Shape.{Operator, Sign}
use Rattle.integers.proofs.Calls.{own_one}
use Rattle.operations.specs.Meaning.{is_boolean}
use Rattle.answer_rows.specs.Stored.{stored}
use Rattle.test_exports.specs.Operands.{answer_at, HoldsRow}

-- the number of a row is read back from its bits
pub own_row : {z : ℤ} {x : Answer} (k l : ℕ) → SFits w64 z → x ≡ answer_at k (to_z w64 (of_z w64 z)) l → x ≡ answer_at k z l
own_row k l = own_one (λ z. answer_at k z l)

module _ {r : AnswerRow} {x u z : Answer} (p : r ≡ row_of (stored z)) where
  pub row_combined : {y v : Answer} {o k : Operator} → z ≡ combined o x y → o ≡ k → x ≡ u → y ≡ v → r ≡ row_of (stored (combined k u v))
  row_combined q s g h = rw (← s, ← g, ← h, ← q) p

  pub row_applied : {o k : Sign} → z ≡ applied o x → o ≡ k → x ≡ u → r ≡ row_of (stored (applied k u))
  row_applied q s g = rw (← s, ← g, ← q) p

  pub row_between : {y w v t : Answer} {o k j i : Relation} → z ≡ between o j x y w → o ≡ k → j ≡ i → x ≡ u → y ≡ v → w ≡ t → r ≡ row_of (stored (between k i u v t))
  row_between q s m f g h = rw (← s, ← m, ← f, ← g, ← h, ← q) p

  pub row_held : {b : Bool} → ((d : Declared) → is_boolean d ≡ b → z ≡ held d x) → x ≡ u → HoldsRow b u r
  row_held q g = record { is = λ d e. rw (← g, ← q d e) p }
