-- Each constant has six tokens, so an answer table of a sixth of a file's tokens is as good as any longer one: the outcome is the same (`enough`).
use mathlib.Core.Path.{◌≡◌, refl}
use mathlib.Core.List.{List}
use mathlib.Core.Logic.{⊎_elim}
use Prim.Native.Nat.{ℕ, ◌+◌, ◌*◌, ◌≤◌, ◌<◌, min}
use native.Mathlib.Omega.{arith}
use borrow.Author.Tests.{le-leb, lt-leb}
use lib.Dec.{leb}
use lib.ListN.{length, length-map}
use Rattle.ebnf.specs.Rows.{Rows}
use Rattle.ebnf.specs.Depth.{Outcome, good, unexpected, too_deep}
use Rattle.relations.proofs.Select.{le_or}
use Rattle.express.specs.Tokens.Lexis.{Reading, at, tokens, lexed}
use Rattle.express.specs.Tokens.Lexis as lexis
use Rattle.express.specs.Tokens.Terminal.{terminal_of}
use Rattle.express.specs.Tokens.Scanned.{row_bytes, token_table}
use Rattle.express.specs.Syntax.Grammar.{file}
use Rattle.express.specs.Syntax.Syntax.{parsed, with_rows}
use Rattle.express.specs.Semantics.Kind.{constants}
use Rattle.express.specs.Whole.Reply.{after_syntax, after_tokens, checked}
use Rattle.express.proofs.Syntax.Syntax.{read_good}
use Rattle.bounds.proofs.Constants.{constants_few}

-- a number that is not above a bound is within n exactly when it is within the smaller of the two
within : (c n most : ℕ) → c ≤ most → leb c n ≡ leb c (min n most)
within c n most h = ⊎_elim
    (λ (in_n : c ≤ n). let both : c ≤ min n most = omega arith in rw (le-leb c n in_n, le-leb c (min n most) both))
    (λ (out : n < c). let both : min n most < c = omega arith in rw (lt-leb c n out, lt-leb c (min n most) both))
    (le_or c n)

module _ (s : List ℕ) (token_rows node_rows room n most : ℕ) (few_tokens : length (lexed s).rows < 6 * most + 6) where
  few : (r : Rows) → parsed file (token_table s).terminals ≡ good r → length (constants (with_rows (token_table s) r.rows)) ≤ most
  few r e =
      omega (
        arith,
        constants_few (read_good file (token_table s) r e),
        length-map (lexed s).rows (λ t. terminal_of t.kind (row_bytes s t)),
        few_tokens,
      )

  by_syntax : (o : Outcome Rows) → parsed file (token_table s).terminals ≡ o
      → after_syntax s (lexed s) node_rows n room o ≡ after_syntax s (lexed s) node_rows (min n most) room o
  by_syntax (good r) e = rw (within (length (constants (with_rows (token_table s) r.rows))) n most (few r e))
  by_syntax (unexpected j) e = refl
  by_syntax (too_deep k) e = refl

  by_tokens : (x : Reading) → after_tokens s (lexed s) node_rows n room x ≡ after_tokens s (lexed s) node_rows (min n most) room x
  by_tokens (at k) = by_syntax (parsed file (token_table s).terminals) refl
  by_tokens (lexis.refused k p) = refl

  pub enough : checked s token_rows node_rows n room ≡ checked s token_rows node_rows (min n most) room
  unfolding checked
  enough = by_tokens (tokens (lexed s) token_rows)
