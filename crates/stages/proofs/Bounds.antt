-- Counts and places of a file are no larger than its limit on bytes (T1, G36), so that they fit into 32 bits.
use mathlib.Core.Path.{◌≡◌, refl, sym, ap, subst, ◌∙◌}
use mathlib.Core.Bool.{Bool, true, false, cond}
use mathlib.Core.List.{List}
use Prim.Native.Nat.{ℕ, ◌≤◌}
use native.Mathlib.Omega.{arith}
use borrow.Author.Tests.{leb-true}
use lib.Dec.{eqb, leb}
use lib.ListN.{length}
use Rattle.std.specs.Prelude.{Ok}
use Rattle.ebnf.specs.Grammar.{Text}
use Rattle.ebnf.specs.Rows.{Row, Rows, in_rows}
use Rattle.ebnf.specs.Parse.{Result, at, refused, starved, bind, Verdict, accepted, verdict}
use Rattle.ebnf.specs.Depth.{good}
use Rattle.ebnf.proofs.Descent as descent
use Rattle.express.specs.Tokens.Lexis as lexis
use Rattle.express.specs.Tokens.Lexis.{Lexed, Reading, counted, most, lexed, tokens, stopped}
use Rattle.express.specs.Tokens.Blank.{Stop, all_read, unfinished, too_large, too_long}
use Rattle.express.specs.Syntax.Grammar.{Nonterminal, rules}
use Rattle.express.specs.Syntax.Syntax.{Parses, parsed, whole}
use Rattle.express.proofs.Tokens.Stops.{lexed_stops}
use Rattle.express.proofs.Tokens.TokenRows.{tokens_of}
use Rattle.express.proofs.Syntax.Syntax.{express, accepted_iff, parsed_iff, whole_value}
use Rattle.express.proofs.Syntax.Descent.{phrase, so, parse_is, phrase_placed}
use Rattle.express.proofs.Syntax.Count.{Counted, phrase_counted}
use Rattle.stages.specs.Line.{of_reading, token_stage}

-- 0 is not 1
pub clash : {A : Type 0} → ◌≡◌ {A = ℕ} 0 1 → A
clash z = absurd (omega arith)

-- ---- tokens

-- a file that is too long has none
too_long_is : (s : List ℕ) → leb (length s) most ≡ false → lexed s ≡ stopped (lexis.refused 1 most)
unfolding lexed
too_long_is s e = rw e

pub tokens_few : (s : List ℕ) → length (lexed s).rows ≤ most
tokens_few s = by (leb (length s) most) refl
  where
    by : (b : Bool) → leb (length s) most ≡ b → length (lexed s).rows ≤ most
    by true e = omega (arith, (tokens_of s).few, leb-true (length s) most e)
    by false e = rw (too_long_is s e) (omega arith)

-- a file whose tokens are read is not too long
pub bytes_few : (s : List ℕ) (rows n : ℕ) → token_stage s rows ≡ Ok n → length s ≤ most
unfolding tokens
bytes_few s rows n e = by (leb (length s) most) refl
  where
    by : (b : Bool) → leb (length s) most ≡ b → length s ≤ most
    by true u = leb-true (length s) most u
    by false u = let q : of_reading (counted (lexis.refused 1 most) 0 rows) ≡ Ok n =
        ap (λ (l : Lexed). of_reading (counted l.stop (length l.rows) rows)) (sym (too_long_is s u)) ∙ e in
        clash (cc)

-- the number beside a refusal by 1, 2, 3 or 6
pub place_small : (s : List ℕ) (rows k p : ℕ) → tokens (lexed s) rows ≡ lexis.refused k p → p ≤ most
unfolding tokens
place_small s rows k p e = by (leb (length s) most) refl
  where
    at_stop : length s ≤ most → {r : Reading} → Stop s r → counted r (length (lexed s).rows) rows ≡ lexis.refused k p → p ≤ most
    at_stop h all_read q = full (leb (length (lexed s).rows) rows) q
      where
        full : (b : Bool) → cond b (lexis.at (length (lexed s).rows)) (lexis.refused 6 (length (lexed s).rows)) ≡ lexis.refused k p → p ≤ most
        full true u = clash (cc)
        full false u = let v : length (lexed s).rows ≡ p = cc in omega (arith, tokens_few s)
    at_stop h (unfinished {p = o} l) q = let v : o ≡ p = cc in omega arith
    at_stop h (too_large {p = o} l) q = let v : o ≡ p = cc in omega arith
    at_stop h (too_long l) q = omega arith

    by : (b : Bool) → leb (length s) most ≡ b → p ≤ most
    by true u = at_stop (leb-true (length s) most u) (lexed_stops s) e
    by false u = let q : counted (stopped (lexis.refused 1 most)).stop (length (stopped (lexis.refused 1 most)).rows) rows ≡ lexis.refused k p =
        ap (λ (l : Lexed). counted l.stop (length l.rows) rows) (sym (too_long_is s u)) ∙ e in
        let v : most ≡ p = cc in omega arith

-- ---- nodes

module _ (x : Nonterminal) (ts : List ℕ) where
  within : (y : Result Rows) → Counted 0 ts x y → descent.Placed express in_rows ts 1 0 y → (rs : List Row) →
      verdict (length ts) (bind y (λ j s. at j (so 0 s.rows))) ≡ accepted (whole rs) → length rs ≤ length ts
  within (at j s) c p rs e = by (eqb j (length ts)) e
    where
      by : (b : Bool) → cond b (accepted (so 0 s.rows)) (Verdict.refused_at j) ≡ accepted (whole rs) → length rs ≤ length ts
      by true q = let v : so 0 s.rows ≡ whole rs = cc in omega (arith, c, p.1, ap (λ (w : Rows). length w.rows) v)
      by false q = clash (cc)
  within (refused k) c p rs e = clash (cc)
  within starved c p rs e = absurd p

  -- G36: no more nodes than tokens
  pub rows_few : (r : Rows) → parsed x ts ≡ good r → length r.rows ≤ length ts
  rows_few r e =
      let d = ((parsed_iff x ts (good r)).0 e).0 in
      let w : Parses x ts r.rows = subst (λ (v : Rows). Text in_rows rules x ts v) (whole_value x ts r d) d in
      within (phrase ts x 0) (phrase_counted ts x 0 (omega arith)) (phrase_placed ts x 0 (omega arith)) r.rows (sym (parse_is ts x) ∙ (accepted_iff x ts r.rows).1 w)
