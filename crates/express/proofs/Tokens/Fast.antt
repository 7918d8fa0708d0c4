-- The fast reading gives the tokens of a text: blank by blank and token by token it is the definition.
use mathlib.Core.Path.{◌≡◌, refl, ap, ap₂}
use mathlib.Core.Bool.{Bool, true, false, cond}
use mathlib.Core.List.{List, [], ◌∷◌, map}
use Prim.Native.Nat.{ℕ, zero, suc, ◌+◌, ◌≤◌, ◌<◌}
use lib.ListN.{length, drop}
use lib.Dec.{leb, ltb}
use borrow.Author.Tests.{ltb-true, le-leb}
use Rattle.express.specs.Tokens.Token.{longest_kind}
use Rattle.express.specs.Tokens.Lexis.{Reading, at, refused, skipped, longest_end, token_kind_at, end_of_token, Lexed, stopped, row_and_rest, longest_after_blank, longest_in}
use Rattle.express.specs.Tokens.Lexis.{lexed_whole, lexed_to, most, lexed, token_after_blank, lexed_in, starts, sizes}
use Rattle.express.specs.Tokens.Spelling.{symbols_of}
use Rattle.express.specs.Tokens.Scanned.{row_terminals, Scanned}
use Rattle.express.specs.Syntax.Tree.{Table}
use Rattle.express.proofs.Tokens.Longest.{token_is_longest, kind_is_longest}

module _ (s : List ℕ) (more fast : ℕ → Lexed) (same : (e : ℕ) → more e ≡ fast e) where
  row_fast : (q : ℕ) → q < length s → (r : Reading) → longest_end s q ≡ r → row_and_rest (longest_kind (drop q s)) q r more ≡ row_and_rest (token_kind_at s q) q r fast
  row_fast q h (at e) i = rw (kind_is_longest s q h e i, same e)
  row_fast q h (refused n o) i = refl

  turn_fast : (r : Reading) → longest_after_blank s r more ≡ token_after_blank s r fast
  turn_fast (at q) = by (ltb q (length s)) refl
    where
      by : (x : Bool) → ltb q (length s) ≡ x →
          cond x (row_and_rest (longest_kind (drop q s)) q (longest_end s q) more) (stopped (at q)) ≡
          cond x (row_and_rest (token_kind_at s q) q (end_of_token s q (token_kind_at s q)) fast) (stopped (at q))
      by true i = let h = ltb-true q (length s) i in rw (token_is_longest s q h) (row_fast q h (longest_end s q) refl)
      by false i = refl
  turn_fast (refused n o) = refl

in_fast : (f : ℕ) (s : List ℕ) (p : ℕ) → longest_in f s p ≡ lexed_in f s p
unfolding longest_in lexed_in
in_fast zero s p = refl
in_fast (suc f) s p = turn_fast s (λ q. longest_in f s q) (λ q. lexed_in f s q) (λ e. in_fast f s e) (skipped s p)

pub whole_fast : (s : List ℕ) → lexed_whole s ≡ lexed_in (length s + 1) s 0
whole_fast s = in_fast (length s + 1) s 0

-- the tokens of a text within the limit
pub lexed_fast : (limit : ℕ) (s : List ℕ) → length s ≤ limit → lexed_to limit s ≡ lexed_in (length s + 1) s 0
lexed_fast limit s h = rw (le-leb (length s) limit h) (whole_fast s)

-- of a text of any length
abbrev pub fast : List ℕ → Lexed
fast s = let all = lexed_in (length s + 1) s 0 in cond (leb (length s) most) all (stopped (refused 1 most))

pub fast_is : (s : List ℕ) → lexed s ≡ fast s
unfolding lexed
fast_is s = ap (λ (l : Lexed). cond (leb (length s) most) l (stopped (refused 1 most))) (whole_fast s)

-- ---- for examples, which are computed by the fast reading

pub map_same : {A B : Type 0} (f g : A → B) → ((x : A) → f x ≡ g x) → (xs : List A) → map f xs ≡ map g xs
map_same f g e [] = refl
map_same {B} f g e (x ∷ xs) = ap₂ {C = List B} (λ y ys. y ∷ ys) (e x) (map_same f g e xs)

-- a table has the token columns of its bytes where it has those that are read
pub scanned_by :
    (t : Table) → t.starts ≡ starts (fast t.bytes) → t.lengths ≡ sizes (fast t.bytes) → t.terminals ≡ row_terminals t.bytes (fast t.bytes) →
    t.symbols ≡ symbols_of t.bytes t.starts t.lengths t.terminals → Scanned t
scanned_by t a b c d = record { starts_are = rw (fast_is t.bytes) a; lengths_are = rw (fast_is t.bytes) b; terminals_are = rw (fast_is t.bytes) c; symbols_are = d }
