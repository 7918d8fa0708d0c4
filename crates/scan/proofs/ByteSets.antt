-- Sets of bytes: a test that is computed for each byte.
use mathlib.Core.Path.{◌≡◌, refl, ap, ◌∙◌}
use mathlib.Core.Bool.{Bool, true, false, cond, not, ◌&&◌}
use mathlib.Core.List.{List}
use Prim.Native.Nat.{ℕ, zero, suc, ◌<◌}
use native.Mathlib.Omega.{arith}
use native.Mathlib.Nat.{not-suc-le-zero, zero-add}
use native.Mathlib.Decide.{dec_lt}
use lib.ListN.{get_or}
use lib.Dec.{T, eqb, eqb→eq}
use Rattle.express.specs.Tokens.Bytes.{letter, digit}
use Rattle.express.specs.Tokens.Lexis.{lone, token_kind_at}
use Rattle.columns.proofs.Laws.{tabulated_at}
use Rattle.scan.specs.Scan.{underscore, lone_mark, lone_table}

abbrev below : (ℕ → Bool) → ℕ → Bool
below f zero = true
below f (suc n) = f n && below f n

both : (a b : Bool) → T (a && b) → T a × T b
both true b t = (tt, t)
both false b t = absurd t

at_byte : (f : ℕ → Bool) (n : ℕ) → T (below f n) → (b : ℕ) → b < n → T (f b)
at_byte f zero t b h = absurd (not-suc-le-zero h)
at_byte f (suc n) t b h = go (dec_lt b n) (λ l. at_byte f n (both (f n) (below f n) t).1 b l)
  where
    go : Dec (b < n) → (b < n → T (f b)) → T (f b)
    go (yes l) more = more l
    go (no g) more = let last : n ≡ b = omega (arith, g, h) in rw (← last) (both (f n) (below f n) t).0

-- ---- the table of the symbols that begin no longer one

abbrev agree : Bool → Bool → Bool
agree x y = cond x y (not y)

agreed : (x y : Bool) → T (agree x y) → x ≡ y
agreed true true t = refl
agreed true false t = absurd t
agreed false true t = absurd t
agreed false false t = refl

abbrev marked : ℕ → Bool
marked b = not (eqb (lone_mark b) underscore)

marks_all : T (below (λ b. agree (marked b) (lone b)) 256)
unfolding lone
marks_all = tt

pub lone_at : (t : List ℕ) (b i : ℕ) → t ≡ lone_table → i ≡ b → b < 256 → not (eqb (get_or t i 0) underscore) ≡ lone b
unfolding lone_table
lone_at t b i is at h =
    let entry : get_or t i 0 ≡ lone_mark b = rw (is, at) (tabulated_at lone_mark 0 256 b h ∙ ap lone_mark (zero-add b)) in
    ap (λ (x : ℕ). not (eqb x underscore)) entry ∙ agreed (marked b) (lone b) (at_byte (λ x. agree (marked x) (lone x)) 256 marks_all b h)

-- a symbol alone is a symbol
abbrev kind_by : Bool → Bool → Bool → Bool → ℕ → ℕ
kind_by l d x y n = cond l 1 (cond d n (cond x 4 (cond y 5 6)))

abbrev no_other : ℕ → Bool
no_other b = cond (lone b) (eqb (kind_by (letter b) (digit b) (eqb b 39) (eqb b 37) 0) 6) true

no_others : T (below no_other 256)
unfolding lone
no_others = tt

pub lone_kind : (s : List ℕ) (p b : ℕ) → b ≡ get_or s p 0 → b < 256 → lone b ≡ true → token_kind_at s p ≡ 6
unfolding token_kind_at
lone_kind s p b is h e = rw (← is) (go (letter b) (digit b) (eqb b 39) (eqb b 37) _ (eqb→eq _ _ tested))
  where
    tested : T (eqb (kind_by (letter b) (digit b) (eqb b 39) (eqb b 37) 0) 6)
    tested = rw e at (at_byte no_other 256 no_others b h)

    go : (l d x y : Bool) (n : ℕ) → kind_by l d x y 0 ≡ 6 → kind_by l d x y n ≡ 6
    go true d x y n z = absurd (omega (arith, z))
    go false true x y n z = absurd (omega (arith, z))
    go false false x y n z = z
