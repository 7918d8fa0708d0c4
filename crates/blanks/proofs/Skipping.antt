-- Spaces and remarks: what one turn of the loop of `skip` does.
use mathlib.Core.Path.{◌≡◌, refl, sym, ap, ◌∙◌}
use mathlib.Core.Bool.{true, false}
use mathlib.Core.List.{List}
use Prim.Native.Nat.{ℕ, suc, ◌+◌, ◌-◌, ◌<◌, ◌≤◌}
use native.Mathlib.Omega.{arith}
use lib.ListN.{length, drop, get_or}
use borrow.Author.Tests.{ne_eqb, le-leb, lt-leb}
use Rattle.express.specs.Tokens.Bytes.{within, space}
use Rattle.express.specs.Tokens.Lexis.{Reading, at, run, opens, dashes, in_line, end_of_remark, reading_then, skipped_in, skipped}
use Rattle.express.proofs.Tokens.Places.{past, inside_at, remark_low}
use Rattle.blanks.specs.Step.{reading}
use Rattle.std.specs.Prelude.{Result, Ok, Err}
use Rattle.blanks.specs.declared.Refusal.{Refusal}

-- a byte is a space by what it is compared with
pub is_blank : (b : ℕ) → b ≡ 32 → space b ≡ true
unfolding space
is_blank b e = rw e

pub is_control : (b : ℕ) → within 9 13 b ≡ true → space b ≡ true
unfolding space
is_control b e = rw e

pub no_space : (b : ℕ) → (b ≡ 32 → ⊥) → within 9 13 b ≡ false → space b ≡ false
unfolding space
no_space b n e = rw (e, ne_eqb b 32 n)

-- what is still to come, from i on, is what is wanted; f turns are enough
pub record Left (s : List ℕ) (i : ℕ) (want : Reading) : Type 0 where
  pub turns : ℕ
  pub enough : length s ≤ turns + i
  pub is : skipped_in (suc turns) s i ≡ want

pub left_first : (s : List ℕ) (i : ℕ) → Left s i (skipped s i)
unfolding skipped
left_first s i = record { turns = length s; enough = omega arith; is = ap (λ (g : ℕ). skipped_in g s i) (omega arith) }

module _ (s : List ℕ) (i : ℕ) (want : Reading) (h : i < length s) (left : Left s i want) where
  -- a turn that goes on at q
  go_on : (q : ℕ) → i < q → ((f : ℕ) → skipped_in (suc f) s i ≡ skipped_in f s q) → Left s q want
  go_on q l e =
      let f : ℕ = left.turns in
      let le : length s ≤ f + i = left.enough in
      record { turns = f - 1; enough = omega arith; is = ap (λ (g : ℕ). skipped_in g s q) (omega arith) ∙ sym (e f) ∙ left.is }

  module _ (c : ℕ) (c_is : c ≡ get_or s (i + 1) 0) where
    abbrev b : ℕ
    b = get_or s i 0

    pub left_space : space b ≡ true → Left s (i + 1) want
    unfolding skipped_in
    left_space e = go_on (i + 1) (omega arith) (λ f. rw e)

    pub left_line : space b ≡ false → dashes b c ≡ true → (q : ℕ) → q ≡ run in_line s (i + 2) → i < q → Left s q want
    unfolding skipped_in
    left_line n d q is l = go_on q l (λ f. rw (← c_is, n, d, is))

    module _ (n : space b ≡ false) (m : dashes b c ≡ false) where
      pub left_stop : opens b c ≡ false → at i ≡ want
      unfolding skipped_in
      left_stop o = sym (stops left.turns) ∙ left.is
        where
          stops : (f : ℕ) → skipped_in (suc f) s i ≡ at i
          stops f = rw (← c_is, n, m, o)

      module _ (o : opens b c ≡ true) (r : Result ℕ Refusal) (is : reading r ≡ end_of_remark i 1 (i + 2) (drop (i + 2) s)) where
        turn : (f : ℕ) → skipped_in (suc f) s i ≡ reading_then (reading r) (λ q. skipped_in f s q)
        unfolding skipped_in
        turn f = rw (← c_is, n, m, o, is)

        pub left_refused : (k : Refusal) → r ≡ Err k → reading (Err k) ≡ want
        left_refused k e = sym (ap (λ (x : Result ℕ Refusal). reading_then (reading x) (λ q. skipped_in left.turns s q)) e) ∙ sym (turn left.turns) ∙ left.is

        pub left_remark : (q : ℕ) → r ≡ Ok q → i < q → Left s q want
        left_remark q e l = go_on q l (λ f. turn f ∙ ap (λ (x : Result ℕ Refusal). reading_then (reading x) (λ q. skipped_in f s q)) e)

-- a byte above `-` opens nothing
pub left_past : (s : List ℕ) (i : ℕ) (want : Reading) → i < length s → Left s i want → 45 < get_or s i 0 → at i ≡ want
unfolding space
left_past s i want h left l =
    left_stop s i want h left (get_or s (i + 1) 0) refl
    (rw (le-leb 9 (get_or s i 0) (omega (arith, l)), lt-leb (get_or s i 0) 13 (omega (arith, l)), ne_eqb (get_or s i 0) 32 (λ e. omega (arith, e, l))))
    (rw (ne_eqb (get_or s i 0) 45 (λ e. omega (arith, e, l))))
    (rw (ne_eqb (get_or s i 0) 40 (λ e. omega (arith, e, l))))

pub left_over : (s : List ℕ) (i : ℕ) (want : Reading) → length s ≤ i → Left s i want → at i ≡ want
unfolding skipped_in space
left_over s i want h left = sym (over left.turns) ∙ left.is
  where
    over : (f : ℕ) → skipped_in (suc f) s i ≡ at i
    over f = rw (past s i h)

-- a remark ends past its start
pub remark_passes : (s : List ℕ) (i : ℕ) (r : Result ℕ Refusal) (q : ℕ) → reading r ≡ end_of_remark i 1 (i + 2) (drop (i + 2) s) → r ≡ Ok q → i < q
remark_passes s i r q is e = omega (arith, (inside_at (sym is ∙ ap reading e) (remark_low i 1 (i + 2) s)).0)
