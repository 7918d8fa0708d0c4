-- Answers from their rows, and rows from their answers: what each case of the code gives.
use mathlib.Core.Path.{◌≡◌, refl, sym, ◌∙◌, ap}
use mathlib.Core.Bool.{Bool, true, false, ◌&&◌}
use Prim.Native.Nat.{ℕ, ◌%◌, ◌^◌, ◌≤◌, ◌<◌}
use native.Mathlib.Nat.{lt_of_lt_of_le, mod-lt}
use native.Mathlib.Omega.{arith}
use borrow.Author.Tests.{leb-true, le-leb, lt-leb}
use lib.Dec.{leb}
use lib.IntN.{pos}
use lib.Pow.{pow_pos, pow_mono}
use mir.Syntax.{w64}
use mir.Val.{SFits, to_z}
use mir.Facts.{to_z_pos}
use Rattle.std.specs.Prelude.{Result, Ok, Err, MatchResult}
use Rattle.express.specs.Semantics.Answer.{indeterminate, binary, end}
use Rattle.express.specs.Semantics.AnswerRow.{AnswerRow, row, row_of}
use Rattle.express.specs.Semantics.Bits.{bits}
use Rattle.express.proofs.Semantics.Bits.{length_bits, number_mod}
use Rattle.values.specs.Meaning.{end_number, EndRead}
use Rattle.values.specs.declared.End.{End}
use Rattle.values.specs.declared.NoEnd.{NoEnd}
use Rattle.values.specs.declared.End.TheVariants.{OutOfRange, ZeroDivisor, NegativePower, UnknownBoolean}
use Rattle.bits.specs.Meaning.{bits_of}
use Rattle.bits.specs.declared.Binary as bits
use Rattle.operations.specs.Meaning.{answer_of}
use Rattle.answer_rows.specs.Stored.{stored}
use Rattle.operations.specs.declared.Answer as operations
use Rattle.operations.specs.declared.Answer.TheVariants.{Indeterminate, Ended}

-- ---- what is kept
module _ (length n : ℕ) where
  pub too_long : 63 < length → indeterminate ≡ stored (binary (bits length n))
  too_long h = rw (length_bits length n, lt-leb length 63 h)

  pub short : length ≤ 63 → binary (bits length n) ≡ stored (binary (bits length n))
  short h = rw (length_bits length n, le-leb length 63 h)

pub ruleset keeping = (too_long, short)

outside_ends : (e : ℕ) (s t : Bool) → leb 16 e ≡ s → leb e 19 ≡ t → (e ≡ 16 → ⊥) → (e ≡ 17 → ⊥) → (e ≡ 18 → ⊥) → (e ≡ 19 → ⊥) → s && t ≡ false
outside_ends e true true p q a b c d = let l = leb-true 16 e p in let m = leb-true e 19 q in absurd (omega arith)
outside_ends e true false p q a b c d = refl
outside_ends e false t p q a b c d = refl

pub no_end : (e : ℕ) → (e ≡ 16 → ⊥) → (e ≡ 17 → ⊥) → (e ≡ 18 → ⊥) → (e ≡ 19 → ⊥) → indeterminate ≡ stored (end e)
no_end e a b c d = rw (outside_ends e (leb 16 e) (leb e 19) refl refl a b c d)

end_kept : (e : End) → end (end_number e) ≡ stored (end (end_number e))
end_kept OutOfRange = refl
end_kept ZeroDivisor = refl
end_kept NegativePower = refl
end_kept UnknownBoolean = refl

pub end_read : (k : ℕ) (a : operations.Answer) (r : Result End NoEnd) → EndRead k r → MatchResult r (λ e. a ≡ Ended e) (λ n. a ≡ Indeterminate) → answer_of a ≡ stored (end k)
end_read k a (Ok e) h m = rw (m, h) (end_kept e)
end_read k a (Err n) h m = rw m (no_end k (h OutOfRange) (h ZeroDivisor) (h NegativePower) (h UnknownBoolean))

-- ---- the row of an answer
small_row : (k : ℕ) {n m : ℕ} (l : ℕ) → n ≡ m → m < 2 ^ 63 → row k (to_z w64 n) l ≡ row k (pos m) l
small_row k l e h = rw (e, to_z_pos w64 h)

module _ (b : bits.Binary) where
  pub long_row : {r : AnswerRow} → 63 < b.length → r ≡ row_of indeterminate → r ≡ row_of (stored (binary (bits_of b)))
  long_row h e = e ∙ ap row_of (too_long b.length b.number h)

  module _ {n : ℕ} (h : b.length ≤ 63) (e : n ≡ b.number % 2 ^ b.length) where
    number_small : b.number % 2 ^ b.length < 2 ^ 63
    number_small = lt_of_lt_of_le (mod-lt b.number (pow_pos b.length)) (pow_mono h)

    pub number_fits : SFits w64 (pos n)
    number_fits = record { sfits = rw e number_small }

    pub short_row : row 3 (to_z w64 n) b.length ≡ row_of (stored (binary (bits_of b)))
    short_row =
        let s : row_of (binary (bits_of b)) ≡ row 3 (pos (b.number % 2 ^ b.length)) b.length =
        rw (number_mod b.length b.number, length_bits b.length b.number) in
        small_row 3 b.length e number_small ∙ sym s ∙ ap row_of (short b.length b.number h)

pub ruleset binary_rows = (long_row, number_fits, short_row)
