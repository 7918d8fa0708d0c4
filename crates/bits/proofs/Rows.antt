-- The row of a joined binary.
use mathlib.Core.Path.{◌≡◌, sym, ◌∙◌, ap}
use mathlib.Core.Bool.{Bool}
use mathlib.Core.List.{List}
use Prim.Native.Nat.{ℕ, ◌<◌, ◌^◌}
use native.Mathlib.Nat.{lt_of_lt_of_le, mod-eq_of_lt}
use lib.IntN.{pos}
use lib.Pow.{pow_mono}
use mir.Syntax.{w64}
use mir.Val.{SFits, to_z}
use mir.Facts.{to_z_pos}
use Rattle.std.specs.Prelude.{Result, Ok, Err}
use Rattle.express.specs.Semantics.AnswerRow.{row, row_of}
use Rattle.express.specs.Semantics.Bits.{join}
use Rattle.express.proofs.Semantics.Bits.{length_bits, number_mod}
use Rattle.values.specs.Meaning.{end_number}
use Rattle.values.specs.declared.End.{End}
use Rattle.bits.specs.Meaning.{Joins, Canonical, binary_answer}
use Rattle.bits.specs.declared.Binary.{Binary}

module _ {xs ys : List Bool} {r : Result Binary End} {b : Binary} (J : Joins xs ys r) (e : r ≡ Ok b) where
  canonical : Canonical (Ok b)
  canonical = rw e at J.canonical

  small : b.number < 2 ^ 63
  small = lt_of_lt_of_le canonical.0 (pow_mono canonical.1)

  pub join_fits : SFits w64 (pos b.number)
  join_fits = record { sfits = small }

  pub join_row : row 3 (to_z w64 b.number) b.length ≡ row_of (join xs ys)
  join_row =
      let n = number_mod b.length b.number ∙ mod-eq_of_lt canonical.0 in
      let whole : row 3 (to_z w64 b.number) b.length ≡ row_of (binary_answer (Ok b)) =
      rw (to_z_pos w64 small, n, length_bits b.length b.number) in
      whole ∙ ap row_of (ap binary_answer (sym e) ∙ J.is)

pub join_ended : {xs ys : List Bool} {r : Result Binary End} {e : End} {n : ℕ} → Joins xs ys r → n ≡ end_number e → r ≡ Err e → row n (pos 0) 0 ≡ row_of (join xs ys)
join_ended J h p = ap (λ (k : ℕ). row k (pos 0) 0) h ∙ ap row_of (ap binary_answer (sym p) ∙ J.is)
