-- How long a line of a constant can be: a buffer of three times the bytes of the file and 600 more holds each (`line_short`, `line_fits`).
use mathlib.Core.Path.{◌≡◌}
use mathlib.Core.Bool.{Bool, true, false, cond}
use mathlib.Core.List.{List, [], ◌∷◌, ◌++◌}
use Prim.Native.Nat.{ℕ, suc, ◌+◌, ◌*◌, ◌≤◌, ◌<◌}
use native.Mathlib.Omega.{arith}
use borrow.Author.Tests.{le-leb}
use lib.Dec.{eqb}
use lib.IntN.{ℤ, pos, negsuc}
use lib.ListN.{length, get_or, take, drop, length-append, length-map, length-take, length-drop}
use Rattle.express.specs.Tokens.Bytes.{lower}
use Rattle.express.specs.Tokens.Terminal.{bytes}
use Rattle.express.specs.Syntax.Tree.{Table, token, schema_of}
use Rattle.express.specs.Semantics.Answer.{Logical, FALSE, UNKNOWN, TRUE, indeterminate, integer, logical, binary, item, string, end}
use Rattle.express.specs.Semantics.AnswerRow.{natural, ranked}
use Rattle.express.specs.Semantics.Bits.{bits}
use Rattle.express.proofs.Semantics.Bits.{length_bits}
use Rattle.express.specs.Whole.Listing.{signed, logical_name, bit_digit, name_of, printed, answer_line}
use Rattle.records.specs.declared.Answer as records
use Rattle.std.specs.Prelude.{Ok}
use Rattle.lines.specs.Print.{fitted, record_answer}
use Rattle.lines.proofs.Numbers.{decimal_short}
use Rattle.lines.proofs.Strings.{literal_short}

module _ (t : Table) where
  name_short : (m : ℕ) → length (name_of t m) ≤ length t.bytes
  name_short m =
      let i = token t m in
      let part = take (get_or t.lengths i 0) (drop (get_or t.starts i 0) t.bytes) in
      omega (
        arith,
        length-map part lower,
        length-take (get_or t.lengths i 0) (drop (get_or t.starts i 0) t.bytes),
        length-drop (get_or t.starts i 0) t.bytes,
      )

  signed_short : (z : ℤ) → length (signed z) ≤ 21
  signed_short (pos n) = omega (arith, decimal_short n)
  signed_short (negsuc n) = omega (arith, decimal_short (suc n))

  logical_short : (l : Logical) → length (bytes (logical_name l)) ≤ 7
  logical_short FALSE = omega arith
  logical_short UNKNOWN = omega arith
  logical_short TRUE = omega arith

  module _ (z : ℤ) (l : Logical) (s : List Bool) (m : ℕ) (u : List ℕ) (e : ℕ) (h : length s < 256) (k : length u < 256) where
    choice : (b₀ b₁ b₂ b₃ b₄ b₅ : Bool)
        → length (printed t (cond b₀ indeterminate (cond b₁ (integer z) (cond b₂ (logical l) (cond b₃ (binary s) (cond b₄ (item m) (cond b₅ (string u) (end e))))))))
        ≤ length t.bytes + 512
    choice true b₁ b₂ b₃ b₄ b₅ = omega arith
    choice false true b₂ b₃ b₄ b₅ = omega (arith, signed_short z)
    choice false false true b₃ b₄ b₅ = omega (arith, logical_short l)
    choice false false false true b₄ b₅ = omega (arith, length-map s bit_digit)
    choice false false false false true b₅ = omega (arith, name_short m)
    choice false false false false false true = omega (arith, literal_short u)
    choice false false false false false false = omega (arith, decimal_short e)

  module _ (room : List ℕ) where
    printed_short : (r : records.Answer) → r.length < 256 → length (printed t (record_answer room r)) ≤ length t.bytes + 512
    printed_short r h =
        let n = natural r.number in
        choice r.number (ranked n) (bits r.length n) n (take r.length (drop n room)) r.kind
        (omega (arith, length_bits r.length n)) (omega (arith, length-take r.length (drop n room)))
        (eqb r.kind 0) (eqb r.kind 1) (eqb r.kind 2) (eqb r.kind 3) (eqb r.kind 4) (eqb r.kind 5)

    pub line_short : (c : ℕ) (r : records.Answer) → r.length < 256 → length (answer_line t c (record_answer room r)) ≤ 3 * length t.bytes + 600
    line_short c r h =
        let front = name_of t (schema_of t c) in
        let own = name_of t c in
        let answer = printed t (record_answer room r) in
        omega (
          arith,
          length-append (front ++ bytes "." ++ own ++ bytes " = " ++ answer) (10 ∷ []),
          length-append (front ++ bytes "." ++ own ++ bytes " = ") answer,
          length-append (front ++ bytes "." ++ own) (bytes " = "),
          length-append (front ++ bytes ".") own,
          length-append front (bytes "."),
          name_short (schema_of t c),
          name_short c,
          printed_short r h,
        )

-- a line that fits is written
pub line_fits : (line : List ℕ) (m : ℕ) → length line ≤ m → fitted (length line) m ≡ Ok (length line)
line_fits line m h = rw (le-leb (length line) m h)
