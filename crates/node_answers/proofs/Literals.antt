-- The values of literals.
use mathlib.Core.Path.{◌≡◌, refl, sym, ap, ap₂, ◌∙◌}
use mathlib.Core.Bool.{Bool, true, false, ◌&&◌}
use mathlib.Core.List.{List}
use Prim.Native.Nat.{ℕ, min, ◌-◌, ◌^◌, ◌≤◌, ◌<◌}
use native.Mathlib.Nat.{lt_of_lt_of_le}
use native.Mathlib.Omega.{arith}
use borrow.Author.Tests.{le-leb, eqb-true, ne_eqb}
use lib.Dec.{eqb}
use lib.IntN.{pos}
use lib.ListN.{length, drop, length-take, length-drop, length-map, length-replicate}
use lib.Pow.{pow_mono}
use mir.Syntax.{w64}
use mir.Val.{SFits, to_z}
use mir.Facts.{to_z_pos}
use Rattle.express.specs.Tokens.Lexis.{integer_value, binary_bits, binary_value, string_value, most_bytes}
use Rattle.express.specs.Tokens.Terminal.{the}
use Rattle.express.specs.Tokens.Terminal as word
use Rattle.express.specs.Tokens.Scanned.{Scanned}
use Rattle.express.specs.Syntax.Grammar.{Nonterminal}
use Rattle.express.specs.Syntax.NodeKind as node
use Rattle.express.specs.Syntax.Syntax.{Read}
use Rattle.express.specs.Syntax.Tree.{Table}
use Rattle.express.specs.Semantics.Answer.{integer, binary}
use Rattle.express.specs.Semantics.Bits.{number, bits}
use Rattle.express.specs.Semantics.Shape.{logical_of}
use Rattle.express.proofs.Semantics.Bits.{bits_number, number_lt}
use Rattle.express.proofs.Tokens.Literals.{literals, binary_read}
use Rattle.values.specs.Meaning as values
use Rattle.values.specs.declared.logical.Logical as logicals
use Rattle.literals.specs.Literal.{capped}
use Rattle.bits.specs.declared.Binary as bits_crate
use Rattle.operations.specs.Meaning.{of_size}
use Rattle.operations.specs.declared.Answer as operations
use Rattle.operations.specs.declared.Answer.TheVariants.{Indeterminate, Integer, Logical, Binary, Text}
use Rattle.node_answers.specs.NodeAnswer.{part, IntegerRead, BinaryRead, StringRead, Leaf, Spelled}
use Rattle.node_answers.proofs.Rows.{same, nothing}

-- ---- integers
pub integer_fits : {v : ℕ} → v ≤ 9223372036854775807 → SFits w64 (pos v)
integer_fits h = record { sfits = omega arith }

module _ (s : List ℕ) {v : ℕ} (e : v ≡ capped (integer_value s)) where
  pub integer_large : 9223372036854775807 < v → IntegerRead s Indeterminate
  integer_large h = record { is = λ (l : integer_value s < 2 ^ 63). absurd (omega arith) }

  pub integer_small : v ≤ 9223372036854775807 → IntegerRead s (Integer (to_z w64 v))
  integer_small h =
      record {
        is = λ (l : integer_value s < 2 ^ 63).
            let q : v ≡ integer_value s = omega arith in record { is = ap integer (to_z_pos w64 (omega arith) ∙ ap pos q); whole = refl };
      }

-- ---- binaries
length_bits : (s : List ℕ) → length (binary_bits s) ≡ length s - 1
unfolding binary_bits
length_bits s = length-map (drop 1 s) _ ∙ length-drop 1 s

module _ (s : List ℕ) (p n : ℕ) {k m b : ℕ} (K : k ≡ length s - p) (M : m ≡ min n k) (B : b ≡ m - 1) where
  bits_counted : b ≡ length (binary_bits (part s p n))
  bits_counted = omega (arith, length_bits (part s p n), length-take n (drop p s), length-drop p s)

  pub binary_long : 63 < b → BinaryRead (part s p n) Indeterminate
  binary_long h = record { is = λ (l : length (binary_bits (part s p n)) ≤ 63) q. absurd (omega (arith, bits_counted)) }

  module _ {v : ℕ} (E : v ≡ capped (binary_value (part s p n))) where
    binary_number : length (binary_bits (part s p n)) ≤ 63 → binary_value (part s p n) ≡ number (binary_bits (part s p n)) → v ≡ number (binary_bits (part s p n))
    binary_number l q =
        let u : number (binary_bits (part s p n)) < 2 ^ 63 = lt_of_lt_of_le (number_lt (binary_bits (part s p n))) (pow_mono l) in omega arith

    pub binary_short : {y : bits_crate.Binary} → y.number ≡ v → y.length ≡ b → BinaryRead (part s p n) (Binary y)
    binary_short {y} N L =
        record {
          is = λ l q.
              record {
                is = ap binary (ap₂ bits (L ∙ bits_counted) (N ∙ binary_number l q) ∙ bits_number (binary_bits (part s p n)));
                whole = le-leb _ 63 l;
              };
        }

-- ---- strings
module _ (s : List ℕ) {n : ℕ} (e : n ≡ length (string_value s)) where
  pub string_long : most_bytes < n → StringRead s Indeterminate
  string_long h = record { is = λ (l : length (string_value s) ≤ most_bytes). absurd (omega arith) }

  pub string_short : n ≤ most_bytes → StringRead s (Text n)
  string_short h =
      record { is = λ l. record { is = ap of_size e; whole = rw (length-replicate {A = ℕ} (length (string_value s)) 0) (le-leb (length (string_value s)) most_bytes l) } }

-- ---- leaves
and_both : (a b : Bool) → a && b ≡ true → (a ≡ true) × (b ≡ true)
and_both true b e = (refl, e)
and_both false b e = let z : ◌≡◌ {A = ℕ} 0 1 = cc in absurd (omega arith)

module _ {k w : ℕ} {s : List ℕ} where
  pub leaf_integer : k ≡ 1 → {r : operations.Answer} → IntegerRead s r → Leaf k w s r
  leaf_integer h R = record { is = λ L. same (rw h) (R.is (L.small h)) }

  pub leaf_binary : k ≡ 2 → {r : operations.Answer} → BinaryRead s r → Leaf k w s r
  leaf_binary h R = record { is = λ L. same (rw h) (R.is (L.few_bits h) (L.read h)) }

  pub leaf_logical : k ≡ 3 → {l : logicals.Logical} → values.logical_of l ≡ logical_of w → Leaf k w s (Logical l)
  leaf_logical h e = record { is = λ L. record { is = rw (h, e); whole = rw h } }

  module _ {q : Bool} (e : q ≡ (eqb k node.other_literal && eqb w (the word.string))) where
    pub leaf_string : q ≡ true → {r : operations.Answer} → StringRead s r → Leaf k w s r
    leaf_string h R =
        let p = and_both (eqb k node.other_literal) (eqb w (the word.string)) (sym e ∙ h) in
        let i = eqb-true k node.other_literal p.0 in
        let j = eqb-true w (the word.string) p.1 in
        record { is = λ L. same (rw (i, j)) (R.is (L.few_bytes i j)) }

    pub leaf_other : (k ≡ 1 → ⊥) → (k ≡ 2 → ⊥) → (k ≡ 3 → ⊥) → q ≡ false → Leaf k w s Indeterminate
    leaf_other a b c h = record { is = λ L. same (rw (ne_eqb k 1 a, ne_eqb k 2 b, ne_eqb k 3 c, ← e, h)) nothing }

  -- the kinds of literals are the first
  pub leaf_none : 5 < k → Leaf k w s Indeterminate
  leaf_none h = leaf_other (rw (ne_eqb k 5 (λ (q : k ≡ 5). omega arith))) (λ (q : k ≡ 1). omega arith) (λ (q : k ≡ 2). omega arith) (λ (q : k ≡ 3). omega arith) refl

-- THE LITERALS of a text that is read
pub spelled : {x : Nonterminal} {t : Table} → Read x t → Scanned t → Spelled t
spelled R S =
    let v = literals R S in
    record { each = λ n. record { small = v.small n; few_bits = v.few_bits n; read = binary_read R S n; few_bytes = v.few_bytes n } }
