-- Laws of a string as a literal: the loop that stores its bytes, each quote twice, the quotes around them, and how long it is.
use mathlib.Core.Path.{◌≡◌, refl, sym, ap, ◌∙◌}
use mathlib.Core.Bool.{Bool, true, false, cond}
use mathlib.Core.List.{List, [], ◌∷◌, ◌++◌, append_assoc, append-nil, flat_map}
use Prim.Native.Nat.{ℕ, ◌+◌, ◌*◌, ◌-◌, ◌≤◌, ◌<◌, ◌^◌, min}
use native.Mathlib.Numerals.{add-one}
use native.Mathlib.Omega.{arith}
use borrow.Author.Tests.{eq-eqb, ne_eqb}
use lib.Dec.{eqb}
use lib.ListN.{length, get_or, take, drop, length-append, length-take}
use lib.Seq.{take-suc, take-length}
use Rattle.express.specs.Tokens.Lexis.{quote}
use Rattle.express.specs.Whole.Listing.{quoted_byte, literal}
use Rattle.lines.specs.Piece.{Stored, Puts}
use Rattle.lines.proofs.Pieces.{then, spelled, renamed, kept, part_is}

-- ---- a byte

pub quote_put : {was mid have : List ℕ} {at m next b : ℕ} → Puts was at (b ∷ []) mid m → b ≡ quote → Puts mid m (quote ∷ []) have next → Puts was at (quoted_byte b) have next
quote_put {b = b} p e q =
    spelled (quoted_byte b) (then p.put q.put) (rw (eq-eqb b quote e, e)) (rw (eq-eqb b quote e) (omega arith))

pub other_put : {was have : List ℕ} {at next b : ℕ} → Puts was at (b ∷ []) have next → (b ≡ quote → ⊥) → Puts was at (quoted_byte b) have next
other_put {b = b} p n = renamed p (rw (ne_eqb b quote n))

byte_short : (b : ℕ) → length (quoted_byte b) ≤ 2
byte_short b = by (eqb b quote)
  where
    by : (c : Bool) → length (cond c (quote ∷ quote ∷ []) (b ∷ [])) ≤ 2
    by true = omega arith
    by false = omega arith

-- ---- the bytes

quoted_snoc : (s : List ℕ) (b : ℕ) → flat_map quoted_byte (s ++ (b ∷ [])) ≡ flat_map quoted_byte s ++ quoted_byte b
unfolding flat_map
quoted_snoc [] b = append-nil (quoted_byte b)
quoted_snoc (x ∷ s) b = ap (λ (l : List ℕ). quoted_byte x ++ l) (quoted_snoc s b) ∙ sym (append_assoc (quoted_byte x) (flat_map quoted_byte s) (quoted_byte b))

quoted_short : (s : List ℕ) → length (flat_map quoted_byte s) ≤ 2 * length s
unfolding flat_map
quoted_short [] = omega arith
quoted_short (b ∷ s) = omega (arith, length-append (quoted_byte b) (flat_map quoted_byte s), byte_short b, quoted_short s)

-- a loop over the bytes of a text: i of them are stored
pub record Quoting (text was : List ℕ) (at : ℕ) (have : List ℕ) (i next : ℕ) : Type 0 where
  pub within : i ≤ length text
  pub put : Stored was at (flat_map quoted_byte (take i text)) have next
  pub near : next ≤ at + 2 * i

module _ {text was : List ℕ} {at : ℕ} where
  pub quoting_starts : Quoting text was at was 0 at
  unfolding flat_map
  quoting_starts = record { within = omega arith; put = record { is = refl; moves = omega arith }; near = omega arith }

  pub quoting_goes_on : {have now : List ℕ} {i next after : ℕ} → i < length text → Quoting text was at have i next
      → Puts have next (quoted_byte (get_or text i 0)) now after → Quoting text was at now (i + 1) after
  quoting_goes_on {i = i} h k p = record {
    within = omega arith;
    put = rw (add-one, take-suc text i 0 h, quoted_snoc (take i text) (get_or text i 0)) (then k.put p.put);
    near = omega (arith, k.near, p.put.moves, byte_short (get_or text i 0));
  }

  pub quoting_ends : {have : List ℕ} {i next : ℕ} → length text ≤ 2 ^ 31 → length text ≤ i → Quoting text was at have i next
      → Puts was at (flat_map quoted_byte text) have next
  quoting_ends {i = i} short h k =
      let all : i ≡ length text = omega (arith, k.within) in
      spelled (flat_map quoted_byte text) k.put
      (ap (λ (n : ℕ). flat_map quoted_byte (take n text)) all ∙ ap (flat_map quoted_byte) (take-length text)) (omega (arith, quoted_short text))

  pub quoting_kept : {have : List ℕ} {i next : ℕ} → Quoting text was at have i next → length have ≡ length was
  quoting_kept k = kept k.put

-- ---- the literal

pub literal_short : (s : List ℕ) → length (literal s) ≤ 2 * length s + 2
literal_short s =
    omega (arith, length-append (quote ∷ flat_map quoted_byte s) (quote ∷ []), quoted_short s)

-- a part of the room between two quotes
pub put_literal : (room : List ℕ) (start n first m : ℕ) {was x y have : List ℕ} {at a b next : ℕ} → n < 256 → first ≡ min start (length room)
    → m ≡ min n (length room - first) → Puts was at (quote ∷ []) x a → Puts x a (flat_map quoted_byte (take (first + m - first) (drop first room))) y b
    → Puts y b (quote ∷ []) have next → Puts was at (literal (take n (drop start room))) have next
put_literal room start n first m h e d p q r =
    spelled (literal (take n (drop start room))) (then (then p.put q.put) r.put) (ap literal (part_is room start n first m e d))
    (omega (arith, literal_short (take n (drop start room)), length-take n (drop start room)))
