-- Laws of whole lines: an answer by the kind of its record, the front of a constant's line, and the line feed at the end.
use mathlib.Core.Path.{◌≡◌, refl, ap, ◌∙◌}
use mathlib.Core.List.{List, [], ◌∷◌, ◌++◌, map}
use mathlib.Core.Logic.{⊎_elim}
use Prim.Native.Nat.{ℕ, ◌+◌, ◌≤◌, ◌<◌}
use native.Mathlib.Omega.{arith}
use borrow.Author.Tests.{ne_eqb, le-leb, lt-leb}
use lib.ListN.{length, set, take, drop}
use mir.Facts.{to_z-of_z}
use mir.Syntax.{w64}
use mir.Val.{SFits, to_z, of_z}
use Rattle.columns.proofs.Laws.{take_rows}
use Rattle.relations.proofs.Select.{le_or}
use Rattle.express.specs.Tokens.Terminal.{bytes}
use Rattle.express.specs.Syntax.Tree.{Table, schema_of}
use Rattle.express.specs.Semantics.Answer as express
use Rattle.express.specs.Semantics.Answer.{indeterminate, integer, logical, binary, item, string, end}
use Rattle.express.specs.Semantics.AnswerRow.{natural, ranked}
use Rattle.express.specs.Semantics.Bits.{bits}
use Rattle.express.specs.Whole.Listing.{decimal, signed, logical_name, bit_digit, literal, name_of, printed, line, refused_line, accepted_line}
use Rattle.records.specs.declared.Answer.{Answer}
use Rattle.lines.specs.declared.Short.{Short}
use Rattle.std.specs.Prelude.{Result, Ok, Err}
use Rattle.lines.specs.Piece.{Stored, Puts, Titled}
use Rattle.lines.specs.Print.{short, fitted, Prints, table_of, record_answer}
use Rattle.lines.proofs.Pieces.{then, kept}

-- ---- how an answer is printed, by the kind of its record; its number is read from its bits

module _ (t : Table) (room : List ℕ) (a : Answer) where
  pub prints_indeterminate : a.kind ≡ 0 → bytes "?" ≡ printed t (record_answer room a)
  prints_indeterminate e = rw e

  pub prints_end : (a.kind ≡ 0 → ⊥) → (a.kind ≡ 1 → ⊥) → (a.kind ≡ 2 → ⊥) → (a.kind ≡ 3 → ⊥) → (a.kind ≡ 4 → ⊥) → (a.kind ≡ 5 → ⊥)
      → bytes "end " ++ decimal a.kind ≡ printed t (record_answer room a)
  prints_end n₀ n₁ n₂ n₃ n₄ n₅ =
      rw (ne_eqb a.kind 0 n₀, ne_eqb a.kind 1 n₁, ne_eqb a.kind 2 n₂, ne_eqb a.kind 3 n₃, ne_eqb a.kind 4 n₄, ne_eqb a.kind 5 n₅)

  module _ (f : SFits w64 a.number) where
    pub prints_integer : a.kind ≡ 1 → signed (to_z w64 (of_z w64 a.number)) ≡ printed t (record_answer room a)
    prints_integer e = ap signed (to_z-of_z f) ∙ rw e

    module _ {n : ℕ} (is : n ≡ natural (to_z w64 (of_z w64 a.number))) where
      number_is : n ≡ natural a.number
      number_is = is ∙ ap natural (to_z-of_z f)

      pub prints_logical : a.kind ≡ 2 → bytes (logical_name (ranked n)) ≡ printed t (record_answer room a)
      prints_logical e = ap (λ (k : ℕ). bytes (logical_name (ranked k))) number_is ∙ rw e

      pub prints_binary : a.kind ≡ 3 → bytes "%" ++ map bit_digit (bits a.length n) ≡ printed t (record_answer room a)
      prints_binary e = ap (λ (k : ℕ). bytes "%" ++ map bit_digit (bits a.length k)) number_is ∙ rw e

      pub prints_item : a.kind ≡ 4 → name_of t n ≡ printed t (record_answer room a)
      prints_item e = ap (name_of t) number_is ∙ rw e

      pub prints_string : a.kind ≡ 5 → literal (take a.length (drop n room)) ≡ printed t (record_answer room a)
      prints_string e = ap (λ (k : ℕ). literal (take a.length (drop k room))) number_is ∙ rw e

-- the kinds of nodes play no part in it
pub printed_kinds : (text starts lengths ks tokens : List ℕ) (x : express.Answer)
    → printed (table_of text starts lengths [] tokens) x ≡ printed (table_of text starts lengths ks tokens) x
printed_kinds text starts lengths ks tokens indeterminate = refl
printed_kinds text starts lengths ks tokens (integer z) = refl
printed_kinds text starts lengths ks tokens (logical l) = refl
printed_kinds text starts lengths ks tokens (binary s) = refl
printed_kinds text starts lengths ks tokens (item m) = refl
printed_kinds text starts lengths ks tokens (string s) = refl
printed_kinds text starts lengths ks tokens (end e) = refl

-- ---- the front of a constant's line

pub titled : {t : Table} {c s : ℕ} {was x y z have : List ℕ} {a b d next : ℕ} → s ≡ schema_of t c → Puts was 0 (name_of t s) x a
    → Puts x a (46 ∷ []) y b → Puts y b (name_of t c) z d → Puts z d (bytes " = ") have next → Titled t c was have next
titled {t} {c} {s} e p q r u =
    record {
      put = rw (← e) (then (then (then p.put q.put) r.put) u.put);
      near = omega (arith, p.near, q.near, r.near, u.near);
    }

-- ---- the end of a line

-- the line feed is stored, and the line fits or does not
pub fits_all : {was have : List ℕ} {at n : ℕ} → Puts was at (10 ∷ []) have n → n ≤ length was
    → (have ≡ set was at 10) × (Ok n ≡ fitted (at + 1) (length was))
fits_all {was} {n = n} p h = (p.put.is, rw (← p.put.moves, le-leb n (length was) h))

pub fits_not : {was have : List ℕ} {at n : ℕ} → Puts was at (10 ∷ []) have n → length was < n
    → (have ≡ set was at 10) × (Err (short n) ≡ fitted (at + 1) (length was))
fits_not {was} {n = n} p h = (p.put.is, rw (← p.put.moves, lt-leb n (length was) h))

pub ended : {p was mid have : List ℕ} {m : ℕ} {r : Result ℕ Short} → Stored was 0 p mid m → have ≡ set mid m 10 → r ≡ fitted (m + 1) (length mid) → Prints (line p) was have r
ended {p} {was} {mid} {have} {m} {r} s e f =
    let all : Stored was 0 (line p) have (m + 1) = then s (record { is = e; moves = refl }) in
    let size : m + 1 ≡ length (line p) = omega (arith, all.moves) in
    record { is = all.is; answer = f ∙ ap (λ (n : ℕ). fitted n (length mid)) size ∙ ap (λ (n : ℕ). fitted (length (line p)) n) (kept s) }

-- ---- the lines, piece by piece

pub refused_printed : (k p : ℕ) {was x y z w have : List ℕ} {a b d e : ℕ} {r : Result ℕ Short} → Puts was 0 (bytes "refused ") x a → Puts x a (decimal k) y b
    → Puts y b (bytes " at ") z d → Puts z d (decimal p) w e → have ≡ set w e 10 → r ≡ fitted (e + 1) (length w) → Prints (refused_line k p) was have r
refused_printed k p q₁ q₂ q₃ q₄ = ended (then (then (then q₁.put q₂.put) q₃.put) q₄.put)

pub accepted_printed : (n : ℕ) {was x y have : List ℕ} {a b : ℕ} {r : Result ℕ Short} → Puts was 0 (bytes "accepted ") x a → Puts x a (decimal n) y b
    → have ≡ set y b 10 → r ≡ fitted (b + 1) (length y) → Prints (accepted_line n) was have r
accepted_printed n q₁ q₂ = ended (then q₁.put q₂.put)

-- a line that is written stands at the buffer's start
pub written_is : {l was have : List ℕ} {n : ℕ} → Prints l was have (Ok n) → take n have ≡ l
written_is {l} {was} {have} {n} p = ⊎_elim
    (λ (h : length l ≤ length was).
    let whole : fitted (length l) (length was) ≡ Ok (length l) = rw (le-leb (length l) (length was) h) in
    let answer : Ok n ≡ fitted (length l) (length was) = p.answer in
    let size : n ≡ length l = cc in
    rw (size, p.is) (take_rows was l h))
    (λ (h : length was < length l).
    let over : fitted (length l) (length was) ≡ Err (short (length l)) = rw (lt-leb (length l) (length was) h) in
    let answer : Ok n ≡ fitted (length l) (length was) = p.answer in
    let z : ◌≡◌ {A = ℕ} 0 1 = cc in absurd (omega arith))
    (le_or (length l) (length was))
