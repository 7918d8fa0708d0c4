-- A row of the answer table, with the room, gives the answer back that it was made of: for `?`, an end, and every member of a declared type.
use mathlib.Core.Path.{◌≡◌, refl, sym, ap, ◌∙◌}
use mathlib.Core.Bool.{false}
use mathlib.Core.List.{List, [], ◌∷◌, ◌++◌, append_assoc, flat_map}
use Prim.Native.Nat.{ℕ, zero, suc, ◌+◌, ◌≤◌}
use native.Mathlib.Omega.{arith}
use lib.Dec.{eqb}
use lib.ListN.{length, get_or, take, drop, length-append}
use lib.Seq.{take_at}
use borrow.Author.Tests.{ne_eqb}
use Rattle.express.specs.Semantics.Answer.{FALSE, UNKNOWN, TRUE, Answer, indeterminate, logical, binary, string, end}
use Rattle.express.specs.Semantics.AnswerRow.{row_of, row_at, row_answer, bytes_of, rows_from, room_of}
use Rattle.express.specs.Syntax.Tree.{Table}
use Rattle.express.specs.Semantics.Declared.{Declared}
use Rattle.express.specs.Semantics.Rule.{Member, an_integer, is_false, is_true, a_logical, a_binary, a_string, an_item, Holds, no_value, an_end, a_member}
use Rattle.express.proofs.Semantics.Bits.{bits_number}
use Rattle.express.proofs.Semantics.Operations.{ends_range}

drop_front : (pre s : List ℕ) → drop (length pre) (pre ++ s) ≡ s
drop_front [] s = refl
drop_front (b ∷ pre) s = drop_front pre s

-- what lies in the middle
pub middle_back : (pre s rest : List ℕ) → take (length s) (drop (length pre) (pre ++ (s ++ rest))) ≡ s
middle_back pre s rest = ap (take (length s)) (drop_front pre (s ++ rest)) ∙ take_at s rest (length s) refl

-- ---- one answer, whose bytes stand behind those of `pre`

module _ (pre rest : List ℕ) where
  logical_back : (l : _) → row_answer (pre ++ rest) (row_at (length pre) (logical l)) ≡ logical l
  logical_back FALSE = refl
  logical_back UNKNOWN = refl
  logical_back TRUE = refl

  end_back : (e : ℕ) → 16 ≤ e → row_answer (pre ++ rest) (row_at (length pre) (end e)) ≡ end e
  end_back e l =
      rw (other 0 (omega arith), other 1 (omega arith), other 2 (omega arith), other 3 (omega arith), other 4 (omega arith), other 5 (omega arith))
    where
      other : (k : ℕ) → k ≤ 5 → eqb e k ≡ false
      other k h = ne_eqb e k (λ (q : e ≡ k). omega arith)

  member_back : {t : Table} {d : Declared} {a : Answer} → Member t d a → row_answer (pre ++ (bytes_of a ++ rest)) (row_at (length pre) a) ≡ a
  member_back (an_integer h) = refl
  member_back is_false = refl
  member_back is_true = refl
  member_back (a_logical {l}) = logical_back l
  member_back (a_binary {s} h l) = ap binary (bits_number s)
  member_back (a_string {s} h) = ap string (middle_back pre s rest)
  member_back (an_item h l) = refl

  answer_back : {t : Table} {d : Declared} {a : Answer} → Holds t d a → row_answer (pre ++ (bytes_of a ++ rest)) (row_at (length pre) a) ≡ a
  answer_back no_value = refl
  answer_back (an_end {e} m) = end_back e (ends_range m).0
  answer_back (a_member m) = member_back m

-- a row for each answer
pub rows_counted : (start : ℕ) (xs : List Answer) → length (rows_from start xs) ≡ length xs
unfolding rows_from
rows_counted start [] = refl
rows_counted start (x ∷ xs) = ap suc (rows_counted (start + length (bytes_of x)) xs)

-- THE WAY BACK, for every answer that a constant can have, in its row and the room
pub row_back :
    (xs : List Answer) (pre rest : List ℕ) (i : ℕ) {t : Table} {d : Declared} → Holds t d (get_or xs i indeterminate) →
    row_answer (pre ++ (room_of xs ++ rest)) (get_or (rows_from (length pre) xs) i (row_of indeterminate)) ≡ get_or xs i indeterminate
unfolding rows_from flat_map
row_back [] pre rest i h = refl
row_back (x ∷ xs) pre rest zero h =
    ap (λ (s : List ℕ). row_answer (pre ++ s) (row_at (length pre) x)) (append_assoc (bytes_of x) (room_of xs) rest) ∙ answer_back pre (room_of xs ++ rest) h
row_back (x ∷ xs) pre rest (suc i) h =
    let more = pre ++ bytes_of x in
    let whole : pre ++ ((bytes_of x ++ room_of xs) ++ rest) ≡ more ++ (room_of xs ++ rest) =
    ap (λ (s : List ℕ). pre ++ s) (append_assoc (bytes_of x) (room_of xs) rest) ∙ sym (append_assoc pre (bytes_of x) (room_of xs ++ rest)) in
    let here : length pre + length (bytes_of x) ≡ length more = sym (length-append pre (bytes_of x)) in
    rw (whole, here) (row_back xs more rest i h)
