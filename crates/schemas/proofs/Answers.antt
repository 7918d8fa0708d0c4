-- The constants of a file by their rows, their answers in the order of the text, and where their strings start.
use mathlib.Core.Path.{◌≡◌, refl, ap, ◌∙◌}
use mathlib.Core.Logic.{⊎_elim}
use mathlib.Core.Bool.{Bool, true, false}
use mathlib.Core.List.{List, [], ◌∷◌, map, flat_map}
use Prim.Native.Nat.{ℕ, zero, suc, ◌+◌, ◌≤◌, ◌<◌}
use native.Mathlib.Omega.{arith}
use borrow.Author.Tests.{eqb-true, eq-eqb}
use lib.ListN.{length, get_or, take, length-map}
use lib.Seq.{take_all}
use Rattle.relations.specs.Select.{span, keep}
use Rattle.relations.proofs.Select.{le_or, placed}
use Rattle.express.specs.Syntax.NodeKind as node
use Rattle.express.specs.Syntax.Tree.{Table, count, kind, is}
use Rattle.express.specs.Semantics.Answer.{Answer, indeterminate}
use Rattle.express.specs.Semantics.AnswerRow.{bytes_of, room_of}
use Rattle.express.specs.Semantics.Kind.{constants}
use Rattle.schemas.specs.Rows.{row, answer_of_constant, file_answers, start_of}
use Rattle.constant_rows.proofs.Numbering.{next_one, next_none, none_yet, row_none, row_rises, row_before, row_other}
use Rattle.string_places.proofs.Starts.{room_take}
use Rattle.schemas.proofs.Room.{room_rises}

-- the element that stands at a place of what is kept
record At (p : ℕ → Bool) (n i : ℕ) : Type 0 where
  which : ℕ
  known : which < n
  passes : p which ≡ true
  place : length (keep p (span 0 which)) ≡ i

at_place : (p : ℕ → Bool) (n i : ℕ) → i < length (keep p (span 0 n)) → At p n i
at_place p zero i l = absurd (omega (arith, none_yet p))
at_place p (suc n) i l = by (p n) (λ g. at_place p n i g) refl
  where
    s : suc n ≡ n + 1
    s = omega arith

    long : i < length (keep p (span 0 (n + 1)))
    long = rw (← s) l

    wider : At p n i → At p (suc n) i
    wider a = let k = a.known in record { which = a.which; known = omega arith; passes = a.passes; place = a.place }

    by : (b : Bool) → (i < length (keep p (span 0 n)) → At p n i) → p n ≡ b → At p (suc n) i
    by true earlier h =
        ⊎_elim (λ (g : length (keep p (span 0 n)) ≤ i). record { which = n; known = omega arith; passes = h; place = omega (arith, long, next_one p n h) })
        (λ g. wider (earlier g)) (le_or (length (keep p (span 0 n))) i)
    by false earlier h = wider (earlier (omega (arith, long, next_none p n h)))

pub map_there : {A B : Type 0} (f : A → B) (xs : List A) (i : ℕ) (x : A) (y : B) → i < length xs → get_or (map f xs) i y ≡ f (get_or xs i x)
map_there f [] i x y l = absurd (omega arith)
map_there f (a ∷ xs) zero x y l = refl
map_there f (a ∷ xs) (suc i) x y l = map_there f xs i x y (omega arith)

-- ---- the constant in a row
pub record Constant (t : Table) (i : ℕ) : Type 0 where
  pub which : ℕ
  pub known : which < count t
  pub is_constant : kind t which ≡ node.constant
  pub place : row t which ≡ i

pub constant_at : (t : Table) (i : ℕ) → i < length (constants t) → Constant t i
constant_at t i l =
    let a = at_place (is t node.constant) (count t) i l in
    record { which = a.which; known = a.known; is_constant = eqb-true (kind t a.which) node.constant a.passes; place = a.place }

pub answers_long : (t : Table) → length (file_answers t) ≡ length (constants t)
answers_long t = length-map (constants t) (answer_of_constant t)

module _ (t : Table) (c : ℕ) (l : c < count t) (k : kind t c ≡ node.constant) where
  pub row_within : row t c < length (constants t)
  row_within = (placed (is t node.constant) (count t) c l (eq-eqb (kind t c) node.constant k)).within

  pub answer_there : get_or (file_answers t) (row t c) indeterminate ≡ answer_of_constant t c
  answer_there =
      map_there (answer_of_constant t) (constants t) (row t c) 0 indeterminate row_within ∙
      ap (answer_of_constant t) (placed (is t node.constant) (count t) c l (eq-eqb (kind t c) node.constant k)).there

-- ---- where strings start
pub start_none : (t : Table) → start_of t 0 ≡ 0
unfolding flat_map
start_none t = ap (λ (r : ℕ). length (room_of (take r (file_answers t)))) (row_none t.kinds)

pub start_all : (t : Table) → start_of t (count t) ≡ length (room_of (file_answers t))
start_all t = ap (λ (xs : List Answer). length (room_of xs)) (take_all (row t (count t)) (file_answers t) (omega (arith, answers_long t)))

pub start_rises : (t : Table) (a b : ℕ) → a ≤ b → start_of t a ≤ start_of t b
start_rises t a b l = room_rises (file_answers t) (row t a) (row t b) (row_rises t.kinds a b l)

pub start_other : (t : Table) (n : ℕ) → (kind t n ≡ node.constant → ⊥) → start_of t (n + 1) ≡ start_of t n
start_other t n k = ap (λ (r : ℕ). length (room_of (take r (file_answers t)))) (row_other t.kinds n k)

-- the string of a constant ends before those of the nodes behind it start
pub start_behind :
    (t : Table) (c n : ℕ) → c < count t → kind t c ≡ node.constant → c < n → start_of t c + length (bytes_of (answer_of_constant t c)) ≤ start_of t n
start_behind t c n l k b =
    let e = ap (λ (x : Answer). length (bytes_of x)) (answer_there t c l k) in
    let r = room_take (file_answers t) (row t c) (omega (arith, row_within t c l k, answers_long t)) in
    let u = room_rises (file_answers t) (suc (row t c)) (row t n) (omega (arith, row_before t.kinds c n b k)) in omega (arith, e, r, u)
