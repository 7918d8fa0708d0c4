-- The rows of answers in their order, and a room in which their strings lie one after the other.
use mathlib.Core.Path.{◌≡◌, refl, sym, ap, ◌∙◌}
use mathlib.Core.Logic.{◌⊎◌, inl, inr}
use mathlib.Core.List.{List, [], ◌∷◌, ◌++◌, flat_map}
use Prim.Native.Nat.{ℕ, zero, suc, ◌+◌, ◌-◌, ◌≤◌, ◌<◌}
use native.Mathlib.Omega.{arith}
use lib.ListN.{length, get_or, take, drop, replicate, length-append, length-take, length-drop, length-replicate, get_or-replicate, take-append-drop, get_or-eq_default}
use lib.Seq.{length-take-le, take-add, drop-drop, get_or-take, get_or-drop, get_or-append-add, ext_get_or}
use Rattle.columns.specs.Column.{cleared, padded}
use Rattle.columns.proofs.Laws.{length_cleared}
use Rattle.relations.proofs.Select.{le_or}
use Rattle.express.specs.Semantics.Answer.{Answer, indeterminate}
use Rattle.express.specs.Semantics.AnswerRow.{AnswerRow, row_at, bytes_of, rows_from, room_of}

pub rows_long : (start : ℕ) (xs : List Answer) → length (rows_from start xs) ≡ length xs
unfolding rows_from
rows_long start [] = refl
rows_long start (x ∷ xs) = ap suc (rows_long (start + length (bytes_of x)) xs)

-- each starts where those before it end
pub rows_at :
    (start : ℕ) (xs : List Answer) (i : ℕ) (d : AnswerRow) → i < length xs →
    get_or (rows_from start xs) i d ≡ row_at (start + length (room_of (take i xs))) (get_or xs i indeterminate)
unfolding rows_from flat_map
rows_at start [] i d l = absurd (omega arith)
rows_at start (x ∷ xs) zero d l = let z : start ≡ start + 0 = omega arith in ap (λ (s : ℕ). row_at s x) z
rows_at start (x ∷ xs) (suc i) d l =
    let z : start + length (bytes_of x) + length (room_of (take i xs)) ≡ start + length (bytes_of x ++ room_of (take i xs)) =
    omega (arith, length-append (bytes_of x) (room_of (take i xs))) in
    rows_at (start + length (bytes_of x)) xs i d (omega arith) ∙ ap (λ (s : ℕ). row_at s (get_or xs i indeterminate)) z

pub room_rises : (xs : List Answer) (i j : ℕ) → i ≤ j → length (room_of (take i xs)) ≤ length (room_of (take j xs))
unfolding flat_map
room_rises xs zero j l = omega arith
room_rises xs (suc i) zero l = absurd (omega arith)
room_rises [] (suc i) (suc j) l = omega arith
room_rises (x ∷ xs) (suc i) (suc j) l =
    omega (arith, room_rises xs i j (omega arith), length-append (bytes_of x) (room_of (take i xs)), length-append (bytes_of x) (room_of (take j xs)))

-- A ROOM where each string stands at its start has all strings in front
pub strings_in_front :
    (xs : List Answer) (room : List ℕ) →
    ((i : ℕ) → i < length xs → take (length (bytes_of (get_or xs i indeterminate))) (drop (length (room_of (take i xs))) room) ≡ bytes_of (get_or xs i indeterminate)) →
    take (length (room_of xs)) room ≡ room_of xs
unfolding flat_map
strings_in_front [] room h = refl
strings_in_front (x ∷ xs) room h =
    let b = bytes_of x in
    let later = strings_in_front xs (drop (length b) room) (λ i l.
    let z : length (b ++ room_of (take i xs)) ≡ length b + length (room_of (take i xs)) = length-append b (room_of (take i xs)) in
    ap (take (length (bytes_of (get_or xs i indeterminate)))) (drop-drop (length (room_of (take i xs))) (length b) room ∙ ap (λ (n : ℕ). drop n room) (sym z)) ∙ h (suc i) (omega arith)) in
    ap (λ (n : ℕ). take n room) (length-append b (room_of xs)) ∙ take-add (length b) (length (room_of xs)) room ∙
    ap (λ (s : List ℕ). s ++ take (length (room_of xs)) (drop (length b) room)) (h 0 (omega arith)) ∙ ap (λ (s : List ℕ). b ++ s) later

-- a part of a room is as it was where its bytes are
pub part_same :
    (was room : List ℕ) → length room ≡ length was → (start size : ℕ) → ((i : ℕ) → i < start + size → get_or room i 0 ≡ get_or was i 0) →
    take size (drop start room) ≡ take size (drop start was)
part_same was room q start size h =
    ext_get_or 0 (take size (drop start room)) (take size (drop start was)) long (λ i l.
    let k : i < size = omega (arith, l, length-take size (drop start room)) in
    get_or-take size (drop start room) i 0 k ∙ get_or-drop start room i 0 ∙ h (start + i) (omega arith) ∙
    sym (get_or-take size (drop start was) i 0 k ∙ get_or-drop start was i 0))
  where
    long : length (take size (drop start room)) ≡ length (take size (drop start was))
    long =
        omega (
          arith,
          q,
          length-take size (drop start room),
          length-take size (drop start was),
          length-drop start room,
          length-drop start was,
        )

-- behind the strings are the zeros of the room that was cleared
cleared_behind : (n : ℕ) (room : List ℕ) (i : ℕ) → n ≤ i → get_or (cleared 0 n room) i 0 ≡ 0
cleared_behind n room i l = by (le_or (length room) i)
  where
    by : (length room ≤ i) ⊎ (i < length room) → get_or (cleared 0 n room) i 0 ≡ 0
    by (inl a) = get_or-eq_default (cleared 0 n room) 0 (omega (arith, length_cleared 0 n room))
    by (inr a) =
        let long = length-take-le n room (omega arith) in
        let g : i ≡ length (take n room) + (i - n) = omega (arith, long) in
        ap (λ (x : ℕ). get_or (cleared 0 n room) x 0) g ∙ get_or-append-add (take n room) (replicate (length room - n) 0) (i - n) 0 ∙
        get_or-replicate (length room - n) (i - n) 0 0 (omega arith)

pub strings_padded :
    (vs room room' : List ℕ) → length vs ≤ length room → length room' ≡ length room → take (length vs) room' ≡ vs →
    ((i : ℕ) → length vs ≤ i → get_or room' i 0 ≡ get_or (cleared 0 (length vs) room) i 0) → room' ≡ padded 0 (length room) vs
strings_padded vs room room' l q e h =
    sym (take-append-drop (length vs) room') ∙ ap (λ (s : List ℕ). s ++ drop (length vs) room') e ∙
    ap (λ (s : List ℕ). vs ++ s)
    (ext_get_or 0 (drop (length vs) room') (replicate (length room - length vs) 0)
    (omega (arith, q, length-drop (length vs) room', length-replicate {A = ℕ} (length room - length vs) 0))
    (λ i b.
    let k : i < length room - length vs = omega (arith, q, b, length-drop (length vs) room') in
    get_or-drop (length vs) room' i 0 ∙ h (length vs + i) (omega arith) ∙ cleared_behind (length vs) room (length vs + i) (omega arith) ∙
    sym (get_or-replicate (length room - length vs) i 0 0 k)))
