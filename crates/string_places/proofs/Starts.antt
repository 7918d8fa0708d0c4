-- The rows of answers: their strings start where the strings before them end in the room.
use mathlib.Core.Path.{◌≡◌, refl, ap, ◌∙◌}
use mathlib.Core.List.{List, [], ◌∷◌, ◌++◌, flat_map}
use Prim.Native.Nat.{ℕ, zero, suc, ◌+◌, ◌≤◌, ◌<◌}
use native.Mathlib.Omega.{arith}
use lib.ListN.{length, get_or, take, length-append}
use lib.Seq.{take-suc}
use Rattle.express.specs.Semantics.Answer.{Answer, indeterminate}
use Rattle.express.specs.Semantics.AnswerRow.{bytes_of, room_of}
use Rattle.string_places.specs.Places.{size_in, start_in}

-- one answer more
pub room_more : (xs : List Answer) (x : Answer) → length (room_of (xs ++ (x ∷ []))) ≡ length (room_of xs) + length (bytes_of x)
unfolding flat_map
room_more [] x = omega (arith, length-append (bytes_of x) [])
room_more (y ∷ xs) x =
    omega (arith, length-append (bytes_of y) (room_of (xs ++ (x ∷ []))), length-append (bytes_of y) (room_of xs), room_more xs x)

pub room_take : (xs : List Answer) (i : ℕ) → i < length xs → length (room_of (take (suc i) xs)) ≡ length (room_of (take i xs)) + length (bytes_of (get_or xs i indeterminate))
room_take xs i l =
    ap (λ (ys : List Answer). length (room_of ys)) (take-suc xs i indeterminate l) ∙ room_more (take i xs) (get_or xs i indeterminate)

-- rows that have as many bytes as some answers: the starts are those of the answers
pub starts_are :
    (kinds lengths : List ℕ) (xs : List Answer) → ((i : ℕ) → i < length xs → size_in kinds lengths i ≡ length (bytes_of (get_or xs i indeterminate))) →
    (i : ℕ) → i ≤ length xs → start_in kinds lengths i ≡ length (room_of (take i xs))
unfolding start_in flat_map
starts_are kinds lengths xs h zero l = refl
starts_are kinds lengths xs h (suc i) l = omega (arith, starts_are kinds lengths xs h i (omega arith), h i (omega arith), room_take xs i (omega arith))
