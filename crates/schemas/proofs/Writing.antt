-- Bytes that are stored in a room: they stand there, and all others are as they were.
use mathlib.Core.Path.{◌≡◌, refl, sym, ap₂, ◌∙◌}
use mathlib.Core.List.{List, [], ◌∷◌, append_assoc}
use Prim.Native.Nat.{ℕ, suc, ◌+◌, ◌≤◌, ◌<◌}
use native.Mathlib.Omega.{arith}
use lib.ListN.{length, get_or, set, take, drop}
use lib.Seq.{sets, sets-eq, length-take-le, get_or-set_other, drop-set-lt}
use Rattle.express.proofs.Whole.AnswerRow.{middle_back}

pub stored_there : (room : List ℕ) (start : ℕ) (s : List ℕ) → start + length s ≤ length room → take (length s) (drop start (sets room start s)) ≡ s
stored_there room start s l =
    let n : length (take start room) ≡ start = length-take-le start room (omega arith) in
    ap₂ (λ (k : ℕ) (xs : List ℕ). take (length s) (drop k xs)) (sym n) (sets-eq s room start l ∙ append_assoc (take start room) s (drop (start + length s) room)) ∙ middle_back (take start room) s (drop (start + length s) room)

pub before_kept : (room : List ℕ) (start : ℕ) (s : List ℕ) (i : ℕ) → i < start → get_or (sets room start s) i 0 ≡ get_or room i 0
before_kept room start [] i l = refl
before_kept room start (b ∷ s) i l = before_kept (set room start b) (suc start) s i (omega arith) ∙ get_or-set_other room start i b 0 (λ (q : i ≡ start). omega arith)

pub behind_kept : (room : List ℕ) (start : ℕ) (s : List ℕ) (i : ℕ) → start + length s ≤ i → get_or (sets room start s) i 0 ≡ get_or room i 0
behind_kept room start [] i l = refl
behind_kept room start (b ∷ s) i l = behind_kept (set room start b) (suc start) s i (omega arith) ∙ get_or-set_other room start i b 0 (λ (q : i ≡ start). omega arith)

pub drop_kept : (room : List ℕ) (start : ℕ) (s : List ℕ) (k : ℕ) → start + length s ≤ k → drop k (sets room start s) ≡ drop k room
drop_kept room start [] k l = refl
drop_kept room start (b ∷ s) k l = drop_kept (set room start b) (suc start) s k (omega arith) ∙ drop-set-lt k room start b (omega arith)
