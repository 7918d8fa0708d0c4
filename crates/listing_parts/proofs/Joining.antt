-- What a part leaves in the buffer up to its end, and what is then to come, is what was to come (`part_joins`, `first_joins`), for a part stops between two lines.
use mathlib.Core.Path.{◌≡◌, refl, sym, ap, ◌∙◌, subst}
use mathlib.Core.List.{List, ◌++◌, append_assoc}
use mathlib.Core.Logic.{⊎_elim}
use Prim.Native.Nat.{ℕ, zero, suc, ◌+◌, ◌*◌, ◌-◌, ◌≤◌, ◌<◌}
use native.Mathlib.Omega.{arith}
use borrow.Author.Tests.{le-leb, lt-leb}
use lib.ListN.{length, get_or, take, drop, length-append}
use lib.Seq.{sets, sets-eq, length-sets, length-take-le, take_at}
use Rattle.columns.proofs.Laws.{sets_append, take_sets}
use Rattle.relations.proofs.Select.{le_or}
use Rattle.express.specs.Syntax.Tree.{Table}
use Rattle.records.specs.declared.Answer.{Answer}
use Rattle.records.specs.Rows.{zeros}
use Rattle.lines.proofs.Lengths.{line_short}
use Rattle.listing_parts.specs.declared.Place.{Place}
use Rattle.listing_parts.specs.Parts.{head_line, next, after, next_line, lines_from, part_end, Parts, FirstPart}
use Rattle.listing_parts.proofs.Parting.{step, end_step}

-- the front of a list up to the end of what is stored in it
take_stored : (c : List ℕ) (at : ℕ) (vs : List ℕ) → at + length vs ≤ length c → take (at + length vs) (sets c at vs) ≡ take at c ++ vs
take_stored c at vs h =
    let front = take at c ++ vs in
    let long : length front ≡ at + length vs = omega (arith, length-append (take at c) vs, length-take-le at c (omega arith)) in
    ap (take (at + length vs)) (sets-eq vs c at h) ∙ take_at front (drop (at + length vs) c) (at + length vs) long

module _ (t : Table) (room : List ℕ) (rs : List Answer) (constants : ℕ) where
  -- what is to come from a place on
  abbrev pub to_come : Place → List ℕ
  to_come p = lines_from t room rs p.line p.node (constants - p.line)

  -- d lines are to come from the place p on, and c is the buffer
  abbrev Joins : ℕ → List ℕ → Place → Place → Type 0
  Joins d c p r = take r.at (sets c p.at (lines_from t room rs p.line p.node d)) ++ to_come r ≡ take p.at c ++ lines_from t room rs p.line p.node d

  joins : (d : ℕ) (c : List ℕ) (p : Place) → d ≡ constants - p.line → p.at ≤ length c → Joins d c p (part_end t room rs (length c) d p)
  unfolding lines_from part_end
  joins zero c p e h = rw (← e)
  joins (suc d) c p e h = ⊎_elim
      (λ (fits : q.at ≤ length c).
      let more : Joins d (sets c p.at line) q (part_end t room rs (length c) d q) =
      subst (λ (m : ℕ). Joins d (sets c p.at line) q (part_end t room rs m d q)) (length-sets c p.at line)
      (joins d (sets c p.at line) q (omega arith) (omega (arith, fits, length-sets c p.at line))) in
      rw (le-leb q.at (length c) fits, sets_append c p.at line later)
      (more ∙ ap (λ (l : List ℕ). l ++ later) (take_stored c p.at line fits) ∙ append_assoc (take p.at c) line later))
      (λ (over : length c < q.at).
      rw (lt-leb q.at (length c) over, ← e, take_sets p.at c p.at (line ++ later) (omega arith)))
      (le_or q.at (length c))
    where
      q : Place
      q = step t room rs constants p

      line : List ℕ
      line = next_line t room rs p.line p.node

      later : List ℕ
      later = lines_from t room rs (p.line + 1) (after t p.node) d

  pub part_joins : {was have : List ℕ} {p r : Place} → p.at ≤ length was → Parts t room rs constants was p have r
      → take r.at have ++ to_come r ≡ take p.at was ++ to_come p
  part_joins {was} {have} {p} {r} h q = rw (q.is, q.ends) (joins (constants - p.line) was p refl h)

  -- of the first part, where the first line fits
  pub first_joins : (reply number : ℕ) {was have : List ℕ} {r : Place} → length (head_line reply number constants) ≤ length was
      → FirstPart t room rs reply number constants was have r
      → take r.at have ++ to_come r ≡ head_line reply number constants ++ lines_from t room rs 0 0 constants
  first_joins reply number {was} {have} {r} h q =
      behind (head_line reply number constants) h q.is (q.ends ∙ rw (le-leb (length (head_line reply number constants)) (length was) h))
    where
      behind : (head : List ℕ) → length head ≤ length was → have ≡ sets was 0 (head ++ lines_from t room rs 0 0 constants)
          → r ≡ part_end t room rs (length was) constants (record { at = length head; line = 0; node = 0 }) → take r.at have ++ to_come r ≡ head ++ lines_from t room rs 0 0 constants
      behind head h is ends =
          let same : 0 + length head ≡ length head = omega arith in
          let long : length (sets was 0 head) ≡ length was = length-sets was 0 head in
          let more = joins constants (sets was 0 head) (record { at = length head; line = 0; node = 0 }) (omega arith) (omega (arith, long)) in
          let now : have ≡ sets (sets was 0 head) (length head) (lines_from t room rs 0 0 constants) =
          is ∙ sets_append was 0 head (lines_from t room rs 0 0 constants) ∙ ap (λ (k : ℕ). sets (sets was 0 head) k (lines_from t room rs 0 0 constants)) same in
          rw (now, ends, ← long)
          (more ∙ ap (λ (l : List ℕ). l ++ lines_from t room rs 0 0 constants) (ap (λ (k : ℕ). take k (sets was 0 head)) (sym same) ∙ take_stored was 0 head (omega arith)))

  -- ---- a buffer that holds any line: each part has a line more

  end_rises : (m d : ℕ) (p : Place) → p.line ≤ (part_end t room rs m d p).line
  unfolding part_end
  end_rises m zero p = omega arith
  end_rises m (suc d) p = ⊎_elim
      (λ (fits : (step t room rs constants p).at ≤ m).
      rw (le-leb (step t room rs constants p).at m fits) (omega (arith, end_rises m d (step t room rs constants p))))
      (λ (over : m < (step t room rs constants p).at). rw (lt-leb (step t room rs constants p).at m over) (omega arith))
      (le_or (step t room rs constants p).at m)

  pub part_rises : {was have : List ℕ} {p r : Place} → (get_or rs p.line zeros).length < 256 → p.at ≡ 0 → p.line < constants
      → 3 * length t.bytes + 600 ≤ length was → Parts t room rs constants was p have r → p.line < r.line
  part_rises {was} {have} {p} {r} byte e h fits q =
      let short = line_short t room (next t p.node) (get_or rs p.line zeros) byte in
      let on : r ≡ part_end t room rs (length was) (constants - (p.line + 1)) (step t room rs constants p) =
      q.ends ∙ end_step t room rs constants (length was) p h (omega (arith, short, fits, e)) in
      rw on (omega (arith, end_rises (length was) (constants - (p.line + 1)) (step t room rs constants p)))
