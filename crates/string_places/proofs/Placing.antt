-- The loop over the rows: those before i are placed.
use mathlib.Core.Path.{◌≡◌, refl, sym, ap, ◌∙◌}
use mathlib.Core.Logic.{◌⊎◌, inl, inr, ⊎_elim}
use mathlib.Core.List.{List}
use Prim.Native.Nat.{ℕ, min, ◌+◌, ◌*◌, ◌^◌, ◌≤◌, ◌<◌}
use native.Mathlib.Decide.{ℕ_discrete}
use native.Mathlib.Numerals.{add-one}
use native.Mathlib.Omega.{arith}
use borrow.Author.Tests.{eq-eqb, ne_eqb}
use mir.Val.{to_z}
use mir.Syntax.{w64}
use mir.Facts.{to_z_pos}
use lib.IntN.{ℤ, pos}
use lib.ListN.{length, get_or, set, length-set}
use lib.Seq.{get_or-set_same, get_or-set_other}
use Rattle.relations.proofs.Select.{le_or}
use Rattle.string_places.specs.Places.{start_in, size_in, PlacesStrings}

start_next : (kinds lengths : List ℕ) (i : ℕ) → start_in kinds lengths (i + 1) ≡ start_in kinds lengths i + size_in kinds lengths i
unfolding start_in
start_next kinds lengths i = ap (start_in kinds lengths) (add-one i)

pub record Placing (kinds lengths : List ℕ) (was numbers : List ℤ) (start i : ℕ) : Type 0 where
  pub len : length numbers ≡ length was
  pub few : start ≤ 255 * i
  pub is : start ≡ start_in kinds lengths i
  pub strings_are : (j : ℕ) → j < i → j < length was → get_or kinds j 0 ≡ 5 → get_or numbers j (pos 0) ≡ pos (start_in kinds lengths j)
  pub rest : (j : ℕ) → (i ≤ j) ⊎ (get_or kinds j 0 ≡ 5 → ⊥) → get_or numbers j (pos 0) ≡ get_or was j (pos 0)

module _ {kinds lengths : List ℕ} {was : List ℤ} where
  pub placing_starts : Placing kinds lengths was was 0 0
  unfolding start_in
  placing_starts =
      record { len = refl; few = omega arith; is = refl; strings_are = λ j h. absurd (omega arith); rest = λ j h. refl }

  module _ {numbers : List ℤ} {start i : ℕ} (P : Placing kinds lengths was numbers start i) where
    -- a string is placed where those before it end
    pub placing_string :
        {k size : ℕ} {numbers' : List ℤ} {start' : ℕ} → i < 4294967296 → k ≡ get_or kinds i 0 → k ≡ 5 → numbers' ≡ set numbers i (to_z w64 start) → start' ≡ start + size →
        size ≡ get_or lengths i 0 → size ≤ 255 → Placing kinds lengths was numbers' start' (i + 1)
    placing_string {k} {size} {numbers'} {start'} l a b e₀ t s w =
        record {
          len = ap length e ∙ length-set numbers i (pos start) ∙ P.len;
          few = omega (arith, P.few);
          is =
              let q : size_in kinds lengths i ≡ get_or lengths i 0 = rw (eq-eqb (get_or kinds i 0) 5 (sym a ∙ b)) in
              omega (arith, P.is, s, t, q, start_next kinds lengths i);
          strings_are = λ j h m f. by j h m f (ℕ_discrete j i);
          rest = λ j o.
              let n : j ≡ i → ⊥ = λ q. ⊎_elim (λ (x : i + 1 ≤ j). omega arith) (λ (x : get_or kinds j 0 ≡ 5 → ⊥). x (ap (λ (y : ℕ). get_or kinds y 0) q ∙ sym a ∙ b)) o in
              rw e (get_or-set_other numbers i j (pos start) (pos 0) n ∙
              P.rest j (⊎_elim (λ (x : i + 1 ≤ j). inl (omega arith)) (λ (x : get_or kinds j 0 ≡ 5 → ⊥). inr x) o));
        }
      where
        small : start < 2 ^ 63
        small = omega (arith, P.few)

        e : numbers' ≡ set numbers i (pos start)
        e = e₀ ∙ ap (set numbers i) (to_z_pos w64 small)

        by : (j : ℕ) → j < i + 1 → j < length was → get_or kinds j 0 ≡ 5 → Dec (j ≡ i) → get_or numbers' j (pos 0) ≡ pos (start_in kinds lengths j)
        by j h m f (yes q) =
            ap (λ (xs : List ℤ). get_or xs j (pos 0)) e ∙ ap (λ (y : ℕ). get_or (set numbers i (pos start)) y (pos 0)) q ∙
            get_or-set_same numbers i (pos start) (pos 0) (omega (arith, P.len)) ∙ ap pos P.is ∙ ap (λ (y : ℕ). pos (start_in kinds lengths y)) (sym q)
        by j h m f (no q) = rw e (get_or-set_other numbers i j (pos start) (pos 0) q ∙ P.strings_are j (omega arith) m f)

    -- a row of another kind takes nothing
    pub placing_other :
        {k : ℕ} {numbers' : List ℤ} {start' : ℕ} → k ≡ get_or kinds i 0 → (k ≡ 5 → ⊥) → numbers' ≡ numbers → start' ≡ start → Placing kinds lengths was numbers' start' (i + 1)
    placing_other {k} {numbers'} {start'} a b e t =
        record {
          len = ap length e ∙ P.len;
          few = omega (arith, P.few);
          is =
              let q : size_in kinds lengths i ≡ 0 = rw (ne_eqb (get_or kinds i 0) 5 other) in
              omega (arith, P.is, t, q, start_next kinds lengths i);
          strings_are = λ j h m f. rw e (P.strings_are j (⊎_elim (λ (x : i ≤ j). let q : j ≡ i = omega arith in absurd (other (ap (λ (y : ℕ). get_or kinds y 0) (sym q) ∙ f))) (λ (x : j < i). x) (le_or i j)) m f);
          rest = λ j o. rw e (P.rest j (⊎_elim (λ (x : i + 1 ≤ j). inl (omega arith)) (λ (x : get_or kinds j 0 ≡ 5 → ⊥). inr x) o));
        }
      where
        other : get_or kinds i 0 ≡ 5 → ⊥
        other q = b (a ∙ q)

  pub placing_ends :
      {numbers : List ℤ} {start i end rows : ℕ} → Placing kinds lengths was numbers start i → i ≤ end → end ≤ i → end ≡ min rows 4294967296 →
      PlacesStrings kinds was lengths rows numbers start
  placing_ends {numbers} {start} {i} {end} {rows} P u l e =
      record {
        needs = λ h. let q : i ≡ rows = omega arith in P.is ∙ ap (start_in kinds lengths) q;
        strings_are = λ h j a. P.strings_are j (omega arith);
        rest = λ j o. P.rest j (⊎_elim (λ (x : rows ≤ j). inl (omega arith)) (λ (x : get_or kinds j 0 ≡ 5 → ⊥). inr x) o);
      }
