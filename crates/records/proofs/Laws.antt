-- The rows of three columns, one by one; what a caller reads out of a filled slice; and the loop that fills one.
use mathlib.Core.Path.{◌≡◌, refl, sym, ap, ◌∙◌}
use mathlib.Core.List.{List, [], ◌∷◌, map}
use Prim.Native.Nat.{ℕ, zero, suc, ◌+◌, ◌≤◌, ◌<◌, min, zero-le}
use native.Mathlib.Nat.{le_antisymm}
use native.Mathlib.Numerals.{add-one, add-one-le}
use native.Mathlib.Omega.{arith}
use lib.IntN.{ℤ, pos}
use lib.ListN.{length, get_or, take, set, length-take, length-set, get_or-eq_default}
use lib.Seq.{get_or-take, take-suc, take-suc-set, take-length}
use Rattle.columns.proofs.Laws.{getD_padded, length_padded}
use Rattle.records.specs.declared.Answer.{Answer}
use Rattle.records.specs.Rows.{zeros, rows, filled}

-- ---- rows

pub length_rows : (ks : List ℕ) (ns : List ℤ) (ls : List ℕ) → length (rows ks ns ls) ≡ min (length ks) (min (length ns) (length ls))
unfolding rows
length_rows [] ns ls = omega arith
length_rows (k ∷ ks) [] ls = omega arith
length_rows (k ∷ ks) (n ∷ ns) [] = omega arith
length_rows (k ∷ ks) (n ∷ ns) (l ∷ ls) = omega (arith, length_rows ks ns ls)

pub rows_at : (ks : List ℕ) (ns : List ℤ) (ls : List ℕ) (i : ℕ) → i < length (rows ks ns ls)
    → get_or (rows ks ns ls) i zeros ≡ record { kind = get_or ks i 0; number = get_or ns i (pos 0); length = get_or ls i 0 }
unfolding rows
rows_at [] ns ls i h = absurd (omega arith)
rows_at (k ∷ ks) [] ls i h = absurd (omega arith)
rows_at (k ∷ ks) (n ∷ ns) [] i h = absurd (omega arith)
rows_at (k ∷ ks) (n ∷ ns) (l ∷ ls) zero h = refl
rows_at (k ∷ ks) (n ∷ ns) (l ∷ ls) (suc i) h = rows_at ks ns ls i (omega arith)

-- the row at an index, among the first rows and past them
module _ (ks : List ℕ) (ns : List ℤ) (ls : List ℕ) (count i : ℕ) where
  pub row_within : i < min count (min (length ks) (min (length ns) (length ls)))
      → get_or (take count (rows ks ns ls)) i zeros ≡ record { kind = get_or ks i 0; number = get_or ns i (pos 0); length = get_or ls i 0 }
  row_within h =
      get_or-take count (rows ks ns ls) i zeros (omega arith) ∙ rows_at ks ns ls i (omega (arith, length_rows ks ns ls))

  pub row_past : min count (min (length ks) (min (length ns) (length ls))) ≤ i → get_or (take count (rows ks ns ls)) i zeros ≡ zeros
  row_past h =
      get_or-eq_default (take count (rows ks ns ls)) zeros (omega (arith, length-take count (rows ks ns ls), length_rows ks ns ls))

-- the columns of some records have these records as their rows
pub rows_of_columns : (rs : List Answer) → rows (map (λ (r : Answer). r.kind) rs) (map (λ (r : Answer). r.number) rs) (map (λ (r : Answer). r.length) rs) ≡ rs
unfolding rows
rows_of_columns [] = refl
rows_of_columns (r ∷ rs) = ap (λ (l : List Answer). r ∷ l) (rows_of_columns rs)

-- ---- a filled slice: as long as it was, and at each index the table's row, or zeros

module _ (ks : List ℕ) (ns : List ℤ) (ls : List ℕ) (count n : ℕ) where
  pub length_filled : length (filled ks ns ls count n) ≡ n
  length_filled =
      length_padded zeros n (take n (take count (rows ks ns ls))) (omega (arith, length-take n (take count (rows ks ns ls))))

  pub filled_at : (i : ℕ) → i < n → get_or (filled ks ns ls count n) i zeros ≡ get_or (take count (rows ks ns ls)) i zeros
  filled_at i h = getD_padded zeros n (take n (take count (rows ks ns ls))) i ∙ get_or-take n (take count (rows ks ns ls)) i zeros h

-- ---- a loop that fills: the slice as it is and the list wanted agree on the first i records

pub record Filling (want : List Answer) (n i : ℕ) (have : List Answer) : Type 0 where
  pub within : i ≤ n
  pub long : length have ≡ n
  pub upto : take i have ≡ take i want

pub filling_starts : (want was : List Answer) → Filling want (length was) 0 was
filling_starts want was = record { within = zero-le; long = refl; upto = refl }

pub filling_goes_on : {want : List Answer} {n i : ℕ} {have : List Answer} → length want ≡ n → Filling want n i have → i < n → (r : Answer) → r ≡ get_or want i zeros → Filling want n (i + 1) (set have i r)
filling_goes_on {want} {n} {i} {have} e s h r is = record {
  within = add-one-le h;
  long = length-set have i r ∙ s.long;
  upto =
      let here : i < length have = omega (arith, s.long) in
      let there : i < length want = omega (arith, e) in
      rw (add-one, take-suc-set have i r here, take-suc want i zeros there, s.upto, is);
}

pub filling_ends : {want : List Answer} {n i : ℕ} {have : List Answer} → length want ≡ n → Filling want n i have → n ≤ i → have ≡ want
filling_ends {want} {n} {i} {have} e s h =
    let here : length have ≡ i = s.long ∙ le_antisymm h s.within in
    let there : length want ≡ i = e ∙ le_antisymm h s.within in
    sym (take-length have) ∙ ap (λ (m : ℕ). take m have) here ∙ s.upto ∙ ap (λ (m : ℕ). take m want) (sym there) ∙ take-length want
