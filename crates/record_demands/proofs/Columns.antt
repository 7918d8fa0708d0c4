-- The columns of filled records are the columns of the answers, with zeros behind.
use mathlib.Core.Path.{◌≡◌, refl, ap, ◌∙◌}
use mathlib.Core.List.{List, [], ◌∷◌, ◌++◌, map}
use Prim.Native.Nat.{ℕ, zero, suc, ◌-◌, ◌≤◌}
use native.Mathlib.Omega.{arith}
use lib.IntN.{ℤ, pos}
use lib.ListN.{length, take, replicate, length-map}
use lib.Seq.{take_all}
use Rattle.columns.specs.Column.{padded}
use Rattle.express.specs.Semantics.AnswerRow.{AnswerRow}
use Rattle.records.specs.declared.Answer.{Answer}
use Rattle.records.specs.Rows.{zeros, rows, filled}

-- a row of the definition as a record of the code
abbrev pub record_of : AnswerRow → Answer
record_of r = record { kind = r.kind; number = r.number; length = r.length }

-- ---- what f gives of each entry

module _ {A B : Type 0} (f : A → B) where
  map_append : (xs ys : List A) → map f (xs ++ ys) ≡ map f xs ++ map f ys
  map_append [] ys = refl
  map_append (x ∷ xs) ys = ap (λ (l : List B). f x ∷ l) (map_append xs ys)

  pub map_zeros : (n : ℕ) (z : A) → map f (replicate n z) ≡ replicate n (f z)
  map_zeros zero z = refl
  map_zeros (suc n) z = ap (λ (l : List B). f z ∷ l) (map_zeros n z)

  pub map_padded : (z : A) (n : ℕ) (vs : List A) → map f (padded z n vs) ≡ padded (f z) n (map f vs)
  map_padded z n vs = rw (map_append vs (replicate (n - length vs) z), map_zeros (n - length vs) z, length-map vs f)

map_records : {B : Type 0} (f : Answer → B) (xs : List AnswerRow) → map f (map record_of xs) ≡ map (λ (r : AnswerRow). f (record_of r)) xs
map_records f [] = refl
map_records {B} f (x ∷ xs) = ap (λ (l : List B). f (record_of x) ∷ l) (map_records f xs)

-- ---- the rows of columns with something behind

rows_behind : (xs : List AnswerRow) (ks : List ℕ) (ns : List ℤ) (ls : List ℕ)
    → take (length xs) (rows (map (λ (r : AnswerRow). r.kind) xs ++ ks) (map (λ (r : AnswerRow). r.number) xs ++ ns) (map (λ (r : AnswerRow). r.length) xs ++ ls)) ≡ map record_of xs
unfolding rows
rows_behind [] ks ns ls = refl
rows_behind (x ∷ xs) ks ns ls = ap (λ (l : List Answer). record_of x ∷ l) (rows_behind xs ks ns ls)

-- A FILLED SLICE of n records: the rows, which fit, and zeros behind them; m is how long the columns are
pub filled_is : (xs : List AnswerRow) (m n : ℕ) → length xs ≤ n
    → filled (padded 0 m (map (λ (r : AnswerRow). r.kind) xs)) (padded (pos 0) m (map (λ (r : AnswerRow). r.number) xs))
    (padded 0 m (map (λ (r : AnswerRow). r.length) xs)) (length xs) n ≡ padded zeros n (map record_of xs)
filled_is xs m n h =
    ap (λ (l : List Answer). padded zeros n (take n l)) (rows_behind xs _ _ _)
    ∙ ap (padded zeros n) (take_all n (map record_of xs) (omega (arith, length-map xs record_of)))

-- and a column of it
pub column_is : {B : Type 0} (f : Answer → B) (xs : List AnswerRow) (n : ℕ) → map f (padded zeros n (map record_of xs)) ≡ padded (f zeros) n (map (λ (r : AnswerRow). f (record_of r)) xs)
column_is f xs n = map_padded f zeros n (map record_of xs) ∙ ap (padded (f zeros) n) (map_records f xs)

-- ---- of the first n rows of the columns

rows_front : (n c : ℕ) (ks : List ℕ) (ns : List ℤ) (ls : List ℕ) → take n (take c (rows (take n ks) (take n ns) (take n ls))) ≡ take n (take c (rows ks ns ls))
unfolding rows
rows_front zero c ks ns ls = refl
rows_front (suc n) zero ks ns ls = refl
rows_front (suc n) (suc c) [] ns ls = refl
rows_front (suc n) (suc c) (k ∷ ks) [] ls = refl
rows_front (suc n) (suc c) (k ∷ ks) (z ∷ ns) [] = refl
rows_front (suc n) (suc c) (k ∷ ks) (z ∷ ns) (l ∷ ls) = ap (λ (rs : List Answer). record { kind = k; number = z; length = l } ∷ rs) (rows_front n c ks ns ls)

pub filled_front : (n c : ℕ) (ks : List ℕ) (ns : List ℤ) (ls : List ℕ) → filled (take n ks) (take n ns) (take n ls) c n ≡ filled ks ns ls c n
filled_front n c ks ns ls = ap (padded zeros n) (rows_front n c ks ns ls)
