-- What the call says of the first rows of longer columns, which it was lent, it says of the columns cut to them (`rows_of_check`).
use mathlib.Core.Path.{◌≡◌, sym, ap, ◌∙◌}
use mathlib.Core.List.{List, ◌++◌, append-nil}
use mathlib.Core.Logic.{⊎_elim}
use Prim.Native.Nat.{ℕ, ◌≤◌, ◌<◌, min}
use native.Mathlib.Omega.{arith}
use lib.IntN.{ℤ}
use lib.ListN.{length, take, drop, length-take, drop_of_length-le}
use lib.Seq.{take_all, take_at}
use Rattle.relations.proofs.Select.{le_or}
use Rattle.express.specs.Whole.Reply.{Report}
use Rattle.demands.specs.Checks.{tables_of, Checks}
use Rattle.record_demands.specs.Records.{ChecksRows}

module _ {A : Type 0} (rows n : ℕ) (xs : List A) (e : n ≡ min rows (length xs)) where
  -- the part that is lent
  front_is : take rows xs ≡ take n xs
  front_is = ⊎_elim
      (λ (h : rows ≤ length xs). let same : rows ≡ n = omega arith in ap (λ (k : ℕ). take k xs) same)
      (λ (h : length xs < rows). take_all rows xs (omega arith) ∙ sym (take_all n xs (omega arith)))
      (le_or rows (length xs))

  -- and what came back in its place
  back_is : (ys : List A) → length ys ≡ length (take n xs) → take rows (ys ++ drop n xs) ≡ ys
  back_is ys long = ⊎_elim
      (λ (h : rows ≤ length xs). take_at ys (drop n xs) rows (omega (arith, long, length-take n xs)))
      (λ (h : length xs < rows).
      ap (λ (l : List A). take rows (ys ++ l)) (drop_of_length-le xs {i = n} (omega arith)) ∙ ap (take rows) (append-nil ys)
      ∙ take_all rows ys (omega (arith, long, length-take n xs)))
      (le_or rows (length xs))

pub rows_of_check : {s tk ts tl nk nt ns nb ks : List ℕ} {zs : List ℤ} {ls rm tk' ts' tl' nk' nt' ns' nb' ks' : List ℕ} {zs' : List ℤ} {ls' rm' : List ℕ} {r : Report} (rows a b c : ℕ)
    → a ≡ min rows (length ks) → b ≡ min rows (length zs) → c ≡ min rows (length ls)
    → length ks' ≡ length (take a ks) → length zs' ≡ length (take b zs) → length ls' ≡ length (take c ls)
    → Checks s (tables_of tk ts tl nk nt ns nb (take a ks) (take b zs) (take c ls) rm) (tables_of tk' ts' tl' nk' nt' ns' nb' ks' zs' ls' rm') r
    → ChecksRows s (tables_of tk ts tl nk nt ns nb ks zs ls rm) (tables_of tk' ts' tl' nk' nt' ns' nb' (ks' ++ drop a ks) (zs' ++ drop b zs) (ls' ++ drop c ls) rm') rows r
rows_of_check {ks = ks} {zs} {ls} {ks' = ks'} {zs'} {ls'} rows a b c e f g h i j checked = record {
  checks =
      rw (front_is rows a ks e, front_is rows b zs f, front_is rows c ls g, back_is rows a ks e ks' h, back_is rows b zs f zs' i, back_is rows c ls g ls' j)
      checked;
}
