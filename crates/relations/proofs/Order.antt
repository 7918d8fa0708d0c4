-- The comparison of natural numbers is total, and so are that of things by numbers and that of lists by their elements.
use mathlib.Core.Path.{◌≡◌, refl, sym, ◌∙◌}
use mathlib.Core.Logic.{⊎_elim}
use mathlib.Core.List.{List, [], ◌∷◌, ◌++◌}
use Prim.Native.Nat.compare
use Prim.Native.Nat.{ℕ, zero, suc, min, ◌<◌, compare, Ordering}
use native.Mathlib.Omega.{arith}
use lib.ListN.{length, drop}
use Rattle.relations.specs.Order.{then, opposite, compare_lists, Total}
use Rattle.relations.proofs.Select.{le_or}

-- ---- natural numbers
pub compare_lt : (m n : ℕ) → m < n → compare m n ≡ Ordering.lt
compare_lt m zero h = absurd (omega arith)
compare_lt zero (suc n) h = compare.zero-suc n
compare_lt (suc m) (suc n) h = compare.suc-suc m n ∙ compare_lt m n (omega arith)

pub compare_gt : (m n : ℕ) → n < m → compare m n ≡ Ordering.gt
compare_gt zero n h = absurd (omega arith)
compare_gt (suc m) zero h = compare.suc-zero m
compare_gt (suc m) (suc n) h = compare.suc-suc m n ∙ compare_gt m n (omega arith)

pub compare_refl : (n : ℕ) → compare n n ≡ Ordering.eq
compare_refl zero = compare.zero-zero
compare_refl (suc n) = compare.suc-suc n n ∙ compare_refl n

pub compare_eq : (m n : ℕ) → m ≡ n → compare m n ≡ Ordering.eq
compare_eq m n e = rw e (compare_refl n)

-- and back
pub data Compared (m n : ℕ) : Ordering → Type 0 where
  less : m < n → Compared m n Ordering.lt
  equal : m ≡ n → Compared m n Ordering.eq
  greater : n < m → Compared m n Ordering.gt

pub compared : (m n : ℕ) → Compared m n (compare m n)
compared m n =
    ⊎_elim (λ a. ⊎_elim (λ b. let e : m ≡ n = omega arith in rw (compare_eq m n e) (equal e)) (λ b. rw (compare_lt m n b) (less b)) (le_or n m))
    (λ b. rw (compare_gt m n b) (greater b)) (le_or m n)

below : {m n : ℕ} {o : Ordering} → Compared m n o → o ≡ Ordering.lt → m < n
below (less l) e = l
below (equal q) e = let z : ◌≡◌ {A = ℕ} 0 1 = cc in absurd (omega arith)
below (greater l) e = let z : ◌≡◌ {A = ℕ} 0 1 = cc in absurd (omega arith)

alike : {m n : ℕ} {o : Ordering} → Compared m n o → o ≡ Ordering.eq → m ≡ n
alike (less l) e = let z : ◌≡◌ {A = ℕ} 0 1 = cc in absurd (omega arith)
alike (equal q) e = q
alike (greater l) e = let z : ◌≡◌ {A = ℕ} 0 1 = cc in absurd (omega arith)

exchange : {m n : ℕ} {o : Ordering} → Compared m n o → opposite o ≡ compare n m
exchange {m} {n} (less l) = sym (compare_gt n m l)
exchange {m} {n} (equal q) = sym (compare_eq n m (sym q))
exchange {m} {n} (greater l) = sym (compare_lt n m l)

-- things by their numbers, where no two have one number
pub total_by : {A : Type 0} (f : A → ℕ) → ((x y : A) → f x ≡ f y → x ≡ y) → Total (λ x y. compare (f x) (f y))
total_by f one =
    record {
      exchanged = λ x y. exchange (compared (f x) (f y));
      itself = λ x. compare_refl (f x);
      same = λ x y e. one x y (alike (compared (f x) (f y)) e);
      trans = λ x y z d e. compare_lt (f x) (f z) (let a = below (compared (f x) (f y)) d in let b = below (compared (f y) (f z)) e in omega arith);
    }

pub total_numbers : Total compare
total_numbers = total_by (λ (n : ℕ). n) (λ x y e. e)

-- ---- lists

-- behind as many elements as the shorter of two lists has, their lengths decide
module _ {A : Type 0} (c : A → A → Ordering) where
  pub by_lengths : (l : ℕ) (xs ys : List A) → l ≡ min (length xs) (length ys) → compare_lists c (drop l xs) (drop l ys) ≡ compare (length xs) (length ys)
  unfolding compare_lists
  by_lengths zero [] [] e = sym compare.zero-zero
  by_lengths zero [] (y ∷ ys) e = sym (compare.zero-suc (length ys))
  by_lengths zero (x ∷ xs) [] e = sym (compare.suc-zero (length xs))
  by_lengths zero (x ∷ xs) (y ∷ ys) e = absurd (omega arith)
  by_lengths (suc l) [] ys e = absurd (omega arith)
  by_lengths (suc l) (x ∷ xs) [] e = absurd (omega arith)
  by_lengths (suc l) (x ∷ xs) (y ∷ ys) e = by_lengths l xs ys (omega arith) ∙ sym (compare.suc-suc (length xs) (length ys))

module _ {A : Type 0} (c : A → A → Ordering) (T : Total c) where
  then_opposite : (o p : Ordering) → opposite (then o p) ≡ then (opposite o) (opposite p)
  then_opposite Ordering.lt p = refl
  then_opposite Ordering.eq p = refl
  then_opposite Ordering.gt p = refl

  exchanged_lists : (xs ys : List A) → opposite (compare_lists c xs ys) ≡ compare_lists c ys xs
  unfolding compare_lists
  exchanged_lists [] [] = refl
  exchanged_lists [] (y ∷ ys) = refl
  exchanged_lists (x ∷ xs) [] = refl
  exchanged_lists (x ∷ xs) (y ∷ ys) = then_opposite (c x y) (compare_lists c xs ys) ∙ rw (T.exchanged x y, exchanged_lists xs ys)

  -- a list compares with what it begins as nothing does with the rest: it is the same as itself, and less than what it begins
  pub after_prefix : (xs ys : List A) → compare_lists c xs (xs ++ ys) ≡ compare_lists c [] ys
  unfolding compare_lists
  after_prefix [] ys = refl
  after_prefix (x ∷ xs) ys = rw (T.itself x) (after_prefix xs ys)

  itself_list : (xs : List A) → compare_lists c xs xs ≡ Ordering.eq
  unfolding compare_lists
  itself_list [] = refl
  itself_list (x ∷ xs) = rw (T.itself x) (itself_list xs)

  same_list : (xs ys : List A) → compare_lists c xs ys ≡ Ordering.eq → xs ≡ ys
  unfolding compare_lists
  same_list [] [] e = refl
  same_list [] (y ∷ ys) e = let z : ◌≡◌ {A = ℕ} 0 1 = cc in absurd (omega arith)
  same_list (x ∷ xs) [] e = let z : ◌≡◌ {A = ℕ} 0 1 = cc in absurd (omega arith)
  same_list (x ∷ xs) (y ∷ ys) e = by (c x y) refl e (λ d. same_list xs ys d)
    where
      by : (o : Ordering) → c x y ≡ o → then o (compare_lists c xs ys) ≡ Ordering.eq → (compare_lists c xs ys ≡ Ordering.eq → xs ≡ ys) → (x ∷ xs) ≡ (y ∷ ys)
      by Ordering.lt q d more = let z : ◌≡◌ {A = ℕ} 0 1 = cc in absurd (omega arith)
      by Ordering.eq q d more = rw (T.same x y q, more d)
      by Ordering.gt q d more = let z : ◌≡◌ {A = ℕ} 0 1 = cc in absurd (omega arith)

  trans_lists : (xs ys zs : List A) → compare_lists c xs ys ≡ Ordering.lt → compare_lists c ys zs ≡ Ordering.lt → compare_lists c xs zs ≡ Ordering.lt
  unfolding compare_lists
  trans_lists xs [] [] d e = let z : ◌≡◌ {A = ℕ} 0 1 = cc in absurd (omega arith)
  trans_lists xs (y ∷ ys) [] d e = let z : ◌≡◌ {A = ℕ} 0 1 = cc in absurd (omega arith)
  trans_lists [] ys (z ∷ zs) d e = refl
  trans_lists (x ∷ xs) [] (z ∷ zs) d e = let z : ◌≡◌ {A = ℕ} 0 1 = cc in absurd (omega arith)
  trans_lists (x ∷ xs) (y ∷ ys) (z ∷ zs) d e = by (c x y) (c y z) refl refl d e (λ f g. trans_lists xs ys zs f g)
    where
      by : (o p : Ordering) → c x y ≡ o → c y z ≡ p → then o (compare_lists c xs ys) ≡ Ordering.lt → then p (compare_lists c ys zs) ≡ Ordering.lt
          → (compare_lists c xs ys ≡ Ordering.lt → compare_lists c ys zs ≡ Ordering.lt → compare_lists c xs zs ≡ Ordering.lt)
          → then (c x z) (compare_lists c xs zs) ≡ Ordering.lt
      by Ordering.lt Ordering.lt q r f g more = rw (T.trans x y z q r)
      by Ordering.lt Ordering.eq q r f g more = rw (← T.same y z r, q)
      by Ordering.eq Ordering.lt q r f g more = rw (T.same x y q, r)
      by Ordering.eq Ordering.eq q r f g more = rw (T.same x y q, r) (more f g)
      by Ordering.gt p q r f g more = let z : ◌≡◌ {A = ℕ} 0 1 = cc in absurd (omega arith)
      by Ordering.lt Ordering.gt q r f g more = let z : ◌≡◌ {A = ℕ} 0 1 = cc in absurd (omega arith)
      by Ordering.eq Ordering.gt q r f g more = let z : ◌≡◌ {A = ℕ} 0 1 = cc in absurd (omega arith)

  pub total_lists : Total (compare_lists c)
  total_lists = record { exchanged = exchanged_lists; itself = itself_list; same = same_list; trans = trans_lists }
