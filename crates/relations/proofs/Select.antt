-- Laws of rows of numbers and of lists kept by a test.
use mathlib.Core.Path.{◌≡◌, refl, sym, ap, ◌∙◌}
use mathlib.Core.Logic.{◌↔◌, ◌⊎◌, inl, inr, ⊎_elim}
use mathlib.Core.Bool.{Bool, true, false, cond, ◌&&◌, ◌||◌, false≢true, and-eq-true_iff}
use mathlib.Core.List.{List, [], ◌∷◌, ◌++◌, map, flat_map, Memᴰ}
use Prim.Native.Nat.{ℕ, zero, suc, ◌+◌, ◌-◌, ◌≤◌, ◌<◌}
use native.Mathlib.Numerals.{add-one}
use native.Mathlib.Omega.{arith}
use borrow.Author.Tests.{ltb-true, ltb-false, lt-ltb, le-ltb, leb-true, le-leb, lt-leb, eqb-true, eq-eqb, ne_eqb}
use lib.Dec.{ltb, leb, eqb}
use lib.ListN.{length, get_or, length-append}
use lib.Seq.{get_or-append_seam}
use Rattle.relations.specs.Select.{span, first_from, keep, any, nearest, Ascending, nil, cons}

-- tests
pub and_fst : (a b : Bool) → a && b ≡ true → a ≡ true
and_fst a b e = ((and-eq-true_iff a b).0 e).0

pub and_snd : (a b : Bool) → a && b ≡ true → b ≡ true
and_snd a b e = ((and-eq-true_iff a b).0 e).1

pub and_both : (a b : Bool) → a ≡ true → b ≡ true → a && b ≡ true
and_both a b e f = rw (e, f)

pub or_cases : (a b : Bool) → a || b ≡ true → (a ≡ true) ⊎ (b ≡ true)
or_cases true b e = inl refl
or_cases false b e = inr e

pub or_left : (a b : Bool) → a ≡ true → a || b ≡ true
or_left a b e = rw e

pub or_right : (a b : Bool) → b ≡ true → a || b ≡ true
or_right true b e = refl
or_right false b e = e

-- a test that fails, from what follows were it to pass
pub untrue : (b : Bool) → (b ≡ true → ⊥) → b ≡ false
untrue true h = absurd (h refl)
untrue false h = refl

pub le_or : (a b : ℕ) → (a ≤ b) ⊎ (b < a)
le_or a b = by (a - b) refl
  where
    by : (d : ℕ) → a - b ≡ d → (a ≤ b) ⊎ (b < a)
    by zero e = inl (omega arith)
    by (suc d) e = inr (omega arith)

-- rows of numbers, in one step: as a loop that runs backward has them
pub span_step : (n i : ℕ) → i < n → span i (n - i) ≡ i ∷ span (i + 1) (n - (i + 1))
unfolding span
span_step n i h = let e : n - i ≡ suc (n - (i + 1)) = omega arith in rw (e, add-one)

pub span_end : (n i : ℕ) → n ≤ i → span i (n - i) ≡ []
unfolding span
span_end n i h = let e : n - i ≡ 0 = omega arith in rw e

pub mem_span : (i d k : ℕ) → i ≤ k → k < i + d → Memᴰ k (span i d)
unfolding span
mem_span i zero k lo hi = absurd (omega arith)
mem_span i (suc d) k lo hi = by (k - i) refl (λ a. mem_span (suc i) d k a (omega arith))
  where
    by : (j : ℕ) → k - i ≡ j → (suc i ≤ k → Memᴰ k (span (suc i) d)) → Memᴰ k (i ∷ span (suc i) d)
    by zero e more = let q : k ≡ i = omega arith in mathlib.Core.List.Memᴰ.head q
    by (suc j) e more = mathlib.Core.List.Memᴰ.tail (more (omega arith))

pub span_mem : (i d k : ℕ) → Memᴰ k (span i d) → (i ≤ k) × (k < i + d)
unfolding span
span_mem i zero k m = absurd (mathlib.Core.List.Memᴰ.not-nil m)
span_mem i (suc d) k m =
    ⊎_elim (λ (e : k ≡ i). (omega arith, omega arith))
    (λ m'. let r = span_mem (suc i) d k m' in (omega arith, omega arith)) (mathlib.Core.List.Memᴰ.cases_cons m)

pub mem_upto : (n k : ℕ) → k < n → Memᴰ k (span 0 n)
mem_upto n k h = mem_span 0 n k (omega arith) (omega arith)

pub upto_mem : (n k : ℕ) → Memᴰ k (span 0 n) → k < n
upto_mem n k m = let r = span_mem 0 n k m in omega arith

-- the first that passes
pub first_step : (p : ℕ → Bool) (n i : ℕ) → i < n → first_from p i (n - i) ≡ cond (p i) i (first_from p (i + 1) (n - (i + 1)))
unfolding first_from
first_step p n i h = let e : n - i ≡ suc (n - (i + 1)) = omega arith in rw (e, add-one)

pub first_end : (p : ℕ → Bool) (n i : ℕ) → n ≤ i → first_from p i (n - i) ≡ i
unfolding first_from
first_end p n i h = let e : n - i ≡ 0 = omega arith in rw e

-- where it stands: none before it passes, and it passes itself, unless it is the number after them
pub record First (p : ℕ → Bool) (i d k : ℕ) : Type 0 where
  pub from : i ≤ k
  pub upto : k ≤ i + d
  pub none : (j : ℕ) → i ≤ j → j < k → p j ≡ false
  pub passes : k < i + d → p k ≡ true

pub first_is : (p : ℕ → Bool) (i d : ℕ) → First p i d (first_from p i d)
unfolding first_from
first_is p i zero = record { from = omega arith; upto = omega arith; none = λ j a b. absurd (omega arith); passes = λ a. absurd (omega arith) }
first_is p i (suc d) = by (p i) refl (first_is p (suc i) d)
  where
    by : (b : Bool) → p i ≡ b → First p (suc i) d (first_from p (suc i) d) → First p i (suc d) (cond b i (first_from p (suc i) d))
    by true e F = record { from = omega arith; upto = omega arith; none = λ j a b. absurd (omega arith); passes = λ a. e }
    by false e F = record { from = omega (arith, F.from); upto = omega (arith, F.upto); none = below; passes = λ a. F.passes (omega arith) }
      where
        at : (j k : ℕ) → i ≤ j → j < first_from p (suc i) d → j - i ≡ k → p j ≡ false
        at j zero a b z = let q : j ≡ i = omega arith in rw q e
        at j (suc k) a b z = F.none j (omega arith) b

        below : (j : ℕ) → i ≤ j → j < first_from p (suc i) d → p j ≡ false
        below j a b = at j (j - i) a b refl

-- so a number is the first if it passes and none before it does
pub first_of : (p : ℕ → Bool) (n i k : ℕ) → i ≤ k → k < n → p k ≡ true → ((j : ℕ) → i ≤ j → j < k → p j ≡ false) → first_from p i (n - i) ≡ k
first_of p n i k lo hi hit none = by (first_is p i (n - i))
  where
    by : First p i (n - i) (first_from p i (n - i)) → first_from p i (n - i) ≡ k
    by F =
        let f = first_from p i (n - i) in
        let l = F.from in
        ⊎_elim
        (λ (a : f ≤ k). ⊎_elim (λ (b : k ≤ f). omega arith) (λ (b : f < k). absurd (false≢true (sym (none f l b) ∙ F.passes (omega arith)))) (le_or k f))
        (λ (a : k < f). absurd (false≢true (sym (F.none k lo a) ∙ hit))) (le_or f k)

-- a column made of them, at one place
column_from : (f : ℕ → ℕ) (i d k : ℕ) → k < d → get_or (map f (span i d)) k 0 ≡ f (i + k)
unfolding span
column_from f i zero k h = absurd (omega arith)
column_from f i (suc d) zero h = let q : i ≡ i + 0 = omega arith in ap f q
column_from f i (suc d) (suc k) h = let q : suc i + k ≡ i + suc k = omega arith in column_from f (suc i) d k (omega arith) ∙ ap f q

pub column_at : (f : ℕ → ℕ) (n k : ℕ) → k < n → get_or (map f (span 0 n)) k 0 ≡ f k
column_at f n k h = let q : 0 + k ≡ k = omega arith in column_from f 0 n k h ∙ ap f q

module _ {A : Type 0} where
  pub keep_cons : (p : A → Bool) (x : A) (xs : List A) → keep p (x ∷ xs) ≡ cond (p x) (x ∷ keep p xs) (keep p xs)
  unfolding keep
  keep_cons p x xs = refl

  -- what is kept: what is there and passes
  pub keep_mem : (p : A → Bool) (xs : List A) {x : A} → Memᴰ x (keep p xs) → Memᴰ x xs × (p x ≡ true)
  unfolding keep
  keep_mem p [] m = absurd (mathlib.Core.List.Memᴰ.not-nil m)
  keep_mem p (y ∷ ys) {x} m = by (p y) refl m (λ m'. keep_mem p ys m')
    where
      by : (b : Bool) → p y ≡ b → Memᴰ x (cond b (y ∷ keep p ys) (keep p ys)) → (Memᴰ x (keep p ys) → Memᴰ x ys × (p x ≡ true)) → Memᴰ x (y ∷ ys) × (p x ≡ true)
      by true e m more =
          ⊎_elim (λ q. (mathlib.Core.List.Memᴰ.head q, ap p q ∙ e)) (λ m'. let r = more m' in (mathlib.Core.List.Memᴰ.tail r.0, r.1)) (mathlib.Core.List.Memᴰ.cases_cons m)
      by false e m more = let r = more m in (mathlib.Core.List.Memᴰ.tail r.0, r.1)

  pub mem_keep : (p : A → Bool) (xs : List A) {x : A} → Memᴰ x xs → p x ≡ true → Memᴰ x (keep p xs)
  unfolding keep
  mem_keep p [] m h = absurd (mathlib.Core.List.Memᴰ.not-nil m)
  mem_keep p (y ∷ ys) {x} m h = by (p y) refl (mathlib.Core.List.Memᴰ.cases_cons m) (λ m'. mem_keep p ys m' h)
    where
      by : (b : Bool) → p y ≡ b → (x ≡ y) ⊎ Memᴰ x ys → (Memᴰ x ys → Memᴰ x (keep p ys)) → Memᴰ x (cond b (y ∷ keep p ys) (keep p ys))
      by true e (inl q) more = mathlib.Core.List.Memᴰ.head q
      by true e (inr m') more = mathlib.Core.List.Memᴰ.tail (more m')
      by false e (inl q) more = absurd (false≢true (sym e ∙ ap p (sym q) ∙ h))
      by false e (inr m') more = more m'

  pub any_mem : (p : A → Bool) (xs : List A) → any p xs ≡ true → (x : A) × Memᴰ x xs × (p x ≡ true)
  unfolding any
  any_mem p [] h = absurd (false≢true h)
  any_mem p (y ∷ ys) h =
      ⊎_elim (λ e. (y, mathlib.Core.List.Memᴰ.head refl, e)) (λ e. let r = any_mem p ys e in (r.0, mathlib.Core.List.Memᴰ.tail r.1, r.2)) (or_cases (p y) (any p ys) h)

  pub mem_any : (p : A → Bool) (xs : List A) {x : A} → Memᴰ x xs → p x ≡ true → any p xs ≡ true
  unfolding any
  mem_any p [] m h = absurd (mathlib.Core.List.Memᴰ.not-nil m)
  mem_any p (y ∷ ys) m h =
      ⊎_elim (λ q. or_left (p y) (any p ys) (ap p (sym q) ∙ h)) (λ m'. or_right (p y) (any p ys) (mem_any p ys m' h)) (mathlib.Core.List.Memᴰ.cases_cons m)

  -- where more pass, no fewer are kept; and more, if one more does
  pub keep_le : (p q : A → Bool) (xs : List A) → ((x : A) → Memᴰ x xs → p x ≡ true → q x ≡ true) → length (keep p xs) ≤ length (keep q xs)
  unfolding keep
  keep_le p q [] h = omega arith
  keep_le p q (x ∷ xs) h = by (p x) (q x) refl refl (keep_le p q xs (λ y m. h y (mathlib.Core.List.Memᴰ.tail m)))
    where
      by : (b c : Bool) → p x ≡ b → q x ≡ c → length (keep p xs) ≤ length (keep q xs) → length (cond b (x ∷ keep p xs) (keep p xs)) ≤ length (cond c (x ∷ keep q xs) (keep q xs))
      by true true e f l = omega arith
      by true false e f l = absurd (false≢true (sym f ∙ h x (mathlib.Core.List.Memᴰ.head refl) e))
      by false true e f l = omega arith
      by false false e f l = l

  pub keep_lt : (p q : A → Bool) (xs : List A) → ((x : A) → Memᴰ x xs → p x ≡ true → q x ≡ true) → {y : A} → Memᴰ y xs → p y ≡ false → q y ≡ true → length (keep p xs) < length (keep q xs)
  unfolding keep
  keep_lt p q [] h m f g = absurd (mathlib.Core.List.Memᴰ.not-nil m)
  keep_lt p q (x ∷ xs) h {y} m f g =
      by (p x) (q x) refl refl (mathlib.Core.List.Memᴰ.cases_cons m) (keep_le p q xs (λ z m. h z (mathlib.Core.List.Memᴰ.tail m)))
      (λ m'. keep_lt p q xs (λ z m. h z (mathlib.Core.List.Memᴰ.tail m)) m' f g)
    where
      by : (b c : Bool) → p x ≡ b → q x ≡ c → (y ≡ x) ⊎ Memᴰ y xs → length (keep p xs) ≤ length (keep q xs) → (Memᴰ y xs → length (keep p xs) < length (keep q xs))
          → length (cond b (x ∷ keep p xs) (keep p xs)) < length (cond c (x ∷ keep q xs) (keep q xs))
      by true true e e' (inl s) l more = absurd (false≢true (sym f ∙ ap p s ∙ e))
      by true true e e' (inr m') l more = let r = more m' in omega arith
      by true false e e' s l more = absurd (false≢true (sym e' ∙ h x (mathlib.Core.List.Memᴰ.head refl) e))
      by false true e e' s l more = omega arith
      by false false e e' (inl s) l more = absurd (false≢true (sym e' ∙ ap q (sym s) ∙ g))
      by false false e e' (inr m') l more = more m'

  pub keep_short : (p : A → Bool) (xs : List A) → length (keep p xs) ≤ length xs
  unfolding keep
  keep_short p [] = omega arith
  keep_short p (x ∷ xs) = by (p x) (keep_short p xs)
    where
      by : (b : Bool) → length (keep p xs) ≤ length xs → length (cond b (x ∷ keep p xs) (keep p xs)) ≤ suc (length xs)
      by true l = omega arith
      by false l = omega arith

-- what is in one of the lists
module _ {A B : Type 0} (f : A → List B) where
  pub flat_mem : (xs : List A) {y : B} → Memᴰ y (flat_map f xs) → (x : A) × Memᴰ x xs × Memᴰ y (f x)
  unfolding flat_map
  flat_mem [] m = absurd (mathlib.Core.List.Memᴰ.not-nil m)
  flat_mem (x ∷ xs) m =
      ⊎_elim (λ l. (x, mathlib.Core.List.Memᴰ.head refl, l)) (λ l. let r = flat_mem xs l in (r.0, mathlib.Core.List.Memᴰ.tail r.1, r.2)) (mathlib.Core.List.Memᴰ.append_cases (f x) m)

  pub mem_flat : (xs : List A) {x : A} {y : B} → Memᴰ x xs → Memᴰ y (f x) → Memᴰ y (flat_map f xs)
  unfolding flat_map
  mem_flat [] m l = absurd (mathlib.Core.List.Memᴰ.not-nil m)
  mem_flat (z ∷ zs) {x} {y} m l =
      ⊎_elim (λ q. let l' : Memᴰ y (f z) = rw q at l in mathlib.Core.List.Memᴰ.append_left (flat_map f zs) l') (λ m'. mathlib.Core.List.Memᴰ.append_right (f z) (mem_flat zs m' l)) (mathlib.Core.List.Memᴰ.cases_cons m)

-- ---- the nearer of two lists
module _ {A : Type 0} where
  pub nearest_mem : (xs ys : List A) (x : A) → Memᴰ x (nearest xs ys) ↔ (Memᴰ x xs ⊎ ((xs ≡ []) × Memᴰ x ys))
  nearest_mem [] ys x = (λ m. inr (refl, m), λ s. ⊎_elim (λ m. absurd (mathlib.Core.List.Memᴰ.not-nil m)) (λ r. r.1) s)
  nearest_mem (y ∷ xs) ys x = (λ m. inl m, λ s. ⊎_elim (λ m. m) (λ r. absurd (mathlib.Core.List.Memᴰ.not-nil (rw r.0 at (there y xs)))) s)
    where
      there : (y : A) (xs : List A) → Memᴰ y (y ∷ xs)
      there y xs = mathlib.Core.List.Memᴰ.head refl

-- ---- numbers that rise
pub ascending_from : {lo : ℕ} {ns : List ℕ} → Ascending lo ns → (m : ℕ) → Memᴰ m ns → lo ≤ m
ascending_from nil m h = absurd (mathlib.Core.List.Memᴰ.not-nil h)
ascending_from (cons {n = n} a r) m h =
    ⊎_elim (λ (q : m ≡ n). omega arith) (λ h'. let z = ascending_from r m h' in omega arith) (mathlib.Core.List.Memᴰ.cases_cons h)

pub ascending_lower : {lo j : ℕ} {ns : List ℕ} → lo ≤ j → Ascending j ns → Ascending lo ns
ascending_lower l nil = nil
ascending_lower {lo} l (cons {n = n} a r) = let c : lo ≤ n = omega arith in cons c r

pub ascending_span : (i d : ℕ) → Ascending i (span i d)
unfolding span
ascending_span i zero = nil
ascending_span i (suc d) = cons {lo = i} {n = i} (omega arith) (ascending_span (suc i) d)

pub ascending_append : {lo hi : ℕ} {ms ns : List ℕ} → Ascending lo ms → ((m : ℕ) → Memᴰ m ms → m < hi) → lo ≤ hi → Ascending hi ns → Ascending lo (ms ++ ns)
ascending_append nil h l r = ascending_lower l r
ascending_append (cons {n = n} a x) h l r = cons a (ascending_append x (λ m i. h m (mathlib.Core.List.Memᴰ.tail i)) (let z = h n (mathlib.Core.List.Memᴰ.head refl) in z) r)

pub ascending_keep : (p : ℕ → Bool) {lo : ℕ} {ns : List ℕ} → Ascending lo ns → Ascending lo (keep p ns)
unfolding keep
ascending_keep p nil = nil
ascending_keep p (cons {lo} {n} {ns} a r) = by (p n) (ascending_keep p r)
  where
    by : (b : Bool) → Ascending (suc n) (keep p ns) → Ascending lo (cond b (n ∷ keep p ns) (keep p ns))
    by true x = cons a x
    by false x = ascending_lower (omega arith) x

pub ascending_nearest : {lo : ℕ} (xs ys : List ℕ) → Ascending lo xs → Ascending lo ys → Ascending lo (nearest xs ys)
ascending_nearest [] ys a b = b
ascending_nearest (x ∷ xs) ys a b = a

-- ---- what is kept of numbers in a row, by the first that passes and what comes after it
keep_first_in :
    (p : ℕ → Bool) (i d : ℕ) →
    keep p (span i d) ≡ cond (ltb (first_from p i d) (i + d)) (first_from p i d ∷ keep p (span (suc (first_from p i d)) (i + d - suc (first_from p i d)))) []
unfolding keep span first_from
keep_first_in p i zero = rw (le-ltb i (i + 0) (omega arith))
keep_first_in p i (suc d) = by (p i) refl (keep_first_in p (suc i) d)
  where
    by : (b : Bool) → p i ≡ b
        → keep p (span (suc i) d)
        ≡ cond (ltb (first_from p (suc i) d) (suc i + d)) (first_from p (suc i) d ∷ keep p (span (suc (first_from p (suc i) d)) (suc i + d - suc (first_from p (suc i) d)))) []
        → cond b (i ∷ keep p (span (suc i) d)) (keep p (span (suc i) d))
        ≡ cond (ltb (cond b i (first_from p (suc i) d)) (i + suc d))
        (cond b i (first_from p (suc i) d) ∷ keep p (span (suc (cond b i (first_from p (suc i) d))) (i + suc d - suc (cond b i (first_from p (suc i) d))))) []
    by true e more = let q : i + suc d - suc i ≡ d = omega arith in rw (lt-ltb i (i + suc d) (omega arith), q)
    by false e more = let q : suc i + d ≡ i + suc d = omega arith in rw (← q) more

pub keep_first :
    (p : ℕ → Bool) (n i : ℕ) → i ≤ n →
    keep p (span i (n - i)) ≡
    cond (ltb (first_from p i (n - i)) n) (first_from p i (n - i) ∷ keep p (span (first_from p i (n - i) + 1) (n - (first_from p i (n - i) + 1)))) []
keep_first p n i l = let q : i + (n - i) ≡ n = omega arith in rw add-one (rw q at (keep_first_in p i (n - i)))

-- ---- tests that agree on what is there
module _ {A : Type 0} where
  pub keep_same : (p q : A → Bool) (xs : List A) → ((x : A) → Memᴰ x xs → p x ≡ q x) → keep p xs ≡ keep q xs
  unfolding keep
  keep_same p q [] h = refl
  keep_same p q (x ∷ xs) h = rw (h x (mathlib.Core.List.Memᴰ.head refl), keep_same p q xs (λ y m. h y (mathlib.Core.List.Memᴰ.tail m)))

  pub any_same : (p q : A → Bool) (xs : List A) → ((x : A) → Memᴰ x xs → p x ≡ q x) → any p xs ≡ any q xs
  unfolding any
  any_same p q [] h = refl
  any_same p q (x ∷ xs) h = rw (h x (mathlib.Core.List.Memᴰ.head refl), any_same p q xs (λ y m. h y (mathlib.Core.List.Memᴰ.tail m)))

  pub keep_append : (p : A → Bool) (xs ys : List A) → keep p (xs ++ ys) ≡ keep p xs ++ keep p ys
  unfolding keep
  keep_append p [] ys = refl
  keep_append p (x ∷ xs) ys = by (p x) (keep_append p xs ys)
    where
      by : (b : Bool) → keep p (xs ++ ys) ≡ keep p xs ++ keep p ys → cond b (x ∷ keep p (xs ++ ys)) (keep p (xs ++ ys)) ≡ cond b (x ∷ keep p xs) (keep p xs) ++ keep p ys
      by true e = ap (λ (l : List A). x ∷ l) e
      by false e = e

  pub keep_nothing : (p : A → Bool) (xs : List A) → ((x : A) → Memᴰ x xs → p x ≡ false) → keep p xs ≡ []
  unfolding keep
  keep_nothing p [] h = refl
  keep_nothing p (x ∷ xs) h = rw (h x (mathlib.Core.List.Memᴰ.head refl)) (keep_nothing p xs (λ y m. h y (mathlib.Core.List.Memᴰ.tail m)))

-- whether one of some numbers in a row passes, by the first that does
pub any_first : (p : ℕ → Bool) (n i : ℕ) → i ≤ n → any p (span i (n - i)) ≡ ltb (first_from p i (n - i)) n
any_first p n i l = by (ltb (first_from p i (n - i)) n) refl
  where
    k : ℕ
    k = first_from p i (n - i)

    by : (b : Bool) → ltb k n ≡ b → any p (span i (n - i)) ≡ b
    by true e =
        let F = first_is p i (n - i) in
        let h = ltb-true k n e in
        mem_any p (span i (n - i)) (mem_span i (n - i) k F.from (omega arith)) (F.passes (omega arith))
    by false e =
        untrue (any p (span i (n - i)))
        (λ t.
        let F = first_is p i (n - i) in
        let r = any_mem p (span i (n - i)) t in
        let b = span_mem i (n - i) r.0 r.1 in
        let h = ltb-false k n e in
        false≢true (sym (F.none r.0 b.0 (omega arith)) ∙ r.2))

-- what is first from a later number on is no earlier
pub first_rises : (p : ℕ → Bool) (n i j : ℕ) → i ≤ j → j ≤ n → first_from p i (n - i) ≤ first_from p j (n - j)
first_rises p n i j l h = ⊎_elim (λ a. a) (λ a. absurd (no a)) (le_or (first_from p i (n - i)) (first_from p j (n - j)))
  where
    F : First p i (n - i) (first_from p i (n - i))
    F = first_is p i (n - i)

    G : First p j (n - j) (first_from p j (n - j))
    G = first_is p j (n - j)

    no : first_from p j (n - j) < first_from p i (n - i) → ⊥
    no a =
        let u = F.upto in
        let e = G.passes (omega arith) in
        let b = G.from in
        false≢true (sym (F.none (first_from p j (n - j)) (omega arith) a) ∙ e)

-- numbers in a row, in two parts
pub span_append : (i d e : ℕ) → span i (d + e) ≡ span i d ++ span (i + d) e
unfolding span
span_append i zero e = let a : 0 + e ≡ e = omega arith in let b : i + 0 ≡ i = omega arith in rw (a, b)
span_append i (suc d) e =
    let a : suc d + e ≡ suc (d + e) = omega arith in
    let b : i + suc d ≡ suc i + d = omega arith in
    rw (a, b) (ap (λ (l : List ℕ). i ∷ l) (span_append (suc i) d e))

-- ---- what is kept, part by part: where a number of each rises along the list, the parts by that number stand one after the other
module _ (p : ℕ → Bool) (f : ℕ → ℕ) where
  -- f rises along a list, from lo on
  pub data Climbs : ℕ → List ℕ → Type 0 where
    flat : {lo : ℕ} → Climbs lo []
    climb : {lo x : ℕ} {xs : List ℕ} → lo ≤ f x → Climbs (f x) xs → Climbs lo (x ∷ xs)

  climbs_from : {lo : ℕ} {xs : List ℕ} → Climbs lo xs → (y : ℕ) → Memᴰ y xs → lo ≤ f y
  climbs_from flat y m = absurd (mathlib.Core.List.Memᴰ.not-nil m)
  climbs_from (climb {lo} {x} a c) y m =
      ⊎_elim (λ q. let e = ap f q in omega arith) (λ m'. let z = climbs_from c y m' in omega arith) (mathlib.Core.List.Memᴰ.cases_cons m)

  abbrev part : ℕ → List ℕ → List ℕ
  part h xs = keep (λ x. p x && eqb (f x) h) xs

  abbrev rest : ℕ → List ℕ → List ℕ
  rest h xs = keep (λ x. p x && leb h (f x)) xs

  -- what has the number h, and then what has more
  split_part : (h : ℕ) {lo : ℕ} {xs : List ℕ} → Climbs lo xs → rest h xs ≡ part h xs ++ rest (suc h) xs
  unfolding keep
  split_part h flat = refl
  split_part h (climb {lo} {x} {xs} a c) = by (p x) (le_or (f x) h) (le_or h (f x)) (split_part h c)
    where
      none_more : h < f x → part h xs ≡ []
      none_more l =
          keep_nothing (λ y. p y && eqb (f y) h) xs
          (λ y m. untrue (p y && eqb (f y) h) (λ t. let e = eqb-true (f y) h (and_snd (p y) (eqb (f y) h) t) in let z = climbs_from c y m in omega arith))

      by : (b : Bool) → (f x ≤ h) ⊎ (h < f x) → (h ≤ f x) ⊎ (f x < h) → rest h xs ≡ part h xs ++ rest (suc h) xs
          → cond (b && leb h (f x)) (x ∷ rest h xs) (rest h xs)
          ≡ cond (b && eqb (f x) h) (x ∷ part h xs) (part h xs) ++ cond (b && leb (suc h) (f x)) (x ∷ rest (suc h) xs) (rest (suc h) xs)
      by false s t more = more
      by true (inl s) (inl t) more =
          let q : f x ≡ h = omega arith in
          rw (le-leb h (f x) t, eq-eqb (f x) h q, lt-leb (suc h) (f x) (omega arith)) (ap (λ (l : List ℕ). x ∷ l) more)
      by true (inl s) (inr t) more =
          rw (lt-leb h (f x) t, ne_eqb (f x) h (λ q. omega arith), lt-leb (suc h) (f x) (omega arith)) more
      by true (inr s) t more =
          let e = none_more s in
          rw (le-leb h (f x) (omega arith), ne_eqb (f x) h (λ q. omega arith), le-leb (suc h) (f x) s, e) (ap (λ (l : List ℕ). x ∷ l) (rw e at more))

  parts_from :
      {lo i : ℕ} {xs hs : List ℕ} → Climbs i xs → Ascending lo hs → ((x : ℕ) → Memᴰ x xs → p x ≡ true → lo ≤ f x → Memᴰ (f x) hs) →
      rest lo xs ≡ flat_map (λ h. part h xs) hs
  unfolding flat_map
  parts_from {lo} {i} {xs} c nil among =
      keep_nothing (λ x. p x && leb lo (f x)) xs
      (λ x m. untrue (p x && leb lo (f x)) (λ t. mathlib.Core.List.Memᴰ.not-nil (among x m (and_fst (p x) _ t) (leb-true lo (f x) (and_snd (p x) (leb lo (f x)) t)))))
  parts_from {lo} {i} {xs} c (cons {n = h} {ns = hs} a r) among =
      skip
      ∙ split_part h c
      ∙ ap (λ (l : List ℕ). part h xs ++ l)
      (parts_from c r (λ x m e l. ⊎_elim (λ q. absurd (omega arith)) (λ m'. m') (mathlib.Core.List.Memᴰ.cases_cons (among x m e (omega arith)))))
    where
      -- none lies between
      skip : rest lo xs ≡ rest h xs
      skip =
          keep_same (λ x. p x && leb lo (f x)) (λ x. p x && leb h (f x)) xs
          (λ x m. by x m (p x) refl (le_or h (f x)))
        where
          by : (x : ℕ) → Memᴰ x xs → (b : Bool) → p x ≡ b → (h ≤ f x) ⊎ (f x < h) → b && leb lo (f x) ≡ b && leb h (f x)
          by x m false e s = refl
          by x m true e (inl s) = rw (le-leb h (f x) s, le-leb lo (f x) (omega arith))
          by x m true e (inr s) = at (le_or lo (f x))
            where
              at : (lo ≤ f x) ⊎ (f x < lo) → leb lo (f x) ≡ leb h (f x)
              at (inl g) =
                  let z = ⊎_elim (λ (q : f x ≡ h). omega arith) (λ m'. ascending_from r (f x) m') (mathlib.Core.List.Memᴰ.cases_cons (among x m e g)) in
                  absurd (omega arith)
              at (inr g) = rw (lt-leb lo (f x) g, lt-leb h (f x) s)

  pub keep_parts :
      {xs hs : List ℕ} → Climbs 0 xs → Ascending 0 hs → ((x : ℕ) → Memᴰ x xs → p x ≡ true → Memᴰ (f x) hs) →
      keep p xs ≡ flat_map (λ h. keep (λ x. p x && eqb (f x) h) xs) hs
  keep_parts {xs} {hs} c a among =
      keep_same p (λ x. p x && leb 0 (f x)) xs (λ x m. rw (le-leb 0 (f x) (omega arith)) (sym (and_one (p x))))
      ∙ parts_from c a (λ x m e l. among x m e)
    where
      and_one : (b : Bool) → b && true ≡ b
      and_one true = refl
      and_one false = refl

-- ---- the place of a number among those that are kept
pub record Placed (p : ℕ → Bool) (n k : ℕ) : Type 0 where
  pub within : length (keep p (span 0 k)) < length (keep p (span 0 n))
  pub there : get_or (keep p (span 0 n)) (length (keep p (span 0 k))) 0 ≡ k

pub placed : (p : ℕ → Bool) (n k : ℕ) → k < n → p k ≡ true → Placed p n k
unfolding keep span
placed p n k l h = record {
  within = rw (all, length-append (keep p (span 0 k)) (k ∷ keep p (span (suc k) (n - suc k)))) (omega arith);
  there = rw all (get_or-append_seam (keep p (span 0 k)) k (keep p (span (suc k) (n - suc k))) 0);
}
  where
    from_here : keep p (span k (n - k)) ≡ k ∷ keep p (span (suc k) (n - suc k))
    from_here = let q : n - k ≡ suc (n - suc k) = omega arith in rw (q, h)

    all : keep p (span 0 n) ≡ keep p (span 0 k) ++ (k ∷ keep p (span (suc k) (n - suc k)))
    all =
        let q : n ≡ k + (n - k) = omega arith in
        let z : 0 + k ≡ k = omega arith in
        ap (λ (d : ℕ). keep p (span 0 d)) q ∙ ap (keep p) (span_append 0 k (n - k)) ∙ keep_append p (span 0 k) (span (0 + k) (n - k)) ∙ rw (z, from_here)
