-- Numbers stored in an order, each from those before it: what the column holds in the end. Assumes nothing.
use mathlib.Core.Path.{◌≡◌, refl, sym, ap, ◌∙◌}
use mathlib.Core.Logic.{◌⊎◌, inl, inr, ⊎_elim}
use mathlib.Core.Bool.{Bool, true, false, cond, false≢true}
use mathlib.Core.List.Memᴰ
use mathlib.Core.List.{List, [], ◌∷◌, foldl, Memᴰ}
use Prim.Native.Nat.{ℕ, ◌<◌}
use native.Mathlib.Omega.{arith}
use borrow.Author.Tests.{eqb-true, eqb-false}
use lib.Dec.{eqb}
use lib.ListN.{length, get_or, set, length-set}
use lib.Seq.{get_or-set_same, get_or-set_other}
use Rattle.relations.specs.Sorted.{Sorted, done, next}
use Rattle.declared_types.specs.Storing.{store}

-- a store changes no entry that fails the test
module _ (p : ℕ → Bool) (number : List ℕ → ℕ → ℕ) where
  store_other : (c : List ℕ) (d n : ℕ) → p n ≡ false → get_or (store p number c d) n 0 ≡ get_or c n 0
  store_other c d n h = by (p d) refl
    where
      by : (q : Bool) → p d ≡ q → get_or (cond q (set c d (number c d)) c) n 0 ≡ get_or c n 0
      by false e = refl
      by true e = get_or-set_other c d n (number c d) 0 (λ z. false≢true (sym h ∙ (ap p z ∙ e)))

  pub stores_other : (c ds : List ℕ) (n : ℕ) → p n ≡ false → get_or (foldl (store p number) c ds) n 0 ≡ get_or c n 0
  stores_other c [] n h = refl
  stores_other c (d ∷ ds) n h = stores_other (store p number c d) ds n h ∙ store_other c d n h

-- E: what a number depends on; `number c n` is that of n by the column c, `wanted n` the one that it should be; `was` is the column before the first store
module _ (E : ℕ → ℕ → Type 0) (p : ℕ → Bool) (number : List ℕ → ℕ → ℕ) (wanted : ℕ → ℕ) (was : List ℕ) where
  -- The column after stores at some nodes.
  pub record Stored (at : ℕ → Type 0) (c : List ℕ) : Type 0 where
    pub long : length c ≡ length was
    pub others : (n : ℕ) → p n ≡ false → get_or c n 0 ≡ get_or was n 0
    pub right : (n : ℕ) → at n → p n ≡ true → get_or c n 0 ≡ wanted n

  -- a number is the wanted one where those that it depends on are
  abbrev pub Sound : Type 0
  Sound =
      (c : List ℕ) (n : ℕ) → p n ≡ true → ((m : ℕ) → p m ≡ false → get_or c m 0 ≡ get_or was m 0) → ((m : ℕ) → E n m → p m ≡ true → get_or c m 0 ≡ wanted m) →
      number c n ≡ wanted n

  pub nothing_stored : Stored (λ n. Memᴰ n []) was
  nothing_stored = record { long = refl; others = λ n h. refl; right = λ n m h. absurd (Memᴰ.not-nil m) }

  module _ (sound : Sound) where
    one_stored :
        {passed c : List ℕ} {d : ℕ} → d < length was → ((m : ℕ) → E d m → Memᴰ m passed) → Stored (λ n. Memᴰ n passed) c →
        Stored (λ n. Memᴰ n (d ∷ passed)) (store p number c d)
    one_stored {passed} {c} {d} l before S = record {
      long = by_length (p d);
      others = λ n h. store_other p number c d n h ∙ S.others n h;
      right = λ n m h. by (p d) refl n m h;
    }
      where
        by_length : (q : Bool) → length (cond q (set c d (number c d)) c) ≡ length was
        by_length false = S.long
        by_length true = length-set c d (number c d) ∙ S.long

        value : p d ≡ true → number c d ≡ wanted d
        value e = sound c d e S.others (λ m j h. S.right m (before m j) h)

        by : (q : Bool) → p d ≡ q → (n : ℕ) → Memᴰ n (d ∷ passed) → p n ≡ true → get_or (cond q (set c d (number c d)) c) n 0 ≡ wanted n
        by false e n m h = ⊎_elim (λ z. absurd (false≢true (sym e ∙ (ap p (sym z) ∙ h)))) (λ m'. S.right n m' h) (Memᴰ.cases_cons m)
        by true e n m h = at (eqb n d) refl
          where
            at : (q : Bool) → eqb n d ≡ q → get_or (set c d (number c d)) n 0 ≡ wanted n
            at true z =
                let y = eqb-true n d z in
                let k : d < length c = let g = S.long in omega arith in
                rw y (get_or-set_same c d (number c d) 0 k ∙ value e)
            at false z =
                let y = eqb-false n d z in
                get_or-set_other c d n (number c d) 0 y ∙ ⊎_elim (λ w. absurd (y w)) (λ m'. S.right n m' h) (Memᴰ.cases_cons m)

    -- all of a list, each after what it depends on
    all_stored :
        {passed ds c : List ℕ} → Sorted E passed ds → ((n : ℕ) → Memᴰ n ds → n < length was) → Stored (λ n. Memᴰ n passed) c →
        Stored (λ n. Memᴰ n passed ⊎ Memᴰ n ds) (foldl (store p number) c ds)
    all_stored done inside S = record {
      long = S.long;
      others = S.others;
      right = λ n m h. S.right n (⊎_elim (λ x. x) (λ x. absurd (Memᴰ.not-nil x)) m) h;
    }
    all_stored (next {passed = passed} {ds = ds} {d = d} before more) inside S =
        let R = all_stored more (λ n m. inside n (Memᴰ.tail m)) (one_stored (inside d (Memᴰ.head refl)) before S) in record {
          long = R.long;
          others = R.others;
          right = λ n m h. R.right n (place n m) h;
        }
      where
        place : (n : ℕ) → Memᴰ n passed ⊎ Memᴰ n (d ∷ ds) → Memᴰ n (d ∷ passed) ⊎ Memᴰ n ds
        place n (inl m) = inl (Memᴰ.tail m)
        place n (inr m) = ⊎_elim (λ z. inl (Memᴰ.head z)) (λ m'. inr m') (Memᴰ.cases_cons m)

    pub list_stored :
        {ds : List ℕ} → Sorted E [] ds → ((n : ℕ) → Memᴰ n ds → n < length was) → Stored (λ n. Memᴰ n ds) (foldl (store p number) was ds)
    list_stored O inside =
        let R = all_stored O inside nothing_stored in record { long = R.long; others = R.others; right = λ n m h. R.right n (inr m) h }

-- where nothing depends on another, every list is in order
pub independent : {passed : List ℕ} (ds : List ℕ) → Sorted (λ n m. ⊥) passed ds
independent [] = done
independent (d ∷ ds) = next (λ m e. absurd e) (independent ds)
