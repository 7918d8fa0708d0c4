-- Laws of the tests of Set.antt.
use mathlib.Core.Bool.{Bool, true, false, ◌&&◌, cond, true≢false, false≢true, not, ◌||◌}
use mathlib.Core.List.{List, [], ◌∷◌, ◌++◌}
use mathlib.Core.Logic.{◌⊎◌, inl, inr, ⊎_elim}
use mathlib.Core.Path.{◌≡◌, refl, sym, ◌∙◌}
use Prim.Native.Nat.{ℕ, ◌≤◌, ◌<◌}
use lib.Dec.{eqb, ltb}
use borrow.Author.Tests.{eqb-true, eq-eqb, not-true, ltb-true, ltb-false}
use Rattle.ebnf.specs.Set.{mem, disjoint, subset}

pub and_split : (a b : Bool) → (a && b) ≡ true → (a ≡ true) × (b ≡ true)
and_split true b h = (refl, h)
and_split false b h = absurd (false≢true h)

pub or_none : (a b : Bool) → (a || b) ≡ false → (a ≡ false) × (b ≡ false)
or_none true b h = absurd (true≢false h)
or_none false b h = (refl, h)

pub or_split : (a b : Bool) → (a || b) ≡ true → (a ≡ true) ⊎ (b ≡ true)
or_split true b h = inl refl
or_split false b h = inr h

pub or_left : (a b : Bool) → a ≡ true → (a || b) ≡ true
or_left a b h = rw h refl

pub or_right : (a b : Bool) → b ≡ true → (a || b) ≡ true
or_right true b h = refl
or_right false b h = h

-- not in a union: in neither part
pub not_in : (x : ℕ) (l m : List ℕ) → mem x (l ++ m) ≡ false → (mem x l ≡ false) × (mem x m ≡ false)
unfolding mem
not_in x [] m h = (refl, h)
not_in x (c ∷ l) m h =
    let p = or_none (eqb x c) (mem x (l ++ m)) h in
    let q = not_in x l m p.1 in
    (rw p.0 q.0, q.1)

pub in_left : (x : ℕ) (l m : List ℕ) → mem x l ≡ true → mem x (l ++ m) ≡ true
unfolding mem
in_left x [] m h = absurd (false≢true h)
in_left x (c ∷ l) m h =
    ⊎_elim (λ e. or_left (eqb x c) (mem x (l ++ m)) e) (λ e. or_right (eqb x c) (mem x (l ++ m)) (in_left x l m e))
    (or_split (eqb x c) (mem x l) h)

pub in_right : (x : ℕ) (l m : List ℕ) → mem x m ≡ true → mem x (l ++ m) ≡ true
unfolding mem
in_right x [] m h = h
in_right x (c ∷ l) m h = or_right (eqb x c) (mem x (l ++ m)) (in_right x l m h)

-- what is in one of two disjoint sets is not in the other
pub apart : (x : ℕ) (l m : List ℕ) → disjoint l m ≡ true → mem x l ≡ true → mem x m ≡ false
unfolding mem disjoint
apart x [] m d h = absurd (false≢true h)
apart x (c ∷ l) m d h =
    let p = and_split (not (mem c m)) (disjoint l m) d in
    ⊎_elim (λ e. rw (eqb-true x c e) (not-true (mem c m) p.0)) (λ e. apart x l m p.1 e) (or_split (eqb x c) (mem x l) h)

pub apart' : (x : ℕ) (l m : List ℕ) → disjoint l m ≡ true → mem x m ≡ true → mem x l ≡ false
apart' x l m d h = go (mem x l) refl
  where
    go : (b : Bool) → mem x l ≡ b → mem x l ≡ false
    go true e = absurd (false≢true (sym (apart x l m d e) ∙ h))
    go false e = e

pub in_more : (x : ℕ) (l m : List ℕ) → subset l m ≡ true → mem x l ≡ true → mem x m ≡ true
unfolding mem subset
in_more x [] m s h = absurd (false≢true h)
in_more x (c ∷ l) m s h =
    let p = and_split (mem c m) (subset l m) s in
    ⊎_elim (λ e. rw (eqb-true x c e) p.0) (λ e. in_more x l m p.1 e) (or_split (eqb x c) (mem x l) h)

pub out_more : (x : ℕ) (l m : List ℕ) → subset l m ≡ true → mem x m ≡ false → mem x l ≡ false
out_more x l m s h = go (mem x l) refl
  where
    go : (b : Bool) → mem x l ≡ b → mem x l ≡ false
    go true e = absurd (false≢true (sym h ∙ in_more x l m s e))
    go false e = e

pub lt_or_le : (a b : ℕ) → (a < b) ⊎ (b ≤ a)
lt_or_le a b = go (ltb a b) refl
  where
    go : (t : Bool) → ltb a b ≡ t → (a < b) ⊎ (b ≤ a)
    go true e = inl (ltb-true a b e)
    go false e = inr (ltb-false a b e)

pub in_rest : (x : ℕ) (l m : List ℕ) → mem x l ≡ false → mem x (l ++ m) ≡ true → mem x m ≡ true
unfolding mem
in_rest x [] m e h = h
in_rest x (c ∷ l) m e h = let p = or_none (eqb x c) (mem x l) e in in_rest x l m p.1 (rw p.0 at h)

-- in a union: in one of the parts
pub in_cases : (x : ℕ) (l m : List ℕ) → mem x (l ++ m) ≡ true → (mem x l ≡ true) ⊎ (mem x m ≡ true)
in_cases x l m h = go (mem x l) refl
  where
    go : (b : Bool) → mem x l ≡ b → (mem x l ≡ true) ⊎ (mem x m ≡ true)
    go true e = inl e
    go false e = inr (in_rest x l m e h)

pub in_cond : (x : ℕ) (b : Bool) (l : List ℕ) → mem x (cond b l []) ≡ true → (b ≡ true) × (mem x l ≡ true)
unfolding mem
in_cond x true l h = (refl, h)
in_cond x false l h = absurd (false≢true h)

pub in_nothing : (x : ℕ) → mem x [] ≡ true → ⊥
unfolding mem
in_nothing x h = false≢true h

pub mem_itself : (n : ℕ) → mem n (n ∷ []) ≡ true
unfolding mem
mem_itself n = or_left (eqb n n) false (eq-eqb n n refl)

pub mem_one : (x c : ℕ) → mem x (c ∷ []) ≡ true → x ≡ c
unfolding mem
mem_one x c h = ⊎_elim (λ e. eqb-true x c e) (λ (e : false ≡ true). absurd (false≢true e)) (or_split (eqb x c) false h)
