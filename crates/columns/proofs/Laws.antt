-- The laws of columns that every crate cites, for elements of any type. Assumes nothing.
use mathlib.Core.Path.{◌≡◌, refl, sym, ap, ◌∙◌}
use mathlib.Core.List.{List, [], ◌∷◌, ◌++◌, append-nil}
use Prim.Native.Nat.{ℕ, zero, suc, ◌+◌, ◌-◌, ◌<◌, ◌≤◌}
use native.Mathlib.Omega.{arith}
use native.Mathlib.Numerals.{add-one}
use native.Mathlib.Nat.{add-zero}
use lib.ListN.{length, take, drop, set, get_or, replicate, length-set, length-append, length-take, length-replicate}
use lib.Seq.{length-take-le, sets, length-sets, sets-eq, take_all, take_at, take-take, take-suc-set, append_snoc, set_out, get_or-set_same, get_or-set_other, get_or-take}
use Rattle.columns.specs.Column.{cleared, cleared_before, padded, tabulated}

module _ {A : Type 0} where
  -- ---- stores in a row

  -- past the end nothing changes
  pub sets_out : (c : List A) (at : ℕ) (vs : List A) → length c ≤ at → sets c at vs ≡ c
  sets_out c at [] h = refl
  sets_out c at (v ∷ vs) h =
      let here : set c at v ≡ c = set_out c at v h in rw here (sets_out c (suc at) vs (omega arith))

  pub sets_append : (c : List A) (at : ℕ) (vs ws : List A) → sets c at (vs ++ ws) ≡ sets (sets c at vs) (at + length vs) ws
  sets_append c at [] ws = rw (add-zero at)
  sets_append c at (v ∷ vs) ws =
      sets_append (set c at v) (suc at) vs ws
      ∙ ap (λ (k : ℕ). sets (sets (set c at v) (suc at) vs) k ws) (omega arith)

  -- one value more
  pub sets_snoc : (c : List A) (at : ℕ) (vs : List A) (v : A) → sets c at (vs ++ (v ∷ [])) ≡ set (sets c at vs) (at + length vs) v
  sets_snoc c at vs v = sets_append c at vs (v ∷ [])

  -- what was before the stores stays
  pub take_sets : (n : ℕ) (c : List A) (at : ℕ) (vs : List A) → n ≤ at → take n (sets c at vs) ≡ take n c
  take_sets n c at [] h = refl
  take_sets n c at (v ∷ vs) h = take_sets n (set c at v) (suc at) vs (omega arith) ∙ lib.Seq.take-set-le n c at v h

  -- the values stand where they were stored
  pub take_rows : (c vs : List A) → length vs ≤ length c → take (length vs) (sets c 0 vs) ≡ vs
  take_rows c vs h = ap (take (length vs)) (sets-eq vs c 0 (omega arith)) ∙ take_at vs (drop (0 + length vs) c) (length vs) refl

  -- ---- reading after a store

  pub at_set : (c : List A) (i : ℕ) (v d : A) → i < length c → get_or (set c i v) i d ≡ v
  at_set c i v d h = get_or-set_same c i v d h

  pub at_other : (c : List A) (i j : ℕ) (v d : A) → (j ≡ i → ⊥) → get_or (set c i v) j d ≡ get_or c j d
  at_other c i j v d h = get_or-set_other c i j v d h

  -- ---- zeros

  pub length_cleared : (z : A) (n : ℕ) (c : List A) → length (cleared z n c) ≡ length c
  length_cleared z n c = omega (arith, length-append (take n c) (replicate (length c - n) z), length-take n c, length-replicate (length c - n) z)

  pub length_padded : (z : A) (n : ℕ) (vs : List A) → length vs ≤ n → length (padded z n vs) ≡ n
  length_padded z n vs h = omega (arith, length-append vs (replicate (n - length vs) z), length-replicate (n - length vs) z)

  -- read with zero as default, zeros behind the values change nothing
  getD_zeros : (z : A) (n i : ℕ) → get_or (replicate n z) i z ≡ z
  getD_zeros z zero i = refl
  getD_zeros z (suc n) zero = refl
  getD_zeros z (suc n) (suc i) = getD_zeros z n i

  getD_behind : (z : A) (n : ℕ) (vs : List A) (i : ℕ) → get_or (vs ++ replicate n z) i z ≡ get_or vs i z
  getD_behind z n [] i = getD_zeros z n i
  getD_behind z n (v ∷ vs) zero = refl
  getD_behind z n (v ∷ vs) (suc i) = getD_behind z n vs i

  pub getD_padded : (z : A) (n : ℕ) (vs : List A) (i : ℕ) → get_or (padded z n vs) i z ≡ get_or vs i z
  getD_padded z n vs i = getD_behind z (n - length vs) vs i

  -- one zero more
  pub clear_more : (z : A) (c : List A) (i : ℕ) → i < length c → cleared z (i + 1) (set c i z) ≡ cleared z i c
  clear_more z c i h =
      let one : length c - i ≡ suc (length c - (i + 1)) = omega arith in
      rw (one, length-set c i z, add-one, take-suc-set c i z h) (append_snoc (take i c) z (replicate (length c - suc i) z))

  -- from the end on there is nothing to clear
  pub clear_over : (z : A) (c : List A) (i : ℕ) → length c ≤ i → cleared z i c ≡ c
  clear_over z c i h =
      let none : length c - i ≡ 0 = omega arith in rw (none, take_all i c h) (append-nil c)

  -- all of it
  pub clear_all : (z : A) (c : List A) → cleared z 0 c ≡ replicate (length c) z
  clear_all z c = let all : length c - 0 ≡ length c = omega arith in rw all

  -- the first n entries were lent, and came back as zeros
  pub clear_before : (z : A) (n : ℕ) (c front : List A) → n ≤ length c → front ≡ replicate (length (take n c)) z → front ++ drop n c ≡ cleared_before z n c
  clear_before z n c front h e = let all : length (take n c) ≡ n = length-take-le n c h in rw (e, all)

  -- a column whose first n entries are the values is, cleared from n on, the values and zeros
  pub clear_front : (z : A) (n : ℕ) (c vs : List A) → take n c ≡ vs → cleared z n c ≡ padded z (length c) vs
  clear_front z n c vs e =
      let rest : length c - n ≡ length c - length vs = omega (arith, ap length e, length-take n c) in rw (rest, e)

  -- values stored from the start, and the rest cleared
  pub clear_sets : (z : A) (c vs : List A) → length vs ≤ length c → cleared z (length vs) (sets c 0 vs) ≡ padded z (length c) vs
  clear_sets z c vs h =
      clear_front z (length vs) (sets c 0 vs) vs (take_rows c vs h)
      ∙ ap (λ (n : ℕ). padded z n vs) (length-sets c 0 vs)

-- ---- a loop that clears: the column as it is, cleared from i on, is the column as it was, cleared from the start on

pub record Clearing {A : Type 0} (z : A) (was : List A) (from : ℕ) (c : List A) (i : ℕ) : Type 0 where
  pub len : length c ≡ length was
  pub is : cleared z i c ≡ cleared z from was

module _ {A : Type 0} {z : A} {was : List A} {from : ℕ} where
  pub clearing_starts : Clearing z was from was from
  clearing_starts = record { len = refl; is = refl }

  pub clearing_goes_on : {c : List A} {i : ℕ} → i < length c → Clearing z was from c i → Clearing z was from (set c i z) (i + 1)
  clearing_goes_on {c} {i} h k = record { len = length-set c i z ∙ k.len; is = clear_more z c i h ∙ k.is }

  pub clearing_ends : {c : List A} {i : ℕ} → length c ≤ i → Clearing z was from c i → c ≡ cleared z from was
  clearing_ends {c} {i} h k = sym (clear_over z c i h) ∙ k.is

-- ---- constant tables

pub tabulated_at : (f : ℕ → ℕ) (p n i : ℕ) → i < n → get_or (tabulated f p n) i 0 ≡ f (p + i)
unfolding tabulated
tabulated_at f p zero i h = absurd (omega arith)
tabulated_at f p (suc n) zero h = ap f (omega arith)
tabulated_at f p (suc n) (suc i) h = tabulated_at f (p + 1) n i (omega arith) ∙ ap f (omega arith)
