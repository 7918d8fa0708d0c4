-- Vertices that become the nodes of their declarations, one after the other.
use mathlib.Core.Path.{◌≡◌, refl, sym, ap, ◌∙◌}
use mathlib.Core.List.{List, [], ◌∷◌, map}
use Prim.Native.Nat.{ℕ, zero, suc, ◌+◌, ◌≤◌, ◌<◌}
use native.Mathlib.Omega.{arith}
use native.Mathlib.Numerals.{add-one}
use lib.ListN.{length, get_or, set, take, drop, length-map}
use lib.Seq.{length-take-le, take_at, drop_at}
use Rattle.dependencies.specs.Arrangement.{named}

module _ (nodes : List ℕ) where
  named_none : (c : List ℕ) → named nodes 0 c ≡ c
  unfolding named
  named_none c = refl

  named_step : (k : ℕ) (c : List ℕ) → set (named nodes k c) k (get_or nodes (get_or (named nodes k c) k 0) 0) ≡ named nodes (suc k) c
  unfolding named
  named_step zero [] = refl
  named_step (suc k) [] = refl
  named_step zero (x ∷ c) = refl
  named_step (suc k) (x ∷ c) = ap (λ (r : List ℕ). get_or nodes x 0 ∷ r) (named_step k c)

  pub named_long : (k : ℕ) (c : List ℕ) → length (named nodes k c) ≡ length c
  unfolding named
  named_long zero c = refl
  named_long (suc k) [] = refl
  named_long (suc k) (x ∷ c) = ap suc (named_long k c)

  -- its parts
  module _ (n : ℕ) (c : List ℕ) (l : n ≤ length c) where
    front_long : length (map (λ (v : ℕ). get_or nodes v 0) (take n c)) ≡ n
    front_long = length-map (take n c) (λ (v : ℕ). get_or nodes v 0) ∙ length-take-le n c l

    pub named_front : take n (named nodes n c) ≡ map (λ (v : ℕ). get_or nodes v 0) (take n c)
    unfolding named
    named_front = take_at (map (λ (v : ℕ). get_or nodes v 0) (take n c)) (drop n c) n front_long

    pub named_rest : drop n (named nodes n c) ≡ drop n c
    unfolding named
    named_rest = drop_at (map (λ (v : ℕ). get_or nodes v 0) (take n c)) (drop n c) n front_long

-- ---- the loop

-- the first k of them are named
pub record Naming (nodes : List ℕ) (vertices : ℕ) (was order : List ℕ) (k : ℕ) : Type 0 where
  pub within : k ≤ vertices
  pub is : order ≡ named nodes k was

pub naming_starts : (nodes : List ℕ) (vertices : ℕ) (was : List ℕ) → Naming nodes vertices was was 0
naming_starts nodes vertices was = record { within = omega arith; is = sym (named_none nodes was) }

module _ {nodes : List ℕ} {vertices : ℕ} {was order : List ℕ} {k : ℕ} (N : Naming nodes vertices was order k) where
  pub naming_goes_on :
      {v x y : ℕ} {order' : List ℕ} → k < vertices → x ≡ get_or order k 0 → v ≡ x → y ≡ get_or nodes v 0 → order' ≡ set order k y → Naming nodes vertices was order' (k + 1)
  naming_goes_on l a b c d = record {
    within = omega arith;
    is = rw (d, c, b, a, N.is, add-one) (named_step nodes k was);
  }

  pub naming_ends : vertices ≤ k → order ≡ named nodes vertices was
  naming_ends l = let q : k ≡ vertices = omega (arith, N.within) in N.is ∙ rw q

  pub naming_long : length order ≡ length was
  naming_long = ap length N.is ∙ named_long nodes k was
