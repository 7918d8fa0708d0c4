-- Laws of strings, as lists of bytes and by their lengths.
use mathlib.Core.Path.{◌≡◌, refl, sym, ap, ◌∙◌}
use mathlib.Core.List.{List, [], ◌∷◌, ◌++◌}
use mathlib.Core.Logic.{◌⊎◌, inl, inr, ⊎_elim, by_cases}
use Prim.Native.Nat.compare
use Prim.Native.Nat.{ℕ, zero, suc, min, ◌+◌, ◌≤◌, ◌<◌, compare, Ordering, lt, eq, gt}
use native.Mathlib.Numerals.{add-one}
use native.Mathlib.Decide.{dec_lt}
use native.Mathlib.Omega.{arith}
use borrow.Author.Tests.{le-leb, lt-leb}
use lib.ListN.{length, get_or, take, drop, replicate, length-replicate, replicate-append-replicate}
use lib.Seq.{drop-cons}
use Rattle.std.specs.Cmp.Lexicographic.{slice_cmp}
use Rattle.std.specs.Option.{ok_or}
use Rattle.std.specs.Ordering.{nat_cmp, ordering_then}
use Rattle.std.specs.Prelude.{Option, None, Some, Result, SomeIff}
use Rattle.relations.specs.Order.{then, compare_lists}
use Rattle.relations.proofs.Order.{compare_lt, compare_gt, compare_eq}
use Rattle.express.specs.Semantics.Strings.{join_strings, compare_bytes}
use Rattle.values.specs.Meaning.{ordering_of}
use Rattle.values.specs.declared.End.{End}
use Rattle.values.specs.declared.End.TheVariants.{OutOfRange}
use Rattle.values.proofs.Orders.{number_order, then_order}
use Rattle.strings.specs.Meaning.{joined_answer}

-- ---- joining
module _ (a b : ℕ) where
  pub length_both : length {A = ℕ} (replicate a 0 ++ replicate b 0) ≡ a + b
  length_both = ap {A = List ℕ} length (replicate-append-replicate {A = ℕ} a b 0) ∙ length-replicate (a + b) 0

  pub joined : {r : Result ℕ End} (o : Option ℕ) → SomeIff o (a + b < 256) (a + b) → r ≡ ok_or o OutOfRange → joined_answer r ≡ join_strings (replicate a 0) (replicate b 0)
  unfolding join_strings
  joined None h e = let g : 255 < a + b = omega (arith, h) in rw (e, length_both, lt-leb (a + b) 255 g)
  joined (Some n) h e = rw (e, h.1, length_both, le-leb (a + b) 255 (omega (arith, h.0)), replicate-append-replicate {A = ℕ} a b 0)

-- ---- comparing: as the machine compares slices
pub slices_order : (a b : List ℕ) → ordering_of (slice_cmp nat_cmp a b) ≡ compare_bytes a b
unfolding compare_lists
slices_order [] [] = refl
slices_order [] (y ∷ b) = refl
slices_order (x ∷ a) [] = refl
slices_order (x ∷ a) (y ∷ b) = then_order (nat_cmp x y) (slice_cmp nat_cmp a b) ∙ rw (number_order x y, slices_order a b)

-- what is to come from i on decides as the whole strings do, up to the length of the shorter
pub record Compares (a b : List ℕ) (i : ℕ) : Type 0 where
  pub within : i ≤ min (length a) (length b)
  pub is : compare_bytes (drop i a) (drop i b) ≡ compare_bytes a b

pub compares_whole : (a b : List ℕ) → Compares a b 0
compares_whole a b = record { within = omega arith; is = refl }

module _ {a b : List ℕ} {i : ℕ} (C : Compares a b i) (h : i < min (length a) (length b)) where
  by_byte : {o : Ordering} → compare (get_or a i 0) (get_or b i 0) ≡ o → compare_bytes a b ≡ then o (compare_bytes (drop (suc i) a) (drop (suc i) b))
  unfolding compare_lists
  by_byte {o} e =
      let p : i < length a = omega (arith, h) in let q : i < length b = omega (arith, h) in
      sym C.is ∙ rw (drop-cons a i 0 p, drop-cons b i 0 q, e)

  pub other_byte : (get_or a i 0 ≡ get_or b i 0 → ⊥) → ordering_of (nat_cmp (get_or a i 0) (get_or b i 0)) ≡ compare_bytes a b
  other_byte n = number_order (get_or a i 0) (get_or b i 0) ∙ ⊎_elim less more (apart _ _ n)
    where
      apart : (x y : ℕ) → (x ≡ y → ⊥) → (x < y) ⊎ (y < x)
      apart x y k = by_cases (dec_lt x y) inl (λ z. inr (omega (arith, z, k)))

      less : get_or a i 0 < get_or b i 0 → compare (get_or a i 0) (get_or b i 0) ≡ compare_bytes a b
      less k = compare_lt _ _ k ∙ sym (by_byte (compare_lt _ _ k))

      more : get_or b i 0 < get_or a i 0 → compare (get_or a i 0) (get_or b i 0) ≡ compare_bytes a b
      more k = compare_gt _ _ k ∙ sym (by_byte (compare_gt _ _ k))

  pub compares_more : get_or a i 0 ≡ get_or b i 0 → Compares a b (i + 1)
  compares_more k = record { within = omega (arith, h); is = rw add-one (sym (by_byte (compare_eq _ _ k))) }

-- the bytes as far as both strings go, and then the lengths
then_then : (o p q : Ordering) → then (then o p) q ≡ then o (then p q)
then_then lt p q = refl
then_then eq p q = refl
then_then gt p q = refl

bytes_then_lengths : (a b : List ℕ) (l : ℕ) → l ≡ min (length a) (length b) →
    then (ordering_of (slice_cmp nat_cmp (take l a) (take l b))) (compare (length a) (length b)) ≡ compare_bytes a b
unfolding compare_lists
bytes_then_lengths [] [] l e = let z : l ≡ 0 = omega (arith, e) in rw z compare.zero-zero
bytes_then_lengths [] (y ∷ b) l e = let z : l ≡ 0 = omega (arith, e) in rw z (compare.zero-suc (length b))
bytes_then_lengths (x ∷ a) [] l e = let z : l ≡ 0 = omega (arith, e) in rw z (compare.suc-zero (length a))
bytes_then_lengths (x ∷ a) (y ∷ b) zero e = absurd (omega (arith, e))
bytes_then_lengths (x ∷ a) (y ∷ b) (suc l) e =
    ap (λ o. then o (compare (suc (length a)) (suc (length b)))) (then_order (nat_cmp x y) (slice_cmp nat_cmp (take l a) (take l b)) ∙ ap (λ o. then o (ordering_of (slice_cmp nat_cmp (take l a) (take l b)))) (number_order x y))
    ∙ then_then (compare x y) (ordering_of (slice_cmp nat_cmp (take l a) (take l b))) (compare (suc (length a)) (suc (length b)))
    ∙ ap (then (compare x y)) (ap (then (ordering_of (slice_cmp nat_cmp (take l a) (take l b)))) (compare.suc-suc (length a) (length b)) ∙ bytes_then_lengths a b l (omega (arith, e)))

pub compares_rest : (a b : List ℕ) (l : ℕ) → l ≡ min (length a) (length b) →
    ordering_of (ordering_then (slice_cmp nat_cmp (take l a) (take l b)) (nat_cmp (length a) (length b))) ≡ compare_bytes a b
compares_rest a b l e =
    then_order (slice_cmp nat_cmp (take l a) (take l b)) (nat_cmp (length a) (length b)) ∙ ap (then (ordering_of (slice_cmp nat_cmp (take l a) (take l b)))) (number_order (length a) (length b))
    ∙ bytes_then_lengths a b l e

pub ruleset comparisons = (compares_whole, other_byte, compares_more, compares_rest)

-- strings of zeros compare by their lengths
pub compare_zeros : (m n : ℕ) → compare_bytes (replicate m 0) (replicate n 0) ≡ compare m n
unfolding compare_lists
compare_zeros zero zero = sym compare.zero-zero
compare_zeros zero (suc n) = sym (compare.zero-suc n)
compare_zeros (suc m) zero = sym (compare.suc-zero m)
compare_zeros (suc m) (suc n) = compare_zeros m n ∙ sym (compare.suc-suc m n)
