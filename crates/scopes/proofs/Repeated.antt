-- Declared twice: a node is repeated exactly if the first entry with its key is another's.
use mathlib.Core.Path.{◌≡◌, refl, sym, ap, ◌∙◌}
use mathlib.Core.Logic.{⊎_elim}
use mathlib.Core.Bool.{Bool, true, false, cond, ◌&&◌, false≢true}
use mathlib.Core.List.{List, [], ◌∷◌, map, Memᴰ}
use Prim.Native.Nat.{ℕ, zero, suc, ◌+◌, ◌-◌, ◌≤◌, ◌<◌}
use native.Mathlib.Omega.{arith}
use borrow.Author.Tests.{eq-eqb, ne_eqb, lt-ltb}
use lib.Dec.{eqb, ltb}
use lib.ListN.{length, get_or}
use Rattle.relations.specs.Select.{span, first_from, keep, any, Ascending, cons}
use Rattle.relations.proofs.Select.{keep_same, mem_upto, upto_mem, mem_keep, any_mem, mem_any, keep_first, first_is, ascending_from, ascending_keep, ascending_span, untrue, le_or}
use Rattle.express.specs.Syntax.Tree.{Table, count, symbol}
use Rattle.express.specs.Names.Fault.{sort, scope, alike}
use Rattle.index.specs.Dictionary.{has, first_with}
use Rattle.std.specs.Prelude.{Some}
use Rattle.scopes.specs.Entries.{own_key, entry_number}
use Rattle.scopes.specs.Preparation.{Prepared}
use Rattle.scopes.specs.LookUp.{numbers}
use Rattle.scopes.proofs.Sorting.{key_some, scope_below}
use Rattle.scopes.proofs.WithKey.{by_sort}
use Rattle.scopes.proofs.Numbering.{prepared_numbers, number_key, number_node, number_below}

pub map_mem : (f : ℕ → ℕ) (xs : List ℕ) {x : ℕ} → Memᴰ x xs → Memᴰ (f x) (map f xs)
map_mem f [] m = absurd (mathlib.Core.List.Memᴰ.not-nil m)
map_mem f (y ∷ ys) m = ⊎_elim (λ q. mathlib.Core.List.Memᴰ.head (ap f q)) (λ m'. mathlib.Core.List.Memᴰ.tail (map_mem f ys m')) (mathlib.Core.List.Memᴰ.cases_cons m)

turned : (a b c : Bool) → (a && (b && c)) ≡ (c && a && b)
turned true true true = refl
turned true true false = refl
turned true false true = refl
turned true false false = refl
turned false true true = refl
turned false true false = refl
turned false false true = refl
turned false false false = refl

-- the first of what is kept, and what is behind it
pub record Heads (p : ℕ → Bool) (n k : ℕ) : Type 0 where
  pub later : List ℕ
  pub is : keep p (span 0 n) ≡ k ∷ later

heads : (p : ℕ → Bool) (n k : ℕ) → k < n → p k ≡ true → Heads p n (first_from p 0 (n - 0))
heads p n k l e = by (ltb f n) refl (keep_first p n 0 (omega arith))
  where
    f : ℕ
    f = first_from p 0 (n - 0)

    z : n - 0 ≡ n
    z = omega arith

    there : Memᴰ k (keep p (span 0 (n - 0)))
    there = rw z (mem_keep p (span 0 n) (mem_upto n k l) e)

    by : (b : Bool) → ltb f n ≡ b → keep p (span 0 (n - 0)) ≡ cond b (f ∷ keep p (span (f + 1) (n - (f + 1)))) [] → Heads p n f
    by true t h = record { later = keep p (span (f + 1) (n - (f + 1))); is = ap (λ (m : ℕ). keep p (span 0 m)) (sym z) ∙ h }
    by false t h = absurd (mathlib.Core.List.Memᴰ.not-nil (rw h at there))

head_same : {x y : ℕ} {xs ys : List ℕ} → x ∷ xs ≡ y ∷ ys → (x ≡ y) × (xs ≡ ys)
head_same e = (cc, cc)

behind : {m n : ℕ} {ms : List ℕ} → Ascending 0 (m ∷ ms) → Memᴰ n ms → m < n
behind {m} {n} (cons a r) i = ascending_from r n i

module _ {t : Table} {keys nodes heads' next : List ℕ} (P : Prepared t keys nodes heads' next) (n : ℕ) (l : n < count t) (z : sort t n ≡ 0 → ⊥) where
  abbrev pub key : ℕ
  key = own_key t n

  pub some : 0 < key
  some = key_some (sort t n) (scope t n) (symbol t n) (by (sort t n) refl)
    where
      by : (s : ℕ) → sort t n ≡ s → 0 < s
      by zero e = absurd (z e)
      by (suc s) e = omega arith

  pub alike_nodes : map (λ (e : ℕ). get_or nodes e 0) (numbers keys key) ≡ keep (alike t n) (span 0 (count t))
  alike_nodes =
      prepared_numbers P key some
      ∙ by_sort t P.consistent (sort t n) (scope t n) (symbol t n) (omega (arith, scope_below t n (omega arith), P.consistent.few)) (P.consistent.small n l) z
      ∙ keep_same _ _ (span 0 (count t)) (λ k m. turned (eqb (sort t k) (sort t n)) (eqb (scope t k) (scope t n)) (eqb (symbol t k) (symbol t n)))

  itself : alike t n n ≡ true
  itself = rw (eq-eqb (symbol t n) (symbol t n) refl, eq-eqb (sort t n) (sort t n) refl, eq-eqb (scope t n) (scope t n) refl)

  abbrev pub number : ℕ
  number = entry_number t n

  pub has_key : has keys key number ≡ true
  has_key = rw (ne_eqb key 0 (λ q. omega (arith, q, some)), eq-eqb (get_or keys number 0) key (number_key P n l z))

  -- the first entry with the key, and the first node that is alike
  abbrev first_entry : ℕ
  first_entry = first_from (has keys key) 0 (length keys - 0)

  abbrev first_node : ℕ
  first_node = first_from (alike t n) 0 (count t - 0)

  E : Heads (has keys key) (length keys) first_entry
  E = heads (has keys key) (length keys) number (number_below P n l z) has_key

  N : Heads (alike t n) (count t) first_node
  N = heads (alike t n) (count t) n l itself

  both : (get_or nodes first_entry 0 ≡ first_node) × (map (λ (e : ℕ). get_or nodes e 0) E.later ≡ N.later)
  unfolding numbers
  both = head_same (sym (ap (map (λ (e : ℕ). get_or nodes e 0)) E.is) ∙ alike_nodes ∙ N.is)

  -- the first entry is its own: then so is the first node
  own_first : first_entry ≡ number → first_node ≡ n
  own_first e = sym both.0 ∙ ap (λ (i : ℕ). get_or nodes i 0) e ∙ number_node P n l z

  other_first : (first_entry ≡ number → ⊥) → first_node < n
  other_first d =
      ⊎_elim (λ q. absurd (d (sym q))) late (mathlib.Core.List.Memᴰ.cases_cons (rw E.is at (mem_keep (has keys key) (span 0 (length keys)) (mem_upto (length keys) number (number_below P n l z)) has_key)))
    where
      rises : Ascending 0 (first_node ∷ N.later)
      rises = rw N.is at (ascending_keep (alike t n) (ascending_span 0 (count t)))

      late : Memᴰ number E.later → first_node < n
      late m =
          let m' : Memᴰ n N.later = rw (both.1, number_node P n l z) at (map_mem (λ (e : ℕ). get_or nodes e 0) E.later m) in
          behind rises m'

  entry_low : first_entry < length keys
  entry_low =
      let F = first_is (has keys key) 0 (length keys - 0) in
      ⊎_elim (λ (h : length keys ≤ first_entry). absurd (false≢true (sym (F.none number (omega arith) (omega (arith, number_below P n l z))) ∙ has_key))) (λ h. h)
      (le_or (length keys) first_entry)

  -- STAGE 9: the look-up of its own key finds another entry exactly if an earlier node is alike
  pub first_own : first_with keys key 0 ≡ Some number → any (alike t n) (span 0 n) ≡ false
  unfolding first_with
  first_own e =
      let q : Some first_entry ≡ Some number = rw (lt-ltb first_entry (length keys) entry_low) at e in
      let w : first_entry ≡ number = cc in
      untrue _ (λ h. let r = any_mem (alike t n) (span 0 n) h in none r.0 (upto_mem n r.0 r.1) r.2 (own_first w))
    where
      none : (k : ℕ) → k < n → alike t n k ≡ true → first_node ≡ n → ⊥
      none k h e q = let F = first_is (alike t n) 0 (count t - 0) in false≢true (sym (F.none k (omega arith) (omega (arith, q))) ∙ e)

  pub first_other : (first_with keys key 0 ≡ Some number → ⊥) → any (alike t n) (span 0 n) ≡ true
  unfolding first_with
  first_other d =
      let F = first_is (alike t n) 0 (count t - 0) in
      let h : first_node < n = other_first (λ w. d (rw (lt-ltb first_entry (length keys) entry_low) (ap Some w))) in
      mem_any (alike t n) (span 0 n) (mem_upto n first_node h) (F.passes (omega arith))
