-- What some nodes lead to, node by node and part by part.
use mathlib.Core.Path.{◌≡◌, refl, ap, ◌∙◌}
use mathlib.Core.Bool.{Bool, true, false, cond, not}
use mathlib.Core.List.Memᴰ
use mathlib.Core.List.{List, [], ◌∷◌, ◌++◌, map, map-append, Memᴰ}
use Prim.Native.Nat.{ℕ, ◌+◌, ◌-◌, ◌≤◌, ◌<◌}
use native.Mathlib.Omega.{arith}
use borrow.Author.Tests.{eqb-false, ne_eqb, eq-eqb, not-true}
use lib.Dec.{eqb}
use lib.ListN.{length, length-append}
use Rattle.relations.specs.Select.{span, keep}
use Rattle.relations.proofs.Select.{span_step, span_end, span_append, keep_cons, keep_append, keep_mem, mem_keep}
use Rattle.dependencies.specs.Target.{led_to}

module _ (target : ℕ → ℕ) where
  abbrev makes : ℕ → Bool
  makes n = not (eqb (target n) 0)

  led_cons : (n : ℕ) (ns : List ℕ) → led_to target (n ∷ ns) ≡ cond (eqb (target n) 0) (led_to target ns) ((target n - 1) ∷ led_to target ns)
  unfolding led_to
  led_cons n ns = rw (keep_cons makes n ns) (by (eqb (target n) 0))
    where
      by : (b : Bool) → map (λ n. target n - 1) (cond (not b) (n ∷ keep makes ns) (keep makes ns))
          ≡ cond b (map (λ n. target n - 1) (keep makes ns)) ((target n - 1) ∷ map (λ n. target n - 1) (keep makes ns))
      by true = refl
      by false = refl

  led_append : (xs ys : List ℕ) → led_to target (xs ++ ys) ≡ led_to target xs ++ led_to target ys
  unfolding led_to
  led_append xs ys = rw (keep_append makes xs ys) (map-append (λ n. target n - 1) (keep makes xs) (keep makes ys))

  -- what is led to is the target of one of the nodes, less one
  pub record Made (ns : List ℕ) (w : ℕ) : Type 0 where
    pub node : ℕ
    pub among : Memᴰ node ns
    pub target_is : target node ≡ w + 1

  pub led_made : (ns : List ℕ) (w : ℕ) → Memᴰ w (led_to target ns) → Made ns w
  unfolding led_to
  led_made ns w m =
      let a = Memᴰ.of_map (λ n. target n - 1) (keep makes ns) m in
      let k = keep_mem makes ns a.1 in
      let z = eqb-false (target a.0) 0 (not-true (eqb (target a.0) 0) k.1) in
      record { node = a.0; among = k.0; target_is = omega (arith, a.2, z) }

  pub made_led : (ns : List ℕ) (w : ℕ) → Made ns w → Memᴰ w (led_to target ns)
  unfolding led_to
  made_led ns w M =
      let e = M.target_is in
      let f : makes M.node ≡ true = ap not (ne_eqb (target M.node) 0 (λ q. omega (arith, q))) in
      Memᴰ.cast (omega arith) (Memᴰ.map (λ n. target n - 1) (mem_keep makes ns M.among f))

  -- from a node up to an end
  module _ (end : ℕ) where
    abbrev from : ℕ → List ℕ
    from i = led_to target (span i (end - i))

    pub from_step : (i : ℕ) → i < end → from i ≡ cond (eqb (target i) 0) (from (i + 1)) ((target i - 1) ∷ from (i + 1))
    from_step i l = rw (span_step end i l) (led_cons i (span (i + 1) (end - (i + 1))))

    pub from_none : (i : ℕ) → i < end → target i ≡ 0 → from i ≡ from (i + 1)
    from_none i l e = from_step i l ∙ rw (eq-eqb (target i) 0 e)

    pub from_end : from end ≡ []
    unfolding led_to keep
    from_end = rw (span_end end end (omega arith))

    pub from_parts : (i j : ℕ) → i ≤ j → j ≤ end → from i ≡ led_to target (span i (j - i)) ++ from j
    from_parts i j h l =
        let a : end - i ≡ (j - i) + (end - j) = omega arith in
        let b : i + (j - i) ≡ j = omega arith in
        rw (a, span_append i (j - i) (end - j), b) (led_append (span i (j - i)) (span j (end - j)))

    pub from_shorter : (i j : ℕ) → i ≤ j → j ≤ end → length (from j) ≤ length (from i)
    from_shorter i j h l = rw (from_parts i j h l) (omega (arith, length-append (led_to target (span i (j - i))) (from j)))
