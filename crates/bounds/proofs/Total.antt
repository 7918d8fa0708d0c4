-- Numbers of nodes, added up, and what the rows of these nodes weigh.
use mathlib.Core.Path.{◌≡◌, sym, ap, ◌∙◌}
use mathlib.Core.Logic.{⊎_elim}
use mathlib.Core.Bool.{Bool, true, false, cond}
use mathlib.Core.List.Memᴰ
use mathlib.Core.List.{List, [], ◌∷◌, map, Memᴰ}
use Prim.Native.Nat.{ℕ, suc, ◌+◌, ◌*◌, ◌-◌, ◌≤◌, ◌<◌}
use native.Mathlib.Omega.{arith}
use native.Mathlib.Nat.{mul-zero, mul-suc}
use lib.ListN.{length, get_or, length-append}
use Rattle.ebnf.specs.Rows.{Row}
use Rattle.relations.specs.Select.{span, keep}
use Rattle.relations.proofs.Select.{span_append, keep_append}
use Rattle.bounds.proofs.Weight.{weight}

unfoldable pub total : (ℕ → ℕ) → List ℕ → ℕ
total f [] = 0
total f (n ∷ ns) = f n + total f ns

pub total_both : (f g : ℕ → ℕ) (ns : List ℕ) → total (λ n. f n + g n) ns ≡ total f ns + total g ns
unfolding total
total_both f g [] = omega arith
total_both f g (n ∷ ns) = omega (arith, total_both f g ns)

pub total_at : (f : ℕ → ℕ) (ns : List ℕ) {n : ℕ} → Memᴰ n ns → f n ≤ total f ns
unfolding total
total_at f [] m = absurd (Memᴰ.not-nil m)
total_at f (k ∷ ns) {n} m =
    ⊎_elim (λ (q : n ≡ k). rw q (omega arith)) (λ i. let l = total_at f ns i in omega (arith, l)) (Memᴰ.cases_cons m)

-- m for each node that passes
pub total_keep : (m : ℕ) (p : ℕ → Bool) (ns : List ℕ) → m * length (keep p ns) ≡ total (λ n. cond (p n) m 0) ns
unfolding total keep
total_keep m p [] = mul-zero m
total_keep m p (n ∷ ns) = by (p n) (total_keep m p ns)
  where
    by : (b : Bool) → m * length (keep p ns) ≡ total (λ n. cond (p n) m 0) ns →
        m * length (cond b (n ∷ keep p ns) (keep p ns)) ≡ cond b m 0 + total (λ n. cond (p n) m 0) ns
    by true e = omega (arith, e, mul-suc m (length (keep p ns)))
    by false e = omega (arith, e)

-- of more nodes no fewer pass
pub keep_fewer : (p : ℕ → Bool) (m n : ℕ) → m ≤ n → length (keep p (span 0 m)) ≤ length (keep p (span 0 n))
keep_fewer p m n l =
    let e : m + (n - m) ≡ n = omega arith in
    let s = ap (λ (d : ℕ). keep p (span 0 d)) (sym e) ∙ ap (keep p) (span_append 0 m (n - m)) ∙ keep_append p (span 0 m) (span (0 + m) (n - m)) in
    omega (arith, ap length s, length-append (keep p (span 0 m)) (keep p (span (0 + m) (n - m))))

-- a number for each row, not above what the row weighs
pub rows_total : (w : ℕ → ℕ → ℕ) (f : ℕ → ℕ) (rs : List Row) (i : ℕ) →
    ((k : ℕ) → k < length rs → f (i + k) ≤ w (get_or (map (λ (r : Row). r.kind) rs) k 0) (get_or (map (λ (r : Row). r.role) rs) k 0)) →
    total f (span i (length rs)) ≤ weight w rs
unfolding total weight span
rows_total w f [] i h = omega arith
rows_total w f (r ∷ rs) i h =
    let z : i + 0 ≡ i = omega arith in
    let a : f i ≤ w r.kind r.role = rw z at (h 0 (omega arith)) in
    let b = rows_total w f rs (suc i) (λ k l. let e : i + suc k ≡ suc i + k = omega arith in rw e at (h (suc k) (omega arith))) in
    omega (arith, a, b)
