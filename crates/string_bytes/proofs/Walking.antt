-- The bytes of nodes one after the other.
use mathlib.Core.Path.{◌≡◌, sym, subst}
use mathlib.Core.List.{List}
use Prim.Native.Nat.{ℕ, min, ◌+◌, ◌-◌, ◌≤◌, ◌<◌}
use native.Mathlib.Omega.{arith}
use lib.IntN.{ℤ}
use lib.ListN.{length}
use Rattle.string_bytes.specs.Spelling.{Spells, WritesNode, node_bytes, nodes_bytes}
use Rattle.string_bytes.proofs.Writing.{spells_none, spells_more, nodes_none, nodes_more}

-- THE LOOP'S INVARIANT
pub record Going (bytes starts lengths terminals kinds tokens bindings file_kinds row_of : List ℕ) (first : ℕ) (aks : List ℕ) (azs : List ℤ) (als room : List ℕ) (lo hi : ℕ)
    (out₀ out : List ℕ) (at n : ℕ) : Type 0 where
  pub from : lo ≤ n
  pub upto : n - hi ≤ lo - hi
  pub is : Spells (nodes_bytes bytes starts lengths terminals kinds tokens bindings file_kinds row_of first aks azs als room lo n) out₀ out at

spells_same : {bytes bytes' out out' : List ℕ} {r : ℕ} → bytes ≡ bytes' → Spells bytes out out' r → Spells bytes' out out' r
spells_same {out = out} {out' = out'} {r = r} e S = subst (λ (b : List ℕ). Spells b out out' r) e S

module _ {bytes starts lengths terminals kinds tokens bindings file_kinds row_of : List ℕ} {first : ℕ} {aks : List ℕ} {azs : List ℤ} {als room : List ℕ} {lo hi : ℕ} where
  pub going_starts : {out : List ℕ} → Going bytes starts lengths terminals kinds tokens bindings file_kinds row_of first aks azs als room lo hi out out 0 lo
  going_starts {out} =
      let f = node_bytes bytes starts lengths terminals kinds tokens bindings file_kinds row_of first aks azs als room in
      record { from = omega arith; upto = omega arith; is = spells_same (sym (nodes_none f lo)) (spells_none out) }

  module _ {out₀ out : List ℕ} {at n : ℕ} (G : Going bytes starts lengths terminals kinds tokens bindings file_kinds row_of first aks azs als room lo hi out₀ out at n) where
    pub going_on :
        n < hi → {out' : List ℕ} {size k : ℕ} →
        WritesNode bytes starts lengths terminals kinds tokens bindings file_kinds row_of first aks azs als room n at out out' size → k ≡ min size (length out' - at) →
        length out' ≡ length out → Going bytes starts lengths terminals kinds tokens bindings file_kinds row_of first aks azs als room lo hi out₀ out' (at + k) (n + 1)
    going_on l {out'} {size} {k} W e q =
        let f = node_bytes bytes starts lengths terminals kinds tokens bindings file_kinds row_of first aks azs als room in
        let h : k ≡ min size (length out - at) = omega arith in
        record {
          from = omega (arith, G.from);
          upto = omega (arith, G.from);
          is = spells_same (sym (nodes_more f lo n G.from)) (spells_more G.is W.is h);
        }
