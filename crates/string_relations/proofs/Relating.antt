-- The order of the strings of two nodes, which are spelled in buffers of their own.
use mathlib.Core.Path.{◌≡◌, ap₂, ◌∙◌}
use mathlib.Core.Bool.{Bool, true, false, false≢true}
use mathlib.Core.List.{List}
use Prim.Native.Nat.{ℕ, ◌≤◌}
use native.Mathlib.Omega.{arith}
use lib.IntN.{ℤ}
use lib.ListN.{length, take}
use Rattle.columns.proofs.Laws.{take_rows}
use Rattle.express.specs.Tokens.Lexis.{most_bytes}
use Rattle.express.specs.Semantics.Strings.{compare_bytes}
use Rattle.values.specs.Meaning.{ordering_of}
use Rattle.std.specs.declared.cmp.Ordering.{Ordering}
use Rattle.string_bytes.specs.Spelling.{Spells}
use Rattle.string_relations.specs.Comparing.{SpellsNode, OrdersNodes}

pub clash : {A : Type 0} → ◌≡◌ {A = Bool} false true → A
clash e = absurd (false≢true e)

-- what lies in a buffer of 255 places
front : {s out out' : List ℕ} {r : ℕ} → Spells s out out' r → length out ≡ most_bytes → length s ≤ most_bytes → take r out' ≡ s
front {s} {out} {out'} {r} S n l =
    let q : r ≡ length s = omega (arith, S.ends) in
    ap₂ (λ (k : ℕ) (xs : List ℕ). take k xs) q S.is ∙ take_rows out s (omega arith)

module _ {bytes starts lengths terminals kinds tokens sizes bindings file_kinds row_of : List ℕ} {at : ℕ} {aks : List ℕ} {azs : List ℤ} {als room : List ℕ} where
  pub orders_nodes :
      {a b : ℕ} {out₁ out₁' out₂ out₂' : List ℕ} {m n : ℕ} {r : Ordering} →
      SpellsNode bytes starts lengths terminals kinds tokens sizes bindings file_kinds row_of at aks azs als room a out₁ out₁' m → length out₁ ≡ most_bytes →
      SpellsNode bytes starts lengths terminals kinds tokens sizes bindings file_kinds row_of at aks azs als room b out₂ out₂' n → length out₂ ≡ most_bytes →
      ordering_of r ≡ compare_bytes (take m out₁') (take n out₂') →
      OrdersNodes bytes starts lengths terminals kinds tokens sizes bindings file_kinds row_of at aks azs als room a b r
  orders_nodes S p T q e = record { is = λ k l f g. e ∙ ap₂ compare_bytes (front (S.is k) p f) (front (T.is l) q g) }
