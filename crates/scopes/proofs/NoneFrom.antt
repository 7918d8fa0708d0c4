-- Nodes that pass no test, one more at a time.
use mathlib.Core.Path.{◌≡◌, ap, ◌∙◌}
use mathlib.Core.Logic.{⊎_elim}
use mathlib.Core.Bool.{Bool, false}
use Prim.Native.Nat.{ℕ, ◌-◌, ◌<◌}
use native.Mathlib.Omega.{arith}
use Rattle.relations.proofs.Select.{le_or}
use Rattle.scopes.specs.NoneFrom.{NoneFrom}

module _ (test : ℕ → Bool) {lo end : ℕ} where
  pub none_yet : NoneFrom test lo end end
  none_yet = record { low = omega arith; from = λ l. absurd (omega (arith, l)); none = λ n a b. absurd (omega (arith, a, b)) }

  pub none_more : {i : ℕ} → NoneFrom test lo end i → lo < i → test (i - 1) ≡ false → NoneFrom test lo end (i - 1)
  none_more {i} N l e =
      record {
        low = omega (arith, N.low);
        from = λ h. omega (arith, l);
        none = λ n a b. ⊎_elim (λ h. N.none n h b) (λ h. let q : n ≡ i - 1 = omega (arith, a, h) in ap test q ∙ e) (le_or i n);
      }
