-- The answer to a fault.
use Rattle.std.specs.Prelude.{Option, Some, None, Result, Ok, Err}
use mathlib.Core.Path.{◌≡◌, refl, sym, ap, ◌∙◌}
use mathlib.Core.Bool.{Bool, true, false, cond}
use mathlib.Core.List.{List}
use Prim.Native.Nat.{ℕ, min}
use lib.ListN.{length, take}
use lib.Seq.{sets}
use Rattle.faults.specs.declared.Fault.{Fault}
use Rattle.faults.specs.Meaning.{is_fine}
use Rattle.resolutions.specs.Answer.{Finishes, answer_to}
use Rattle.resolutions.specs.declared.Refusal.{Refusal}
use Rattle.resolutions.specs.declared.Refusal.TheVariants.{Faulty}

module _ {roles bindings : List ℕ} where
  pub finishes_bound : (f : Option Fault) → is_fine f ≡ true → Finishes f roles bindings (Ok tt) bindings
  finishes_bound None e = record { answer = refl; bindings_are = refl }
  finishes_bound (Some x) e = record {
    answer = sym (ap (λ b. cond b (Ok tt) (Err (Faulty x))) e);
    bindings_are = sym (ap (λ b. cond b bindings (sets bindings 0 (take (min (length roles) (length bindings)) roles))) e);
  }

  pub finishes_faulty : (f : Option Fault) → is_fine f ≡ false → {x : Fault} {bindings' : List ℕ} → f ≡ Some x →
      bindings' ≡ sets bindings 0 (take (min (length roles) (length bindings)) roles) → Finishes f roles bindings (Err (Faulty x)) bindings'
  finishes_faulty f n {x} e w = record {
    answer = sym (ap answer_to e ∙ ap (λ b. cond b (Ok tt) (Err (Faulty x))) (sym (ap is_fine e) ∙ n));
    bindings_are = w ∙ sym (ap (λ b. cond b bindings (sets bindings 0 (take (min (length roles) (length bindings)) roles))) n);
  }
