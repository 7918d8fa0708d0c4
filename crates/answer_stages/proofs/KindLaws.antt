-- What is declared, and the kinds: the stage after the names.
use mathlib.Core.Path.{◌≡◌, refl, sym, ap, ◌∙◌}
use mathlib.Core.List.{List}
use Prim.Native.Nat.{ℕ}
use lib.ListN.{get_or}
use Rattle.express.specs.Syntax.Tree.{Table}
use Rattle.express.specs.Semantics.Kind as kind
use Rattle.declared_types.specs.Promise.{Declares}
use Rattle.std.specs.Prelude.{Result, Ok, Err}
use Rattle.typing.specs.declared.IllTyped.{IllTyped}
use Rattle.typing.specs.Typings.{outcome, TypesConstants}
use Rattle.stages.specs.declared.Refusal.{Refusal}
use Rattle.stages.specs.Line.{Stage, refusal, of_kinds}
use Rattle.answer_stages.specs.KindStage.{of_typing, TypesFile}
use Rattle.stages.proofs.Bounds.{clash}

typed_as : (t : Table) (starts tokens : List ℕ) → t.starts ≡ starts → t.tokens ≡ tokens → (y : kind.Typing) (n : ℕ) → of_typing starts tokens (outcome y) n ≡ of_kinds t y n
typed_as t starts tokens s k (kind.typed ks) n = refl
typed_as t starts tokens s k (kind.ill_typed f m) n = rw (s, k)

module _ {before : Stage} {starts terminals kinds tokens sizes bindings order declared scratch : List ℕ} where
  pub typed_file : {i : ℕ} {y : Result (Unit {0}) IllTyped} {r : Stage} {declared' scratch' : List ℕ} → before ≡ Ok i →
      Declares terminals kinds tokens sizes bindings order declared declared' →
      TypesConstants terminals kinds tokens sizes bindings declared' scratch scratch' y → r ≡ of_typing starts tokens y i →
      TypesFile before starts terminals kinds tokens sizes bindings order declared scratch r declared'
  typed_file {i} {y} {r} e D C u =
      record {
        passed_on = λ f q. clash (cc);
        is = λ t A n q.
            let c = A.columns in
            let d = D.declared t c A.accepted in
            let o = C.is t (record {
              read = A.accepted.read;
              terminals_are = c.terminals_are;
              kinds_are = c.kinds_are;
              tokens_are = c.tokens_are;
              sizes_are = c.sizes_are;
              declares = d;
            }) A.room in
            let same : i ≡ n = cc in (
              u ∙ ap (λ (x : Result (Unit {0}) IllTyped). of_typing starts tokens x i) o ∙ typed_as t starts tokens A.starts_are c.tokens_are (kind.typing t bindings) i ∙
                  ap (of_kinds t (kind.typing t bindings)) same,
              d,
            );
      }

  pub passed_file : {f : Refusal} {declared' : List ℕ} → before ≡ Err f → TypesFile before starts terminals kinds tokens sizes bindings order declared scratch (Err f) declared'
  passed_file e = record { passed_on = λ g u. sym e ∙ u; is = λ t A n q. clash (cc) }

-- the answer of a typing, taken apart
module _ (starts tokens : List ℕ) (n : ℕ) {y : Result (Unit {0}) IllTyped} where
  pub of_typed : y ≡ Ok tt → Ok n ≡ of_typing starts tokens y n
  of_typed e = rw e

  pub of_fault : {i : IllTyped} {a b q : ℕ} → y ≡ Err i → a ≡ get_or tokens i.node 0 → b ≡ a → q ≡ get_or starts b 0 → refusal i.reply q ≡ of_typing starts tokens y n
  of_fault e i j k = rw (e, k, j, i)
