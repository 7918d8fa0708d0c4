-- The stage of names, from what `names::resolve` promises.
use Rattle.std.specs.Prelude.{Result, Ok, Err}
use mathlib.Core.Path.{◌≡◌, refl, sym, ap, ◌∙◌}
use mathlib.Core.List.{List}
use Prim.Native.Nat.{ℕ}
use borrow.Author.Tests.{eq-eqb, ne_eqb}
use Rattle.express.specs.Tokens.Lexis.{most}
use Rattle.express.specs.Syntax.Tree.{Table}
use Rattle.express.specs.Names.Fault.{Fault}
use Rattle.express.specs.Names.Names.{names}
use Rattle.faults.specs.Meaning.{number_of}
use Rattle.faults.specs.declared.Fault as code
use Rattle.resolutions.specs.declared.Refusal as resolution
use Rattle.resolutions.specs.declared.Refusal.TheVariants.{Faulty, Unfit}
use Rattle.names.specs.Resolution.{Resolved, Resolves}
use Rattle.stages.specs.declared.Refusal.{Refusal}
use Rattle.stages.specs.Line.{Stage, refusal}
use Rattle.stages.proofs.Bounds.{clash}
use Rattle.pipeline.specs.NameStage.{of_resolution, NamesEnd, NamesFile}

names_end : (t : Table) (n : ℕ) {bindings types constants : List ℕ} (y : Result (Unit {0}) resolution.Refusal) → (y ≡ Err Unfit → ⊥) → Resolved t y bindings types constants →
    NamesEnd t n (of_resolution y n) bindings types constants
names_end t n (Ok x) u R =
    record {
      is = rw (eq-eqb (names t).number 0 R.0);
      bound = λ m e. R.1;
      types_arranged = λ m e. R.2;
      constants_arranged = λ m e. R.3;
    }
names_end t n (Err (Faulty f)) u R =
    let z : (names t).number ≡ 0 → ⊥ = λ (q : (names t).number ≡ 0). R.1 (sym (ap (λ (f : Fault). f.number) R.0) ∙ q) in
    record {
      is = rw (ne_eqb (names t).number 0 z, R.0);
      bound = λ m e. clash (cc);
      types_arranged = λ m e. clash (cc);
      constants_arranged = λ m e. clash (cc);
    }
names_end t n (Err Unfit) u R = absurd (u refl)

module _ {before : Stage} {src starts lengths terminals kinds tokens sizes bindings roles symbols keys nodes heads next first to types constants scratch : List ℕ} where
  pub named_file : {i : ℕ} {y : Result (Unit {0}) resolution.Refusal} {r : Stage} {bindings' types' constants' : List ℕ} → before ≡ Ok i →
      Resolves src starts lengths terminals kinds tokens sizes bindings roles symbols keys nodes heads next first to types constants scratch y bindings' types' constants' → r ≡
      of_resolution y i →
      NamesFile before src starts lengths terminals kinds tokens sizes bindings roles symbols keys nodes heads next first to types constants scratch r bindings' types' constants'
  named_file {i} {y} {r} e R u =
      record {
        passed_on = λ f q. clash (cc);
        is = λ t F room n q.
            let same : i ≡ n = cc in
            rw (u, same) (names_end t n y (λ z. R.unfit z t F room) (R.is t F));
      }

  pub passed_names : {f : Refusal} {bindings' types' constants' : List ℕ} → before ≡ Err f →
      NamesFile before src starts lengths terminals kinds tokens sizes bindings roles symbols keys nodes heads next first to types constants scratch (Err f) bindings' types' constants'
  passed_names e = record { passed_on = λ g u. sym e ∙ u; is = λ t F room n q. clash (cc) }

-- the answer of a resolution, taken apart
module _ (n : ℕ) {y : Result (Unit {0}) resolution.Refusal} where
  pub of_bound : y ≡ Ok tt → Ok n ≡ of_resolution y n
  of_bound e = rw e

  pub of_faulty : {f : code.Fault} → y ≡ Err (Faulty f) → refusal (number_of f.reply) f.place ≡ of_resolution y n
  of_faulty e = rw e

  pub of_unfit : y ≡ Err Unfit → refusal 1 most ≡ of_resolution y n
  of_unfit e = rw e
