-- The evaluation after the stage of kinds, and the room.
use mathlib.Core.Path.{◌≡◌, refl, sym, ◌∙◌}
use mathlib.Core.Bool.{Bool, true, false, cond}
use mathlib.Core.List.{List}
use Prim.Native.Nat.{ℕ, ◌≤◌, ◌<◌}
use native.Mathlib.Omega.{arith}
use borrow.Author.Tests.{leb-true, lt-leb, le-leb}
use lib.Dec.{leb}
use lib.IntN.{ℤ}
use lib.ListN.{length}
use Rattle.std.specs.Prelude.{Ok, Err}
use Rattle.express.specs.Syntax.Tree.{Table, count}
use Rattle.express.specs.Semantics.DeclaredColumn.{DeclaredColumn}
use Rattle.express.specs.Semantics.Kind.{Typing, typed, ill_typed, typing, WellTyped}
use Rattle.express.specs.Names.Scope as scope
use Rattle.express.proofs.Syntax.FormedRows.{formed_rows}
use Rattle.express.proofs.Semantics.Typed.{typing_accepts}
use Rattle.constants.specs.Constants.{OfFile, EvaluatesConstants}
use Rattle.stages.specs.declared.Refusal.{Refusal}
use Rattle.stages.specs.Line.{Stage, refusal, of_kinds, of_room, room_needed}
use Rattle.stages.proofs.Bounds.{clash}
use Rattle.stages.proofs.Straight.{constants_few}
use Rattle.answer_stages.specs.KindStage.{TypesFile}
use Rattle.answer_stages.specs.AnswerStage.{FitsRoom, Answered, EvaluatesFile, BoundColumns, AnswersFile}
use Rattle.answer_stages.proofs.RoomLaws.{strings_few}

module _ {bytes starts lengths terminals kinds tokens sizes bindings : List ℕ} where
  module _ {before : Stage} {declared order was aks : List ℕ} {azs : List ℤ} {als vks : List ℕ} {vzs : List ℤ} {vls room row_of' aks' : List ℕ} {azs' : List ℤ}
      {als' room' : List ℕ} where
    pub evaluated : {r : Stage} {i needed b : ℕ} → before ≡ Ok i →
        EvaluatesConstants bytes starts lengths terminals kinds tokens sizes bindings declared order was aks azs als vks vzs vls room row_of' aks' azs' als' room' needed →
        b ≡ length room → FitsRoom needed b i r →
        EvaluatesFile bytes starts lengths terminals kinds tokens sizes bindings before declared order was aks azs als vks vzs vls room r row_of' aks' azs' als' room'
    evaluated {i = i} {needed = needed} e E l F =
        record {
          passed_on = λ f q. clash (cc);
          is = λ n q. let same : i ≡ n = cc in (needed, rw (sym same, sym l) F, E);
        }

    pub not_evaluated : {f : Refusal} → before ≡ Err f →
        EvaluatesFile bytes starts lengths terminals kinds tokens sizes bindings before declared order was aks azs als vks vzs vls room (Err f) row_of' aks' azs' als' room'
    not_evaluated e = record { passed_on = λ g u. sym e ∙ u; is = λ n q. clash (cc) }

  module _ (t : Table) {type_order constant_order declared row_of aks : List ℕ} {azs : List ℤ} {als vks : List ℕ} {vzs : List ℤ} {vls : List ℕ}
      (B : BoundColumns bytes starts lengths terminals kinds tokens sizes bindings t type_order constant_order declared row_of aks azs als vks vzs vls) where
    well_typed : ((ks : _) × (typing t bindings ≡ typed ks)) → WellTyped t bindings
    well_typed h = (typing_accepts t bindings (formed_rows B.named.accepted.read)).0 h

    -- the columns of a file that is typed and whose declared types are known
    of_file : {declared' : List ℕ} → WellTyped t bindings → DeclaredColumn t bindings declared' →
        OfFile t bytes starts lengths terminals kinds tokens sizes bindings declared' constant_order
    of_file w d =
        let N = B.named in
        let A = N.accepted in
        record {
          read = A.read;
          scanned = B.scanned;
          named = A.named;
          typed = w;
          few = let f = B.few in omega arith;
          bytes_are = B.bytes_are;
          starts_are = N.starts_are;
          lengths_are = B.lengths_are;
          terminals_are = N.columns.terminals_are;
          kinds_are = N.columns.kinds_are;
          tokens_are = N.columns.tokens_are;
          sizes_are = N.columns.sizes_are;
          bindings_are = sym A.bound;
          declares = d;
          ordered = B.arranged;
        }

    -- 255 bytes for each constant fit into 32 bits
    needed_small : (ks : _) → typing t bindings ≡ typed ks → room_needed t ≤ 4294967296
    needed_small ks e =
        let A = B.named.accepted in
        let f = B.few in
        let h : typing t (scope.bindings t) ≡ typed ks = rw (sym A.bound) e in
        omega (arith, strings_few t B.scanned A.read A.named ks h, constants_few t)

    module _ {n : ℕ} {d r : Stage} {declared' row_of' row_of'' aks' : List ℕ} {azs' : List ℤ} {als' room room' : List ℕ}
        (l : length row_of' ≡ length row_of) (D : DeclaredColumn t bindings declared')
        (E : EvaluatesFile bytes starts lengths terminals kinds tokens sizes bindings d declared' constant_order row_of' aks azs als vks vzs vls room r row_of'' aks' azs' als' room') where
      typed_answered : (ks : _) → typing t bindings ≡ typed ks → d ≡ Ok n → Answered t bindings n r aks azs als room aks' azs' als' room'
      typed_answered ks y e =
          let x = E.is n e in
          let O = of_file (well_typed (ks, y)) D in
          let c : count t ≤ length row_of' = let h = B.named.room in omega (arith, l) in
          let needs : x.0 ≡ room_needed t = x.2.needs t O c B.value_room B.answer_room in
          let is : r ≡ of_room (room_needed t) (length room) n = rw (sym needs) (x.1.is (rw needs (needed_small ks y))) in
          let suffices : (m : ℕ) → r ≡ Ok m → x.0 ≤ length room = λ m q. fits (leb (room_needed t) (length room)) refl m (sym is ∙ q) needs in
          record {
            is = rw y is;
            rows = λ m q. (x.2.is t O c B.value_room B.answer_room (suffices m q)).0;
            strings = λ m q. (x.2.is t O c B.value_room B.answer_room (suffices m q)).1;
          }
        where
          fits : (b : Bool) → leb (room_needed t) (length room) ≡ b → (m : ℕ) → cond b (Ok n) (refusal 20 (length room)) ≡ Ok m → {i : ℕ} → i ≡ room_needed t → i ≤ length room
          fits true u m q e = rw e (leb-true _ _ u)
          fits false u m q e = clash (cc)

      pub ended : d ≡ of_kinds t (typing t bindings) n → Answered t bindings n r aks azs als room aks' azs' als' room'
      ended e = by (typing t bindings) refl e
        where
          by : (y : Typing) → typing t bindings ≡ y → d ≡ of_kinds t y n → Answered t bindings n r aks azs als room aks' azs' als' room'
          by (typed ks) y q = typed_answered ks y q
          by (ill_typed f k) y q =
              let u = E.passed_on _ q in
              record { is = rw y u; rows = λ m v. clash (cc); strings = λ m v. clash (cc) }

  pub answered : {before : Stage} {type_order constant_order declared row_of aks : List ℕ} {azs : List ℤ} {als vks : List ℕ} {vzs : List ℤ} {vls room : List ℕ} {d r : Stage}
      {declared' row_of' row_of'' aks' : List ℕ} {azs' : List ℤ} {als' room' : List ℕ} →
      TypesFile before starts terminals kinds tokens sizes bindings type_order declared row_of d declared' → length row_of' ≡ length row_of →
      EvaluatesFile bytes starts lengths terminals kinds tokens sizes bindings d declared' constant_order row_of' aks azs als vks vzs vls room r row_of'' aks' azs' als' room' →
      AnswersFile bytes starts lengths terminals kinds tokens sizes bindings before type_order constant_order declared row_of aks azs als vks vzs vls room r aks' azs' als' room'
  answered T l E =
      record {
        passed_on = λ f e. E.passed_on f (T.passed_on f e);
        is = λ t B n e. let x = T.is t B.named n e in ended t B l x.1 E x.0;
      }

-- ---- the answers of `of_room`

module _ {needed room n : ℕ} where
  pub room_suffices : needed ≤ room → FitsRoom needed room n (Ok n)
  room_suffices l = record { is = λ h. rw (le-leb needed room l) }

  pub room_short : {p : ℕ} → room < needed → (room < 4294967296 → p ≡ room) → FitsRoom needed room n (refusal 20 p)
  room_short {p} l f = record { is = λ h. let e : p ≡ room = f (omega arith) in rw (lt-leb needed room l, e) }
