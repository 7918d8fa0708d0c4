-- The lengths of strings, in an order of the constants: each string finds the lengths of those that it names.
use mathlib.Core.Path.{◌≡◌, refl, sym, ap, subst, ◌∙◌}
use mathlib.Core.Logic.{◌⊎◌, ⊎_elim}
use mathlib.Core.Bool.{Bool, true, false}
use mathlib.Core.List.Memᴰ
use mathlib.Core.List.{List, Memᴰ}
use Prim.Native.Nat.{ℕ, ◌+◌, ◌-◌, ◌≤◌, ◌<◌}
use native.Mathlib.Omega.{arith}
use borrow.Author.Tests.{eqb-true}
use lib.IntN.{ℤ}
use lib.ListN.{length, get_or, take, get_or-eq_default}
use lib.Seq.{take_all}
use Rattle.relations.specs.Reach.{Joins}
use Rattle.relations.proofs.Select.{le_or}
use Rattle.express.specs.Names.Fault.{constant_edges}
use Rattle.express.specs.Semantics.Evaluate.{answer_at}
use Rattle.operations.specs.Meaning.{sized}
use Rattle.node_answers.specs.Answers.{answers_in}
use Rattle.express.specs.Syntax.NodeKind as node
use Rattle.express.specs.Syntax.Tree.{Table, count, kind, first, last}
use Rattle.express.specs.Semantics.Answer.{Answer}
use Rattle.express.specs.Semantics.AnswerRow.{AnswerRow}
use Rattle.express.specs.Semantics.AnswerRow as answer_row
use Rattle.express.specs.Semantics.Declared.{STRING, declared_type}
use Rattle.express.specs.Semantics.Kind.{constants}
use Rattle.express.specs.Semantics.Shape.{name, shape}
use Rattle.express.proofs.Names.Edges.{constant_edge_iff}
use Rattle.string_laws.proofs.Expressions.{Joining}
use Rattle.string_laws.proofs.Expressions as joining
use Rattle.evaluate.specs.Evaluation.{known_in, Knows}
use Rattle.schemas.specs.Rows.{row, due, answer_of_constant, is_string, measured_row, OfFile, Rows, Room, Holds, Filled, MeasuresConstant, MeasuresConstants}
use Rattle.schemas.proofs.Settled.{answer_storable}
use Rattle.schemas.proofs.Answers.{row_within}
use Rattle.schemas.proofs.OneConstant.{string_node, measured_string}
use Rattle.schemas.proofs.Held.{one_more, Due, Held, HeldRows, held_same, held_more, row_read, names_edge, whole_part, due_is, due_not}
use Rattle.constant_rows.proofs.Numbering.{row_none}

-- a constant in the expression of a string is declared STRING
named_string : {t : Table} {b : List ℕ} {c : ℕ} → Joining t b (name c) → declared_type t b c ≡ STRING
named_string (joining.a_name e) = e

module _ {t : Table} {bytes starts lengths terminals kinds tokens sizes bindings declared order : List ℕ}
    (O : OfFile t bytes starts lengths terminals kinds tokens sizes bindings declared order) {row_of : List ℕ} (W : Rows t row_of) {aks₀ : List ℕ} {azs₀ : List ℤ} {als₀ aks : List ℕ}
    {azs : List ℤ} {als : List ℕ} {passed : ℕ → Type 0} (H : HeldRows (measured_row t) t 0 (count t) 0 aks₀ azs₀ als₀ aks azs als passed)
    (R : Holds (length (constants t)) aks azs als) (d : ℕ) (l : d < count t) (h : kind t d ≡ node.constant) (s : is_string t d ≡ true)
    (p : (c : ℕ) → Joins (constant_edges t) d c → passed c) where
  pub measured_known : Knows t t bindings (answer_of_constant t) row_of 0 aks azs als (first t (last d)) d
  measured_known = record { is = λ m a b c e. known m a b c e }
    where
      known : (m : ℕ) → first t (last d) ≤ m → m < d → (c : ℕ) → shape t bindings m ≡ name c → known_in row_of 0 aks azs als c ≡ sized (answer_of_constant t c)
      known m a b c e =
          let u = names_edge O d l h m a b c e in
          let k = eqb-true (kind t c) node.constant ((constant_edge_iff t d c).0 u).1 in
          let q = below t c k in
          let j : declared_type t bindings c ≡ STRING = named_string (subst (Joining t bindings) e (string_node O d l h s m a b)) in
          let g : is_string t c ≡ true = rw (ap (λ (x : List ℕ). declared_type t x c) O.bindings_are ∙ j) in
          let D : Due t 0 (count t) c = record { from = omega arith; upto = q; is_constant = k } in
          let i = row t c - 0 in
          let n = row_within t c q k in
          let w = ap row_of_answer (measured_string t c g) in
          let v = answer_storable O.read O.named O.scanned O.few c in
          ap (λ (x : ℕ). answer_at (answers_in aks azs als) (x - 0)) (W.is c q) ∙
          row_read aks azs als i 0 (answer_of_constant t c) v (omega (arith, n, R.kinds_long)) (omega (arith, n, R.numbers_long)) (omega (arith, n, R.lengths_long))
          (H.kinds_are.there c (p c u) D ∙ ap (λ (r : AnswerRow). r.kind) w) (H.numbers_are.there c (p c u) D ∙ ap (λ (r : AnswerRow). r.number) w)
          (H.lengths_are.there c (p c u) D ∙ ap (λ (r : AnswerRow). r.length) w)
        where
          row_of_answer : Answer → AnswerRow
          row_of_answer x = answer_row.row_of x

          below : (t : Table) (c : ℕ) → kind t c ≡ node.constant → c < count t
          below t c k = ⊎_elim (λ l. let z : kind t c ≡ 0 = get_or-eq_default t.kinds 0 l in absurd (omega arith)) (λ l. l) (le_or (count t) c)

-- THE LOOP'S INVARIANT: after i of the order
pub record Measuring (bytes starts lengths terminals kinds tokens sizes bindings declared order row_of : List ℕ) (aks₀ : List ℕ) (azs₀ : List ℤ) (als₀ vks₀ : List ℕ)
    (vzs₀ : List ℤ) (vls₀ aks : List ℕ) (azs : List ℤ) (als vks : List ℕ) (vzs : List ℤ) (vls : List ℕ) (i : ℕ) : Type 0 where
  pub kinds_kept : length aks ≡ length aks₀
  pub numbers_kept : length azs ≡ length azs₀
  pub lengths_kept : length als ≡ length als₀
  pub value_kinds_kept : length vks ≡ length vks₀
  pub value_numbers_kept : length vzs ≡ length vzs₀
  pub value_lengths_kept : length vls ≡ length vls₀
  pub is :
      (t : Table) → OfFile t bytes starts lengths terminals kinds tokens sizes bindings declared order → Rows t row_of → Room t vks₀ vzs₀ vls₀ →
      Holds (length (constants t)) aks₀ azs₀ als₀ → HeldRows (measured_row t) t 0 (count t) 0 aks₀ azs₀ als₀ aks azs als (λ c. Memᴰ c (take i order))

module _ {bytes starts lengths terminals kinds tokens sizes bindings declared order row_of : List ℕ} {aks₀ : List ℕ} {azs₀ : List ℤ} {als₀ vks₀ : List ℕ} {vzs₀ : List ℤ} {vls₀ : List ℕ} where
  pub measuring_starts :
      Measuring bytes starts lengths terminals kinds tokens sizes bindings declared order row_of aks₀ azs₀ als₀ vks₀ vzs₀ vls₀ aks₀ azs₀ als₀ vks₀ vzs₀ vls₀ 0
  measuring_starts =
      record {
        kinds_kept = refl;
        numbers_kept = refl;
        lengths_kept = refl;
        value_kinds_kept = refl;
        value_numbers_kept = refl;
        value_lengths_kept = refl;
        is = λ t O W M R.
            record {
              kinds_are = record { there = λ c m D. absurd (Memᴰ.not-nil m); rest = λ r h. refl };
              numbers_are = record { there = λ c m D. absurd (Memᴰ.not-nil m); rest = λ r h. refl };
              lengths_are = record { there = λ c m D. absurd (Memᴰ.not-nil m); rest = λ r h. refl };
            };
      }

  pub measuring_same :
      {aks : List ℕ} {azs : List ℤ} {als vks : List ℕ} {vzs : List ℤ} {vls aks' : List ℕ} {azs' : List ℤ} {als' vks' : List ℕ} {vzs' : List ℤ} {vls' : List ℕ} {i : ℕ} →
      aks' ≡ aks → azs' ≡ azs → als' ≡ als → vks' ≡ vks → vzs' ≡ vzs → vls' ≡ vls →
      Measuring bytes starts lengths terminals kinds tokens sizes bindings declared order row_of aks₀ azs₀ als₀ vks₀ vzs₀ vls₀ aks azs als vks vzs vls i →
      Measuring bytes starts lengths terminals kinds tokens sizes bindings declared order row_of aks₀ azs₀ als₀ vks₀ vzs₀ vls₀ aks' azs' als' vks' vzs' vls' i
  measuring_same a b c d e f P = rw (a, b, c, d, e, f) P

  module _ {aks : List ℕ} {azs : List ℤ} {als vks : List ℕ} {vzs : List ℤ} {vls : List ℕ} {i : ℕ}
      (P : Measuring bytes starts lengths terminals kinds tokens sizes bindings declared order row_of aks₀ azs₀ als₀ vks₀ vzs₀ vls₀ aks azs als vks vzs vls i) where
    module _ (l : i < length order) {d : ℕ} (d_is : d ≡ get_or order i 0) {n : ℕ} (n_is : n ≡ length kinds) {b : Bool} (b_is : b ≡ due kinds 0 n d) where
      pub measuring_other :
          b ≡ false → Measuring bytes starts lengths terminals kinds tokens sizes bindings declared order row_of aks₀ azs₀ als₀ vks₀ vzs₀ vls₀ aks azs als vks vzs vls (i + 1)
      measuring_other h =
          record {
            kinds_kept = P.kinds_kept;
            numbers_kept = P.numbers_kept;
            lengths_kept = P.lengths_kept;
            value_kinds_kept = P.value_kinds_kept;
            value_numbers_kept = P.value_numbers_kept;
            value_lengths_kept = P.value_lengths_kept;
            is = λ t O W M R.
                let H = P.is t O W M R in
                let z : n ≡ count t = n_is ∙ ap length (sym O.kinds_are) in
                let skip : (k : ℕ) → Memᴰ k (take (i + 1) order) → Due t 0 (count t) k → Memᴰ k (take i order) = λ k m D.
                ⊎_elim (λ j. j) (λ q. absurd (due_not O.kinds_are (ap (λ (x : ℕ). due kinds 0 x d) (sym z) ∙ sym b_is ∙ h) (subst (Due t 0 (count t)) q D))) (one_more order i d_is k m) in
                record { kinds_are = held_same H.kinds_are skip; numbers_are = held_same H.numbers_are skip; lengths_are = held_same H.lengths_are skip };
          }

      pub measuring_due :
          b ≡ true → {aks' : List ℕ} {azs' : List ℤ} {als' vks' : List ℕ} {vzs' : List ℤ} {vls' : List ℕ} →
          MeasuresConstant bytes starts lengths terminals kinds tokens sizes bindings declared row_of d 0 aks azs als vks vzs vls aks' azs' als' →
          length aks' ≡ length aks → length azs' ≡ length azs → length als' ≡ length als → length vks' ≡ length vks → length vzs' ≡ length vzs → length vls' ≡ length vls →
          Measuring bytes starts lengths terminals kinds tokens sizes bindings declared order row_of aks₀ azs₀ als₀ vks₀ vzs₀ vls₀ aks' azs' als' vks' vzs' vls' (i + 1)
      measuring_due h {aks'} {azs'} {als'} E a₁ a₂ a₃ v₁ v₂ v₃ =
          record {
            kinds_kept = a₁ ∙ P.kinds_kept;
            numbers_kept = a₂ ∙ P.numbers_kept;
            lengths_kept = a₃ ∙ P.lengths_kept;
            value_kinds_kept = v₁ ∙ P.value_kinds_kept;
            value_numbers_kept = v₂ ∙ P.value_numbers_kept;
            value_lengths_kept = v₃ ∙ P.value_lengths_kept;
            is = rows;
          }
        where
          rows :
              (t : Table) → OfFile t bytes starts lengths terminals kinds tokens sizes bindings declared order → Rows t row_of → Room t vks₀ vzs₀ vls₀ →
              Holds (length (constants t)) aks₀ azs₀ als₀ → HeldRows (measured_row t) t 0 (count t) 0 aks₀ azs₀ als₀ aks' azs' als' (λ c. Memᴰ c (take (i + 1) order))
          rows t O W M R =
              let H = P.is t O W M R in
              let z : n ≡ count t = n_is ∙ ap length (sym O.kinds_are) in
              let D : Due t 0 (count t) d = due_is O.kinds_are (ap (λ (x : ℕ). due kinds 0 x d) (sym z) ∙ sym b_is ∙ h) in
              let Y : Room t vks vzs vls = record {
                kinds_long = omega (arith, P.value_kinds_kept, M.kinds_long);
                numbers_long = omega (arith, P.value_numbers_kept, M.numbers_long);
                lengths_long = omega (arith, P.value_lengths_kept, M.lengths_long);
              } in
              let Q : Holds (length (constants t)) aks azs als = record {
                kinds_long = omega (arith, P.kinds_kept, R.kinds_long);
                numbers_long = omega (arith, P.numbers_kept, R.numbers_long);
                lengths_long = omega (arith, P.lengths_kept, R.lengths_long);
              } in
              let G = E.is t order O Y D.upto D.is_constant
              (λ s. measured_known O W H Q d D.upto D.is_constant s
              (λ c e. (whole_part O).sorted i c l (subst (λ (y : ℕ). Joins (constant_edges t) y c) d_is e) (omega arith))) in
              let j = ap (λ (y : ℕ). y - 0) (W.is d D.upto) in
              let w = row_within t d D.upto D.is_constant in
              let s : 0 ≡ row t 0 = sym (row_none t.kinds) in
              let M : (k : ℕ) → Memᴰ k (take (i + 1) order) → Due t 0 (count t) k → Memᴰ k (take i order) ⊎ (k ≡ d) = λ k m _. one_more order i d_is k m in
              record {
                kinds_are = held_more H.kinds_are d M s D (omega (arith, w, Q.kinds_long)) (rw (← j) G.kinds_are);
                numbers_are = held_more H.numbers_are d M s D (omega (arith, w, Q.numbers_long)) (rw (← j) G.numbers_are);
                lengths_are = held_more H.lengths_are d M s D (omega (arith, w, Q.lengths_long)) (rw (← j) G.lengths_are);
              }

    -- all constants are in the order
    pub measuring_ends :
        length order ≤ i → MeasuresConstants bytes starts lengths terminals kinds tokens sizes bindings declared order row_of aks₀ azs₀ als₀ vks₀ vzs₀ vls₀ aks azs als
    measuring_ends e =
        record {
          is = λ t O W M R.
              let H = P.is t O W M R in
              record { kinds_are = all O H.kinds_are; numbers_are = all O H.numbers_are; lengths_are = all O H.lengths_are };
        }
      where
        all :
            {A : Type 0} {z : A} {f : ℕ → A} {t : Table} {was column : List A} → OfFile t bytes starts lengths terminals kinds tokens sizes bindings declared order →
            Held z f t 0 (count t) 0 was column (λ c. Memᴰ c (take i order)) → Filled z f t 0 (count t) 0 was column
        all {t = t} O H =
            record {
              constants_are = λ c lo hi k.
                  H.there c (rw (take_all i order e) ((whole_part O).complete c lo hi k)) (record { from = lo; upto = hi; is_constant = k });
              rest = H.rest;
            }
