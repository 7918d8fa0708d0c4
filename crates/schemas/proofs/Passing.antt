-- The constants of a schema in an order: each finds the answers of those that it names in their rows, and their strings in the room.
use mathlib.Core.Path.{◌≡◌, refl, sym, ap, subst, ◌∙◌}
use mathlib.Core.Logic.{◌⊎◌, inl, inr, ⊎_elim}
use mathlib.Core.Bool.{Bool, true, false, false≢true}
use mathlib.Core.List.Memᴰ
use mathlib.Core.List.{List, [], Memᴰ}
use Prim.Native.Nat.{ℕ, ◌+◌, ◌-◌, ◌≤◌, ◌<◌}
use native.Mathlib.Decide.{ℕ_discrete, dec_lt}
use native.Mathlib.Omega.{arith}
use borrow.Author.Tests.{eqb-true, ne_eqb}
use lib.IntN.{ℤ, pos}
use lib.ListN.{length, get_or, take, drop}
use lib.Seq.{sets, length-sets, take_all}
use Rattle.relations.specs.Reach.{Joins}
use Rattle.express.specs.Syntax.NodeKind as node
use Rattle.express.specs.Syntax.Tree.{Table, count, kind, first, last}
use Rattle.express.specs.Names.Scope as scope
use Rattle.express.specs.Names.Fault.{constant_edges}
use Rattle.express.specs.Semantics.Answer.{Answer}
use Rattle.express.specs.Semantics.AnswerRow.{row_at, bytes_of}
use Rattle.express.specs.Semantics.AnswerRow as answer_row
use Rattle.express.specs.Semantics.Declared.{Declared, STRING, declared_type}
use Rattle.express.specs.Semantics.Kind.{WellTyped}
use Rattle.express.specs.Semantics.Rule.{an_integer, is_false, is_true, a_logical, a_binary, a_string, an_item}
use Rattle.express.specs.Semantics.Rule as rule
use Rattle.express.specs.Semantics.Shape.{name, shape}
use Rattle.express.specs.Semantics.Evaluate.{answer_at}
use Rattle.express.proofs.Names.Edges.{constant_edge_schema, constant_edge_iff}
use Rattle.express.proofs.Semantics.Operations.{ends_range}
use Rattle.operations.specs.Meaning.{sized}
use Rattle.node_answers.specs.Answers.{answers_in}
use Rattle.string_laws.proofs.Answers.{answer_holds, holds_no_bytes}
use Rattle.string_bytes.specs.Spelling.{row_bytes}
use Rattle.string_bytes.specs.Reading.{Readable}
use Rattle.evaluate.specs.Evaluation.{known_in, Knows, Comparable}
use Rattle.schemas.specs.Rows.{row, due, answer_of_constant, start_of, row_of_constant, is_string, OfFile, Rows, Room, Holds, Schema, Part, Filled, Placed, FillsConstant, FillsSchema}
use Rattle.schemas.proofs.Settled.{answer_storable}
use Rattle.schemas.proofs.Room.{part_same}
use Rattle.schemas.proofs.Answers.{start_rises, start_behind}
use Rattle.schemas.proofs.Writing.{stored_there, before_kept, behind_kept, drop_kept}
use Rattle.schemas.proofs.Held.{one_more, Due, Held, HeldRows, held_same, held_more, row_read, names_edge, due_is, due_not}
use Rattle.constant_rows.proofs.Numbering.{row_rises, row_before}

-- ---- the row of an answer and its string

-- where no string is declared, the start says nothing
holds_row : {t : Table} {d : Declared} {a : Answer} → rule.Holds t d a → (d ≡ STRING → ⊥) → (start : ℕ) → answer_row.row_of a ≡ row_at start a
holds_row rule.no_value n start = refl
holds_row (rule.an_end m) n start = refl
holds_row (rule.a_member (an_integer l)) n start = refl
holds_row (rule.a_member is_false) n start = refl
holds_row (rule.a_member is_true) n start = refl
holds_row (rule.a_member a_logical) n start = refl
holds_row (rule.a_member (a_binary l m)) n start = refl
holds_row (rule.a_member (a_string l)) n start = absurd (n refl)
holds_row (rule.a_member (an_item i o)) n start = refl

-- the bytes in the room of a row that holds that of an answer, whose string stands at its start
holds_bytes :
    {t : Table} {d : Declared} (room kinds : List ℕ) (numbers : List ℤ) (lengths : List ℕ) (i start : ℕ) {a : Answer} → rule.Holds t d a →
    get_or kinds i 0 ≡ (row_at start a).kind → get_or numbers i (pos 0) ≡ (row_at start a).number → get_or lengths i 0 ≡ (row_at start a).length →
    take (length (bytes_of a)) (drop start room) ≡ bytes_of a → row_bytes room kinds numbers lengths i ≡ bytes_of a
holds_bytes room ks zs ls i start rule.no_value p q r s = rw p
holds_bytes room ks zs ls i start (rule.an_end {e} m) p q r s = let u = ends_range m in rw (p, ne_eqb e 5 (λ (z : e ≡ 5). omega (arith, u.0)))
holds_bytes room ks zs ls i start (rule.a_member (an_integer l)) p q r s = rw p
holds_bytes room ks zs ls i start (rule.a_member is_false) p q r s = rw p
holds_bytes room ks zs ls i start (rule.a_member is_true) p q r s = rw p
holds_bytes room ks zs ls i start (rule.a_member a_logical) p q r s = rw p
holds_bytes room ks zs ls i start (rule.a_member (a_binary l m)) p q r s = rw p
holds_bytes room ks zs ls i start (rule.a_member (a_string l)) p q r s = rw (p, q, r) s
holds_bytes room ks zs ls i start (rule.a_member (an_item j o)) p q r s = rw p

-- ---- the room
pub record RoomHeld (t : Table) (lo hi : ℕ) (was room : List ℕ) (passed : ℕ → Type 0) : Type 0 where
  pub long : length room ≡ length was
  pub there :
      (c : ℕ) → passed c → Due t lo hi c → take (length (bytes_of (answer_of_constant t c))) (drop (start_of t c) room) ≡ bytes_of (answer_of_constant t c)
  pub rest : (i : ℕ) → (i < start_of t lo) ⊎ (start_of t hi ≤ i) → get_or room i 0 ≡ get_or was i 0

module _ {t : Table} {lo hi : ℕ} (known : hi < count t) {was room : List ℕ} {passed more : ℕ → Type 0} (H : RoomHeld t lo hi was room passed) where
  pub room_same : ((k : ℕ) → more k → Due t lo hi k → passed k) → RoomHeld t lo hi was room more
  room_same M = record { long = H.long; there = λ c m D. H.there c (M c m D) D; rest = H.rest }

  -- a constant without a string
  pub room_none :
      (d : ℕ) → ((k : ℕ) → more k → Due t lo hi k → passed k ⊎ (k ≡ d)) → bytes_of (answer_of_constant t d) ≡ [] → RoomHeld t lo hi was room more
  room_none d M e =
      record {
        long = H.long;
        there = λ c m D. ⊎_elim (λ p. H.there c p D) (λ q. subst (λ (x : ℕ). take (length (bytes_of (answer_of_constant t x))) (drop (start_of t x) room) ≡ bytes_of (answer_of_constant t x)) (sym q) (rw e)) (M c m D);
        rest = H.rest;
      }

  -- one string more
  pub room_more :
      (d : ℕ) → ((k : ℕ) → more k → Due t lo hi k → passed k ⊎ (k ≡ d)) → Due t lo hi d → start_of t hi ≤ length was →
      {after : List ℕ} → after ≡ sets room (start_of t d) (bytes_of (answer_of_constant t d)) → RoomHeld t lo hi was after more
  room_more d M D l {after} e = record { long = ap length e ∙ length-sets room (start_of t d) s ∙ H.long; there = λ c m E. by c m E (ℕ_discrete c d); rest = other }
    where
      s : List ℕ
      s = bytes_of (answer_of_constant t d)

      inside : start_of t d + length s ≤ start_of t hi
      inside = start_behind t d hi (omega (arith, D.upto, known)) D.is_constant D.upto

      from_lo : start_of t lo ≤ start_of t d
      from_lo = start_rises t lo d D.from

      here : take (length s) (drop (start_of t d) after) ≡ s
      here = rw e (stored_there room (start_of t d) s (omega (arith, inside, l, H.long)))

      by : (c : ℕ) → more c → Due t lo hi c → Dec (c ≡ d) → take (length (bytes_of (answer_of_constant t c))) (drop (start_of t c) after) ≡ bytes_of (answer_of_constant t c)
      by c m E (yes q) = subst (λ (x : ℕ). take (length (bytes_of (answer_of_constant t x))) (drop (start_of t x) after) ≡ bytes_of (answer_of_constant t x)) (sym q) here
      by c m E (no n) = ⊎_elim (λ p. kept (dec_lt c d) ∙ H.there c p E) (λ q. absurd (n q)) (M c m E)
        where
          k : ℕ
          k = length (bytes_of (answer_of_constant t c))

          kept : Dec (c < d) → take k (drop (start_of t c) after) ≡ take k (drop (start_of t c) room)
          kept (yes h) =
              let b = start_behind t c d (omega (arith, E.upto, known)) E.is_constant h in
              part_same room after (ap length e ∙ length-sets room (start_of t d) s) (start_of t c) k (λ i j. rw e (before_kept room (start_of t d) s i (omega (arith, b, j))))
          kept (no h) =
              let b = start_behind t d c (omega (arith, D.upto, known)) D.is_constant (omega (arith, h, n)) in
              ap (take k) (rw e (drop_kept room (start_of t d) s (start_of t c) b))

      other : (i : ℕ) → (i < start_of t lo) ⊎ (start_of t hi ≤ i) → get_or after i 0 ≡ get_or was i 0
      other i (inl h) = rw e (before_kept room (start_of t d) s i (omega (arith, from_lo))) ∙ H.rest i (inl h)
      other i (inr h) = rw e (behind_kept room (start_of t d) s i (omega (arith, inside))) ∙ H.rest i (inr h)

-- ---- what a constant finds
module _ {t : Table} {bytes starts lengths terminals kinds tokens sizes bindings declared order : List ℕ}
    (O : OfFile t bytes starts lengths terminals kinds tokens sizes bindings declared order) {row_of : List ℕ} (W : Rows t row_of) {lo hi at : ℕ} (S : Schema t lo hi at) where
  row_within : (c : ℕ) → Due t lo hi c → row t c - at < row t hi - at
  row_within c D =
      let a = row_rises t.kinds lo c D.from in
      let b = row_before t.kinds c hi D.upto D.is_constant in
      let s = S.start in omega arith

  due_known : (c : ℕ) → Due t lo hi c → c < count t
  due_known c D = let a = D.upto in let b = S.known in omega arith

  well : WellTyped t (scope.bindings t)
  well = subst (WellTyped t) (sym O.bindings_are) O.typed

  holds : (c : ℕ) → Due t lo hi c → rule.Holds t (declared_type t (scope.bindings t) c) (answer_of_constant t c)
  holds c D = answer_holds t O.scanned O.read O.named well c (due_known c D) D.is_constant

  not_string : (c : ℕ) → is_string t c ≡ false → declared_type t (scope.bindings t) c ≡ STRING → ⊥
  not_string c e q = false≢true (sym e ∙ rw q)

  module _ {aks₀ : List ℕ} {azs₀ : List ℤ} {als₀ aks : List ℕ} {azs : List ℤ} {als : List ℕ} {passed had : ℕ → Type 0}
      (H : HeldRows (row_of_constant t) t lo hi at aks₀ azs₀ als₀ aks azs als had) (R : Holds (row t hi - at) aks azs als) (d : ℕ) (D : Due t lo hi d)
      (p : (c : ℕ) → Joins (constant_edges t) d c → lo ≤ c → passed c) (u : (c : ℕ) → passed c → had c) where
    -- a constant that is named lies in the schema and has passed
    named : (m : ℕ) → first t (last d) ≤ m → m < d → (c : ℕ) → shape t bindings m ≡ name c → Due t lo hi c × passed c
    named m a b c e =
        let g = names_edge O d (due_known d D) D.is_constant m a b c e in
        let v = eqb-true (kind t c) node.constant ((constant_edge_iff t d c).0 g).1 in
        let w = S.closed d c D.from D.upto D.is_constant v (constant_edge_schema O.read d c g) in
        (record { from = w.0; upto = w.1; is_constant = v }, p c g w.0)

    row_told : (c : ℕ) → Due t lo hi c → get_or row_of c 0 - at ≡ row t c - at
    row_told c E = ap (λ (x : ℕ). x - at) (W.is c (due_known c E))

    pub passing_known : Knows t t bindings (answer_of_constant t) row_of at aks azs als (first t (last d)) d
    passing_known = record { is = λ m a b c e. let n = named m a b c e in known c n.0 (u c n.1) }
      where
        known : (c : ℕ) → Due t lo hi c → had c → known_in row_of at aks azs als c ≡ sized (answer_of_constant t c)
        known c E m =
            let l = row_within c E in
            ap (answer_at (answers_in aks azs als)) (row_told c E) ∙
            row_read aks azs als (row t c - at) (start_of t c) (answer_of_constant t c) (answer_storable O.read O.named O.scanned O.few c)
            (omega (arith, l, R.kinds_long)) (omega (arith, l, R.numbers_long)) (omega (arith, l, R.lengths_long))
            (H.kinds_are.there c m E) (H.numbers_are.there c m E) (H.lengths_are.there c m E)

    pub passing_readable :
        {was room : List ℕ} → RoomHeld t lo hi was room passed → Readable t t bindings (answer_of_constant t) row_of at aks azs als room (first t (last d)) d
    passing_readable {room = room} G = record { is = λ m a b c e. let n = named m a b c e in read c n.0 n.1 }
      where
        read : (c : ℕ) → Due t lo hi c → passed c → row_bytes room aks azs als (get_or row_of c 0 - at) ≡ bytes_of (answer_of_constant t c)
        read c E m =
            ap (row_bytes room aks azs als) (row_told c E) ∙
            holds_bytes room aks azs als (row t c - at) (start_of t c) (holds c E) (H.kinds_are.there c (u c m) E) (H.numbers_are.there c (u c m) E)
            (H.lengths_are.there c (u c m) E) (G.there c m E)

-- ---- THE LOOP'S INVARIANT: after i of the part
pub record Passing (bytes starts lengths terminals kinds tokens sizes bindings declared part row_of : List ℕ) (lo hi at : ℕ) (aks₀ : List ℕ) (azs₀ : List ℤ) (als₀ vks₀ : List ℕ)
    (vzs₀ : List ℤ) (vls₀ room₀ aks : List ℕ) (azs : List ℤ) (als vks : List ℕ) (vzs : List ℤ) (vls room : List ℕ) (i : ℕ) : Type 0 where
  pub kinds_kept : length aks ≡ length aks₀
  pub numbers_kept : length azs ≡ length azs₀
  pub lengths_kept : length als ≡ length als₀
  pub value_kinds_kept : length vks ≡ length vks₀
  pub value_numbers_kept : length vzs ≡ length vzs₀
  pub value_lengths_kept : length vls ≡ length vls₀
  pub room_kept : length room ≡ length room₀
  pub is :
      (t : Table) (order : List ℕ) → OfFile t bytes starts lengths terminals kinds tokens sizes bindings declared order → Part t lo hi part → Rows t row_of →
      Schema t lo hi at → Room t vks₀ vzs₀ vls₀ → Holds (row t hi - at) aks₀ azs₀ als₀ → Placed t lo hi at aks₀ azs₀ als₀ → start_of t hi ≤ length room₀ →
      HeldRows (row_of_constant t) t lo hi at aks₀ azs₀ als₀ aks azs als (λ c. Memᴰ c (take i part) ⊎ (is_string t c ≡ true)) ×
      RoomHeld t lo hi room₀ room (λ c. Memᴰ c (take i part))

-- the rows of strings are there from the start
placed_rows : {t : Table} {lo hi at : ℕ} {aks : List ℕ} {azs : List ℤ} {als : List ℕ} {passed : ℕ → Type 0} → Placed t lo hi at aks azs als → ((c : ℕ) → passed c → ⊥) →
    HeldRows (row_of_constant t) t lo hi at aks azs als aks azs als (λ c. passed c ⊎ (is_string t c ≡ true))
placed_rows {passed = passed} L n =
    record {
      kinds_are = record { there = λ c m D. ⊎_elim (λ x. absurd (n c x)) (λ s. L.kinds_are c D.from D.upto D.is_constant s) m; rest = λ r h. refl };
      numbers_are = record { there = λ c m D. ⊎_elim (λ x. absurd (n c x)) (λ s. L.numbers_are c D.from D.upto D.is_constant s) m; rest = λ r h. refl };
      lengths_are = record { there = λ c m D. ⊎_elim (λ x. absurd (n c x)) (λ s. L.lengths_are c D.from D.upto D.is_constant s) m; rest = λ r h. refl };
    }

module _ {bytes starts lengths terminals kinds tokens sizes bindings declared part row_of : List ℕ} {lo hi at : ℕ} {aks₀ : List ℕ} {azs₀ : List ℤ} {als₀ vks₀ : List ℕ}
    {vzs₀ : List ℤ} {vls₀ room₀ : List ℕ} where
  pub passing_starts :
      Passing bytes starts lengths terminals kinds tokens sizes bindings declared part row_of lo hi at aks₀ azs₀ als₀ vks₀ vzs₀ vls₀ room₀ aks₀ azs₀ als₀ vks₀ vzs₀ vls₀ room₀ 0
  passing_starts =
      record {
        kinds_kept = refl;
        numbers_kept = refl;
        lengths_kept = refl;
        value_kinds_kept = refl;
        value_numbers_kept = refl;
        value_lengths_kept = refl;
        room_kept = refl;
        is = λ t order O B W S M R L F.
            (placed_rows L (λ c m. Memᴰ.not-nil m), record { long = refl; there = λ c m D. absurd (Memᴰ.not-nil m); rest = λ i h. refl });
      }

  pub passing_same :
      {aks : List ℕ} {azs : List ℤ} {als vks : List ℕ} {vzs : List ℤ} {vls room aks' : List ℕ} {azs' : List ℤ} {als' vks' : List ℕ} {vzs' : List ℤ} {vls' room' : List ℕ} {i : ℕ} →
      aks' ≡ aks → azs' ≡ azs → als' ≡ als → vks' ≡ vks → vzs' ≡ vzs → vls' ≡ vls → room' ≡ room →
      Passing bytes starts lengths terminals kinds tokens sizes bindings declared part row_of lo hi at aks₀ azs₀ als₀ vks₀ vzs₀ vls₀ room₀ aks azs als vks vzs vls room i →
      Passing bytes starts lengths terminals kinds tokens sizes bindings declared part row_of lo hi at aks₀ azs₀ als₀ vks₀ vzs₀ vls₀ room₀ aks' azs' als' vks' vzs' vls' room' i
  passing_same a b c d e f g P = rw (a, b, c, d, e, f, g) P

  module _ {aks : List ℕ} {azs : List ℤ} {als vks : List ℕ} {vzs : List ℤ} {vls room : List ℕ} {i : ℕ}
      (P : Passing bytes starts lengths terminals kinds tokens sizes bindings declared part row_of lo hi at aks₀ azs₀ als₀ vks₀ vzs₀ vls₀ room₀ aks azs als vks vzs vls room i) where
    module _ (l : i < length part) {d : ℕ} (d_is : d ≡ get_or part i 0) {b : Bool} (b_is : b ≡ due kinds lo hi d) where
      pub passing_other :
          b ≡ false →
          Passing bytes starts lengths terminals kinds tokens sizes bindings declared part row_of lo hi at aks₀ azs₀ als₀ vks₀ vzs₀ vls₀ room₀ aks azs als vks vzs vls room (i + 1)
      passing_other h =
          record {
            kinds_kept = P.kinds_kept;
            numbers_kept = P.numbers_kept;
            lengths_kept = P.lengths_kept;
            value_kinds_kept = P.value_kinds_kept;
            value_numbers_kept = P.value_numbers_kept;
            value_lengths_kept = P.value_lengths_kept;
            room_kept = P.room_kept;
            is = λ t order O B W S M R L F.
                let Q = P.is t order O B W S M R L F in
                let H = Q.0 in
                let none = due_not O.kinds_are (sym b_is ∙ h) in
                let skip : (k : ℕ) → Memᴰ k (take (i + 1) part) → Due t lo hi k → Memᴰ k (take i part) = λ k m D.
                ⊎_elim (λ j. j) (λ q. absurd (none (subst (Due t lo hi) q D))) (one_more part i d_is k m) in
                let both : (k : ℕ) → Memᴰ k (take (i + 1) part) ⊎ (is_string t k ≡ true) → Due t lo hi k → Memᴰ k (take i part) ⊎ (is_string t k ≡ true) = λ k m D.
                ⊎_elim (λ j. inl (skip k j D)) (λ s. inr s) m in (
                  record { kinds_are = held_same H.kinds_are both; numbers_are = held_same H.numbers_are both; lengths_are = held_same H.lengths_are both },
                  room_same S.known Q.1 skip,
                );
          }

      pub passing_due :
          b ≡ true → {aks' : List ℕ} {azs' : List ℤ} {als' vks' : List ℕ} {vzs' : List ℤ} {vls' room' : List ℕ} →
          FillsConstant bytes starts lengths terminals kinds tokens sizes bindings declared row_of d at aks azs als vks vzs vls room aks' azs' als' room' →
          length aks' ≡ length aks → length azs' ≡ length azs → length als' ≡ length als → length vks' ≡ length vks → length vzs' ≡ length vzs → length vls' ≡ length vls →
          length room' ≡ length room →
          Passing bytes starts lengths terminals kinds tokens sizes bindings declared part row_of lo hi at aks₀ azs₀ als₀ vks₀ vzs₀ vls₀ room₀ aks' azs' als' vks' vzs' vls' room' (i + 1)
      passing_due h {aks'} {azs'} {als'} {room' = room'} E a₁ a₂ a₃ v₁ v₂ v₃ r₁ =
          record {
            kinds_kept = a₁ ∙ P.kinds_kept;
            numbers_kept = a₂ ∙ P.numbers_kept;
            lengths_kept = a₃ ∙ P.lengths_kept;
            value_kinds_kept = v₁ ∙ P.value_kinds_kept;
            value_numbers_kept = v₂ ∙ P.value_numbers_kept;
            value_lengths_kept = v₃ ∙ P.value_lengths_kept;
            room_kept = r₁ ∙ P.room_kept;
            is = rows;
          }
        where
          rows :
              (t : Table) (order : List ℕ) → OfFile t bytes starts lengths terminals kinds tokens sizes bindings declared order → Part t lo hi part → Rows t row_of →
              Schema t lo hi at → Room t vks₀ vzs₀ vls₀ → Holds (row t hi - at) aks₀ azs₀ als₀ → Placed t lo hi at aks₀ azs₀ als₀ → start_of t hi ≤ length room₀ →
              HeldRows (row_of_constant t) t lo hi at aks₀ azs₀ als₀ aks' azs' als' (λ c. Memᴰ c (take (i + 1) part) ⊎ (is_string t c ≡ true)) ×
              RoomHeld t lo hi room₀ room' (λ c. Memᴰ c (take (i + 1) part))
          rows t order O B W S M R L F = by (is_string t d) refl
            where
              D : Due t lo hi d
              D = due_is O.kinds_are (sym b_is ∙ h)

              H : HeldRows (row_of_constant t) t lo hi at aks₀ azs₀ als₀ aks azs als (λ c. Memᴰ c (take i part) ⊎ (is_string t c ≡ true))
              H = (P.is t order O B W S M R L F).0

              G : RoomHeld t lo hi room₀ room (λ c. Memᴰ c (take i part))
              G = (P.is t order O B W S M R L F).1

              Y : Room t vks vzs vls
              Y =
                  record {
                    kinds_long = omega (arith, P.value_kinds_kept, M.kinds_long);
                    numbers_long = omega (arith, P.value_numbers_kept, M.numbers_long);
                    lengths_long = omega (arith, P.value_lengths_kept, M.lengths_long);
                  }

              Q : Holds (row t hi - at) aks azs als
              Q =
                  record {
                    kinds_long = omega (arith, P.kinds_kept, R.kinds_long);
                    numbers_long = omega (arith, P.numbers_kept, R.numbers_long);
                    lengths_long = omega (arith, P.lengths_kept, R.lengths_long);
                  }

              sorted : (c : ℕ) → Joins (constant_edges t) d c → lo ≤ c → Memᴰ c (take i part)
              sorted c e g = B.sorted i c l (subst (λ (y : ℕ). Joins (constant_edges t) y c) d_is e) g

              there : d < count t
              there = due_known O W S d D

              read : Readable t t bindings (answer_of_constant t) row_of at aks azs als room (first t (last d)) d
              read = passing_readable O W S H Q d D sorted (λ c m. inl m) G

              j : get_or row_of d 0 - at ≡ row t d - at
              j = ap (λ (y : ℕ). y - at) (W.is d there)

              by : (s : Bool) → is_string t d ≡ s →
                  HeldRows (row_of_constant t) t lo hi at aks₀ azs₀ als₀ aks' azs' als' (λ c. Memᴰ c (take (i + 1) part) ⊎ (is_string t c ≡ true)) ×
                  RoomHeld t lo hi room₀ room' (λ c. Memᴰ c (take (i + 1) part))
              by true s =
                  let X = E.string t order O there D.is_constant s in
                  let N : (k : ℕ) → Memᴰ k (take (i + 1) part) ⊎ (is_string t k ≡ true) → Due t lo hi k → Memᴰ k (take i part) ⊎ (is_string t k ≡ true) = λ k m _.
                  ⊎_elim (λ y. ⊎_elim (λ z. inl z) (λ q. inr (subst (λ (x : ℕ). is_string t x ≡ true) (sym q) s)) (one_more part i d_is k y)) (λ y. inr y) m in
                  let w = X.3.is t declared order O there D.is_constant s read (start_of t d) (ap (λ (x : ℕ). get_or aks x 0) j ∙ H.kinds_are.there d (inr s) D)
                  (ap (λ (x : ℕ). get_or azs x (pos 0)) j ∙ H.numbers_are.there d (inr s) D) in (
                    record {
                      kinds_are = rw X.0 (held_same H.kinds_are N);
                      numbers_are = rw X.1 (held_same H.numbers_are N);
                      lengths_are = rw X.2 (held_same H.lengths_are N);
                    },
                    room_more S.known G d (λ k m _. one_more part i d_is k m) D F w,
                  )
              by false s =
                  let X = E.other t order O there D.is_constant s in
                  let K = passing_known O W S H Q d D sorted (λ c m. inl m) in
                  let C : Comparable t t bindings (answer_of_constant t) row_of at aks azs als room (first t (last d)) d = record { is = λ m a b c. read } in
                  let Z = X.1.is t order O Y there D.is_constant K C in
                  let e = holds_row (holds O W S d D) (not_string O W S d s) (start_of t d) in
                  let w = row_within O W S d D in
                  let N : (k : ℕ) → Memᴰ k (take (i + 1) part) ⊎ (is_string t k ≡ true) → Due t lo hi k → (Memᴰ k (take i part) ⊎ (is_string t k ≡ true)) ⊎ (k ≡ d) = λ k m _.
                  ⊎_elim (λ y. ⊎_elim (λ z. inl (inl z)) (λ q. inr q) (one_more part i d_is k y)) (λ y. inl (inr y)) m in
                  let none = holds_no_bytes (holds O W S d D) (not_string O W S d s) in (
                    record {
                      kinds_are = held_more H.kinds_are d N S.start D (omega (arith, w, Q.kinds_long)) (rw (← e, ← j) Z.kinds_are);
                      numbers_are = held_more H.numbers_are d N S.start D (omega (arith, w, Q.numbers_long)) (rw (← e, ← j) Z.numbers_are);
                      lengths_are = held_more H.lengths_are d N S.start D (omega (arith, w, Q.lengths_long)) (rw (← e, ← j) Z.lengths_are);
                    },
                    rw X.0 (room_none S.known G d (λ k m _. one_more part i d_is k m) none),
                  )

    -- all constants of the schema are in the order
    pub passing_ends :
        length part ≤ i →
        FillsSchema bytes starts lengths terminals kinds tokens sizes bindings declared part row_of lo hi at aks₀ azs₀ als₀ vks₀ vzs₀ vls₀ room₀ aks azs als room
    passing_ends e =
        record {
          is = λ t order O B W S M R L F.
              let Q = P.is t order O B W S M R L F in
              let H = Q.0 in (
                record { kinds_are = all B H.kinds_are; numbers_are = all B H.numbers_are; lengths_are = all B H.lengths_are },
                record {
                  long = Q.1.long;
                  strings_are = λ c a b k. Q.1.there c (rw (take_all i part e) (B.complete c a b k)) (record { from = a; upto = b; is_constant = k });
                  rest = Q.1.rest;
                },
              );
        }
      where
        all :
            {A : Type 0} {z : A} {f : ℕ → A} {t : Table} {was column : List A} → Part t lo hi part →
            Held z f t lo hi at was column (λ c. Memᴰ c (take i part) ⊎ (is_string t c ≡ true)) → Filled z f t lo hi at was column
        all {t = t} B H =
            record {
              constants_are = λ c a b k. H.there c (inl (rw (take_all i part e) (B.complete c a b k))) (record { from = a; upto = b; is_constant = k });
              rest = H.rest;
            }
