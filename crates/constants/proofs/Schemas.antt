-- The schemas one after the other: the part of the answer columns after the earlier schemas is lent for each, and put together again.
use mathlib.Core.Path.{◌≡◌, refl, sym, ap, subst, ◌∙◌}
use mathlib.Core.Logic.{◌⊎◌, inl, inr, ⊎_elim}
use mathlib.Core.Bool.{Bool, true, cond}
use mathlib.Core.List.{List, ◌++◌}
use Prim.Native.Nat.{ℕ, min, suc, ◌+◌, ◌-◌, ◌≤◌, ◌<◌}
use native.Mathlib.Omega.{arith}
use lib.Dec.{eqb, ltb}
use lib.IntN.{ℤ}
use lib.ListN.{length, get_or, take, drop, length-take, length-drop, get_or-append, get_or-eq_default}
use lib.Seq.{length-take-le, get_or-take, get_or-drop, get_or-append-add}
use Rattle.ebnf.specs.Set.{mem}
use Rattle.relations.specs.Select.{first_from}
use Rattle.relations.proofs.Select.{le_or, First, first_is}
use Rattle.tree.proofs.Next.{next_is, next_beyond}
use Rattle.express.specs.Syntax.NodeKind as node
use Rattle.express.specs.Syntax.Grammar.{file}
use Rattle.express.specs.Syntax.Syntax.{Read}
use Rattle.express.specs.Syntax.Tree.{Table, count, kind, is, schema_of}
use Rattle.express.specs.Semantics.AnswerRow.{bytes_of}
use Rattle.express.specs.Semantics.Kind.{constants}
use Rattle.express.proofs.Syntax.Within.{schema_over}
use Rattle.express.proofs.Names.Owned.{in_schema}
use Rattle.express.proofs.Semantics.Backward.{schema_step, schema_end, schema_rises}
use Rattle.constants.specs.Constants.{FillsSchemas}
use Rattle.schemas.specs.Rows.{row, answer_of_constant, start_of, row_of_constant, is_string, OfFile, Rows, Room, Holds, Schema, Filled, FilledRows, Placed, FilledRoom, FillsSchema}
use Rattle.constant_rows.specs.Parts.{grouped}
use Rattle.schemas.proofs.Room.{part_same}
use Rattle.schemas.proofs.Answers.{start_none, start_other, start_rises, start_behind}
use Rattle.constants.proofs.Parted.{Started, started, started_next, parted}
use Rattle.constant_rows.proofs.Numbering.{row_none, row_rises, row_before, row_other}

-- ---- one column, of which the part from row h on was lent
module _ {A : Type 0} {z : A} {f : ℕ → A} {t : Table} {lo n at h : ℕ} {was column part' : List A} (post : List A) where
  joined :
      Filled z f t 0 lo 0 was column → h ≡ min at (length column) → at ≡ row t lo → lo ≤ n → row t n ≤ length column → length column ≡ length was →
      (kind t n ≡ node.constant → ⊥) → Filled z f t lo n at (take (length column - h) (drop h column)) part' →
      length part' ≡ length (take (length column - h) (drop h column)) →
      {after : List A} → after ≡ take h column ++ (part' ++ post) → length after ≡ length column → Filled z f t 0 (n + 1) 0 was after
  joined F m s l u w k G p {after} e q = record { constants_are = all; rest = rest }
    where
      below : row t lo ≤ row t n
      below = row_rises t.kinds lo n l

      seam : h ≡ at
      seam = omega (arith, below)

      front_long : length (take h column) ≡ at
      front_long = length-take-le h column (omega (arith, below, seam)) ∙ seam

      part_long : length part' ≡ length column - at
      part_long = omega (arith, p, length-take (length column - h) (drop h column), length-drop h column, seam)

      front : (r : ℕ) → r < at → get_or after r z ≡ get_or column r z
      front r b = rw e (get_or-append (take h column) (part' ++ post) z r (omega (arith, b, front_long)) ∙ get_or-take h column r z (omega (arith, b, seam)))

      back : (i : ℕ) → i < length part' → get_or after (at + i) z ≡ get_or part' i z
      back i b =
          rw (e, ← front_long) (get_or-append-add (take h column) (part' ++ post) i z) ∙ get_or-append part' post z i b

      all : (c : ℕ) → 0 ≤ c → c < n + 1 → kind t c ≡ node.constant → get_or after (row t c - 0) z ≡ f c
      all c o hi i = by (le_or lo c)
        where
          less : c < n
          less = ⊎_elim (λ (a : n ≤ c). let q : c ≡ n = omega arith in absurd (k (subst (λ (x : ℕ). kind t x ≡ node.constant) q i))) (λ a. a) (le_or n c)

          by : (lo ≤ c) ⊎ (c < lo) → get_or after (row t c - 0) z ≡ f c
          by (inl a) =
              let b = row_rises t.kinds lo c a in
              let d = row_before t.kinds c n less i in
              let g : row t c - 0 ≡ at + (row t c - at) = omega arith in
              rw g (back (row t c - at) (omega (arith, d, b, part_long)) ∙ G.constants_are c a less i)
          by (inr a) =
              let d = row_before t.kinds c lo a i in
              front (row t c - 0) (omega arith) ∙ F.constants_are c o a i

      rest : (r : ℕ) → row t (n + 1) - 0 ≤ r → get_or after r z ≡ get_or was r z
      rest r b = by (le_or (length column) r)
        where
          bound : row t n ≤ r
          bound = omega (arith, b, row_other t.kinds n k)

          by : (length column ≤ r) ⊎ (r < length column) → get_or after r z ≡ get_or was r z
          by (inl a) = get_or-eq_default after z (omega arith) ∙ sym (get_or-eq_default was z (omega arith))
          by (inr a) =
              let g : r ≡ at + (r - at) = omega (arith, below, bound) in
              let j : h + (r - at) ≡ r = omega (arith, below, bound, seam) in
              ap (λ (x : ℕ). get_or after x z) g ∙ back (r - at) (omega (arith, below, bound, part_long)) ∙ G.rest (r - at) (omega (arith, bound)) ∙
              get_or-take (length column - h) (drop h column) (r - at) z (omega (arith, below, bound, seam)) ∙ get_or-drop h column (r - at) z ∙
              ap (λ (x : ℕ). get_or column x z) j ∙ F.rest r (omega (arith, below, bound))

-- ---- the rows of strings that are there stand in the part that is lent
module _ {A : Type 0} {z : A} {f : ℕ → A} (g : ℕ → A) {t : Table} {lo n at h : ℕ} {was column : List A} where
  placed_part :
      ((c : ℕ) → 0 ≤ c → c < count t → kind t c ≡ node.constant → is_string t c ≡ true → get_or was (row t c - 0) z ≡ g c) → Filled z f t 0 lo 0 was column →
      h ≡ min at (length column) → at ≡ row t lo → n < count t → row t n ≤ length column →
      (c : ℕ) → lo ≤ c → c < n → kind t c ≡ node.constant → is_string t c ≡ true → get_or (take (length column - h) (drop h column)) (row t c - at) z ≡ g c
  placed_part P F m s l u c a b k i =
      let d = row_before t.kinds c n b k in
      let e = row_rises t.kinds lo c a in
      let q : h + (row t c - at) ≡ row t c - 0 = omega arith in
      get_or-take (length column - h) (drop h column) (row t c - at) z (omega arith) ∙ get_or-drop h column (row t c - at) z ∙ ap (λ (x : ℕ). get_or column x z) q ∙
      F.rest (row t c - 0) (omega arith) ∙ P c (omega arith) (omega arith) k i

-- ---- the room: a schema's strings lie behind those of the earlier schemas
room_joined :
    {t : Table} {lo n : ℕ} {was room room' : List ℕ} → FilledRoom t 0 lo was room → lo ≤ n → n < count t → (kind t n ≡ node.constant → ⊥) → FilledRoom t lo n room room' →
    FilledRoom t 0 (n + 1) was room'
room_joined {t} {lo} {n} {was} {room} {room'} F l h k G = record { long = G.long ∙ F.long; strings_are = strings; rest = rest }
  where
    strings : (c : ℕ) → 0 ≤ c → c < n + 1 → kind t c ≡ node.constant →
        take (length (bytes_of (answer_of_constant t c))) (drop (start_of t c) room') ≡ bytes_of (answer_of_constant t c)
    strings c o b i = by (le_or lo c)
      where
        less : c < n
        less = ⊎_elim (λ (a : n ≤ c). let q : c ≡ n = omega arith in absurd (k (subst (λ (x : ℕ). kind t x ≡ node.constant) q i))) (λ a. a) (le_or n c)

        by : (lo ≤ c) ⊎ (c < lo) → take (length (bytes_of (answer_of_constant t c))) (drop (start_of t c) room') ≡ bytes_of (answer_of_constant t c)
        by (inl a) = G.strings_are c a less i
        by (inr a) =
            part_same room room' G.long (start_of t c) (length (bytes_of (answer_of_constant t c)))
            (λ j d. G.rest j (inl (let e = start_behind t c lo (omega arith) i a in omega arith))) ∙ F.strings_are c o a i

    rest : (i : ℕ) → (i < start_of t 0) ⊎ (start_of t (n + 1) ≤ i) → get_or room' i 0 ≡ get_or was i 0
    rest i (inl a) = absurd (omega (arith, start_none t))
    rest i (inr a) =
        let e = start_other t n k in
        let r = start_rises t lo n l in G.rest i (inr (omega arith)) ∙ F.rest i (inr (omega arith))

-- ---- where the loop stands: the schemas that end before lo are done, and those from lo up to n are nodes of one schema
pub record Stage (t : Table) (n lo at : ℕ) : Type 0 where
  pub upto : n ≤ count t
  pub from : lo ≤ n
  pub start : at ≡ row t lo
  pub before : (c : ℕ) → c < lo → schema_of t c < lo
  pub same : (c : ℕ) → lo ≤ c → c ≤ n → schema_of t c ≡ schema_of t n

c_upto : (t : Table) (c : ℕ) → c ≤ schema_of t c
unfolding schema_of
c_upto t c = (first_is (is t node.schema) c (count t - c)).from

stage_starts : (t : Table) → Stage t 0 0 0
stage_starts t =
    record {
      upto = omega arith;
      from = omega arith;
      start = sym (row_none t.kinds);
      before = λ c l. absurd (omega arith);
      same = λ c a b. let q : c ≡ 0 = omega arith in ap (schema_of t) q;
    }

-- the next schema ends the one in which n stands
stage_next : {t : Table} {n lo at : ℕ} → Stage t n lo at → {m : ℕ} → m ≡ first_from (is t node.schema) n (count t - n) → Stage t m lo at
unfolding schema_of
stage_next {t} {n} {lo} {at} S {m} e =
    record {
      upto = upto;
      from = omega (arith, S.from, beyond);
      start = S.start;
      before = S.before;
      same = λ c a b. by c a b (le_or c n);
    }
  where
    F : First (is t node.schema) n (count t - n) m
    F = subst (First (is t node.schema) n (count t - n)) (sym e) (first_is (is t node.schema) n (count t - n))

    beyond : n ≤ m
    beyond = F.from

    upto : m ≤ count t
    upto = omega (arith, F.upto, S.upto)

    here : schema_of t n ≡ m
    here = sym e

    itself : schema_of t m ≡ m
    itself =
        ⊎_elim (λ (g : count t ≤ m). let q : m ≡ count t = omega (arith, upto) in ap (schema_of t) q ∙ schema_end t ∙ sym q)
        (λ (g : m < count t). schema_step t m g ∙ rw (F.passes (omega (arith, beyond)))) (le_or (count t) m)

    by : (c : ℕ) → lo ≤ c → c ≤ m → (c ≤ n) ⊎ (n < c) → schema_of t c ≡ schema_of t m
    by c a b (inl g) = S.same c a g ∙ here ∙ sym itself
    by c a b (inr g) =
        let u = schema_rises t n c (omega arith) (omega (arith, upto)) in
        let v = schema_rises t c m b upto in
        omega (arith, u, v, here, itself)

module _ {t : Table} {n lo at : ℕ} (S : Stage t n lo at) (l : n < count t) where
  module _ (k : kind t n ≡ node.schema) where
    here : schema_of t n ≡ n
    here = schema_step t n l ∙ rw k

    no_constant : kind t n ≡ node.constant → ⊥
    no_constant e = let q : ◌≡◌ {A = ℕ} 25 17 = sym k ∙ e in absurd (omega arith)

    stage_schema : {o : ℕ} → o ≡ row t n → Stage t (n + 1) (n + 1) o
    stage_schema e =
        record {
          upto = omega arith;
          from = omega arith;
          start = e ∙ sym (row_other t.kinds n no_constant);
          before = λ c a. let r = schema_rises t c n (omega arith) (omega arith) in omega (arith, here);
          same = λ c a b. let q : c ≡ n + 1 = omega arith in ap (schema_of t) q;
        }

    stage_part : Schema t lo n at
    stage_part =
        record {
          known = l;
          start = S.start;
          closed = λ d c a b i j e.
              let q : schema_of t c ≡ n = sym e ∙ S.same d a (omega arith) ∙ here in
              let u = c_upto t c in
              let v : c ≡ n → ⊥ = λ (g : c ≡ n). no_constant (subst (λ (x : ℕ). kind t x ≡ node.constant) g j) in
              (⊎_elim (λ (x : lo ≤ c). x) (λ (x : c < lo). let y = S.before c x in let f = S.from in absurd (omega arith)) (le_or lo c), omega arith);
        }

in_a_schema : {t : Table} → Read file t → (c : ℕ) → c < count t → kind t c ≡ node.constant → suc (schema_of t c) < count t
unfolding mem
in_a_schema d c l k = (schema_over d c (in_schema d c l (rw k)).0).2

-- the first schema stands among the nodes, or there is none
pub schema_among : (kinds : List ℕ) {n : ℕ} → n ≡ first_from (λ j. eqb (get_or kinds j 0) node.schema) 0 (length kinds - 0) → n ≤ length kinds
schema_among kinds q = let u = (first_is (λ j. eqb (get_or kinds j 0) node.schema) 0 (length kinds - 0)).upto in omega (arith, q)

-- ---- THE LOOP'S INVARIANT
pub record Filling (bytes starts lengths terminals kinds tokens sizes bindings declared order row_of aks₀ : List ℕ) (azs₀ : List ℤ) (als₀ vks₀ : List ℕ) (vzs₀ : List ℤ)
    (vls₀ room₀ aks : List ℕ) (azs : List ℤ) (als vks : List ℕ) (vzs : List ℤ) (vls room : List ℕ) (n lo at from : ℕ) : Type 0 where
  pub kinds_kept : length aks ≡ length aks₀
  pub numbers_kept : length azs ≡ length azs₀
  pub lengths_kept : length als ≡ length als₀
  pub value_kinds_kept : length vks ≡ length vks₀
  pub value_numbers_kept : length vzs ≡ length vzs₀
  pub value_lengths_kept : length vls ≡ length vls₀
  pub room_kept : length room ≡ length room₀
  pub ahead : lo ≤ n
  pub begun : Started order lo from
  pub is :
      (t : Table) → OfFile t bytes starts lengths terminals kinds tokens sizes bindings declared order → Rows t row_of → Room t vks₀ vzs₀ vls₀ →
      Holds (length (constants t)) aks₀ azs₀ als₀ → Placed t 0 (count t) 0 aks₀ azs₀ als₀ → start_of t (count t) ≤ length room₀ →
      Stage t n lo at × FilledRows (row_of_constant t) t 0 lo 0 aks₀ azs₀ als₀ aks azs als × FilledRoom t 0 lo room₀ room

-- where a schema stands at n, unless all have passed
pub record Here (bytes starts lengths terminals kinds tokens sizes bindings declared order row_of aks₀ : List ℕ) (azs₀ : List ℤ) (als₀ vks₀ : List ℕ) (vzs₀ : List ℤ)
    (vls₀ room₀ aks : List ℕ) (azs : List ℤ) (als vks : List ℕ) (vzs : List ℤ) (vls room : List ℕ) (n lo at from : ℕ) : Type 0 where
  pub filling :
      Filling bytes starts lengths terminals kinds tokens sizes bindings declared order row_of aks₀ azs₀ als₀ vks₀ vzs₀ vls₀ room₀ aks azs als vks vzs vls room n lo at from
  pub stands : n < length kinds → get_or kinds n 0 ≡ node.schema

-- a part of a column is long enough for the rows of a schema
part_long : {A : Type 0} (t : Table) {lo n at h : ℕ} (column : List A) → h ≡ min at (length column) → at ≡ row t lo → lo ≤ n → row t n ≤ length column →
    row t n - at ≤ length (take (length column - h) (drop h column))
part_long t {lo} {n} {at} {h} column m s l u =
    omega (arith, row_rises t.kinds lo n l, length-take (length column - h) (drop h column), length-drop h column)

module _ {bytes starts lengths terminals kinds tokens sizes bindings declared order row_of aks₀ : List ℕ} {azs₀ : List ℤ} {als₀ vks₀ : List ℕ} {vzs₀ : List ℤ} {vls₀ room₀ : List ℕ} where
  pub filling_starts : Filling bytes starts lengths terminals kinds tokens sizes bindings declared order row_of aks₀ azs₀ als₀ vks₀ vzs₀ vls₀ room₀ aks₀ azs₀ als₀ vks₀ vzs₀ vls₀ room₀ 0 0 0 0
  filling_starts =
      record {
        kinds_kept = refl;
        numbers_kept = refl;
        lengths_kept = refl;
        value_kinds_kept = refl;
        value_numbers_kept = refl;
        value_lengths_kept = refl;
        room_kept = refl;
        ahead = omega arith;
        begun = started order;
        is = λ t O W M R X e. (
          stage_starts t,
          record {
            kinds_are = record { constants_are = λ c a b k. absurd (omega arith); rest = λ r h. refl };
            numbers_are = record { constants_are = λ c a b k. absurd (omega arith); rest = λ r h. refl };
            lengths_are = record { constants_are = λ c a b k. absurd (omega arith); rest = λ r h. refl };
          },
          record { long = refl; strings_are = λ c a b k. absurd (omega arith); rest = λ i h. refl },
        );
      }

  module _ {aks : List ℕ} {azs : List ℤ} {als vks : List ℕ} {vzs : List ℤ} {vls room : List ℕ} {n lo at from : ℕ}
      (P : Filling bytes starts lengths terminals kinds tokens sizes bindings declared order row_of aks₀ azs₀ als₀ vks₀ vzs₀ vls₀ room₀ aks azs als vks vzs vls room n lo at from) where
    -- the next schema
    pub filling_next :
        {m : ℕ} → m ≡ first_from (λ j. eqb (get_or kinds j 0) node.schema) n (length kinds - n) →
        Here bytes starts lengths terminals kinds tokens sizes bindings declared order row_of aks₀ azs₀ als₀ vks₀ vzs₀ vls₀ room₀ aks azs als vks vzs vls room m lo at from
    filling_next {m} q =
        record {
          filling = record {
            kinds_kept = P.kinds_kept;
            numbers_kept = P.numbers_kept;
            lengths_kept = P.lengths_kept;
            value_kinds_kept = P.value_kinds_kept;
            value_numbers_kept = P.value_numbers_kept;
            value_lengths_kept = P.value_lengths_kept;
            room_kept = P.room_kept;
            ahead = let g = next_beyond (λ j. eqb (get_or kinds j 0) node.schema) n (length kinds - n) q in omega (arith, P.ahead);
            begun = P.begun;
            is = λ t O W M R X f.
                let Q = P.is t O W M R X f in
                let e = ap (λ (ks : List ℕ). first_from (λ j. eqb (get_or ks j 0) node.schema) n (length ks - n)) O.kinds_are in
                (stage_next Q.0 (q ∙ sym e), Q.1, Q.2);
          };
          stands = next_is kinds node.schema n q;
        }

    module _ (l : n < length kinds) where
      module _ (k : get_or kinds n 0 ≡ node.schema) {a b c o : ℕ} (a_is : a ≡ min at (length aks)) (b_is : b ≡ min at (length azs)) (c_is : c ≡ min at (length als)) (o_is : o ≡ get_or row_of n 0)
          {next to : ℕ} (g : Bool) (next_is : next ≡ cond g (first_from (λ i. ltb n (get_or order i 0)) from (length order - from)) from) (g_is : g ≡ true → grouped kinds order ≡ true)
          (to_is : to ≡ cond g next (length order))
          {aks' : List ℕ} {azs' : List ℤ} {als' : List ℕ} (post₁ : List ℕ) (post₂ : List ℤ) (post₃ : List ℕ) {vks' : List ℕ} {vzs' : List ℤ} {vls' room' : List ℕ} where
        pub filling_schema :
            FillsSchema bytes starts lengths terminals kinds tokens sizes bindings declared (take (to - from) (drop from order)) row_of lo n at
            (take (length aks - a) (drop a aks)) (take (length azs - b) (drop b azs)) (take (length als - c) (drop c als)) vks vzs vls room aks' azs' als' room' →
            length aks' ≡ length (take (length aks - a) (drop a aks)) → length azs' ≡ length (take (length azs - b) (drop b azs)) →
            length als' ≡ length (take (length als - c) (drop c als)) →
            length (take a aks ++ (aks' ++ post₁)) ≡ length aks → length (take b azs ++ (azs' ++ post₂)) ≡ length azs → length (take c als ++ (als' ++ post₃)) ≡ length als →
            length vks' ≡ length vks → length vzs' ≡ length vzs → length vls' ≡ length vls → length room' ≡ length room →
            Filling bytes starts lengths terminals kinds tokens sizes bindings declared order row_of aks₀ azs₀ als₀ vks₀ vzs₀ vls₀ room₀
            (take a aks ++ (aks' ++ post₁)) (take b azs ++ (azs' ++ post₂)) (take c als ++ (als' ++ post₃)) vks' vzs' vls' room' (n + 1) (n + 1) o next
        filling_schema E p₁ p₂ p₃ a₁ a₂ a₃ v₁ v₂ v₃ w =
            record {
              kinds_kept = a₁ ∙ P.kinds_kept;
              numbers_kept = a₂ ∙ P.numbers_kept;
              lengths_kept = a₃ ∙ P.lengths_kept;
              value_kinds_kept = v₁ ∙ P.value_kinds_kept;
              value_numbers_kept = v₂ ∙ P.value_numbers_kept;
              value_lengths_kept = v₃ ∙ P.value_lengths_kept;
              room_kept = w ∙ P.room_kept;
              ahead = omega arith;
              begun = started_next P.begun n g low next_is;
              is = rows;
            }
          where
            low : lo ≤ n + 1
            low = omega (arith, P.ahead)

            rows :
                (t : Table) → OfFile t bytes starts lengths terminals kinds tokens sizes bindings declared order → Rows t row_of → Room t vks₀ vzs₀ vls₀ →
                Holds (length (constants t)) aks₀ azs₀ als₀ → Placed t 0 (count t) 0 aks₀ azs₀ als₀ → start_of t (count t) ≤ length room₀ →
                Stage t (n + 1) (n + 1) o ×
                FilledRows (row_of_constant t) t 0 (n + 1) 0 aks₀ azs₀ als₀ (take a aks ++ (aks' ++ post₁)) (take b azs ++ (azs' ++ post₂)) (take c als ++ (als' ++ post₃)) ×
                FilledRoom t 0 (n + 1) room₀ room'
            rows t O W M R X f =
                let Q = P.is t O W M R X f in
                let S = Q.0 in
                let F = Q.1 in
                let e = O.kinds_are in
                let l' : n < count t = rw e l in
                let k' : kind t n ≡ node.schema = rw e k in
                let i = no_constant S l' k' in
                let u = row_rises t.kinds n (count t) (omega arith) in
                let u₁ : row t n ≤ length aks = omega (arith, R.kinds_long, P.kinds_kept) in
                let u₂ : row t n ≤ length azs = omega (arith, R.numbers_long, P.numbers_kept) in
                let u₃ : row t n ≤ length als = omega (arith, R.lengths_long, P.lengths_kept) in
                let Y : Room t vks vzs vls = record {
                  kinds_long = omega (arith, P.value_kinds_kept, M.kinds_long);
                  numbers_long = omega (arith, P.value_numbers_kept, M.numbers_long);
                  lengths_long = omega (arith, P.value_lengths_kept, M.lengths_long);
                } in
                let G = E.is t order O (parted P.begun n g low next_is kinds g_is to_is O l' k') W (stage_part S l' k') Y
                (record {
                  kinds_long = part_long t aks a_is S.start S.from u₁;
                  numbers_long = part_long t azs b_is S.start S.from u₂;
                  lengths_long = part_long t als c_is S.start S.from u₃;
                })
                (record {
                  kinds_are = placed_part (λ (d : ℕ). (row_of_constant t d).kind) X.kinds_are F.kinds_are a_is S.start l' u₁;
                  numbers_are = placed_part (λ (d : ℕ). (row_of_constant t d).number) X.numbers_are F.numbers_are b_is S.start l' u₂;
                  lengths_are = placed_part (λ (d : ℕ). (row_of_constant t d).length) X.lengths_are F.lengths_are c_is S.start l' u₃;
                }) (omega (arith, start_rises t n (count t) (omega arith), P.room_kept)) in (
                  stage_schema S l' k' (o_is ∙ W.is n l'),
                  record {
                    kinds_are = joined post₁ F.kinds_are a_is S.start S.from u₁ P.kinds_kept i G.0.kinds_are p₁ refl a₁;
                    numbers_are = joined post₂ F.numbers_are b_is S.start S.from u₂ P.numbers_kept i G.0.numbers_are p₂ refl a₂;
                    lengths_are = joined post₃ F.lengths_are c_is S.start S.from u₃ P.lengths_kept i G.0.lengths_are p₃ refl a₃;
                  },
                  room_joined Q.2 S.from l' i G.1,
                )

    -- every constant lies in a schema, so all have passed
    pub filling_ends : length kinds ≤ n → FillsSchemas bytes starts lengths terminals kinds tokens sizes bindings declared order row_of aks₀ azs₀ als₀ vks₀ vzs₀ vls₀ room₀ aks azs als room
    filling_ends h =
        record {
          is = λ t O W M R X f.
              let Q = P.is t O W M R X f in (
                record {
                  kinds_are = all O Q.0 Q.1.kinds_are;
                  numbers_are = all O Q.0 Q.1.numbers_are;
                  lengths_are = all O Q.0 Q.1.lengths_are;
                },
                record {
                  long = Q.2.long;
                  strings_are = λ c a b k. Q.2.strings_are c a (passed O Q.0 c b k) k;
                  rest = λ i o.
                      Q.2.rest i
                      (⊎_elim (λ (x : i < start_of t 0). inl x) (λ (x : start_of t (count t) ≤ i). inr (let y = start_rises t lo (count t) (upto Q.0) in omega arith)) o);
                },
              );
        }
      where
        upto : {t : Table} → Stage t n lo at → lo ≤ count t
        upto S = omega (arith, S.from, S.upto)

        passed :
            {t : Table} → OfFile t bytes starts lengths terminals kinds tokens sizes bindings declared order → Stage t n lo at →
            (c : ℕ) → c < count t → kind t c ≡ node.constant → c < lo
        passed {t} O S c b k =
            let e : count t ≤ n = rw O.kinds_are h in
            let q : n ≡ count t = omega (arith, S.upto) in
            ⊎_elim
            (λ (x : lo ≤ c).
            let y = S.same c x (omega arith) ∙ ap (schema_of t) q ∙ schema_end t in
            let w = in_a_schema O.read c b k in absurd (omega arith))
            (λ (x : c < lo). x) (le_or lo c)

        all :
            {A : Type 0} {z : A} {f : ℕ → A} {t : Table} {was column : List A} → OfFile t bytes starts lengths terminals kinds tokens sizes bindings declared order →
            Stage t n lo at → Filled z f t 0 lo 0 was column → Filled z f t 0 (count t) 0 was column
        all {t = t} O S F =
            record {
              constants_are = λ c a b k. F.constants_are c a (passed O S c b k) k;
              rest = λ r g. F.rest r (let y = row_rises t.kinds lo (count t) (upto S) in omega arith);
            }
