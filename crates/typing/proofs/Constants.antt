-- The typing of the constants one after the other; what it comes to does not go by what the lent column held before.
use mathlib.Core.Path.{◌≡◌, refl, sym, ap, ◌∙◌}
use mathlib.Core.Logic.{inl}
use mathlib.Core.Bool.{true}
use mathlib.Core.List.{List, [], ◌∷◌, Memᴰ}
use Prim.Native.Nat.{ℕ, suc, ◌+◌, ◌-◌, ◌≤◌, ◌<◌}
use native.Mathlib.Omega.{arith}
use borrow.Author.Tests.{eqb-true, eq-eqb}
use lib.Dec.{eqb}
use lib.ListN.{length, get_or, set, replicate, length-set, length-replicate, length-map}
use Rattle.relations.specs.Select.{span, first_from, keep}
use Rattle.tree.proofs.Next.{next_kept, next_is}
use Rattle.relations.proofs.Select.{span_mem, keep_mem, span_end}
use Rattle.express.specs.Syntax.NodeKind as node
use Rattle.express.specs.Syntax.Tree.{Table, count, kind, size, first, nodes, is, within}
use Rattle.express.specs.Semantics.Shape.{shape_in}
use Rattle.express.specs.Semantics.Operate.{Kind, untyped}
use Rattle.express.specs.Semantics.Kind.{of_number, Finding, of_kind, fault, finding_in, kind_at, typed, if_found, if_typed}
use Rattle.express.specs.Semantics.Kind.{type_nodes_in, type_expression_in, type_constants, constants, typing}
use Rattle.express.specs.Semantics.Kind as express
use Rattle.express.proofs.Syntax.Formed.{Formed}
use Rattle.express.proofs.Syntax.FormedRows.{formed_rows}
use Rattle.express.proofs.Semantics.Scratch.{Same, both_typed, both_ill, type_any}
use Rattle.express.proofs.Semantics.Backward.{keep_step}
use Rattle.std.specs.Prelude.{Result, Ok, Err}
use Rattle.typing.specs.declared.IllTyped.{IllTyped}
use Rattle.typing.specs.Typings.{kinds_of, typing_of, outcome, Against, TypesNodes, OfFile, TypesConstants}

-- ---- as many kinds afterwards as before

module _ (t : Table) (b : List ℕ) (e : Table) (c : List ℕ) where
  pub typed_length : (ns : List ℕ) (ks js : List Kind) → type_nodes_in t b e c ns ks ≡ typed js → length js ≡ length ks
  unfolding type_nodes_in
  typed_length [] ks js h = let q : ks ≡ js = cc in ap length (sym q)
  typed_length (n ∷ ns) ks js h = by (finding_in t b e (kind_at ks) n (shape_in t e c n)) h (λ k. typed_length ns (set ks n k) js)
    where
      by :
          (x : Finding) → if_found x n (λ k. type_nodes_in t b e c ns (set ks n k)) ≡ typed js →
          ((k : Kind) → type_nodes_in t b e c ns (set ks n k) ≡ typed js → length js ≡ length (set ks n k)) → length js ≡ length ks
      by (of_kind k) i more = more k i ∙ length-set ks n k
      by (fault f) i more = absurd (let z : ◌≡◌ {A = ℕ} 0 1 = cc in omega arith)

-- ---- whatever the list held

module _ (t : Table) (b : List ℕ) (F : Formed t) where
  -- constants of the file
  pub record Are (ds : List ℕ) : Type 0 where
    pub known : (d : ℕ) → Memᴰ d ds → d < count t
    pub are : (d : ℕ) → Memᴰ d ds → kind t d ≡ node.constant

  pub any_kinds :
      (ds : List ℕ) → Are ds → (ks js : List Kind) → count t ≤ length ks → count t ≤ length js →
      outcome (type_constants t b ds ks) ≡ outcome (type_constants t b ds js)
  unfolding type_constants
  any_kinds [] A ks js k j = refl
  any_kinds (d ∷ ds) A ks js k j =
      by (type_expression_in t b t b d ks) (type_expression_in t b t b d js) refl refl
      (type_any t t b F b d (record { known = below; sort = inl (A.are d (Memᴰ.head refl)) }) ks js (omega (arith, below)) (omega (arith, below)))
      (λ us vs. any_kinds ds (record { known = λ n m. A.known n (Memᴰ.tail m); are = λ n m. A.are n (Memᴰ.tail m) }) us vs)
    where
      below : d < count t
      below = A.known d (Memᴰ.head refl)

      by :
          (x y : express.Typing) → type_expression_in t b t b d ks ≡ x → type_expression_in t b t b d js ≡ y →
          Same t t b F b (first t d) (suc d) x y →
          ((us vs : List Kind) → count t ≤ length us → count t ≤ length vs → outcome (type_constants t b ds us) ≡ outcome (type_constants t b ds vs)) →
          outcome (if_typed x (λ xs. type_constants t b ds xs)) ≡ outcome (if_typed y (λ xs. type_constants t b ds xs))
      by x y p q (both_typed {ks = us} {js = vs} a) more =
          let u = typed_length t b t b (within t d) ks us p in
          let v = typed_length t b t b (within t d) js vs q in
          more us vs (omega arith) (omega arith)
      by x y p q both_ill more = refl

-- ---- THE LOOP'S INVARIANT: what is left to type from node n on comes to the same

-- the constants from n on
abbrev pub from : Table → ℕ → List ℕ
from t n = keep (is t node.constant) (span n (count t - n))

pub record Passing (terminals kinds tokens sizes bindings declared was scratch : List ℕ) (n : ℕ) : Type 0 where
  pub kept : length scratch ≡ length was
  pub is :
      (t : Table) → OfFile t terminals kinds tokens sizes bindings declared → count t ≤ length was →
      outcome (typing t bindings) ≡ outcome (type_constants t bindings (from t n) (kinds_of scratch))

-- where a constant stands at n, unless all have passed
pub record Here (terminals kinds tokens sizes bindings declared was scratch : List ℕ) (n : ℕ) : Type 0 where
  pub passing : Passing terminals kinds tokens sizes bindings declared was scratch n
  pub stands : n < length kinds → get_or kinds n 0 ≡ node.constant

module _ {terminals kinds tokens sizes bindings declared : List ℕ} where
  starts :
      (t : Table) → OfFile t terminals kinds tokens sizes bindings declared → (was : List ℕ) → count t ≤ length was →
      outcome (typing t bindings) ≡ outcome (type_constants t bindings (from t 0) (kinds_of was))
  unfolding typing
  starts t O was l =
      let z : count t - 0 ≡ count t = omega arith in
      let h = length-map was of_number in
      let r = length-replicate (count t) untyped in
      rw z
      (any_kinds t bindings (formed_rows O.read) (constants t)
      (record {
        known = λ d m. let s = span_mem 0 (count t) d (keep_mem (is t node.constant) (nodes t) m).0 in omega arith;
        are = λ d m. eqb-true (kind t d) node.constant (keep_mem (is t node.constant) (nodes t) m).1;
      })
      (replicate (count t) untyped) (kinds_of was) (omega arith) (omega arith))

  -- the columns of the file as those of an expression
  pub itself : {t : Table} → OfFile t terminals kinds tokens sizes bindings declared → Against t bindings t terminals kinds tokens sizes bindings kinds declared
  itself O =
      record {
        terminals_are = O.terminals_are;
        tokens_are = O.tokens_are;
        sizes_are = O.sizes_are;
        names = record { own_kinds = O.kinds_are; file_kinds_are = O.kinds_are; own_declared = O.declares; file_declared = O.declares };
      }

  module _ {was : List ℕ} where
    pub passing_starts : Passing terminals kinds tokens sizes bindings declared was was 0
    passing_starts = record { kept = refl; is = λ t O l. starts t O was l }

    module _ {scratch : List ℕ} {n : ℕ} (P : Passing terminals kinds tokens sizes bindings declared was scratch n) where
      pub passing_ends : length kinds ≤ n → TypesConstants terminals kinds tokens sizes bindings declared was scratch (Ok tt)
      unfolding type_constants keep
      passing_ends h =
          record {
            kept = P.kept;
            is = λ t O l.
                let m : count t ≤ n = rw O.kinds_are h in
                sym (P.is t O l ∙ rw (span_end (count t) n m));
          }

      -- the next constant
      pub passing_next :
          n ≤ length kinds → {m : ℕ} → m ≡ first_from (λ j. eqb (get_or kinds j 0) node.constant) n (length kinds - n) →
          Here terminals kinds tokens sizes bindings declared was scratch m
      passing_next h {m} e =
          record {
            passing = record {
              kept = P.kept;
              is = λ t O l.
                  let q = ap (λ (ks : List ℕ). first_from (λ j. eqb (get_or ks j 0) node.constant) n (length ks - n)) O.kinds_are in
                  P.is t O l ∙ rw (e, ← q) (ap (λ (ns : List ℕ). outcome (type_constants t bindings ns (kinds_of scratch))) (next_kept (is t node.constant) (count t) n (rw O.kinds_are h)));
            };
            stands = next_is kinds node.constant n e;
          }

      module _ (h : n < length kinds) where
        -- a constant
        module _ (i : get_or kinds n 0 ≡ node.constant) {s lo : ℕ} (S : s ≡ get_or sizes n 0) (L : lo ≡ n + 1 - s) {after : List ℕ} {r : Result (Unit {0}) IllTyped}
            (T : TypesNodes terminals kinds tokens sizes bindings lo (n + 1) kinds declared scratch after r) where
          nodes_of : (t : Table) → OfFile t terminals kinds tokens sizes bindings declared → type_expression_in t bindings t bindings n (kinds_of scratch) ≡ typing_of r after
          nodes_of t O =
              let m : n < count t = rw O.kinds_are h in
              let z : size t n ≡ s = rw O.sizes_are (sym S) in
              let y = (formed_rows O.read).inside n m in
              let p : first t n ≡ lo = rw z (sym L) in
              let q : size t n ≡ n + 1 - lo = omega arith in
              rw (p, q) (T.is t bindings t (itself O))

          here : (t : Table) → OfFile t terminals kinds tokens sizes bindings declared →
              type_constants t bindings (from t n) (kinds_of scratch) ≡ if_typed (typing_of r after) (λ js. type_constants t bindings (from t (n + 1)) js)
          unfolding type_constants
          here t O =
              let m : n < count t = rw O.kinds_are h in
              let o : is t node.constant n ≡ true = eq-eqb (kind t n) node.constant (rw O.kinds_are i) in
              rw (keep_step (count t) (is t node.constant) n m, o, nodes_of t O)

          pub passing_constant : r ≡ Ok tt → Passing terminals kinds tokens sizes bindings declared was after (n + 1)
          passing_constant e =
              record {
                kept = T.kept ∙ P.kept;
                is = λ t O l. P.is t O l ∙ ap outcome (rw e at (here t O));
              }

          pub passing_stops : {i : IllTyped} → r ≡ Err i → TypesConstants terminals kinds tokens sizes bindings declared was after (Err i)
          passing_stops e =
              record {
                kept = T.kept ∙ P.kept;
                is = λ t O l. sym (P.is t O l ∙ ap outcome (rw e at (here t O)));
              }
