-- The offsets, stored from the last to the first.
use mathlib.Core.Path.{◌≡◌, refl, sym, ap, ◌∙◌}
use mathlib.Core.Logic.{by_cases}
use mathlib.Core.List.{List}
use Prim.Native.Nat.{ℕ, ◌+◌, ◌-◌, ◌≤◌, ◌<◌, min}
use native.Mathlib.Omega.{arith}
use native.Mathlib.Decide.{ℕ_discrete, dec_lt}
use lib.ListN.{length, get_or, set, length-set, get_or-eq_default}
use Rattle.columns.proofs.Laws.{at_set, at_other}
use Rattle.express.specs.Syntax.Tree.{Table}
use Rattle.scopes.specs.Preparation.{Prepared}
use Rattle.scopes.specs.Range.{vertex_count}
use Rattle.symbol_tables.specs.Entry.{code_count}
use Rattle.attributes.specs.Attributes.{offset_of, place, start_in, Back, StoresOffsets}
use Rattle.attributes.proofs.Offsets.{offset_rises, offset_few, offset_within, back_offset}

-- no number is above a limit, and none that is stored
small_set : (table : List ℕ) (p x c : ℕ) → ((k : ℕ) → get_or table k 0 < c) → x < c → (k : ℕ) → get_or (set table p x) k 0 < c
small_set table p x c h l k =
    by_cases (ℕ_discrete k p)
    (λ q.
    by_cases (dec_lt p (length table)) (λ b. let e = at_set table p x 0 b in rw (q, e) l)
    (λ b. let e : get_or (set table p x) k 0 ≡ 0 = get_or-eq_default (set table p x) 0 (omega (arith, b, length-set table p x)) in omega (arith, e, l)))
    (λ q. rw (at_other table p k x 0 q) (h k))

pub record Offsetting (nodes : List ℕ) (offsets : ℕ) (table₁ table : List ℕ) (e v : ℕ) : Type 0 where
  pub long : length table ≡ length table₁
  pub upto : v ≤ offsets
  pub few : e ≤ length nodes
  pub above : (t : Table) (keys heads next : List ℕ) → Prepared t keys nodes heads next → offsets ≡ vertex_count t + 1 → 0 < v → offset_of t (v - 1) ≤ e
  pub is : (t : Table) (keys heads next : List ℕ) → Prepared t keys nodes heads next → offsets ≡ vertex_count t + 1 → offsets ≤ length table₁
      → (w : ℕ) → v ≤ w → w ≤ vertex_count t → get_or table (place table₁ offsets w) 0 ≡ offset_of t w
  pub small : (t : Table) (keys heads next : List ℕ) → Prepared t keys nodes heads next → offsets ≡ vertex_count t + 1 → (k : ℕ) → get_or table k 0 < code_count

module _ {nodes : List ℕ} {offsets : ℕ} where
  pub offsetting_starts : {table : List ℕ} → ((k : ℕ) → get_or table k 0 ≡ 0) → Offsetting nodes offsets table table (length nodes) offsets
  offsetting_starts z =
      record {
        long = refl;
        upto = omega arith;
        few = omega arith;
        above = λ t keys heads next P e l. offset_within P (offsets - 1) (omega arith);
        is = λ t keys heads next P e l w a b. absurd (omega arith);
        small = λ t keys heads next P e k. omega (arith, z k);
      }

  module _ {table₁ table : List ℕ} {e v : ℕ} (s : Offsetting nodes offsets table₁ table e v) where
    pub offsetting_ends : {table₀ : List ℕ} → length table₁ ≡ length table₀ → v ≤ 0 → StoresOffsets nodes offsets table₀ table
    offsetting_ends q l =
        record {
          is =
              λ t keys heads next P h r.
              record {
                is =
                    λ w b.
                    let at : place table (vertex_count t + 1) w ≡ place table₁ offsets w = omega (arith, s.long, h) in
                    rw at (s.is t keys heads next P h (omega arith) w (omega arith) b);
              };
          small = s.small;
        }

    module _ (l : 0 < v) {d p r x : ℕ} {table' : List ℕ} (q : d ≡ offsets - 1) (o : p ≡ length table₁ - offsets) (B : Back nodes d e (start_in nodes (v - 1)) r)
        (f : r < 4294967296 → x ≡ r) (g : table' ≡ set table (p + (v - 1)) x) where
      -- what is found is the offset
      module _ {t : Table} {keys heads next : List ℕ} (P : Prepared t keys nodes heads next) (h : offsets ≡ vertex_count t + 1) where
        found : r ≡ offset_of t (v - 1)
        found =
            let z : d ≡ vertex_count t = omega arith in
            back_offset P (omega (arith, s.upto)) (s.above t keys heads next P h l) s.few (rw z at B)

        low : offset_of t (v - 1) < code_count
        low = omega (arith, offset_few t (v - 1) (omega (arith, s.upto)), P.consistent.few)

        told : x ≡ offset_of t (v - 1)
        told = f (omega (arith, found, low)) ∙ found

      pub offsetting_goes : Offsetting nodes offsets table₁ table' r (v - 1)
      offsetting_goes =
          rw g
          (record {
            long = length-set table (p + (v - 1)) x ∙ s.long;
            upto = omega (arith, s.upto);
            few = omega (arith, B.upto, s.few);
            above =
                λ t keys heads next P h k.
                let back : v - 1 - 1 + 1 ≡ v - 1 = omega arith in
                omega (arith, found P h, rw back at (offset_rises t (v - 1 - 1) (omega (arith, s.upto))));
            is =
                λ t keys heads next P h room w a b.
                by_cases (ℕ_discrete w (v - 1))
                (λ z.
                let at = at_set table (p + (v - 1)) x 0 (omega (arith, s.long, s.upto, o, room)) in
                let n : place table₁ offsets w ≡ p + (v - 1) = omega (arith, o, z) in
                rw n (at ∙ told P h ∙ ap (offset_of t) (sym z)))
                (λ z.
                at_other table (p + (v - 1)) (place table₁ offsets w) x 0 (λ y. z (omega (arith, o, y)))
                ∙ s.is t keys heads next P h room w (omega (arith, z)) b);
            small = λ t keys heads next P h. small_set table _ x code_count (s.small t keys heads next P h) (omega (arith, told P h, low P h));
          })

-- ---- back over entries
pub record Backing (nodes : List ℕ) (low hi from e : ℕ) : Type 0 where
  pub upto : e ≤ hi
  pub down : low ≤ hi → low ≤ e
  pub behind : (i : ℕ) → e ≤ i → i < hi → from ≤ get_or nodes i 0

module _ {nodes : List ℕ} {low hi from : ℕ} where
  pub backing_starts : Backing nodes low hi from hi
  backing_starts = record { upto = omega arith; down = λ l. l; behind = λ i a b. absurd (omega arith) }

  module _ {e : ℕ} (s : Backing nodes low hi from e) where
    pub backing_ends : {r : ℕ} → e ≤ low → r ≡ min low hi → Back nodes low hi from r
    backing_ends l m =
        record {
          upto = omega (arith, m);
          down = λ k. omega (arith, m);
          before = λ h. absurd (omega (arith, m));
          behind = λ i a b. s.behind i (omega (arith, m, s.down (omega (arith, m)))) b;
        }

    module _ {x y : ℕ} (l : low < e) (p : x ≡ y) (q : y ≡ get_or nodes (e - 1) 0) where
      pub backing_stops : {r : ℕ} → x < from → r ≡ e → Back nodes low hi from r
      backing_stops h z = rw z (record { upto = s.upto; down = s.down; before = λ k. omega (arith, h, p, q); behind = s.behind })

      pub backing_goes : from ≤ x → Backing nodes low hi from (e - 1)
      backing_goes h =
          record {
            upto = omega (arith, s.upto);
            down = λ k. omega arith;
            behind = λ i a b. by_cases (ℕ_discrete i (e - 1)) (λ z. rw z (omega (arith, h, p, q))) (λ z. s.behind i (omega (arith, z)) b);
          }
