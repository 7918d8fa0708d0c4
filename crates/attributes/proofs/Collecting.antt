-- The attributes among entries, put into a table one after the other; then those of the declarations in a queue.
use mathlib.Core.Path.{◌≡◌, refl, sym, ap, ◌∙◌}
use mathlib.Core.Logic.{◌⊎◌, inl, inr}
use mathlib.Core.Bool.{true, false, cond}
use mathlib.Core.List.{List, [], ◌∷◌, ◌++◌, append_assoc}
use Prim.Native.Nat.{ℕ, ◌+◌, ◌-◌, ◌%◌, ◌≤◌, ◌<◌}
use native.Mathlib.Omega.{arith}
use native.Mathlib.Numerals.{add-one}
use lib.ListN.{length, get_or}
use Rattle.columns.proofs.Laws.{at_other}
use Rattle.relations.specs.Select.{keep}
use Rattle.relations.proofs.Select.{span_step, span_end, keep_cons}
use Rattle.express.specs.Syntax.Tree.{Table, symbol}
use Rattle.scopes.specs.Entries.{radix}
use Rattle.scopes.specs.Range.{vertex_count}
use Rattle.symbol_tables.specs.Entry.{stamp_count, node_limit}
use Rattle.symbol_tables.specs.Table.{Adds}
use Rattle.symbol_tables.proofs.Tables.{only_same, only_then, add_only, add_tabulates}
use Rattle.attributes.specs.Attributes.{offset_of, place, Offsets, Puts, attribute_kind, attributes_between, CollectsEntries}
use Rattle.attributes.specs.Attributes.{attributes_of, queued_attributes, Queued, CollectsQueued}
use Rattle.attributes.proofs.Offsets.{range_attributes, entry_fits}

-- ---- nodes put into a table
module _ {symbol : ℕ → ℕ} {limit stamp : ℕ} where
  puts_none : {table : List ℕ} → Puts symbol limit stamp [] table table
  puts_none = record { only = only_same; behind = λ k l. refl; is = λ ns T. T }

  puts_then : {ms ls a b c : List ℕ} → Puts symbol limit stamp ms a b → Puts symbol limit stamp ls b c → Puts symbol limit stamp (ls ++ ms) a c
  puts_then {ms} {ls} p q =
      record {
        only = only_then p.only q.only;
        behind = λ k l. q.behind k l ∙ p.behind k l;
        is = λ ns T. rw (append_assoc ls ms ns) (q.is (ms ++ ns) (p.is ns T));
      }

  puts_one : {n x : ℕ} {table table' : List ℕ} → stamp < stamp_count → n < node_limit → x ≡ symbol n → symbol n < limit → Adds table stamp x n table'
      → Puts symbol limit stamp (n ∷ []) table table'
  puts_one {n} {x} {table} few l e b A =
      record {
        only = add_only few l A;
        behind = λ k h. ap (λ (c : List ℕ). get_or c k 0) (A.is few l) ∙ at_other table x k _ 0 (λ z. omega (arith, e, z));
        is = λ ns T. add_tabulates few l A e T;
      }

-- ---- the attributes among entries, from the last to the first
module _ (kinds nodes : List ℕ) where
  pub between_none : (lo hi : ℕ) → hi ≤ lo → attributes_between kinds nodes lo hi ≡ []
  unfolding attributes_between keep
  between_none lo hi l = rw (span_end hi lo l)

  pub between_step : (e hi : ℕ) → 0 < e → e ≤ hi
      → attributes_between kinds nodes (e - 1) hi
      ≡ cond (attribute_kind (get_or kinds (get_or nodes (e - 1) 0) 0)) (get_or nodes (e - 1) 0 ∷ attributes_between kinds nodes e hi) (attributes_between kinds nodes e hi)
  unfolding attributes_between
  between_step e hi z l =
      let back : e - 1 + 1 ≡ e = omega arith in
      let s = span_step hi (e - 1) (omega arith) in
      rw (s, back) (keep_cons (λ n. attribute_kind (get_or kinds n 0)) (get_or nodes (e - 1) 0) _)

pub record Adding (kinds keys nodes : List ℕ) (lo hi stamp : ℕ) (table₁ table : List ℕ) (e : ℕ) : Type 0 where
  pub long : length table ≡ length table₁
  pub upto : e ≤ hi
  pub low : (lo ≤ e) ⊎ (e ≡ hi)
  pub adds : CollectsEntries kinds keys nodes e hi stamp table₁ table

module _ {kinds keys nodes : List ℕ} {lo hi stamp : ℕ} where
  pub adding_starts : {table : List ℕ} → Adding kinds keys nodes lo hi stamp table table hi
  adding_starts =
      record {
        long = refl;
        upto = omega arith;
        low = inr refl;
        adds = record { is = λ symbol limit few fits. rw (between_none kinds nodes hi hi (omega arith)) puts_none };
      }

  module _ {table₁ table : List ℕ} {e : ℕ} (s : Adding kinds keys nodes lo hi stamp table₁ table e) where
    pub adding_ends : e ≤ lo → CollectsEntries kinds keys nodes lo hi stamp table₁ table
    adding_ends l = by s.low
      where
        by : (lo ≤ e) ⊎ (e ≡ hi) → CollectsEntries kinds keys nodes lo hi stamp table₁ table
        by (inl h) = let q : e ≡ lo = omega arith in rw q at s.adds
        by (inr h) =
            let q : attributes_between kinds nodes lo hi ≡ attributes_between kinds nodes e hi =
            between_none kinds nodes lo hi (omega arith) ∙ sym (between_none kinds nodes e hi (omega arith)) in
            record { is = λ symbol limit few fits. rw q (s.adds.is symbol limit few (λ i a b. absurd (omega arith))) }

    module _ (l : lo < e) where
      pub adding_skip : attribute_kind (get_or kinds (get_or nodes (e - 1) 0) 0) ≡ false → Adding kinds keys nodes lo hi stamp table₁ table (e - 1)
      adding_skip h =
          let q : attributes_between kinds nodes (e - 1) hi ≡ attributes_between kinds nodes e hi = between_step kinds nodes e hi (omega arith) s.upto ∙ rw h in
          record {
            long = s.long;
            upto = omega (arith, s.upto);
            low = inl (omega arith);
            adds = record { is = λ symbol limit few fits. rw q (s.adds.is symbol limit few (λ i a b. fits i (omega arith) b)) };
          }

      pub adding_more : {x n : ℕ} {table' : List ℕ} → n ≡ get_or nodes (e - 1) 0 → attribute_kind (get_or kinds n 0) ≡ true → x ≡ get_or keys (e - 1) 0 % radix
          → Adds table stamp x n table' → length table' ≡ length table → Adding kinds keys nodes lo hi stamp table₁ table' (e - 1)
      adding_more {x} {n} {table'} z h y A g =
          let k : attribute_kind (get_or kinds (get_or nodes (e - 1) 0) 0) ≡ true = rw z at h in
          let q : attributes_between kinds nodes (e - 1) hi ≡ get_or nodes (e - 1) 0 ∷ attributes_between kinds nodes e hi =
          between_step kinds nodes e hi (omega arith) s.upto ∙ rw k in
          let A' : Adds table stamp x (get_or nodes (e - 1) 0) table' = rw z at A in
          record {
            long = g ∙ s.long;
            upto = omega (arith, s.upto);
            low = inl (omega arith);
            adds =
                record {
                  is =
                      λ symbol limit few fits.
                      let F = fits (e - 1) (omega arith) (omega (arith, s.upto)) in
                      rw q
                      (puts_then (s.adds.is symbol limit few (λ i a b. fits i (omega arith) b)) (puts_one few F.node (y ∙ F.key) F.below A'));
                };
          }

-- ---- those of the declarations in a queue

-- what lies behind the symbols stays
pub offsets_kept : {t : Table} {table table' : List ℕ} → length t.symbols + vertex_count t < length table → length table' ≡ length table
    → ((k : ℕ) → length t.symbols ≤ k → get_or table' k 0 ≡ get_or table k 0) → Offsets t table → Offsets t table'
offsets_kept {t} {table} {table'} r e b O =
    record {
      is = λ v l. ap (λ (n : ℕ). get_or table' (n - (vertex_count t + 1) + v) 0) e ∙ b (place table (vertex_count t + 1) v) (omega arith) ∙ O.is v l;
    }

pub record Collecting (kinds keys nodes queue : List ℕ) (queued offsets stamp : ℕ) (table₁ table : List ℕ) (k : ℕ) : Type 0 where
  pub long : length table ≡ length table₁
  pub upto : k ≤ queued
  pub collects : (t : Table) → Queued t kinds keys nodes queue queued offsets table₁ → stamp < stamp_count
      → Puts (symbol t) (length t.symbols) stamp (queued_attributes t queue k) table₁ table

-- the entries of one declaration
module _ {t : Table} {kinds keys nodes queue : List ℕ} {queued offsets stamp : ℕ} {table₁ : List ℕ} (Q : Queued t kinds keys nodes queue queued offsets table₁) where
  collects_one : {w at lo hi : ℕ} {table table' : List ℕ} → w < vertex_count t → Offsets t table → at ≡ place table offsets w → lo ≡ get_or table at 0
      → hi ≡ get_or table (at + 1) 0 → stamp < stamp_count → CollectsEntries kinds keys nodes lo hi stamp table table'
      → Puts (symbol t) (length t.symbols) stamp (attributes_of t w) table table'
  collects_one {w} {at} {lo} {hi} {table} {table'} l O p a b few C =
      let here : at ≡ place table (vertex_count t + 1) w = p ∙ ap (λ (n : ℕ). place table n w) Q.so_many in
      let next : at + 1 ≡ place table (vertex_count t + 1) (w + 1) = omega arith in
      let x : lo ≡ offset_of t w = a ∙ ap (λ (i : ℕ). get_or table i 0) here ∙ O.is w (omega arith) in
      let y : hi ≡ offset_of t (w + 1) = b ∙ ap (λ (i : ℕ). get_or table i 0) next ∙ O.is (w + 1) (omega arith) in
      let q : attributes_between kinds nodes (offset_of t w) (offset_of t (w + 1)) ≡ attributes_of t w =
      ap (λ (ks : List ℕ). attributes_between ks nodes (offset_of t w) (offset_of t (w + 1))) (sym Q.kinds_are) ∙ range_attributes Q.prepared w l in
      let C' : CollectsEntries kinds keys nodes (offset_of t w) (offset_of t (w + 1)) stamp table table' = rw (x, y) at C in
      rw q at (C'.is (symbol t) (length t.symbols) few (entry_fits Q.prepared w l Q.scanned))

module _ {kinds keys nodes queue : List ℕ} {queued offsets stamp : ℕ} where
  pub collecting_starts : {table : List ℕ} → Collecting kinds keys nodes queue queued offsets stamp table table 0
  unfolding queued_attributes
  collecting_starts = record { long = refl; upto = omega arith; collects = λ t Q l. puts_none }

  module _ {table₁ table : List ℕ} {k : ℕ} (s : Collecting kinds keys nodes queue queued offsets stamp table₁ table k) where
    pub collecting_ends : queued ≤ k → CollectsQueued kinds keys nodes queue queued offsets stamp table₁ table
    collecting_ends h = let e : k ≡ queued = omega (arith, s.upto) in record { is = λ t Q l. rw e at (s.collects t Q l) }

    pub collecting_goes : {w first lo hi : ℕ} {table' : List ℕ} → k < queued → first ≡ length table₁ - offsets → w ≡ get_or queue k 0 → lo ≡ get_or table (first + w) 0
        → hi ≡ get_or table (first + w + 1) 0 → CollectsEntries kinds keys nodes lo hi stamp table table' → length table' ≡ length table
        → Collecting kinds keys nodes queue queued offsets stamp table₁ table' (k + 1)
    unfolding queued_attributes
    collecting_goes {w} {first} {lo} {hi} {table'} h f q a b C e =
        record {
          long = e ∙ s.long;
          upto = omega arith;
          collects =
              λ t Q l.
              let known : w < vertex_count t = rw q (Q.known k h) in
              let before = s.collects t Q l in
              let O : Offsets t table = offsets_kept Q.room s.long before.behind Q.stand in
              let at : first + w ≡ place table offsets w = ap (λ (n : ℕ). n + w) (f ∙ ap (λ (n : ℕ). n - offsets) (sym s.long)) in
              let now : Puts (symbol t) (length t.symbols) stamp (attributes_of t (get_or queue k 0)) table table' = rw q at (collects_one Q known O at a b l C) in
              rw (add-one k) (puts_then before now);
        }
