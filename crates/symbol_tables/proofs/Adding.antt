-- The nodes of a range, added from the last to the first: each that is of one of two kinds stands before those that were added.
use mathlib.Core.Path.{◌≡◌, refl, sym, ap, ◌∙◌}
use mathlib.Core.Logic.{◌⊎◌, inl, inr}
use mathlib.Core.Bool.{true, false, cond}
use mathlib.Core.List.{List, [], ◌∷◌, ◌++◌}
use Prim.Native.Nat.{ℕ, ◌+◌, ◌-◌, ◌≤◌, ◌<◌}
use native.Mathlib.Omega.{arith}
use lib.ListN.{length, get_or}
use Rattle.relations.specs.Select.{keep}
use Rattle.relations.proofs.Select.{span_end}
use Rattle.express.proofs.Semantics.Backward.{keep_step}
use Rattle.symbol_tables.specs.Entry.{stamp_count, node_limit}
use Rattle.symbol_tables.specs.Table.{Tabulated, OnlyStamped, Adds, either_kind, symbol_in, kinds_between, reach, AddsRange}
use Rattle.symbol_tables.proofs.Tables.{only_same, only_then, add_only, add_tabulates}

module _ (kinds : List ℕ) (one other : ℕ) where
  between_none : (lo hi : ℕ) → hi ≤ lo → kinds_between kinds one other lo hi ≡ []
  unfolding kinds_between keep
  between_none lo hi l = rw (span_end hi lo l)

  between_step : (i hi : ℕ) → 0 < i → i ≤ hi
      → kinds_between kinds one other (i - 1) hi
      ≡ cond (either_kind one other (get_or kinds (i - 1) 0)) ((i - 1) ∷ kinds_between kinds one other i hi) (kinds_between kinds one other i hi)
  unfolding kinds_between
  between_step i hi z l =
      let back : i - 1 + 1 ≡ i = omega arith in
      rw back at (keep_step hi (λ n. either_kind one other (get_or kinds n 0)) (i - 1) (omega arith))

-- those from i up to hi are added
pub record Added (kinds tokens symbols : List ℕ) (one other i hi stamp : ℕ) (table table' : List ℕ) : Type 0 where
  pub only : stamp < stamp_count → hi ≤ node_limit → OnlyStamped stamp table table'
  pub is : stamp < stamp_count → hi ≤ node_limit → (ns : List ℕ) → Tabulated (symbol_in tokens symbols) table stamp ns
      → Tabulated (symbol_in tokens symbols) table' stamp (kinds_between kinds one other i hi ++ ns)

pub record Adding (kinds tokens symbols : List ℕ) (one other lo hi stamp : ℕ) (table₁ table : List ℕ) (i : ℕ) : Type 0 where
  pub long : length table ≡ length table₁
  pub upto : i ≤ hi
  pub low : (lo ≤ i) ⊎ (i ≡ hi)
  pub adds : Added kinds tokens symbols one other i hi stamp table₁ table

module _ {kinds tokens symbols : List ℕ} {one other lo hi stamp : ℕ} where
  pub adding_starts : {table : List ℕ} → Adding kinds tokens symbols one other lo hi stamp table table hi
  adding_starts =
      record {
        long = refl;
        upto = omega arith;
        low = inr refl;
        adds = record { only = λ a b. only_same; is = λ a b ns T. rw (between_none kinds one other hi hi (omega arith)) T };
      }

  module _ {table₁ table : List ℕ} {i : ℕ} (s : Adding kinds tokens symbols one other lo hi stamp table₁ table i) where
    pub adding_ends : {top : ℕ} → hi ≡ reach kinds tokens top → i ≤ lo → AddsRange kinds tokens symbols one other lo top stamp table₁ table
    adding_ends {top} e l =
        record {
          only = λ a b. s.adds.only a (omega (arith, e, b));
          is = λ a b ns T. rw (sym e, by s.low) (s.adds.is a (omega (arith, e, b)) ns T);
        }
      where
        by : (lo ≤ i) ⊎ (i ≡ hi) → kinds_between kinds one other lo hi ≡ kinds_between kinds one other i hi
        by (inl h) = let e : lo ≡ i = omega arith in ap (λ (k : ℕ). kinds_between kinds one other k hi) e
        by (inr h) = between_none kinds one other lo hi (omega arith) ∙ sym (between_none kinds one other i hi (omega arith))

    module _ (l : lo < i) where
      pub adding_skip : either_kind one other (get_or kinds (i - 1) 0) ≡ false → Adding kinds tokens symbols one other lo hi stamp table₁ table (i - 1)
      adding_skip h =
          let e : kinds_between kinds one other (i - 1) hi ≡ kinds_between kinds one other i hi = between_step kinds one other i hi (omega arith) s.upto ∙ rw h in
          record {
            long = s.long;
            upto = omega (arith, s.upto);
            low = inl (omega arith);
            adds = record { only = s.adds.only; is = λ a b ns T. rw e (s.adds.is a b ns T) };
          }

      pub adding_more : {x : ℕ} {table' : List ℕ} → either_kind one other (get_or kinds (i - 1) 0) ≡ true → x ≡ symbol_in tokens symbols (i - 1)
          → Adds table stamp x (i - 1) table' → length table' ≡ length table → Adding kinds tokens symbols one other lo hi stamp table₁ table' (i - 1)
      adding_more h q A e =
          let z : kinds_between kinds one other (i - 1) hi ≡ (i - 1) ∷ kinds_between kinds one other i hi = between_step kinds one other i hi (omega arith) s.upto ∙ rw h in
          record {
            long = e ∙ s.long;
            upto = omega (arith, s.upto);
            low = inl (omega arith);
            adds =
                record {
                  only = λ a b. only_then (s.adds.only a b) (add_only a (omega (arith, s.upto)) A);
                  is = λ a b ns T. rw z (add_tabulates a (omega (arith, s.upto)) A q (s.adds.is a b ns T));
                };
          }
