-- The typing of nodes one after the other: what is left to type from node n on, with the kinds that the lent column holds there, comes to the same.
use mathlib.Core.Path.{◌≡◌, refl, sym, ap, ◌∙◌}
use mathlib.Core.List.{List, [], ◌∷◌, map}
use Prim.Native.Nat.{ℕ, zero, suc, ◌+◌, ◌-◌, ◌≤◌, ◌<◌}
use lib.ListN.{length, set, length-set}
use Rattle.relations.specs.Select.{span}
use Rattle.relations.proofs.Select.{span_step, span_end}
use Rattle.express.specs.Syntax.Tree.{Table}
use Rattle.express.specs.Semantics.Shape.{shape_in}
use Rattle.express.specs.Semantics.Kind.{of_number, Finding, of_kind, finding_in, kind_at, typed, if_found, type_nodes_in}
use Rattle.express.specs.Semantics.Kind as express
use Rattle.std.specs.Prelude.{Result, Ok, Err}
use Rattle.kind_rules.specs.declared.Fault.{Fault}
use Rattle.kind_rules.specs.Findings.{reply_of, finding_of}
use Rattle.typing.specs.Typings.{kinds_of, Against, Finds, TypesNodes}

pub map_set : {A B : Type 0} (f : A → B) (xs : List A) (n : ℕ) (y : A) → map f (set xs n y) ≡ set (map f xs) n (f y)
map_set f [] n y = refl
map_set f (x ∷ xs) zero y = refl
map_set f (x ∷ xs) (suc n) y = ap (λ l. f x ∷ l) (map_set f xs n y)

-- the nodes from n up to hi
abbrev pub typed_from : Table → List ℕ → Table → List ℕ → ℕ → ℕ → List ℕ → express.Typing
typed_from t b e c hi n scratch = type_nodes_in t b e c (span n (hi - n)) (kinds_of scratch)

module _ (t : Table) (b : List ℕ) (e : Table) (c : List ℕ) (hi n : ℕ) (scratch : List ℕ) where
  abbrev at_node : Finding → express.Typing
  at_node x = if_found x n (λ k. type_nodes_in t b e c (span (n + 1) (hi - (n + 1))) (set (kinds_of scratch) n k))

  here : n < hi → typed_from t b e c hi n scratch ≡ at_node (finding_in t b e (kind_at (kinds_of scratch)) n (shape_in t e c n))
  unfolding type_nodes_in
  here l = rw (span_step hi n l)

  over : hi ≤ n → typed_from t b e c hi n scratch ≡ typed (kinds_of scratch)
  unfolding type_nodes_in
  over l = rw (span_end hi n l)

  next : (k : ℕ) → at_node (of_kind (of_number k)) ≡ typed_from t b e c hi (n + 1) (set scratch n k)
  next k = ap (type_nodes_in t b e c (span (n + 1) (hi - (n + 1)))) (sym (map_set of_number scratch n k))

-- THE LOOP'S INVARIANT
pub record Going (terminals kinds tokens sizes bindings : List ℕ) (lo hi : ℕ) (file_kinds declared was scratch : List ℕ) (n : ℕ) : Type 0 where
  pub kept : length scratch ≡ length was
  pub is :
      (t : Table) (b : List ℕ) (e : Table) → Against t b e terminals kinds tokens sizes bindings file_kinds declared →
      typed_from t b e bindings hi lo was ≡ typed_from t b e bindings hi n scratch

module _ {terminals kinds tokens sizes bindings : List ℕ} {lo hi : ℕ} {file_kinds declared was : List ℕ} where
  pub going_starts : Going terminals kinds tokens sizes bindings lo hi file_kinds declared was was lo
  going_starts = record { kept = refl; is = λ t b e A. refl }

  module _ {scratch : List ℕ} {n : ℕ} (G : Going terminals kinds tokens sizes bindings lo hi file_kinds declared was scratch n) where
    module _ (l : n < hi) {f : Result ℕ Fault} (F : Finds terminals kinds tokens sizes bindings file_kinds declared scratch n f) where
      pub going_on : {k : ℕ} {after : List ℕ} → f ≡ Ok k → after ≡ set scratch n k → Going terminals kinds tokens sizes bindings lo hi file_kinds declared was after (n + 1)
      going_on {k} {after} e s =
          rw s
          (record {
            kept = length-set scratch n k ∙ G.kept;
            is = λ t b o A.
                G.is t b o A ∙ here t b o bindings hi n scratch l ∙ ap (at_node t b o bindings hi n scratch) (sym (F.is t b o A) ∙ ap finding_of e) ∙
                next t b o bindings hi n scratch k;
          })

      pub going_stops :
          {g : Fault} {k : ℕ} → f ≡ Err g → k ≡ reply_of g → TypesNodes terminals kinds tokens sizes bindings lo hi file_kinds declared was scratch (Err (record { reply = k; node = n }))
      going_stops {g} e r =
          rw r (record {
            kept = G.kept;
            is = λ t b o A.
                G.is t b o A ∙ here t b o bindings hi n scratch l ∙ ap (at_node t b o bindings hi n scratch) (sym (F.is t b o A) ∙ ap finding_of e);
          })

    pub going_ends : hi ≤ n → TypesNodes terminals kinds tokens sizes bindings lo hi file_kinds declared was scratch (Ok tt)
    going_ends l = record { kept = G.kept; is = λ t b e A. G.is t b e A ∙ over t b e bindings hi n scratch l }
