-- Typing and evaluation in steps, as loops take them: the nodes of an expression from the first to the last, the constants one after the other.
use mathlib.Core.Path.{◌≡◌, refl, sym, ap, ◌∙◌}
use mathlib.Core.List.{List, [], ◌∷◌, ◌++◌, append_assoc, flat_map, Memᴰ}
use Prim.Native.Nat.{ℕ, ◌+◌, ◌-◌, ◌<◌}
use lib.ListN.{length, set, length-set}
use lib.Seq.{get_or-set_other}
use Rattle.express.specs.Semantics.Answer.{Answer, indeterminate}
use Rattle.relations.specs.Select.{span}
use Rattle.express.specs.Syntax.Tree.{Table, within}
use Rattle.express.specs.Semantics.Shape.{shape_in}
use Rattle.express.specs.Semantics.Operate.{Kind}
use Rattle.express.specs.Semantics.Kind.{Finding, of_kind, fault, finding_in, kind_at, Typing, typed, ill_typed, if_found, if_typed, type_nodes, type_nodes_in, type_constants}
use Rattle.express.specs.Semantics.Evaluate.{answer_in, answer_at, run_in, value, evaluate}
use Rattle.relations.proofs.Select.{span_step}

-- ---- evaluation

module _ (t e : Table) (c : List ℕ) (g : ℕ → Answer) where
  pub length_run : (ns : List ℕ) (xs : List Answer) → length (run_in t e c g ns xs) ≡ length xs
  unfolding run_in
  length_run [] xs = refl
  length_run (n ∷ ns) xs = length_run ns _ ∙ length-set xs n _

  -- the node n, of those up to d
  pub run_step :
      (d n : ℕ) (ns : List ℕ) (xs : List Answer) → n < d →
      run_in t e c g (span n (d - n) ++ ns) xs ≡
      run_in t e c g (span (n + 1) (d - (n + 1)) ++ ns) (set xs n (answer_in e (answer_at xs) g n (shape_in t e c n)))
  unfolding run_in
  run_step d n ns xs l = rw (span_step d n l)

  -- other nodes keep what they had
  pub run_other : (ns : List ℕ) (xs : List Answer) (m : ℕ) → (Memᴰ m ns → ⊥) → answer_at (run_in t e c g ns xs) m ≡ answer_at xs m
  unfolding run_in
  run_other [] xs m h = refl
  run_other (n ∷ ns) xs m h =
      run_other ns _ m (λ i. h (Memᴰ.tail i)) ∙ get_or-set_other xs n m _ indeterminate (λ q. h (Memᴰ.head q))

module _ (t : Table) (b : List ℕ) where
  pub length_evaluate : (ds : List ℕ) (known : List Answer) → length (evaluate t b ds known) ≡ length known
  unfolding evaluate
  length_evaluate [] known = refl
  length_evaluate (d ∷ ds) known = length_evaluate ds _ ∙ length-set known d _

  -- one more constant, and the constants of one schema and those of the next
  pub evaluate_cons : (d : ℕ) (ds : List ℕ) (known : List Answer) → evaluate t b (d ∷ ds) known ≡ evaluate t b ds (set known d (value t b (answer_at known) d))
  unfolding evaluate
  evaluate_cons d ds known = refl

  pub evaluate_append : (cs ds : List ℕ) (known : List Answer) → evaluate t b (cs ++ ds) known ≡ evaluate t b ds (evaluate t b cs known)
  unfolding evaluate
  evaluate_append [] ds known = refl
  evaluate_append (c ∷ cs) ds known = evaluate_append cs ds _

  -- and other constants
  pub evaluate_other : (ds : List ℕ) (known : List Answer) (m : ℕ) → (Memᴰ m ds → ⊥) → answer_at (evaluate t b ds known) m ≡ answer_at known m
  unfolding evaluate
  evaluate_other [] known m h = refl
  evaluate_other (d ∷ ds) known m h =
      evaluate_other ds _ m (λ i. h (Memᴰ.tail i)) ∙ get_or-set_other known d m _ indeterminate (λ q. h (Memᴰ.head q))

-- ---- typing

module _ (t : Table) (b : List ℕ) (e : Table) (c : List ℕ) where
  pub type_step :
      (d n : ℕ) (ns : List ℕ) (ks : List Kind) → n < d →
      type_nodes_in t b e c (span n (d - n) ++ ns) ks ≡
      if_found (finding_in t b e (kind_at ks) n (shape_in t e c n)) n (λ k. type_nodes_in t b e c (span (n + 1) (d - (n + 1)) ++ ns) (set ks n k))
  unfolding type_nodes_in
  type_step d n ns ks l = rw (span_step d n l)

  pub type_append : (ms ns : List ℕ) (ks : List Kind) → type_nodes_in t b e c (ms ++ ns) ks ≡ if_typed (type_nodes_in t b e c ms ks) (λ js. type_nodes_in t b e c ns js)
  unfolding type_nodes_in
  type_append [] ns ks = refl
  type_append (m ∷ ms) ns ks = by (finding_in t b e (kind_at ks) m (shape_in t e c m)) (λ k. type_append ms ns (set ks m k))
    where
      by : (x : Finding) → ((k : Kind) → type_nodes_in t b e c (ms ++ ns) (set ks m k) ≡ if_typed (type_nodes_in t b e c ms (set ks m k)) (λ js. type_nodes_in t b e c ns js))
          → if_found x m (λ k. type_nodes_in t b e c (ms ++ ns) (set ks m k))
          ≡ if_typed (if_found x m (λ k. type_nodes_in t b e c ms (set ks m k))) (λ js. type_nodes_in t b e c ns js)
      by (of_kind k) more = more k
      by (fault f) more = refl

-- the nodes of some constants, in a row
abbrev pub all_within : Table → List ℕ → List ℕ
all_within t ns = flat_map (within t) ns

pub all_within_cons : (t : Table) (d : ℕ) (ds : List ℕ) → all_within t (d ∷ ds) ≡ within t d ++ all_within t ds
unfolding flat_map
all_within_cons t d ds = refl

pub all_within_append : (t : Table) (cs ds : List ℕ) → all_within t (cs ++ ds) ≡ all_within t cs ++ all_within t ds
unfolding flat_map
all_within_append t [] ds = refl
all_within_append t (c ∷ cs) ds = ap (λ (l : List ℕ). within t c ++ l) (all_within_append t cs ds) ∙ sym (append_assoc (within t c) (all_within t cs) (all_within t ds))

-- constants one after the other are their nodes in a row
pub type_constants_is : (t : Table) (b ds : List ℕ) (ks : List Kind) → type_constants t b ds ks ≡ type_nodes t b (all_within t ds) ks
unfolding type_constants type_nodes_in flat_map
type_constants_is t b [] ks = refl
type_constants_is t b (d ∷ ds) ks = by (type_nodes t b (within t d) ks) (λ js. type_constants_is t b ds js) ∙ sym (type_append t b t b (within t d) (all_within t ds) ks)
  where
    by :
        (x : Typing) → ((js : List Kind) → type_constants t b ds js ≡ type_nodes t b (all_within t ds) js) →
        if_typed x (λ js. type_constants t b ds js) ≡ if_typed x (λ js. type_nodes t b (all_within t ds) js)
    by (typed js) more = more js
    by (ill_typed f n) more = refl
