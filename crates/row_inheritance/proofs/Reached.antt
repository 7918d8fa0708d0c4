-- The attributes on a chain whose owners' bits are set mean what the owner of the row inherits: they are the same nodes, each once.
use mathlib.Core.Path.{◌≡◌, refl, sym, ap, ◌∙◌}
use mathlib.Core.Logic.{◌↔◌, ◌⊎◌, inl, inr, by_cases}
use mathlib.Core.Bool.{Bool, true, false, cond, false≢true}
use mathlib.Core.List.Memᴰ
use mathlib.Core.List.{List, ◌++◌, Memᴰ}
use Prim.Native.Nat.{ℕ, zero, suc, ◌-◌, ◌≤◌, ◌<◌}
use native.Mathlib.Omega.{arith}
use native.Mathlib.Decide.{ℕ_discrete}
use borrow.Author.Tests.{eq-eqb, eqb-true}
use lib.Dec.{eqb}
use lib.ListN.{get_or}
use Rattle.relations.specs.Select.{keep}
use Rattle.relations.specs.Reach.{Reaches, direct, Joins}
use Rattle.relations.proofs.Select.{keep_mem, mem_keep, and_fst, and_both}
use Rattle.express.specs.Syntax.NodeKind.{entity}
use Rattle.express.specs.Syntax.Tree.{Table, kind, symbol, nodes, is_attribute, owner}
use Rattle.express.specs.Syntax.Grammar.{file}
use Rattle.express.specs.Syntax.Syntax.{Read}
use Rattle.express.specs.Names.Scope.{inherited, meaning, super_edges}
use Rattle.express.specs.Names.Fault.{type_name_fault}
use Rattle.express.specs.Names.Names.{Passes}
use Rattle.express.proofs.Names.Meaning.{inherited_iff}
use Rattle.express.proofs.Names.TypeCycle.{from_entity}
use Rattle.graph.specs.Graph.{vertices, Arc}
use Rattle.graph.proofs.Arcs.{arc_source, arc_target}
use Rattle.scopes.specs.Entries.{vertex}
use Rattle.scopes.specs.Range.{vertex_count, node_of}
use Rattle.scopes.proofs.Ranges.{node_below, node_declares, node_number, range_owner, owner_range}
use Rattle.symbol_tables.proofs.Orders.{Distinct, empty, distinct_keep, distinct_append, meaning_same}
use Rattle.attributes.specs.Attributes.{attributes_of}
use Rattle.bit_rows.specs.Bits.{bit}
use Rattle.ancestors.specs.Rows.{place}
use Rattle.inheritance.specs.Steps.{TypeGraph}
use Rattle.inheritance.proofs.Asking.{declaration_other}
use Rattle.inheritance.proofs.Reaching.{reached_declares, types_reached, reached_iff}
use Rattle.inheritance.proofs.Queues.{Within, attributes_iff, attributes_distinct, one_owner, inherited_distinct}
use Rattle.row_inheritance.specs.Ranks.{entity_at, rank_in}
use Rattle.row_inheritance.specs.Steps.{EntityGraph, EntityRows, wanted, wanted_attributes, rank_of}

-- ---- the attributes of those that are wanted, among the last declarations
module _ (t : Table) (wants : ℕ → Bool) where
  pub wanted_more : (k : ℕ) → wants (vertex_count t - suc k) ≡ true → wanted_attributes t wants (suc k) ≡ attributes_of t (vertex_count t - suc k) ++ wanted_attributes t wants k
  unfolding wanted_attributes
  wanted_more k e = rw e

  pub wanted_same : (k : ℕ) → wants (vertex_count t - suc k) ≡ false → wanted_attributes t wants (suc k) ≡ wanted_attributes t wants k
  unfolding wanted_attributes
  wanted_same k e = rw e

  record Source (k m : ℕ) : Type 0 where
    number : ℕ
    late : vertex_count t - k ≤ number
    low : number < vertex_count t
    is_wanted : wants number ≡ true
    within : Within t number m

  wanted_mem : (k m : ℕ) → k ≤ vertex_count t → Memᴰ m (wanted_attributes t wants k) → Source k m
  unfolding wanted_attributes
  wanted_mem zero m l x = absurd (Memᴰ.not-nil x)
  wanted_mem (suc k) m l x = by (wanted_mem k m (omega arith)) (wants (vertex_count t - suc k)) refl x
    where
      later : Source k m → Source (suc k) m
      later s = record { number = s.number; late = omega (arith, s.late); low = s.low; is_wanted = s.is_wanted; within = s.within }

      by : (Memᴰ m (wanted_attributes t wants k) → Source k m) → (b : Bool) → wants (vertex_count t - suc k) ≡ b
          → Memᴰ m (cond b (attributes_of t (vertex_count t - suc k) ++ wanted_attributes t wants k) (wanted_attributes t wants k)) → Source (suc k) m
      by rest false e y = later (rest y)
      by rest true e y = which (Memᴰ.append_cases (attributes_of t (vertex_count t - suc k)) y)
        where
          which : (Memᴰ m (attributes_of t (vertex_count t - suc k)) ⊎ Memᴰ m (wanted_attributes t wants k)) → Source (suc k) m
          which (inl z) =
              record {
                number = vertex_count t - suc k;
                late = omega arith;
                low = omega (arith, l);
                is_wanted = e;
                within = (attributes_iff t (vertex_count t - suc k) m).0 z;
              }
          which (inr z) = later (rest z)

  mem_wanted : (k v m : ℕ) → k ≤ vertex_count t → vertex_count t - k ≤ v → v < vertex_count t → wants v ≡ true → Within t v m → Memᴰ m (wanted_attributes t wants k)
  mem_wanted zero v m l a b e w = absurd (omega arith)
  mem_wanted (suc k) v m l a b e w =
      by_cases (ℕ_discrete v (vertex_count t - suc k))
      (λ q.
      let h = wanted_more k (rw q at e) in
      rw h (Memᴰ.append_left (wanted_attributes t wants k) ((attributes_iff t (vertex_count t - suc k) m).1 (rw q at w))))
      (λ q. widen (wants (vertex_count t - suc k)) refl (mem_wanted k v m (omega arith) (omega (arith, q, a)) b e w))
    where
      widen : (b : Bool) → wants (vertex_count t - suc k) ≡ b → Memᴰ m (wanted_attributes t wants k) → Memᴰ m (wanted_attributes t wants (suc k))
      widen true h x = let z = wanted_more k h in rw z (Memᴰ.append_right (attributes_of t (vertex_count t - suc k)) x)
      widen false h x = let z = wanted_same k h in rw z x

  wanted_distinct : (k : ℕ) → k ≤ vertex_count t → Distinct (wanted_attributes t wants k)
  unfolding wanted_attributes
  wanted_distinct zero l = empty
  wanted_distinct (suc k) l = by (wanted_distinct k (omega arith)) (wants (vertex_count t - suc k)) refl
    where
      v : ℕ
      v = vertex_count t - suc k

      by : Distinct (wanted_attributes t wants k) → (b : Bool) → wants (vertex_count t - suc k) ≡ b
          → Distinct (cond b (attributes_of t (vertex_count t - suc k) ++ wanted_attributes t wants k) (wanted_attributes t wants k))
      by rest false e = rest
      by rest true e =
          distinct_append (attributes_distinct t (vertex_count t - suc k)) rest
          (λ m x y.
          let s = wanted_mem k m (omega arith) y in
          let q = one_owner t s.number (vertex_count t - suc k) m s.low (omega (arith, l)) s.within ((attributes_iff t (vertex_count t - suc k) m).0 x) in
          omega (arith, q, s.late, l))

-- ---- entities by their numbers and by their kinds
pub record Numbered (t : Table) (kinds entry_nodes : List ℕ) : Type 0 where
  pub kinds_are : t.kinds ≡ kinds
  pub node_is : (v : ℕ) → v < vertex_count t → get_or entry_nodes v 0 ≡ node_of t v

module _ {t : Table} {kinds entry_nodes : List ℕ} (N : Numbered t kinds entry_nodes) where
  kind_at : (v : ℕ) → v < vertex_count t → get_or kinds (get_or entry_nodes v 0) 0 ≡ kind t (node_of t v)
  kind_at v l = ap (λ (n : ℕ). get_or kinds n 0) (N.node_is v l) ∙ ap (λ (ks : List ℕ). get_or ks (node_of t v) 0) (sym N.kinds_are)

  pub by_kind : (v : ℕ) → v < vertex_count t → kind t (node_of t v) ≡ entity → entity_at kinds entry_nodes v ≡ true
  by_kind v l e = eq-eqb (get_or kinds (get_or entry_nodes v 0) 0) entity (kind_at v l ∙ e)

  pub kind_by : (v : ℕ) → v < vertex_count t → entity_at kinds entry_nodes v ≡ true → kind t (node_of t v) ≡ entity
  kind_by v l e = sym (kind_at v l) ∙ eqb-true (get_or kinds (get_or entry_nodes v 0) 0) entity e

  module _ {first to : List ℕ} (G : TypeGraph t first to) (d : Read file t) (right : Passes (nodes t) (type_name_fault t)) where
    -- what an entity reaches is an entity
    reached_entity : (v w : ℕ) → v < vertex_count t → w < vertex_count t → entity_at kinds entry_nodes v ≡ true → Reaches (Arc first to) v w → entity_at kinds entry_nodes w ≡ true
    reached_entity v w a b e r = by_kind w b (from_entity t right d (types_reached G r) (kind_by v a e)).1

    vertices_are : vertices first ≡ vertex_count t
    vertices_are = omega (arith, G.long)

    pub entity_graph : EntityGraph kinds entry_nodes first to
    entity_graph =
        record {
          graph = G.graph;
          onward =
              λ v w A e.
              reached_entity v w (omega (arith, arc_source A, vertices_are)) (omega (arith, arc_target G.graph A, vertices_are)) e (direct A);
        }

    module _ {width : ℕ} {rows : List ℕ} (E : EntityRows kinds entry_nodes first to width rows) (v : ℕ) (l : v < vertex_count t) (k : kind t (node_of t v) ≡ entity) where
      unfoldable chosen : ℕ → List ℕ
      chosen s =
          keep (λ m. bit rows (place width (rank_in kinds entry_nodes v) (rank_of t kinds entry_nodes m)))
          (keep (λ m. eqb (symbol t m) s) (wanted_attributes t (wanted kinds entry_nodes rows) (vertex_count t)))

      rank_is : (w m : ℕ) → owner t m ≡ node_of t w → w < vertex_count t → rank_of t kinds entry_nodes m ≡ rank_in kinds entry_nodes w
      unfolding rank_of
      rank_is w m o b = ap (rank_in kinds entry_nodes) (ap (vertex t) o ∙ node_number t w b)

      chosen_iff : (s m : ℕ) → Memᴰ m (chosen s) ↔ Memᴰ m (inherited t (node_of t v) s)
      unfolding chosen
      chosen_iff s m = (
        λ x.
            let a = keep_mem (λ m. bit rows (place width (rank_in kinds entry_nodes v) (rank_of t kinds entry_nodes m))) _ x in
            let b = keep_mem (λ m. eqb (symbol t m) s) _ a.0 in
            let q = wanted_mem t (wanted kinds entry_nodes rows) (vertex_count t) m (omega arith) b.0 in
            let w = q.number in
            let e = and_fst (entity_at kinds entry_nodes w) (bit rows (rank_in kinds entry_nodes w)) q.is_wanted in
            let o : owner t m ≡ node_of t w = range_owner t w m q.low q.within.from (omega (arith, q.within.upto)) in
            let z : rank_of t kinds entry_nodes m ≡ rank_in kinds entry_nodes w = rank_is w m o q.low in
            let r : Reaches (Arc first to) v w =
            (E.reached v w (omega (arith, vertices_are)) (omega (arith, q.low, vertices_are)) (by_kind v l k) e).0 (rw z at a.1) in
            let n = node_number t w q.low in
            let r' : Reaches (Arc first to) v (vertex t (node_of t w)) = rw n r in
            let u : Reaches (Joins (super_edges t)) (node_of t v) (node_of t w) =
            (reached_iff G d right v l k (node_of t w) (node_below t w q.low) (node_declares t w q.low)).0 r' in
            (inherited_iff t (node_of t v) s m).1
            (record {
              within = omega (arith, q.within.upto, node_below t w q.low);
              spelling = eqb-true (symbol t m) s b.1;
              suits = (q.within.attribute, rw o u);
            }),
        λ x.
            let c = (inherited_iff t (node_of t v) s m).0 x in
            let y = reached_declares t c.suits.1 in
            let R = owner_range t m c.within y.0 in
            let w = vertex t (owner t m) in
            let r = (reached_iff G d right v l k (owner t m) y.0 y.1).1 c.suits.1 in
            let e = reached_entity v w l R.number (by_kind v l k) r in
            let f = E.by_any v w (omega (arith, vertices_are)) (omega (arith, R.number, vertices_are)) (by_kind v l k) r in
            let away : m ≡ node_of t w → ⊥ = λ (z : m ≡ node_of t w).
            false≢true (sym (declaration_other t (owner t m) y.1) ∙ ap (is_attribute t) (sym (z ∙ R.node_is)) ∙ c.suits.0) in
            let W : Within t w m = record { from = R.from; upto = omega (arith, R.upto, away); attribute = c.suits.0 } in
            let i = mem_wanted t (wanted kinds entry_nodes rows) (vertex_count t) w m (omega arith) (omega arith) R.number (and_both _ _ e f) W in
            let z : rank_of t kinds entry_nodes m ≡ rank_in kinds entry_nodes w = rank_is w m (sym R.node_is) R.number in
            let h = (E.reached v w (omega (arith, vertices_are)) (omega (arith, R.number, vertices_are)) (by_kind v l k) e).1 r in
            mem_keep (λ m. bit rows (place width (rank_in kinds entry_nodes v) (rank_of t kinds entry_nodes m))) _
            (mem_keep (λ m. eqb (symbol t m) s) _ i (eq-eqb (symbol t m) s c.spelling)) (rw z h),
      )

      -- THE MEANING of a symbol among them
      pub chosen_inherited : (s : ℕ)
          → meaning
          (keep (λ m. bit rows (place width (rank_in kinds entry_nodes v) (rank_of t kinds entry_nodes m)))
          (keep (λ m. eqb (symbol t m) s) (wanted_attributes t (wanted kinds entry_nodes rows) (vertex_count t))))
          ≡ meaning (inherited t (node_of t v) s)
      unfolding chosen
      chosen_inherited s =
          meaning_same (chosen s) (inherited t (node_of t v) s)
          (distinct_keep _ (distinct_keep _ (wanted_distinct t (wanted kinds entry_nodes rows) (vertex_count t) (omega arith))))
          (inherited_distinct t (node_of t v) s) (chosen_iff s)
