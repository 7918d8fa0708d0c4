-- The attributes of the declarations in a queue that lists what an entity reaches, each once, mean what the entity inherits: they are the same nodes, and ranges do not overlap.
use mathlib.Core.Path.{◌≡◌, sym, ap, ◌∙◌}
use mathlib.Core.Logic.{◌↔◌, by_cases}
use mathlib.Core.Bool.{true, false≢true}
use mathlib.Core.List.Memᴰ
use mathlib.Core.List.{List, Memᴰ}
use mathlib.Core.Logic.{◌⊎◌, inl, inr}
use Prim.Native.Nat.{ℕ, zero, suc, ◌-◌, ◌≤◌, ◌<◌}
use native.Mathlib.Omega.{arith}
use native.Mathlib.Decide.{ℕ_discrete}
use borrow.Author.Tests.{eq-eqb, eqb-true}
use lib.Dec.{eqb}
use lib.ListN.{get_or}
use Rattle.relations.specs.Select.{span, keep}
use Rattle.relations.specs.Reach.{Reaches, Joins}
use Rattle.relations.proofs.Select.{keep_mem, mem_keep, span_mem, mem_span, ascending_span, ascending_keep}
use Rattle.express.specs.Syntax.NodeKind.{entity}
use Rattle.express.specs.Syntax.Tree.{Table, count, kind, symbol, nodes, is_attribute, owner}
use Rattle.express.specs.Syntax.Grammar.{file}
use Rattle.express.specs.Syntax.Syntax.{Read}
use Rattle.express.specs.Names.Scope.{inherited, meaning, super_edges}
use Rattle.express.specs.Names.Fault.{type_name_fault}
use Rattle.express.specs.Names.Names.{Passes}
use Rattle.express.proofs.Names.Meaning.{inherited_iff}
use Rattle.graph.specs.Graph.{Arc}
use Rattle.graph.specs.Mark.{Lists}
use Rattle.scopes.specs.Entries.{vertex}
use Rattle.scopes.specs.Range.{vertex_count, node_of, range_start}
use Rattle.scopes.proofs.Ranges.{node_below, node_declares, node_number, range_owner, owner_range}
use Rattle.symbol_tables.proofs.Orders.{Distinct, empty, ascending_distinct, distinct_keep, distinct_append, meaning_same}
use Rattle.attributes.specs.Attributes.{attributes_of, queued_attributes}
use Rattle.inheritance.specs.Steps.{TypeGraph}
use Rattle.inheritance.proofs.Asking.{declaration_other}
use Rattle.inheritance.proofs.Reaching.{reached_declares, vertex_reached, reached_iff}

-- an attribute of a declaration, by its number
pub record Within (t : Table) (v m : ℕ) : Type 0 where
  pub from : range_start t v ≤ m
  pub upto : m < node_of t v
  pub attribute : is_attribute t m ≡ true

module _ (t : Table) where
  pub attributes_iff : (v m : ℕ) → Memᴰ m (attributes_of t v) ↔ Within t v m
  unfolding attributes_of
  attributes_iff v m =
      let lo = range_start t v in
      let d = node_of t v - range_start t v in (
        λ x. let y = keep_mem (is_attribute t) (span lo d) x in let z = span_mem lo d m y.0 in record { from = z.0; upto = omega (arith, z.0, z.1); attribute = y.1 },
        λ w. mem_keep (is_attribute t) (span lo d) (mem_span lo d m w.from (omega (arith, w.from, w.upto))) w.attribute,
      )

  pub attributes_distinct : (v : ℕ) → Distinct (attributes_of t v)
  unfolding attributes_of
  attributes_distinct v = ascending_distinct (ascending_keep (is_attribute t) (ascending_span (range_start t v) (node_of t v - range_start t v)))

  -- two declarations have no node in common
  pub one_owner : (v w m : ℕ) → v < vertex_count t → w < vertex_count t → Within t v m → Within t w m → v ≡ w
  one_owner v w m a b x y =
      sym (node_number t v a) ∙ ap (vertex t) (sym (range_owner t v m a x.from (omega (arith, x.upto))) ∙ range_owner t w m b y.from (omega (arith, y.upto)))
      ∙ node_number t w b

  module _ (queue : List ℕ) where
    queued_mem : (k m : ℕ) → Memᴰ m (queued_attributes t queue k) → (j : ℕ) × (j < k) × Within t (get_or queue j 0) m
    unfolding queued_attributes
    queued_mem zero m x = absurd (Memᴰ.not-nil x)
    queued_mem (suc k) m x = by (Memᴰ.append_cases (attributes_of t (get_or queue k 0)) x) (queued_mem k m)
      where
        by : (Memᴰ m (attributes_of t (get_or queue k 0)) ⊎ Memᴰ m (queued_attributes t queue k))
            → (Memᴰ m (queued_attributes t queue k) → (j : ℕ) × (j < k) × Within t (get_or queue j 0) m) → (j : ℕ) × (j < suc k) × Within t (get_or queue j 0) m
        by (inl y) rest = (k, omega arith, (attributes_iff (get_or queue k 0) m).0 y)
        by (inr y) rest = let r = rest y in (r.0, omega (arith, r.1), r.2)

    mem_queued : (k j m : ℕ) → j < k → Within t (get_or queue j 0) m → Memᴰ m (queued_attributes t queue k)
    unfolding queued_attributes
    mem_queued zero j m l w = absurd (omega arith)
    mem_queued (suc k) j m l w = by_cases (ℕ_discrete j k) (λ e. Memᴰ.append_left (queued_attributes t queue k) ((attributes_iff (get_or queue k 0) m).1 (rw e at w)))
        (λ e. Memᴰ.append_right (attributes_of t (get_or queue k 0)) (mem_queued k j m (omega (arith, e)) w))

    queued_distinct : (k : ℕ) → ((j : ℕ) → j < k → get_or queue j 0 < vertex_count t) → ((i j : ℕ) → i < j → j < k → get_or queue i 0 ≡ get_or queue j 0 → ⊥)
        → Distinct (queued_attributes t queue k)
    unfolding queued_attributes
    queued_distinct zero known once = empty
    queued_distinct (suc k) known once =
        distinct_append (attributes_distinct (get_or queue k 0)) (queued_distinct k (λ j l. known j (omega arith)) (λ i j a b. once i j a (omega arith)))
        (λ m x y.
        let r = queued_mem k m y in
        once r.0 k r.1 (omega arith)
        (one_owner (get_or queue r.0 0) (get_or queue k 0) m (known r.0 (omega (arith, r.1))) (known k (omega arith)) r.2 ((attributes_iff (get_or queue k 0) m).0 x)))

pub inherited_distinct : (t : Table) (d s : ℕ) → Distinct (inherited t d s)
unfolding inherited
inherited_distinct t d s = ascending_distinct (ascending_keep _ (ascending_span 0 (count t)))

module _ {t : Table} {first to : List ℕ} (G : TypeGraph t first to) (d : Read file t) (right : Passes (nodes t) (type_name_fault t)) (v : ℕ) (l : v < vertex_count t)
    (k : kind t (node_of t v) ≡ entity) {queue : List ℕ} {n : ℕ} (L : Lists first to v queue n) where
  pub listed_known : (j : ℕ) → j < n → get_or queue j 0 < vertex_count t
  listed_known j h = vertex_reached G (L.sound j h)

  listed_iff : (s m : ℕ) → Memᴰ m (keep (λ x. eqb (symbol t x) s) (queued_attributes t queue n)) ↔ Memᴰ m (inherited t (node_of t v) s)
  listed_iff s m = (
    λ x.
        let y = keep_mem (λ x. eqb (symbol t x) s) (queued_attributes t queue n) x in
        let q = queued_mem t queue n m y.0 in
        let w = get_or queue q.0 0 in
        let lw = listed_known q.0 q.1 in
        let o : owner t m ≡ node_of t w = range_owner t w m lw q.2.from (omega (arith, q.2.upto)) in
        let e = node_number t w lw in
        let a : Reaches (Arc first to) v (vertex t (node_of t w)) = rw e (L.sound q.0 q.1) in
        let r : Reaches (Joins (super_edges t)) (node_of t v) (node_of t w) = (reached_iff G d right v l k (node_of t w) (node_below t w lw) (node_declares t w lw)).0 a in
        (inherited_iff t (node_of t v) s m).1
        (record { within = omega (arith, q.2.upto, node_below t w lw); spelling = eqb-true (symbol t m) s y.1; suits = (q.2.attribute, rw o r) }),
    λ x.
        let c = (inherited_iff t (node_of t v) s m).0 x in
        let r = c.suits.1 in
        let y = reached_declares t r in
        let R = owner_range t m c.within y.0 in
        let q = L.complete (vertex t (owner t m)) ((reached_iff G d right v l k (owner t m) y.0 y.1).1 r) in
        let w = get_or queue q.0 0 in
        let away : m ≡ node_of t (vertex t (owner t m)) → ⊥ = λ (e : m ≡ node_of t (vertex t (owner t m))).
        false≢true (sym (declaration_other t (owner t m) y.1) ∙ ap (is_attribute t) (sym (e ∙ R.node_is)) ∙ c.suits.0) in
        let W : Within t (vertex t (owner t m)) m = record { from = R.from; upto = omega (arith, R.upto, away); attribute = c.suits.0 } in
        mem_keep (λ x. eqb (symbol t x) s) (queued_attributes t queue n) (mem_queued t queue n q.0 m q.1 (rw q.2 W)) (eq-eqb (symbol t m) s c.spelling),
  )

  -- THE MEANING of a symbol among them
  pub listed_inherited : (s : ℕ) → meaning (keep (λ x. eqb (symbol t x) s) (queued_attributes t queue n)) ≡ meaning (inherited t (node_of t v) s)
  listed_inherited s =
      meaning_same (keep (λ x. eqb (symbol t x) s) (queued_attributes t queue n)) (inherited t (node_of t v) s)
      (distinct_keep (λ x. eqb (symbol t x) s) (queued_distinct t queue n listed_known L.once)) (inherited_distinct t (node_of t v) s) (listed_iff s)
