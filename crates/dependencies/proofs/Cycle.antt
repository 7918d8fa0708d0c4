-- The arcs of a file's graph and the edges between its declarations: the same cycles, and the same orders.
use mathlib.Core.Path.{◌≡◌, refl, sym, ap, ◌∙◌}
use mathlib.Core.Logic.{◌≢◌, ⊎_elim}
use mathlib.Core.Bool.{Bool, true, false, cond, ◌&&◌, false≢true}
use mathlib.Core.List.Memᴰ
use mathlib.Core.List.{List, [], ◌∷◌, map, Memᴰ}
use Prim.Native.Nat.{ℕ, suc, ◌+◌, ◌-◌, ◌≤◌, ◌<◌}
use native.Mathlib.Omega.{arith}
use lib.ListN.{length, get_or, take, get_or-eq_default}
use Rattle.relations.specs.Select.{span}
use Rattle.relations.specs.Reach.{Reaches, direct, onward, Edge, Joins, reaches}
use Rattle.relations.specs.Sorted.{Sorted, done, next, Arranged}
use Rattle.relations.proofs.Select.{and_snd, le_or, mem_upto, upto_mem, keep_mem, mem_keep}
use Rattle.relations.proofs.Reach.{reaches_iff}
use Rattle.graph.specs.Graph.{vertices, Arc, OnCycle}
use Rattle.graph.proofs.Arcs.{arc_target}
use Rattle.cycles.specs.Answer.{Least, Acyclic, Ordered}
use Rattle.cycles.proofs.Caller.{order_sorted, order_complete, order_among}
use Rattle.express.specs.Syntax.Tree.{Table, count, kind, place, nodes, is_declaration, owner}
use Rattle.express.specs.Names.Fault.{Fault, fault, fine, cyclic}
use Rattle.express.specs.Names.Names.{Stage, least}
use Rattle.express.proofs.Names.Meaning.{cyclic_iff, cyclic_fine}
use Rattle.express.proofs.Names.Names.{least_rising}
use Rattle.scopes.specs.Entries.{vertex}
use Rattle.scopes.specs.Range.{declared_nodes, vertex_count, node_of}
use Rattle.scopes.proofs.Ranges.{node_below, node_declares, node_number, number_below, number_node, nodes_rise, range_owner, InRange, owner_range}
use Rattle.dependencies.specs.Target.{Leads, Edges}
use Rattle.dependencies.specs.Graph.{Names, GraphOf}
use Rattle.dependencies.specs.Arrangement.{InTextOrder}

-- ---- relations

reaches_map : {E F : ℕ → ℕ → Type 0} (f : ℕ → ℕ) → ((a b : ℕ) → E a b → F (f a) (f b)) → {a b : ℕ} → Reaches E a b → Reaches F (f a) (f b)
reaches_map f h (direct {a} {b} e) = direct (h a b e)
reaches_map f h (onward {a} {b} e r) = onward (h a b e) (reaches_map f h r)

-- the last step
reaches_last : {E : ℕ → ℕ → Type 0} {a b : ℕ} → Reaches E a b → (w : ℕ) × E w b
reaches_last (direct {a} e) = (a, e)
reaches_last (onward e r) = reaches_last r

-- the first step
reaches_first : {E : ℕ → ℕ → Type 0} {a b : ℕ} → Reaches E a b → (w : ℕ) × E a w
reaches_first (direct {b = b} e) = (b, e)
reaches_first (onward {b = b} e r) = (b, e)

-- from a vertex that a step leads to, over steps that go on from another
reaches_on : {E F : ℕ → ℕ → Type 0} → ((w a b : ℕ) → E w a → E a b → F a b) → {w a b : ℕ} → E w a → Reaches E a b → Reaches F a b
reaches_on h {w} before (direct {a} {b} e) = direct (h w a b before e)
reaches_on h {w} before (onward {a} {b} e r) = onward (h w a b before e) (reaches_on h e r)

-- a sorted list under other names
sorted_map :
    {E F : ℕ → ℕ → Type 0} (f : ℕ → ℕ) {passed ds : List ℕ} → ((d c : ℕ) → Memᴰ d ds → F (f d) c → (b : ℕ) × (c ≡ f b) × E d b) →
    Sorted E passed ds → Sorted F (map f passed) (map f ds)
sorted_map f w done = done
sorted_map f w (next {d = d} h more) =
    next (λ c e. let r = w d c (Memᴰ.head refl) e in Memᴰ.cast r.1 (Memᴰ.map f (h r.0 r.2))) (sorted_map f (λ x c m e. w x c (Memᴰ.tail m) e) more)

-- a stage without a fault
least_fine : (s : Stage) (ns : List ℕ) → ((n : ℕ) → s n ≡ fine) → least s ns ≡ fine
unfolding least
least_fine s [] h = refl
least_fine s (n ∷ ns) h = rw (h n) (least_fine s ns h)

-- a declaration is a node
pub declared_known : (t : Table) (n : ℕ) → is_declaration t n ≡ true → n < count t
declared_known t n h =
    ⊎_elim (λ (l : count t ≤ n). let k : kind t n ≡ 0 = get_or-eq_default t.kinds 0 l in absurd (false≢true (rw k at h))) (λ l. l) (le_or (count t) n)

-- ---- arcs and edges

module _ {t : Table} {target : ℕ → ℕ} {p : ℕ → Bool} {es : List Edge} {first to : List ℕ} (G : GraphOf t target first to) (K : Edges t target p es) where
  pub many : vertices first ≡ vertex_count t
  many = omega (arith, G.long)

  pub arc_leads : (v w : ℕ) → Arc first to v w → Leads t target (node_of t v) (node_of t w)
  arc_leads v w A =
      let N = (G.arc_iff v w).0 A in
      let l = N.source in
      let h : w < vertex_count t = omega (arith, arc_target G.graph A, many) in
      record {
        node = N.node;
        known = omega (arith, N.upto, node_below t v l);
        owned = range_owner t v N.node l N.from N.upto;
        source = node_declares t v l;
        target_known = node_below t w h;
        declared = node_declares t w h;
        target_is = N.target_is ∙ ap (λ (k : ℕ). k + 1) (sym (node_number t w h));
      }

  pub leads_arc : (x y : ℕ) → Leads t target x y → Arc first to (vertex t x) (vertex t y)
  leads_arc x y L = rw L.owned at ((G.arc_iff (vertex t (owner t L.node)) (vertex t y)).1 names)
    where
      range : InRange t L.node (vertex t (owner t L.node))
      range = owner_range t L.node L.known (rw L.owned (declared_known t x L.source))

      names : Names t target (vertex t (owner t L.node)) (vertex t y)
      names = record { node = L.node; source = range.number; from = range.from; upto = range.upto; target_is = L.target_is }

  edge_arc : (x y : ℕ) → Joins es x y → Arc first to (vertex t x) (vertex t y)
  edge_arc x y e = leads_arc x y (K.arc x y e)

  -- a declaration on a cycle is a vertex on one
  edges_cycle : (x : ℕ) → Reaches (Joins es) x x → OnCycle first to (vertex t x)
  edges_cycle x r = reaches_map (vertex t) edge_arc r

  -- and back
  arcs_cycle : (v : ℕ) → OnCycle first to v → Reaches (Joins es) (node_of t v) (node_of t v)
  arcs_cycle v r =
      let c = reaches_map (node_of t) arc_leads r in
      reaches_on K.edge (reaches_last c).1 c

  cycle_declared : (x : ℕ) → Reaches (Joins es) x x → is_declaration t x ≡ true
  cycle_declared x r = let e = reaches_first r in (K.arc x e.0 e.1).source

  -- ---- the reply

  abbrev stage : Stage
  stage = cyclic t p es

  pub acyclic_fine : Acyclic first to → least stage (nodes t) ≡ fine
  unfolding cyclic
  acyclic_fine a = least_fine stage (nodes t) (λ n. by n (reaches es n n) refl)
    where
      none : (b : Bool) (f : Fault) → cond (b && false) f fine ≡ fine
      none true f = refl
      none false f = refl

      by : (n : ℕ) (b : Bool) → reaches es n n ≡ b → cond (p n && b) (fault 13 (place t n)) fine ≡ fine
      by n true e = absurd (a (vertex t n) (edges_cycle n ((reaches_iff es n n).0 e)))
      by n false e = none (p n) (fault 13 (place t n))

  -- a node with a fault lies on a cycle
  at_fault : (n : ℕ) → (stage n).number ≢ 0 → (stage n ≡ fault 13 (place t n)) × Reaches (Joins es) n n
  unfolding cyclic
  at_fault n h = by (p n && reaches es n n) refl h
    where
      by : (b : Bool) → p n && reaches es n n ≡ b → (cond b (fault 13 (place t n)) fine).number ≢ 0 → (cond b (fault 13 (place t n)) fine ≡ fault 13 (place t n)) × Reaches (Joins es) n n
      by true e z = (refl, (reaches_iff es n n).0 (and_snd (p n) (reaches es n n) e))
      by false e z = absurd (z refl)

  module _ (rise : InTextOrder t) {v : ℕ} (L : Least first to v) where
    low : v < vertex_count t
    low = omega (arith, L.low, many)

    abbrev x : ℕ
    x = node_of t v

    first_fault : stage x ≡ fault 13 (place t x)
    first_fault =
        let r = arcs_cycle v L.on in
        (cyclic_iff t p es x).1 (K.starts x (reaches_first r).0 (reaches_first r).1, r)

    none_before : (j : ℕ) → j < x → (stage j).number ≡ 0
    none_before j h =
        (cyclic_fine t p es j).1
        (λ k r.
        let d = cycle_declared j r in
        let e = number_node t j (declared_known t j d) d in
        let b = number_below t j (declared_known t j d) d in
        ⊎_elim
        (λ (g : v ≤ vertex t j).
        ⊎_elim (λ (f : vertex t j ≤ v). let q : vertex t j ≡ v = omega arith in let z = ap (node_of t) q in omega (arith, z, e, h))
        (λ f. let z = nodes_rise t v (vertex t j) f b in omega (arith, z, e, h)) (le_or (vertex t j) v))
        (λ g. L.before (vertex t j) g (edges_cycle j r)) (le_or v (vertex t j)))

    none_earlier : (j : ℕ) → x < j → (stage j).number ≢ 0 → (stage x).place ≤ (stage j).place
    none_earlier j h z =
        let r = at_fault j z in
        let a = ap (λ (f : Fault). f.place) r.0 in
        let b = ap (λ (f : Fault). f.place) first_fault in
        let c = rise x j (node_declares t v low) (cycle_declared j r.1) h in
        omega arith

    pub cyclic_least : least stage (nodes t) ≡ fault 13 (place t (node_of t v))
    cyclic_least =
        let q : suc (x + (count t - (x + 1))) ≡ count t = omega (arith, node_below t v low) in
        let n : (stage x).number ≢ 0 = λ (z : (stage x).number ≡ 0). let e = ap (λ (f : Fault). f.number) first_fault in omega arith in
        rw q at (least_rising stage x (count t - (x + 1)) none_before n none_earlier 0 x (omega arith)) ∙ first_fault

  -- ---- the order

  module _ {column : List ℕ} (nodes : List ℕ) (room : vertices first ≤ length column) (o : Ordered first to column)
      (named : (v : ℕ) → v < vertex_count t → get_or nodes v 0 ≡ node_of t v) where
    abbrev node : ℕ → ℕ
    node v = get_or nodes v 0

    inside : (v : ℕ) → Memᴰ v (take (vertices first) column) → v < vertex_count t
    inside v m = omega (arith, order_among column G.graph room o v m, many)

    pub order_arranged : Arranged (Joins es) (declared_nodes t) (map node (take (vertices first) column))
    order_arranged = record {
      sorted = sorted_map node (λ d c m e.
          let l = inside d m in
          let q = named d l in
          let f : Joins es (node_of t d) c = rw q at e in
          let L = K.arc (node_of t d) c f in
          let A = rw (node_number t d l) at (edge_arc (node_of t d) c f) in
          let b = number_below t c L.target_known L.declared in
          (vertex t c, sym (number_node t c L.target_known L.declared) ∙ sym (named (vertex t c) b), A))
          (order_sorted column G.graph room o);
      complete = λ x m.
          let r = keep_mem (is_declaration t) (span 0 (count t)) m in
          let l = upto_mem (count t) x r.0 in
          let b = number_below t x l r.1 in
          Memᴰ.cast (sym (number_node t x l r.1) ∙ sym (named (vertex t x) b))
          (Memᴰ.map node (order_complete column G.graph room o (vertex t x) (omega (arith, b, many))));
      among = λ x m.
          let a = Memᴰ.of_map node (take (vertices first) column) m in
          let l = inside a.0 a.1 in
          Memᴰ.cast (sym a.2 ∙ named a.0 l)
          (mem_keep (is_declaration t) (span 0 (count t)) (mem_upto (count t) (node_of t a.0) (node_below t a.0 l)) (node_declares t a.0 l));
    }
