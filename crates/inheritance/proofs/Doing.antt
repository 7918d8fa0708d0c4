-- Vertex by vertex, from the last to the first: a law for each step.
use mathlib.Core.Path.{◌≡◌, refl, sym, ap, ap₂, ◌∙◌}
use mathlib.Core.Logic.{◌⊎◌, inl, inr, by_cases}
use mathlib.Core.Bool.{Bool, true, false, cond}
use mathlib.Core.List.{List, [], append-nil}
use Prim.Native.Nat.{ℕ, zero, suc, ◌+◌, ◌-◌, ◌≤◌, ◌<◌, min}
use native.Mathlib.Omega.{arith}
use native.Mathlib.Decide.{ℕ_discrete}
use borrow.Author.Tests.{eqb-true}
use lib.Dec.{eqb, ltb}
use lib.ListN.{length, get_or, take, length-take, get_or-eq_default}
use Rattle.relations.proofs.Select.{le_or, and_fst}
use Rattle.express.specs.Syntax.NodeKind.{entity}
use Rattle.express.specs.Syntax.Tree.{Table, count, kind, symbol, owner}
use Rattle.express.specs.Names.Scope.{inherited, meaning}
use Rattle.express.proofs.Names.Owned.{nothing_inherited}
use Rattle.graph.specs.Graph.{vertices}
use Rattle.graph.specs.Mark.{Searchable, Stamps, Searches}
use Rattle.scopes.specs.Range.{vertex_count, node_of, range_start, DeclarationAt}
use Rattle.scopes.specs.declared.Extent.{Extent}
use Rattle.scopes.proofs.Ranges.{node_declares, range_next, range_rises, range_owner, range_end, column_node}
use Rattle.symbol_tables.specs.Entry.{code, stamp_of, stamp_count, says}
use Rattle.symbol_tables.specs.Table.{Tabulated, OnlyStamped}
use Rattle.symbol_tables.proofs.Tables.{untouched}
use Rattle.symbol_tables.proofs.Symbols.{symbol_within}
use Rattle.inheritance.specs.Inheritance.{asks, inherited_code, ColumnsOf, Inheriting, InheritanceRoom, Inherits}
use Rattle.attributes.specs.Attributes.{StoresOffsets, Puts, queued_attributes, Queued, CollectsQueued}
use Rattle.inheritance.specs.Steps.{TypeGraph, asks_by, inherits_by, StoresEach, Stores, NoneInherits, StoredFrom, Done, InheritsIn}
use Rattle.inheritance.proofs.Asking.{declaration_silent}
use Rattle.inheritance.proofs.TypeGraphs.{type_graph}
use Rattle.inheritance.proofs.Reaching.{inherits_nothing}
use Rattle.inheritance.proofs.Queues.{listed_known, listed_inherited}
use Rattle.attributes.proofs.Collecting.{offsets_kept}

-- where a node stands: before a range, in it, at its declaration, or behind it
data Standing (t : Table) (v n : ℕ) : Type 0 where
  inside : range_start t v ≤ n → n < node_of t v → Standing t v n
  itself : n ≡ node_of t v → Standing t v n
  behind : range_start t (v + 1) ≤ n → Standing t v n

standing : (t : Table) (v n : ℕ) → range_start t v ≤ n → Standing t v n
standing t v n f = by (le_or (node_of t v) n) (le_or n (node_of t v))
  where
    by : (node_of t v ≤ n) ⊎ (n < node_of t v) → (n ≤ node_of t v) ⊎ (node_of t v < n) → Standing t v n
    by (inr h) s = inside f h
    by (inl h) (inl g) = itself (omega arith)
    by (inl h) (inr g) = behind (omega (arith, range_next t v))

-- what a node that asks has where its owner inherits nothing
nothing_code : (t : Table) (n : ℕ) → inherited t (owner t n) (symbol t n) ≡ [] → inherited_code t n ≡ 0
unfolding inherited_code
nothing_code t n e = rw e

owned_code : (t : Table) (n o : ℕ) → owner t n ≡ o → inherited_code t n ≡ code (meaning (inherited t o (symbol t n)))
unfolding inherited_code
owned_code t n o e = rw e

-- nothing to store
kept : (t : Table) (was : List ℕ) (n : ℕ) → (asks t n ≡ true → (get_or was n 0 ≡ 0) × (inherited_code t n ≡ 0)) → get_or was n 0 ≡ cond (asks t n) (inherited_code t n) (get_or was n 0)
kept t was n h = by (asks t n) refl
  where
    by : (b : Bool) → asks t n ≡ b → get_or was n 0 ≡ cond b (inherited_code t n) (get_or was n 0)
    by true e = let p = h e in p.0 ∙ sym p.1
    by false e = refl

silent : (t : Table) (was : List ℕ) (n x : ℕ) → asks t n ≡ false → x ≡ get_or was n 0 → x ≡ cond (asks t n) (inherited_code t n) (get_or was n 0)
silent t was n x e q = q ∙ ap (λ (b : Bool). cond b (inherited_code t n) (get_or was n 0)) (sym e)

module _ {kinds tokens roles symbols entry_keys entry_nodes first to : List ℕ} {t : Table} (C : ColumnsOf t kinds tokens roles symbols) (I : Inheriting t entry_keys entry_nodes first to) where
  asked : (n : ℕ) → asks t n ≡ asks_by (get_or kinds n 0) (get_or roles n 0)
  asked n = ap₂ (λ (ks rs : List ℕ). asks_by (get_or ks n 0) (get_or rs n 0)) C.kinds_are C.roles_are

  pub spelling : (n : ℕ) → get_or symbols (get_or tokens n 0) 0 ≡ symbol t n
  spelling n = sym (ap₂ (λ (ss ts : List ℕ). get_or ss (get_or ts n 0) 0) C.symbols_are C.tokens_are)

  pub graph_is : TypeGraph t first to
  graph_is = type_graph I.read I.right I.graph

  -- all vertices are to come
  pub stored_end : {was : List ℕ} → ((n : ℕ) → n < count t → asks t n ≡ true → get_or was n 0 ≡ 0) → StoredFrom t was (vertex_count t) was
  stored_end {was} empty =
      record {
        stored =
            λ n l f.
            kept t was n
            (λ a.
            let o : owner t n ≡ count t = range_end t n (omega arith) f in
            let d : kind t (count t) ≡ 0 = get_or-eq_default t.kinds 0 (omega arith) in
            let none : inherited t (count t) (symbol t n) ≡ [] =
            nothing_inherited I.read (count t) (symbol t n) (λ (q : kind t (count t) ≡ entity). omega arith) in
            (empty n l a, nothing_code t n (ap (λ (x : ℕ). inherited t x (symbol t n)) o ∙ none)));
        before = λ n l. refl;
      }

  module _ (v : ℕ) (l : v < vertex_count t) {was bound : List ℕ} (empty : (n : ℕ) → n < count t → asks t n ≡ true → get_or was n 0 ≡ 0) (D : StoredFrom t was (v + 1) bound) where
    -- what lies before the next range is as it was
    as_before : (n : ℕ) → n ≤ node_of t v → get_or bound n 0 ≡ get_or was n 0
    as_before n h = D.before n (omega (arith, range_next t v))

    -- a vertex that inherits nothing
    pub stored_skip : inherits_by kinds first (node_of t v) v ≡ false → StoredFrom t was v bound
    stored_skip e =
        record {
          stored = λ n ln f. by n ln f (standing t v n f);
          before = λ n h. as_before n (omega (arith, range_rises t v l));
        }
      where
        nothing : (s : ℕ) → inherited t (node_of t v) s ≡ []
        nothing = inherits_nothing graph_is I.read I.right v l (ap (λ (ks : List ℕ). inherits_by ks first (node_of t v) v) C.kinds_are ∙ e)

        at : (n : ℕ) → n < count t → range_start t v ≤ n → n ≤ node_of t v → get_or bound n 0 ≡ cond (asks t n) (inherited_code t n) (get_or was n 0)
        at n ln f u =
            as_before n u
            ∙ kept t was n
            (λ a. (empty n ln a, nothing_code t n (ap (λ (x : ℕ). inherited t x (symbol t n)) (range_owner t v n l f u) ∙ nothing (symbol t n))))

        by : (n : ℕ) → n < count t → range_start t v ≤ n → Standing t v n → get_or bound n 0 ≡ cond (asks t n) (inherited_code t n) (get_or was n 0)
        by n ln f (inside _ u) = at n ln f (omega arith)
        by n ln f (itself q) = at n ln f (omega arith)
        by n ln f (behind g) = D.stored n ln g

    -- a vertex at whose nodes something is stored that suits them: what its declaration inherits
    pub stored_each : {Suits : ℕ → ℕ → Type 0} {bound' : List ℕ} → count t ≤ length bound
        → ((n x : ℕ) → n < count t → Suits n x → x ≡ code (meaning (inherited t (node_of t v) (symbol t n))))
        → StoresEach kinds roles Suits (range_start t v) (node_of t v) bound bound' → StoredFrom t was v bound'
    stored_each {Suits} {bound'} room suits W =
        record {
          stored = λ n ln f. by n ln f (standing t v n f) (asks t n) refl;
          before = λ n h. W.before n h ∙ as_before n (omega (arith, range_rises t v l));
        }
      where
        by : (n : ℕ) → n < count t → range_start t v ≤ n → Standing t v n → (b : Bool) → asks t n ≡ b
            → get_or bound' n 0 ≡ cond (asks t n) (inherited_code t n) (get_or was n 0)
        by n ln f (inside _ u) true a =
            suits n (get_or bound' n 0) ln (W.stored n f u (omega (arith, room)) (sym (asked n) ∙ a))
            ∙ sym (owned_code t n (node_of t v) (range_owner t v n l f (omega arith)))
            ∙ ap (λ (b : Bool). cond b (inherited_code t n) (get_or was n 0)) (sym a)
        by n ln f (inside _ u) false a = silent t was n (get_or bound' n 0) a (W.other n (sym (asked n) ∙ a) ∙ as_before n (omega arith))
        by n ln f (itself q) b a =
            let z : asks t n ≡ false = ap (asks t) q ∙ declaration_silent t (node_of t v) (node_declares t v l) in
            silent t was n (get_or bound' n 0) z (W.behind n (omega arith) ∙ as_before n (omega arith))
        by n ln f (behind g) b a = W.behind n (omega (arith, range_next t v)) ∙ D.stored n ln g

  -- what inherits is an entity
  pub inherits_entity : (v : ℕ) → inherits_by kinds first (node_of t v) v ≡ true → kind t (node_of t v) ≡ entity
  inherits_entity v e =
      ap (λ (ks : List ℕ). get_or ks (node_of t v) 0) C.kinds_are
      ∙ eqb-true (get_or kinds (node_of t v) 0) entity (and_fst (eqb (get_or kinds (node_of t v) 0) entity) (ltb (get_or first v 0) (get_or first (v + 1) 0)) e)

  -- none from a number on
  stored_none : {was : List ℕ} {r : ℕ} → ((n : ℕ) → n < count t → asks t n ≡ true → get_or was n 0 ≡ 0) → NoneInherits kinds entry_nodes first r → StoredFrom t was r was
  stored_none {was} {r} empty N = go (vertex_count t - r) r (omega (arith, N.upto, I.graph.long)) N.none
    where
      go : (k r : ℕ) → vertex_count t ≡ k + r → ((v : ℕ) → r ≤ v → v < length first - 1 → inherits_by kinds first (get_or entry_nodes v 0) v ≡ false) → StoredFrom t was r was
      go zero r e h = let q : vertex_count t ≡ r = omega (arith, e) in rw q at (stored_end {was = was} empty)
      go (suc k) r e h =
          let l : r < vertex_count t = omega (arith, e) in
          let n = column_node I.prepared r l in
          stored_skip r l empty (go k (r + 1) (omega (arith, e)) (λ v a. h v (omega arith))) (rw n at (h r (omega arith) (omega (arith, I.graph.long))))

  module _ (v : ℕ) (l : v < vertex_count t) {was table mark queue bound : List ℕ} (R : InheritanceRoom t table mark queue was) (D : Done t was (v + 1) table mark bound) where
    done_skip : inherits_by kinds first (node_of t v) v ≡ false → Done t was v table mark bound
    done_skip e =
        record {
          offsets = D.offsets;
          unused = λ k s a b. D.unused k s a (omega arith);
          fresh = λ k s a b. D.fresh k s a (omega arith);
          from = stored_skip v l R.empty D.from e;
        }

    -- an entity with supertypes
    module _ (bound_long : length bound ≡ length was) {stamp r : ℕ} {table' mark' queue' bound' : List ℕ} (table_long : length table' ≡ length table)
        (e : inherits_by kinds first (node_of t v) v ≡ true) (st : stamp ≡ v + 1) (S : Searches first to v stamp mark queue mark' queue' r)
        (Q : CollectsQueued kinds entry_keys entry_nodes queue' r (length first) stamp table table')
        (W : Stores kinds tokens roles symbols table' stamp (range_start t v) (node_of t v) bound bound') where
      an_entity : kind t (node_of t v) ≡ entity
      an_entity = inherits_entity v e

      searchable : Searchable first to v stamp mark queue
      searchable =
          let n : vertices first ≡ vertex_count t = omega (arith, I.graph.long) in
          record {
            markable = record { graph = I.graph.graph; source = omega arith; mark_room = omega (arith, R.mark_room); queue_room = omega (arith, R.queue_room) };
            fresh = λ k lk q. D.fresh k (v + 1) (omega arith) (omega arith) (q ∙ st);
          }

      stamped : Stamps first to v stamp mark mark'
      stamped = S.stamps searchable

      few : stamp < stamp_count
      few = omega (arith, R.stamps)

      queued : Queued t kinds entry_keys entry_nodes queue' r (length first) table
      queued =
          record {
            kinds_are = C.kinds_are;
            scanned = I.scanned;
            heads = I.entry_heads;
            next = I.entry_next;
            prepared = I.prepared;
            known = listed_known graph_is I.read I.right v l an_entity (S.lists searchable);
            room = R.table_room;
            so_many = I.graph.long;
            stand = D.offsets;
          }

      puts : Puts (symbol t) (length t.symbols) stamp (queued_attributes t queue' r) table table'
      puts = Q.is t queued few

      only : OnlyStamped stamp table table'
      only = puts.only

      tabulated : Tabulated (symbol t) table' stamp (queued_attributes t queue' r)
      tabulated =
          let e = append-nil (queued_attributes t queue' r) in
          rw e at (puts.is [] (untouched (λ s q. D.unused s (v + 1) (omega arith) (omega arith) (q ∙ st))))

      says_inherited : (n : ℕ) → n < count t → says table' stamp (symbol t n) ≡ code (meaning (inherited t (node_of t v) (symbol t n)))
      says_inherited n ln =
          tabulated.is (symbol t n) (omega (arith, symbol_within I.scanned I.prepared.consistent n ln, R.table_room))
          ∙ ap code (listed_inherited graph_is I.read I.right v l an_entity (S.lists searchable) (symbol t n))

      done_more : Done t was v table' mark' bound'
      done_more =
          record {
            offsets = offsets_kept R.table_room table_long puts.behind D.offsets;
            unused =
                λ k s a b q.
                by_cases (ℕ_discrete (stamp_of (get_or table' k 0)) stamp) (λ z. omega arith)
                (λ z. D.unused k s a (omega arith) (ap stamp_of (sym (only.others k z)) ∙ q));
            fresh =
                λ k s a b q.
                by_cases (ℕ_discrete (get_or mark' k 0) stamp) (λ z. omega arith)
                (λ z. D.fresh k s a (omega arith) (sym (stamped.others k z) ∙ q));
            from =
                stored_each v l R.empty D.from (omega (arith, R.bound_room))
                (λ n x ln q. q ∙ ap (says table' stamp) (spelling n) ∙ says_inherited n ln) W;
          }

-- ---- the calls of `inherit_in`
module _ {kinds tokens roles symbols entry_keys entry_nodes first to table mark queue bound : List ℕ} {v : ℕ} {d : Extent} (X : DeclarationAt entry_keys entry_nodes v d) where
  pub inherits_in_none : inherits_by kinds first d.node v ≡ false
      → InheritsIn kinds tokens roles symbols entry_keys entry_nodes first to v table mark queue bound table mark bound
  inherits_in_none e =
      record {
        is =
            λ t was C I l R b D.
            let n = X.node_is t I.entry_heads I.entry_next I.prepared l in
            done_skip C I v l R D (rw n at e);
      }

  pub inherits_in_more : {stamp r : ℕ} {table' mark' queue' bound' : List ℕ} → inherits_by kinds first d.node v ≡ true → (v + 1 < 4294967296 → stamp ≡ v + 1)
      → Searches first to v stamp mark queue mark' queue' r → CollectsQueued kinds entry_keys entry_nodes queue' r (length first) stamp table table'
      → length table' ≡ length table → Stores kinds tokens roles symbols table' stamp d.from d.node bound bound'
      → InheritsIn kinds tokens roles symbols entry_keys entry_nodes first to v table mark queue bound table' mark' bound'
  inherits_in_more {stamp} {r} {table'} {mark'} {queue'} {bound'} e st S Q q W =
      record {
        is =
            λ t was C I l R b D.
            let n = X.node_is t I.entry_heads I.entry_next I.prepared l in
            let f = X.from_is t I.entry_heads I.entry_next I.prepared l in
            let W' : Stores kinds tokens roles symbols table' stamp (range_start t v) (node_of t v) bound bound' = rw (n, f) at W in
            done_more C I v l R D b q (rw n at e) (st (omega (arith, R.stamps))) S Q W';
      }

-- ---- the loop of `inherit_declarations`
pub record Doing (kinds tokens roles symbols entry_keys entry_nodes first to table₁ mark₁ queue₁ bound₁ table mark queue bound : List ℕ) (v : ℕ) : Type 0 where
  pub within : v ≤ vertices first
  pub table_long : length table ≡ length table₁
  pub mark_long : length mark ≡ length mark₁
  pub queue_long : length queue ≡ length queue₁
  pub bound_long : length bound ≡ length bound₁
  pub is : (t : Table) → ColumnsOf t kinds tokens roles symbols → Inheriting t entry_keys entry_nodes first to → InheritanceRoom t table₁ mark₁ queue₁ bound₁ → Done t bound₁ v table mark bound

-- room goes by lengths, but for what stands where a node asks
pub same_room : {t : Table} {table mark queue table' mark' queue' bound : List ℕ} → length table' ≡ length table → length mark' ≡ length mark → length queue' ≡ length queue
    → InheritanceRoom t table mark queue bound → InheritanceRoom t table' mark' queue' bound
same_room a b c R =
    record {
      table_room = omega (arith, R.table_room);
      stamps = R.stamps;
      mark_room = omega (arith, R.mark_room);
      queue_room = omega (arith, R.queue_room);
      bound_room = R.bound_room;
      empty = R.empty;
    }

module _ {kinds tokens roles symbols entry_keys entry_nodes first to queue₁ bound₁ : List ℕ} where
  pub doing_starts : {table₀ table mark : List ℕ} {v : ℕ} → NoneInherits kinds entry_nodes first v → StoresOffsets entry_nodes (length first) table₀ table
      → length table ≡ length table₀ → ((k : ℕ) → get_or mark k 0 ≡ 0)
      → Doing kinds tokens roles symbols entry_keys entry_nodes first to table mark queue₁ bound₁ table mark queue₁ bound₁ v
  doing_starts {table₀} {table} {mark} {v} N O y z =
      record {
        within = N.upto;
        table_long = refl;
        mark_long = refl;
        queue_long = refl;
        bound_long = refl;
        is =
            λ t C I R.
            let small = O.small t entry_keys I.entry_heads I.entry_next I.prepared I.graph.long in
            record {
              offsets = O.is t entry_keys I.entry_heads I.entry_next I.prepared I.graph.long (omega (arith, R.table_room, I.graph.long));
              unused = λ k s a b e. omega (arith, small k, e);
              fresh = λ k s a b e. omega (arith, z k);
              from = stored_none C I R.empty N;
            };
      }

  module _ {table₁ mark₁ table mark queue bound : List ℕ} {v : ℕ} (s : Doing kinds tokens roles symbols entry_keys entry_nodes first to table₁ mark₁ queue₁ bound₁ table mark queue bound v) where
    pub doing_goes : {table' mark' queue' bound' : List ℕ} → 0 < v
        → InheritsIn kinds tokens roles symbols entry_keys entry_nodes first to (v - 1) table mark queue bound table' mark' bound'
        → length table' ≡ length table → length mark' ≡ length mark → length queue' ≡ length queue → length bound' ≡ length bound
        → Doing kinds tokens roles symbols entry_keys entry_nodes first to table₁ mark₁ queue₁ bound₁ table' mark' queue' bound' (v - 1)
    doing_goes l x p a b c =
        record {
          within = omega (arith, s.within);
          table_long = p ∙ s.table_long;
          mark_long = a ∙ s.mark_long;
          queue_long = b ∙ s.queue_long;
          bound_long = c ∙ s.bound_long;
          is =
              λ t C I R.
              let back : v - 1 + 1 ≡ v = omega arith in
              let D : Done t bound₁ (v - 1 + 1) table mark bound = rw back (s.is t C I R) in
              x.is t bound₁ C I (omega (arith, s.within, I.graph.long)) (same_room s.table_long s.mark_long s.queue_long R) s.bound_long D;
        }

    pub doing_ends : {table₀ mark₀ : List ℕ} → length table₁ ≡ length table₀ → length mark₁ ≡ length mark₀ → v ≤ 0
        → Inherits kinds tokens roles symbols entry_keys entry_nodes first to table₀ mark₀ queue₁ bound₁ bound
    doing_ends p e l =
        record {
          is =
              λ t C I R n k.
              let z : v ≡ 0 = omega arith in
              let D : Done t bound₁ 0 table mark bound = rw z at (s.is t C I (same_room p e refl R)) in
              D.from.stored n k (omega arith);
        }

-- where none inherits, nothing is stored
pub inherits_none : {kinds tokens roles symbols entry_keys entry_nodes first to table mark queue bound : List ℕ} {r : ℕ} → NoneInherits kinds entry_nodes first r → r ≡ 0
    → Inherits kinds tokens roles symbols entry_keys entry_nodes first to table mark queue bound bound
inherits_none {kinds} {entry_nodes = entry_nodes} {first = first} {bound = bound} N z =
    let N' : NoneInherits kinds entry_nodes first 0 = rw z at N in
    record { is = λ t C I R n k. (stored_none C I {was = bound} R.empty N').stored n k (omega arith) }

-- ---- the parts that `inherit_all` lends
pub inherits_in_parts : {kinds tokens roles symbols entry_keys entry_nodes first to table mark queue bound bound' : List ℕ} {n r k m : ℕ} → n ≡ min (length symbols) (length table)
    → r ≡ length table - n → k ≡ min (length first) r → m ≡ min (length first) (length mark)
    → Inherits kinds tokens roles symbols entry_keys entry_nodes first to (take (n + k) table) (take m mark) queue bound bound'
    → Inherits kinds tokens roles symbols entry_keys entry_nodes first to table mark queue bound bound'
inherits_in_parts {symbols = symbols} {first = first} {table = table} {mark = mark} {n = n} {r = r} {k = k} {m = m} a b c d i =
    record {
      is =
          λ t C I R.
          let e = ap length C.symbols_are in
          let named : n ≡ length t.symbols = omega (arith, a, R.table_room) in
          let behind : k ≡ length first = omega (arith, b, c, R.table_room, I.graph.long) in
          i.is t C I
          (record {
            table_room = omega (arith, R.table_room, length-take (n + k) table, I.graph.long);
            stamps = R.stamps;
            mark_room = omega (arith, R.mark_room, length-take m mark, I.graph.long);
            queue_room = R.queue_room;
            bound_room = R.bound_room;
            empty = R.empty;
          });
    }

-- ---- the loop of `inheriting`
module _ {kinds nodes first : List ℕ} where
  pub inheriting_starts : {v : ℕ} → v ≡ length first - 1 → NoneInherits kinds nodes first v
  inheriting_starts e = record { upto = omega (arith, e); none = λ v a b. absurd (omega (arith, e)) }

  pub inheriting_ends : {v r : ℕ} → NoneInherits kinds nodes first v → r ≡ v → NoneInherits kinds nodes first r
  inheriting_ends N e = rw e N

  pub inheriting_goes : {v n m : ℕ} {b : Bool} → NoneInherits kinds nodes first v → 0 < v → n ≡ m → m ≡ get_or nodes (v - 1) 0 → b ≡ inherits_by kinds first n (v - 1) → b ≡ false
      → NoneInherits kinds nodes first (v - 1)
  inheriting_goes {v} {n} N l p q h e =
      let z : n ≡ get_or nodes (v - 1) 0 = p ∙ q in
      record {
        upto = omega (arith, N.upto);
        none = λ w a b. by_cases (ℕ_discrete w (v - 1)) (λ y. rw (y, sym z) (sym h ∙ e)) (λ y. N.none w (omega (arith, y)) b);
      }
