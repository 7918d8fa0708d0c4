-- What `arrange` answers, by what `topological_order` does.
use Rattle.std.specs.Prelude.{Option, Err}
use mathlib.Core.Path.{◌≡◌, refl, sym, ap, ◌∙◌}
use mathlib.Core.List.{List}
use Prim.Native.Nat.{ℕ, ◌-◌, ◌≤◌, ◌<◌}
use native.Mathlib.Omega.{arith}
use lib.ListN.{length, get_or, drop}
use Rattle.cycles.specs.Answer.{lent, no_cycle, cycle_at, InOrder, NoOrder, OrderAnswers}
use Rattle.cycles.specs.declared.GraphError.{GraphError}
use Rattle.cycles.specs.declared.GraphError.TheVariants.{Malformed, ColumnShort, ScratchShort}
use Rattle.express.specs.Names.Fault as express
use Rattle.scopes.specs.Range.{vertex_count, node_of}
use Rattle.faults.specs.Meaning.{fault_of}
use Rattle.faults.specs.declared.Fault.{Fault}
use Rattle.dependencies.specs.Arrangement.{named, Arranges}
use Rattle.dependencies.proofs.Naming.{named_front, named_rest, named_long}
use Rattle.dependencies.proofs.Cycle.{many, acyclic_fine, cyclic_least, order_arranged}

-- ---- what is answered
module _ {tokens starts nodes first to order scratch column scratch' : List ℕ} where
  -- no cycle: the order, with the nodes of its vertices
  pub arranges_acyclic :
      {n : ℕ} {order' : List ℕ} {r : Option Fault} → InOrder first to no_cycle (lent order scratch) (lent column scratch') → n ≡ length first - 1 → order' ≡ named nodes n column →
      fault_of r ≡ express.fine → length column ≡ length order → length scratch' ≡ length scratch → Arranges tokens starts nodes first to order scratch r order' scratch'
  arranges_acyclic {n} {order'} {r} O q s f long scratch_long = record {
    order_long = ap length s ∙ named_long nodes n column ∙ long;
    scratch_long = scratch_long;
    is = λ t target p es A.
        let m = many A.graph A.edges in
        let k : n ≡ vertex_count t = omega arith in
        let room : vertex_count t ≤ length column = omega (arith, A.order_room) in
        record {
          reply = f ∙ sym (acyclic_fine A.graph A.edges (O.replies.none refl));
          arranged = λ z. rw (s, k, named_front nodes (vertex_count t) column room)
              (rw m at (order_arranged A.graph A.edges nodes (omega arith) O.ordered A.nodes_are));
          kept = λ z. absurd (z (ap (λ (x : express.Fault). x.number) f));
          order_rest = rw (s, k, named_rest nodes (vertex_count t) column room) (rw m at O.used.column_rest);
          scratch_is = rw m at O.used.scratch_is;
        };
  }

  -- a cycle: the place of the smallest vertex on one
  pub arranges_cyclic :
      {v node token place : ℕ} {r : Option Fault} → NoOrder first to (cycle_at v) (lent order scratch) (lent column scratch') → node ≡ get_or nodes v 0 → token ≡ get_or tokens node 0 →
      place ≡ get_or starts token 0 → fault_of r ≡ express.fault 13 place → length column ≡ length order → length scratch' ≡ length scratch →
      Arranges tokens starts nodes first to order scratch r column scratch'
  arranges_cyclic {v} {node} {token} {place} {r} O b c d f long scratch_long = record {
    order_long = long;
    scratch_long = scratch_long;
    is = λ t target p es A.
        let m = many A.graph A.edges in
        let L = O.replies.cycle refl in
        let l : v < vertex_count t = omega (arith, L.low) in
        let q : node ≡ node_of t v = b ∙ A.nodes_are v l in
        record {
          reply = f ∙ rw (d, c, q, A.tokens_are, A.starts_are) (sym (cyclic_least A.graph A.edges A.text_order L));
          arranged = λ z. let y = ap (λ (x : express.Fault). x.number) f in absurd (omega arith);
          kept = λ z. O.kept;
          order_rest = ap (λ (x : List ℕ). drop (vertex_count t) x) O.kept;
          scratch_is = rw m at O.used.scratch_is;
        };
  }

  -- else there is no such file, or no room
  pub arranges_refused :
      {r : Option Fault} (e : GraphError) → length column ≡ length order → length scratch' ≡ length scratch → OrderAnswers first to (lent order scratch) (lent column scratch') (Err e) →
      Arranges tokens starts nodes first to order scratch r column scratch'
  arranges_refused Malformed long scratch_long O = record { order_long = long; scratch_long = scratch_long; is = λ t target p es A. absurd (O.no A.graph.graph) }
  arranges_refused (ColumnShort k) long scratch_long O = record {
    order_long = long;
    scratch_long = scratch_long;
    is = λ t target p es A. absurd (omega (arith, O.needs, O.short, A.order_room, many A.graph A.edges));
  }
  arranges_refused (ScratchShort k) long scratch_long O = record {
    order_long = long;
    scratch_long = scratch_long;
    is = λ t target p es A. absurd (omega (arith, O.needs, O.short, A.scratch_room, many A.graph A.edges));
  }
