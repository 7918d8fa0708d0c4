-- `cycles::order_in` meets its contract: without a cycle the places are an order. Assumes nothing.
use Rattle.graph.proofs.Store.{all_zeros}
use Rattle.cycles.proofs.End.{found, placed}
use Rattle.cycles.proofs.Scan.{arrangeable, ordered}
use Rattle.cycles.proofs.Use.{ready_after}
use Rattle.std.specs.Prelude.{◌≡◌, Bool, true, false, not, List, ℕ, Option, Some, None, is_some}
use Rattle.cycles.specs.Answer.{Smallest, Ordered, OrderIf}
use Rattle.cycles.proofs.order_in.Goals.{then-is_none, else-is_none}
use Rattle.cycles.proofs.order_in.Goals as goal

pub least-cycle-requires : goal.least-cycle-requires
least-cycle-requires c = ready_after c.requires.0 c.search.auto.s

none : {P : ℕ → Type 0} {n : ℕ} (first to order order' : List ℕ) (r : Option ℕ) {b : Bool} → is_some r ≡ not b → b ≡ true → Smallest P n r
    → (Smallest P n None → Ordered first to order') → OrderIf first to order order' r
none first to order order' None e q s h = h s
none first to order order' (Some v) e q s h = absurd (let z = rw q at e in cc)

some : (first to order order' : List ℕ) (r : Option ℕ) {b : Bool} → is_some r ≡ not b → b ≡ false → order' ≡ order → OrderIf first to order order' r
some first to order order' (Some v) e q h = h
some first to order order' None e q h = absurd (let z = rw q at e in cc)

pub returns : goal.returns
returns c = record {
  found = found c.requires.0.graph c.search.ensures _ c.least-cycle.ensures;
  ordered = elim c.if-is_none.branch [
    | then-is_none w ↦ none _ _ _ _ c.least-cycle.result c.is_none.ensures w.if-is_none.true c.least-cycle.ensures (λ s.
        let places = placed c.requires.0.graph c.search.ensures s in
        rw w.order-is (ordered places (w.arrange.ensures (arrangeable c.args.order.now (ready_after c.requires.0 c.search.auto.s) places c.requires.1))))
    | else-is_none w ↦ some _ _ _ _ c.least-cycle.result c.is_none.ensures w.if-is_none.false w.order-is
  ];
  zeros = all_zeros c.search.new.s c.clear.ensures c.search.auto.s;
}
