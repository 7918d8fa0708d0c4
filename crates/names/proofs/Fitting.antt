-- The stages have room in columns that are long enough for the tokens and the declarations of a file.
use Rattle.std.specs.Prelude.{Option}
use mathlib.Core.Path.{◌≡◌, ap, ◌∙◌}
use mathlib.Core.List.{List}
use Prim.Native.Nat.{ℕ, ◌+◌, ◌*◌, ◌≤◌}
use native.Mathlib.Omega.{arith}
use lib.ListN.{length, take}
use lib.Seq.{length-take-le}
use Rattle.dependencies.specs.Target.{led_to_from, type_target, constant_target}
use Rattle.dependencies.specs.Graph.{Room}
use Rattle.bounds.proofs.Bounds.{type_arcs_few, constant_arcs_few}
use Rattle.bounds.proofs.Consistent.{starts_long, symbols_long}
use Rattle.faults.specs.declared.Fault.{Fault}
use Rattle.name_binding.specs.Binding.{BindsNames}
use Rattle.resolutions.specs.Answer.{StageRoom}
use Rattle.names.specs.Resolution.{BindsPrepared}

module _ {kinds tokens sizes roles symbols starts keys nodes heads next : List ℕ} {v entries : ℕ} {bound to types constants scratch : List ℕ} (first : List ℕ)
    {r : Option Fault} {bound' types' constants' : List ℕ} where
  pub prepared_bound :
      StageRoom (length starts) v (length first) (length to) (length types) (length constants) (length scratch) →
      BindsNames kinds tokens sizes roles symbols starts (take entries keys) (take entries nodes) heads next bound (take (v + 1) first) to types constants scratch r bound' types' constants' →
      BindsPrepared kinds tokens sizes roles symbols starts keys nodes heads next bound v entries r bound' types' constants'
  prepared_bound R B = record {
    is = λ t S C z w b.
        let n : length starts ≡ length t.terminals = ap length C.starts_are ∙ starts_long C.read S in
        let graph : (target : ℕ → ℕ) → 2 * length (led_to_from t target 0) ≤ length t.terminals → Room t target (length (take (v + 1) first)) (length to) =
        λ (target : ℕ → ℕ) (few : 2 * length (led_to_from t target 0) ≤ length t.terminals).
        record {
          offsets_are = length-take-le (v + 1) first (omega (arith, R.first_room)) ∙ ap (λ (k : ℕ). k + 1) w;
          few = omega (arith, R.few, w);
          enough = omega (arith, few, R.to_room, n);
          small = R.to_small;
        } in
        B.is t S C z (record {
          bound_room = b;
          type_graph = graph (type_target t) (type_arcs_few C.read);
          constant_graph = graph (constant_target t) (constant_arcs_few C.read);
          type_order = record { order_room = omega (arith, R.types_room, w); scratch_room = omega (arith, R.search_room, w) };
          constant_order = record { order_room = omega (arith, R.constants_room, w); scratch_room = omega (arith, R.search_room, w) };
          entry_room = omega (arith, R.table_room, n, symbols_long C.read S, w);
          stamps = omega (arith, R.few, w);
        });
  }
