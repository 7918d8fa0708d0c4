-- Arrays for a file of so many tokens: the law of all sizes, and of the choice among them.
use mathlib.Core.Path.{◌≡◌, sym, ap}
use mathlib.Core.List.{List}
use Prim.Native.Nat.{ℕ, ◌*◌, ◌<◌, ◌≤◌}
use native.Mathlib.Omega.{arith}
use lib.ListN.{length, replicate, length-replicate}
use Rattle.express.specs.Tokens.Lexis.{most}
use Rattle.bounds.proofs.Bounds.{entries_few}
use Rattle.bounds.proofs.Roles.{roles_small}
use Rattle.stages.specs.Line.{Stage}
use Rattle.pipeline.specs.NameStage.{NamesFile}
use Rattle.name_frames.specs.NameFrame.{FrameSizes, NamesWithin}
use Rattle.name_frames.proofs.Room.{Sizes, names_room}

-- an array that is filled with 0 has as many elements as were asked for
cleared : (n : ℕ) → length (replicate {A = ℕ} n 0) ≡ n
cleared n = length-replicate n 0

pub counted : (n : ℕ) → n ≡ length (replicate {A = ℕ} n 0)
counted n = sym (cleared n)

-- a frame has room for its tokens
frame_sizes : {rows half eighth fifth search : ℕ} → FrameSizes rows half eighth fifth search → Sizes rows rows rows half half eighth half fifth half search
frame_sizes {rows} {fifth = fifth} F =
    let n = F.few in
    let s = F.some in
    let h = F.half_is in
    let e = F.eighth_is in
    let f : rows < 5 * fifth = omega (arith, F.fifth_is) in
    let w = F.search_is in
    record {
      small = n;
      roles_fit = omega arith;
      symbols_fit = omega arith;
      keys_fit = omega arith;
      nodes_fit = omega arith;
      heads_fit = omega arith;
      next_fit = omega arith;
      first_fit = f;
      to_fit = omega arith;
      to_small = omega arith;
      links_fit = omega arith;
      search_fit = omega arith;
    }

module _ {before : Stage} {src starts lengths terminals kinds tokens sizes bindings types constants : List ℕ} {r : Stage} {bindings' types' constants' : List ℕ} where
  -- room in all arrays: their sizes are compared as numbers, for to count a long array's elements takes a step for each
  with_sizes : (n roles symbols keys nodes heads next first to scratch : ℕ) → Sizes n roles symbols keys nodes heads next first to scratch →
      NamesFile before src starts lengths terminals kinds tokens sizes bindings (replicate roles 0) (replicate symbols 0) (replicate keys 0) (replicate nodes 0) (replicate heads 0)
      (replicate next 0) (replicate first 0) (replicate to 0) types constants (replicate scratch 0) r bindings' types' constants' →
      NamesWithin n before src starts lengths terminals kinds tokens sizes bindings types constants r bindings' types' constants'
  with_sizes n roles symbols keys nodes heads next first to scratch Z N =
      record {
        passed_on = N.passed_on;
        is = λ t F few a b.
            let e = ap length F.starts_are in
            N.is t F (rw (cleared roles, cleared symbols, cleared keys, cleared nodes, cleared heads, cleared next, cleared first, cleared to, cleared scratch)
            (names_room F.read F.scanned Z (omega arith) a b (entries_few F.read) (roles_small F.read)));
      }

  -- the sizes of a frame
  pub with_arrays : {rows half eighth fifth search : ℕ} → FrameSizes rows half eighth fifth search →
      NamesFile before src starts lengths terminals kinds tokens sizes bindings (replicate rows 0) (replicate rows 0) (replicate half 0) (replicate half 0) (replicate eighth 0)
      (replicate half 0) (replicate fifth 0) (replicate half 0) types constants (replicate search 0) r bindings' types' constants' →
      NamesWithin rows before src starts lengths terminals kinds tokens sizes bindings types constants r bindings' types' constants'
  with_arrays {rows} {half} {eighth} {fifth} {search} F N = with_sizes rows rows rows half half eighth half fifth half search (frame_sizes F) N

  -- so many tokens, whatever is asked of them elsewhere
  pub by_number : (n : ℕ) → length starts ≤ n →
      NamesWithin n before src starts lengths terminals kinds tokens sizes bindings types constants r bindings' types' constants' →
      NamesWithin most before src starts lengths terminals kinds tokens sizes bindings types constants r bindings' types' constants'
  by_number n h N = record { passed_on = N.passed_on; is = λ t F few. N.is t F h }
