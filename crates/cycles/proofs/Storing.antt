-- What a step of the search writes: most steps write nothing.
use mathlib.Core.Path.{◌≡◌, refl}
use mathlib.Core.Logic.{◌⊎◌, ⊎_elim}
use mathlib.Core.List.{List}
use Prim.Native.Nat.{ℕ}
use Rattle.cycles.specs.Step.{Stored}
use Rattle.cycles.specs.declared.Step.{Step}
use Rattle.cycles.specs.declared.Step.TheVariants.{Done, Skip, Join, Leave}
use Rattle.cycles.specs.declared.Counts.{Counts}

-- a step that writes nothing
pub unwritten : (first s : List ℕ) (c : Counts) (r : Step) → (r ≡ Done) ⊎ ((r ≡ Skip) ⊎ ((r ≡ Join) ⊎ (r ≡ Leave))) → Stored first s s r c
unwritten first s c r = ⊎_elim (λ e. rw e refl) (⊎_elim (λ e. rw e refl) (⊎_elim (λ e. rw e refl) (λ e. rw e refl)))
