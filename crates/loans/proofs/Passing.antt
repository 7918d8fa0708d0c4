-- A function that is walked by hand and passes all that it was lent on to its callees: of each parameter it has, at exit, what the callee's contract says of its last value.
use Prim.Native.Nat.{ℕ}
use mathlib.Core.List.{List, [], ◌∷◌}
use mir.Syntax.{Local, local, Ty}
use seplogic.Ra.Ura.{Ura}
use types.Logic.{Logic, sem}
use contract.Lifetimes.{Lfts}
use denote.RattleType.{Denots}
use denote.Exit.{Kept, left}
use denote.Signature.{Slot, types_at}
use denote.Triple.End.{Kepts, Fins}
use denote.Triple.Walked.{Stay, Stays, fits_of, AllGo}

-- the environment of a function's locals, by its own list of them: its types then need no comparison with those of the goal
abbrev pub env_of : List Local → List ℕ → List (Ty × ℕ)
env_of [] ls = []
env_of (local τ h ∷ ds) [] = []
env_of (local τ h ∷ ds) (l ∷ ls) = (τ, l) ∷ env_of ds ls

module _ {n : ℕ} where
  abbrev pub told : (s : Slot n) (k : Kept) → Stay s k
  told s k = record { fit = λ κs x f. Unit {0}; has = λ κs x f vs. left ((s.row κs).exit k) x f }

  abbrev pub all_told : (ss : List (Slot n)) (ks : Kepts ss) → Stays ss ks
  all_told [] ks = tt
  all_told (s ∷ ss) ks = (told s ks.0, all_told ss ks.1)

  pub all_fit : (ss : List (Slot n)) (ks : Kepts ss) (κs : Lfts n) (a : Denots (types_at ss κs)) (ws : Fins κs ss ks a) → fits_of κs ss ks (all_told ss ks) a ws
  all_fit [] ks κs a ws = tt
  all_fit (s ∷ ss) ks κs a ws = (tt, all_fit ss ks.1 κs a.1 ws.1)

module _ {M : Type 1} {𝓤 : Ura M} (𝓛 : Logic 𝓤) (n : ℕ) where
  pub all_go : (ss : List (Slot n)) (ks : Kepts ss) → AllGo 𝓛 n ss ks (all_told ss ks)
  all_go [] ks = tt
  all_go (s ∷ ss) ks = (λ κs x f vs fits. 𝓛.laws.⇛_intro (sem 𝓛 (left ((s.row κs).exit ks.0) x f)), all_go ss ks.1)
