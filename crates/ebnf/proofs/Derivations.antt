-- What holds of each derivation, whatever the grammar.
use mathlib.Core.List.{List, ◌++◌}
use mathlib.Core.Path.{◌≡◌, sym}
use Prim.Native.Nat.{ℕ, suc, ◌≤◌, ◌<◌}
use native.Mathlib.Nat.{le_refl}
use native.Mathlib.Omega.{arith}
use lib.ListN.{length, get_or, get_or-append}
use Rattle.ebnf.specs.Grammar.{Ebnf, Actions, Derives, nothing, marked, token, both, left, right, stop, more, label, other, rule}

-- the two lists have the same tokens before n
abbrev pub Same : List ℕ → List ℕ → ℕ → Type 0
Same ts us n = (m : ℕ) → m < n → get_or ts m 0 ≡ get_or us m 0

module _ {A : Actions} {N : Type 0} {rules : N → Ebnf N} where
  pub mono : {ts : List ℕ} {e : Ebnf N} {i j : ℕ} {r s : A.Value} → Derives A rules ts e i r j s → i ≤ j
  mono nothing = le_refl _
  mono marked = le_refl _
  mono (token h d) = let p = mono d in omega arith
  mono (both d e) = let p = mono d in let q = mono e in omega arith
  mono (left d) = mono d
  mono (right d) = mono d
  mono stop = le_refl _
  mono (more d e) = let p = mono d in let q = mono e in omega arith
  mono (rule d) = mono d
  mono (label h g d) = let p = mono d in omega arith
  mono (other d) = mono d

  -- a derivation reads no token past its end
  pub move : {ts us : List ℕ} {e : Ebnf N} {i j : ℕ} {r s : A.Value} → Derives A rules ts e i r j s → Same ts us j → Derives A rules us e i r j s
  move nothing a = nothing
  move marked a = marked
  move (token {cs = cs} {i = i} h d) a = token (rw (a i (mono d)) at h) (move d a)
  move (both d e) a = let q = mono e in both (move d (λ m l. a m (omega arith))) (move e a)
  move (left d) a = left (move d a)
  move (right d) a = right (move d a)
  move stop a = stop
  move (more d e) a = let q = mono e in more (move d (λ m l. a m (omega arith))) (move e a)
  move (rule d) a = rule (move d a)
  move (label {i = i} h g d) a =
      let p = mono d in
      label (rw (a i (omega arith)) at h) (rw (a (suc i) (omega arith)) at g) (move d a)
  move (other d) a = other (move d a)

pub same_append : (x w : List ℕ) → Same x (x ++ w) (length x)
same_append x w m l = sym (get_or-append x w 0 m l)
