-- With which tokens the derivations of a checked grammar begin.
use mathlib.Core.Bool.{true, false, false≢true}
use mathlib.Core.List.{List, ◌++◌}
use mathlib.Core.Logic.{◌⊎◌, inl, inr, ⊎_elim}
use mathlib.Core.Path.{◌≡◌, refl, sym, ◌∙◌}
use Prim.Native.Nat.{ℕ, suc, ◌≤◌, ◌<◌}
use native.Mathlib.Omega.{arith}
use lib.ListN.{length, get_or, get_or-eq_default}
use Rattle.ebnf.specs.Set.{mem}
use Rattle.ebnf.specs.Grammar.{Ebnf, Actions, Derives, nothing, marked, token, both, left, right, stop, more, label, other, rule}
use Rattle.ebnf.specs.Parse.{nullable, Tables, first, second}
use Rattle.ebnf.proofs.Sets.{or_left, or_right, in_left, in_right, in_more, lt_or_le}
use Rattle.ebnf.proofs.Derivations.{mono}
use Rattle.ebnf.proofs.Predictive.{Predictive}

module _ {N : Type 0} {rules : N → Ebnf N} {T : Tables N} (G : Predictive rules T) where
  -- a derivation begins with a token that the phrase can begin with, or is empty
  abbrev pub Starts : List ℕ → Ebnf N → ℕ → ℕ → Type 0
  Starts ts e i j = ((mem (get_or ts i 0) (first T e) ≡ true) × (i < j)) ⊎ ((nullable e ≡ true) × (i ≡ j))

  pub starts : {A : Actions} {ts : List ℕ} {e : Ebnf N} {i j : ℕ} {r s : A.Value} → Derives A rules ts e i r j s → Starts ts e i j
  starts nothing = inr (refl, refl)
  starts marked = inr (refl, refl)
  starts (token h d) = inl (h, mono d)
  starts {ts = ts} (both {a = a} {b = b} {i = i} {j = j} {k = k} d e) =
      let q = mono e in
      ⊎_elim (λ (h : (mem (get_or ts i 0) (first T a) ≡ true) × (i < j)). inl (in_left _ (first T a) _ h.0, omega arith))
      (λ (h : (nullable a ≡ true) × (i ≡ j)).
      ⊎_elim
      (λ (g : (mem (get_or ts j 0) (first T b) ≡ true) × (j < k)).
      inl (in_right _ (first T a) _ (rw (h.0, h.1) g.0), omega arith))
      (λ (g : (nullable b ≡ true) × (j ≡ k)). inr (rw h.0 g.0, h.1 ∙ g.1))
      (starts e))
      (starts d)
  starts {ts = ts} (left {a = a} {b = b} {i = i} {j = j} d) =
      ⊎_elim (λ (h : (mem (get_or ts i 0) (first T a) ≡ true) × (i < j)). inl (in_left _ (first T a) _ h.0, h.1))
      (λ (h : (nullable a ≡ true) × (i ≡ j)). inr (or_left _ _ h.0, h.1))
      (starts d)
  starts {ts = ts} (right {a = a} {b = b} {i = i} {j = j} d) =
      ⊎_elim (λ (h : (mem (get_or ts i 0) (first T b) ≡ true) × (i < j)). inl (in_right _ (first T a) _ h.0, h.1))
      (λ (h : (nullable b ≡ true) × (i ≡ j)). inr (or_right (nullable a) _ h.0, h.1))
      (starts d)
  starts stop = inr (refl, refl)
  starts {ts = ts} (more {a = a} {i = i} {j = j} {k = k} d e) =
      let q = mono e in
      ⊎_elim (λ (h : (mem (get_or ts i 0) (first T a) ≡ true) × (i < j)). inl (h.0, omega arith))
      (λ (h : (nullable a ≡ true) × (i ≡ j)).
      ⊎_elim (λ (g : (mem (get_or ts j 0) (first T a) ≡ true) × (j < k)). inl (rw h.1 g.0, omega arith))
      (λ (g : (true ≡ true) × (j ≡ k)). inr (refl, h.1 ∙ g.1))
      (starts e))
      (starts d)
  starts {ts = ts} (rule {x = x} {i = i} {j = j} d) =
      ⊎_elim (λ (h : (mem (get_or ts i 0) (first T (rules x)) ≡ true) × (i < j)). inl (in_more _ _ _ (G.begins_all x) h.0, h.1))
      (λ (h : (nullable (rules x) ≡ true) × (i ≡ j)). absurd (false≢true (sym (G.full x) ∙ h.0)))
      (starts d)
  starts (label {cs = cs} h g d) = let p = mono d in inl (in_left _ cs _ h, omega arith)
  starts {ts = ts} (other {cs = cs} {b = b} {i = i} {j = j} d) =
      ⊎_elim (λ (h : (mem (get_or ts i 0) (first T b) ≡ true) × (i < j)). inl (in_right _ cs _ h.0, h.1))
      (λ (h : (nullable b ≡ true) × (i ≡ j)). inr h)
      (starts d)

  pub eats : {A : Actions} {ts : List ℕ} {e : Ebnf N} {i j : ℕ} {r s : A.Value} → Derives A rules ts e i r j s → nullable e ≡ false →
      (mem (get_or ts i 0) (first T e) ≡ true) × (i < j)
  eats d n = ⊎_elim (λ h. h) (λ h. absurd (false≢true (sym n ∙ h.0))) (starts d)

  -- the second token of a derivation
  pub seconds : {A : Actions} {ts : List ℕ} {e : Ebnf N} {i j : ℕ} {r s : A.Value} → Derives A rules ts e i r j s → suc i < j → mem (get_or ts (suc i) 0) (second T e) ≡ true
  seconds nothing l = absurd (omega arith)
  seconds marked l = absurd (omega arith)
  seconds {ts = ts} (token {a = a} {i = i} {j = j} h d) l =
      ⊎_elim (λ (g : (mem (get_or ts (suc i) 0) (first T a) ≡ true) × (suc i < j)). g.0) (λ (g : (nullable a ≡ true) × (suc i ≡ j)). absurd (omega arith)) (starts d)
  seconds {ts = ts} (both {a = a} {b = b} {i = i} {j = j} {k = k} d e) l =
      ⊎_elim
      (λ (p : suc i < j). in_left _ (second T a) _ (seconds d p))
      (λ (p : j ≤ suc i).
      in_right _ (second T a) _
      (⊎_elim
      (λ (g : (mem (get_or ts i 0) (first T a) ≡ true) × (i < j)).
      let q : j ≡ suc i = omega arith in
      ⊎_elim (λ (h : (mem (get_or ts j 0) (first T b) ≡ true) × (j < k)). in_left _ (first T b) _ (rw q at h.0))
      (λ (h : (nullable b ≡ true) × (j ≡ k)). absurd (omega arith))
      (starts e))
      (λ (g : (nullable a ≡ true) × (i ≡ j)).
      let q : j ≡ i = sym g.1 in
      let f : mem (get_or ts (suc j) 0) (second T b) ≡ true = seconds e (omega arith) in
      in_right _ (first T b) _ (rw g.0 (rw q at f)))
      (starts d)))
      (lt_or_le (suc i) j)
  seconds (left {a = a} d) l = in_left _ (second T a) _ (seconds d l)
  seconds (right {a = a} d) l = in_right _ (second T a) _ (seconds d l)
  seconds stop l = absurd (omega arith)
  seconds {ts = ts} (more {a = a} {i = i} {j = j} {k = k} d e) l =
      ⊎_elim
      (λ (p : suc i < j). in_left _ (second T a) _ (seconds d p))
      (λ (p : j ≤ suc i).
      ⊎_elim
      (λ (g : (mem (get_or ts i 0) (first T a) ≡ true) × (i < j)).
      let q : j ≡ suc i = omega arith in
      ⊎_elim (λ (h : (mem (get_or ts j 0) (first T a) ≡ true) × (j < k)). in_right _ (second T a) _ (rw q at h.0))
      (λ (h : (true ≡ true) × (j ≡ k)). absurd (omega arith))
      (starts e))
      (λ (g : (nullable a ≡ true) × (i ≡ j)).
      let q : j ≡ i = sym g.1 in
      let f : mem (get_or ts (suc j) 0) (second T a ++ first T a) ≡ true = seconds e (omega arith) in
      rw q at f)
      (starts d))
      (lt_or_le (suc i) j)
  seconds (rule {x = x} d) l = in_more _ _ _ (G.seconds_all x) (seconds d l)
  seconds (label {ds = ds} h g d) l = in_left _ ds _ g
  seconds (other {ds = ds} d) l = in_right _ ds _ (seconds d l)

  -- a token of a set without 0 stands inside the list
  pub inside : (ts cs : List ℕ) (i : ℕ) → mem 0 cs ≡ false → mem (get_or ts i 0) cs ≡ true → i < length ts
  inside ts cs i z h =
      ⊎_elim (λ (l : i < length ts). l)
      (λ (l : length ts ≤ i). absurd (false≢true (sym z ∙ (rw (get_or-eq_default ts 0 l) at h))))
      (lt_or_le i (length ts))
