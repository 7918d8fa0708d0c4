-- The parse of a checked grammar is exact: it accepts just the texts, with their values, and refuses at the first token that cannot stand.
use mathlib.Core.Bool.{Bool, true, false, cond}
use mathlib.Core.List.{List, ◌++◌}
use mathlib.Core.Logic.{inl, inr, ⊎_elim, ◌↔◌, ◌≢◌}
use mathlib.Core.Path.{◌≡◌, refl, sym, ap, ◌∙◌}
use Prim.Native.Nat.{ℕ, suc, ◌+◌}
use native.Mathlib.Nat.{le_refl}
use native.Mathlib.Omega.{arith}
use lib.Dec.{eqb}
use lib.ListN.{length, get_or, take, get_or-eq_default, length-take}
use lib.Seq.{take-take, length-take-le, get_or-take, take_at}
use borrow.Author.Tests.{eqb-true, eq-eqb, eqb-false}
use Rattle.ebnf.specs.Grammar.{Ebnf, nt, Actions, Text, Begins, Stuck}
use Rattle.ebnf.specs.Parse.{Tables, Result, at, refused, starved, descend, budget, accepted, refused_at, verdict, parse}
use Rattle.ebnf.proofs.Derivations.{Same, move}
use Rattle.ebnf.proofs.Predictive.{Predictive}
use Rattle.ebnf.proofs.Sound.{Right, right_at}
use Rattle.ebnf.proofs.Follow.{Good, follow}
use Rattle.ebnf.proofs.Fuel.{Fed, fed}

same_of_take : (ts us : List ℕ) (n : ℕ) → take n us ≡ take n ts → Same ts us n
same_of_take ts us n e m l = sym (get_or-take n ts m 0 l) ∙ (ap (λ (v : List ℕ). get_or v m 0) (sym e) ∙ get_or-take n us m 0 l)

module _ {N : Type 0} {rules : N → Ebnf N} {T : Tables N} (G : Predictive rules T) (A : Actions) (x : N) where
  -- the result that the verdict reads, with what is known of it
  the_result : List ℕ → Result A.Value
  the_result ts = descend A rules T ts (budget T.bound ts 0 + T.depth x) (nt x) 0 (A.start 0)

  result_right : (ts : List ℕ) → Right A rules ts (nt x) 0 (A.start 0) (the_result ts)
  unfolding the_result
  result_right ts = right_at G A ts _ (nt x) tt 0 (A.start 0) (omega arith)

  result_fed : (ts : List ℕ) → Fed (the_result ts)
  unfolding the_result
  result_fed ts = fed G A ts _ (nt x) tt 0 (A.start 0) (omega arith) (le_refl _)

  result_follows : (ts us : List ℕ) (M : ℕ) → Same ts us M → (s : A.Value) → Text A rules x us s → Good M (length us) s (the_result ts)
  unfolding the_result
  result_follows ts us M e s d =
      follow G A ts us M e d tt (rw (get_or-eq_default us 0 (le_refl (length us))) (G.ends x)) _

  parse_is : (ts : List ℕ) → parse A rules T x ts ≡ verdict (length ts) (the_result ts)
  unfolding parse the_result
  parse_is ts = refl

  -- (a) what is accepted is derived
  sound_at : (ts : List ℕ) (s : A.Value) (a : Result A.Value) → Right A rules ts (nt x) 0 (A.start 0) a → verdict (length ts) a ≡ accepted s → Text A rules x ts s
  sound_at ts s (at j t) d e = go (eqb j (length ts)) refl e
    where
      go : (b : Bool) → eqb j (length ts) ≡ b → cond b (accepted t) (refused_at j) ≡ accepted s → Text A rules x ts s
      go true q h =
          let e₁ : t ≡ s = cc in
          let e₂ = eqb-true j (length ts) q in
          rw (e₁, e₂) at d.0
      go false q h = let z : ◌≡◌ {A = ℕ} 0 1 = cc in absurd (omega arith)
  sound_at ts s (refused k) d e = let z : ◌≡◌ {A = ℕ} 0 1 = cc in absurd (omega arith)
  sound_at ts s starved d e = let z : ◌≡◌ {A = ℕ} 0 1 = cc in absurd (omega arith)

  pub sound : (ts : List ℕ) (s : A.Value) → parse A rules T x ts ≡ accepted s → Text A rules x ts s
  sound ts s e = sound_at ts s (the_result ts) (result_right ts) (sym (parse_is ts) ∙ e)

  -- (b) what is derived is accepted, with its rows
  full_at : (ts : List ℕ) (s : A.Value) (a : Result A.Value) → Right A rules ts (nt x) 0 (A.start 0) a → Fed a → Good (suc (length ts)) (length ts) s a → verdict (length ts) a ≡ accepted s
  full_at ts s (at j t) d f (inl e) = rw (e.0, eq-eqb (length ts) (length ts) refl, e.1)
  full_at ts s (at j t) d f (inr l) = let u = d.1 in absurd (omega arith)
  full_at ts s (refused k) p f l = let u = p.upto in absurd (omega arith)
  full_at ts s starved p f l = absurd f

  pub complete : (ts : List ℕ) (s : A.Value) → Text A rules x ts s → parse A rules T x ts ≡ accepted s
  complete ts s d =
      parse_is ts ∙ full_at ts s (the_result ts) (result_right ts) (result_fed ts) (result_follows ts ts (suc (length ts)) (λ m l. refl) s d)

  pub unique : (ts : List ℕ) (s t : A.Value) → Text A rules x ts s → Text A rules x ts t → s ≡ t
  unique ts s t d e = let p = complete ts s d in let q = complete ts t e in cc

  pub accepted_iff : (ts : List ℕ) (s : A.Value) → (parse A rules T x ts ≡ accepted s) ↔ Text A rules x ts s
  accepted_iff ts s = (sound ts s, complete ts s)

  -- (c) a refusal stands at the first token that cannot stand there: the tokens before it can be completed, and those with it cannot
  begins_at : (ts : List ℕ) (k : ℕ) (a : Result A.Value) → Right A rules ts (nt x) 0 (A.start 0) a → Fed a → verdict (length ts) a ≡ refused_at k → Begins A rules x ts k
  begins_at ts k (at j t) d f e = go (eqb j (length ts)) refl e
    where
      go : (b : Bool) → eqb j (length ts) ≡ b → cond b (accepted t) (refused_at j) ≡ refused_at k → Begins A rules x ts k
      go true q h = let z : ◌≡◌ {A = ℕ} 0 1 = cc in absurd (omega arith)
      go false q h =
          let e₁ : j ≡ k = cc in
          rw (← e₁)
          (take j ts, take-take j j ts (le_refl j), t, rw (length-take-le j ts d.1) (move d.0 (λ m l. sym (get_or-take j ts m 0 l))))
  begins_at ts k (refused l) p f e =
      let e₁ : l ≡ k = cc in
      rw (← e₁)
      (take l ts ++ p.rest, take_at (take l ts) p.rest l (length-take-le l ts p.upto), p.rows, p.whole)
  begins_at ts k starved p f e = absurd f

  pub begins_there : (ts : List ℕ) (k : ℕ) → parse A rules T x ts ≡ refused_at k → Begins A rules x ts k
  begins_there ts k e = begins_at ts k (the_result ts) (result_right ts) (result_fed ts) (sym (parse_is ts) ∙ e)

  stuck_at : (ts us : List ℕ) (k : ℕ) (s : A.Value) → take (suc k) us ≡ take (suc k) ts → (a : Result A.Value) → Right A rules ts (nt x) 0 (A.start 0) a → Fed a →
      Good (suc k) (length us) s a → verdict (length ts) a ≡ refused_at k → ⊥
  stuck_at ts us k s e (at j t) d f g h = go (eqb j (length ts)) refl h
    where
      go : (b : Bool) → eqb j (length ts) ≡ b → cond b (accepted t) (refused_at j) ≡ refused_at k → ⊥
      go true q h = let z : ◌≡◌ {A = ℕ} 0 1 = cc in absurd (omega arith)
      go false q h =
          let e₁ : j ≡ k = cc in
          let u = d.1 in
          let v : j ≢ length ts = λ w. eqb-false j (length ts) q w in
          let w = ap length e in
          ⊎_elim (λ g. let y = g.0 in omega (arith, w, length-take (suc k) us, length-take (suc k) ts)) (λ l. omega arith) g
  stuck_at ts us k s e (refused l) p f g h = let e₁ : l ≡ k = cc in omega arith
  stuck_at ts us k s e starved p f g h = absurd f

  pub stuck : (ts : List ℕ) (k : ℕ) → parse A rules T x ts ≡ refused_at k → ¬ (Begins A rules x ts (suc k))
  stuck ts k e v =
      stuck_at ts v.0 k v.2 v.1 (the_result ts) (result_right ts) (result_fed ts)
      (result_follows ts v.0 (suc k) (same_of_take ts v.0 (suc k) v.1) v.2 v.3) (sym (parse_is ts) ∙ e)

  -- A REFUSAL stands at the first token that cannot stand
  pub refused_stuck : (ts : List ℕ) (k : ℕ) → parse A rules T x ts ≡ refused_at k → Stuck A rules x ts k
  refused_stuck ts k e = (begins_there ts k e, stuck ts k e)
