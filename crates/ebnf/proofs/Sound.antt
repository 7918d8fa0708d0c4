-- What the parse comes to is right: a phrase that is accepted is derived, and what stands before a refusal can be completed.
use mathlib.Core.Bool.{Bool, true, false, ◌&&◌, cond}
use mathlib.Core.List.{List, ◌++◌, append_assoc}
use mathlib.Core.Path.{◌≡◌, refl, sym, ◌∙◌}
use Prim.Native.Nat.{ℕ, zero, suc, ◌≤◌, ◌<◌}
use native.Mathlib.Nat.{le_refl}
use native.Mathlib.Omega.{arith}
use lib.ListN.{length, get_or, take, get_or-append}
use lib.Seq.{length-take-le, get_or-take}
use Rattle.ebnf.specs.Set.{mem}
use Rattle.ebnf.specs.Grammar.{Mark, Ebnf, none, mark, step, seq, alt, star, fork, nt, Actions, Derives, nothing, marked, token, both, left, right, stop, more, label, other, rule}
use Rattle.ebnf.specs.Parse.{Tables, first, Result, at, refused, starved, bind, descend}
use Rattle.ebnf.proofs.Sets.{and_split}
use Rattle.ebnf.proofs.Derivations.{Same, mono, move, same_append}
use Rattle.ebnf.proofs.Predictive.{Ok, Predictive, complete}
use Rattle.ebnf.proofs.Lookahead.{inside}

module _ (A : Actions) {N : Type 0} (rules : N → Ebnf N) (ts : List ℕ) where
  -- The tokens before k, and then some others, are a phrase of e from i on.
  pub record Partial (e : Ebnf N) (i : ℕ) (r : A.Value) (k : ℕ) : Type 0 where
    pub rest : List ℕ
    pub rows : A.Value
    pub whole : Derives A rules (take k ts ++ rest) e i r (length (take k ts ++ rest)) rows
    pub from : i ≤ k
    pub upto : k ≤ length ts

  -- What a result claims.
  abbrev pub Right : Ebnf N → ℕ → A.Value → Result A.Value → Type 0
  Right e i r (at j s) = Derives A rules ts e i r j s × (j ≤ length ts)
  Right e i r (refused k) = Partial e i r k
  Right e i r starved = Unit {0}

-- tokens before k are those of the completion
same_take : (ts w : List ℕ) (k : ℕ) → k ≤ length ts → Same ts (take k ts ++ w) k
same_take ts w k u m l =
    sym (get_or-append (take k ts) w 0 m (rw (length-take-le k ts u) l) ∙ get_or-take k ts m 0 l)

pub cond_cases : {W : Type 0} (P : Result W → Type 0) (b : Bool) (x y : Result W) → (b ≡ true → P x) → (b ≡ false → P y) → P (cond b x y)
cond_cases P true x y f g = f refl
cond_cases P false x y f g = g refl

module _ {N : Type 0} {rules : N → Ebnf N} {T : Tables N} (G : Predictive rules T) (A : Actions) (ts : List ℕ) where
  -- the phrase stops short at i itself
  short : (e : Ebnf N) → Ok T e → (i : ℕ) (r : A.Value) → i ≤ length ts → Partial A rules ts e i r i
  short e o i r l =
      let c = complete G e o A (take i ts) r in
      record {
        rest = c.0;
        rows = c.1;
        whole = rw (length-take-le i ts l) at c.2;
        from = le_refl i;
        upto = l;
      }

  right_step : (m : Mark) (cs : List ℕ) (a : Ebnf N) (i : ℕ) (r : A.Value) → mem (get_or ts i 0) cs ≡ true → i < length ts →
      (x : Result A.Value) → Right A rules ts a (suc i) r x → Right A rules ts (step m cs a) i r (bind x (λ j s. at j (A.stamp m i s)))
  right_step m cs a i r h l (at j s) d = (token h d.0, d.1)
  right_step m cs a i r h l (refused k) p =
      let q = p.from in
      record {
        rest = p.rest;
        rows = A.stamp m i p.rows;
        whole = token {i = i} (rw (same_take ts p.rest k p.upto i q) at h) p.whole;
        from = omega arith;
        upto = p.upto;
      }
  right_step m cs a i r h l starved u = tt

  -- a phrase before a phrase
  before : (e a b : Ebnf N) (i j : ℕ) (r s : A.Value) →
      ((us : List ℕ) (k : ℕ) (t : A.Value) → Derives A rules us a i r j s → Derives A rules us b j s k t → Derives A rules us e i r k t) →
      Derives A rules ts a i r j s → (x : Result A.Value) → Right A rules ts b j s x → Right A rules ts e i r x
  before e a b i j r s f d (at k t) g = (f ts k t d g.0, g.1)
  before e a b i j r s f d (refused k) p =
      let q = p.from in
      let m = mono d in
      record {
        rest = p.rest;
        rows = p.rows;
        whole = f _ _ _ (move d (λ n l. same_take ts p.rest k p.upto n (omega arith))) p.whole;
        from = omega arith;
        upto = p.upto;
      }
  before e a b i j r s f d starved u = tt

  -- two phrases, of which the first may stop short
  right_then : (e a b : Ebnf N) (i : ℕ) (r : A.Value) → Ok T b →
      ((us : List ℕ) (j k : ℕ) (s t : A.Value) → Derives A rules us a i r j s → Derives A rules us b j s k t → Derives A rules us e i r k t) →
      (k : ℕ → A.Value → Result A.Value) → ((j : ℕ) (s : A.Value) → j ≤ length ts → Right A rules ts b j s (k j s)) →
      (x : Result A.Value) → Right A rules ts a i r x → Right A rules ts e i r (bind x k)
  right_then e a b i r o f k g (at j s) d = before e a b i j r s (λ us m t. f us j m s t) d.0 (k j s) (g j s d.1)
  right_then e a b i r o f k g (refused n) p =
      let c = complete G b o A (take n ts ++ p.rest) p.rows in
      record {
        rest = p.rest ++ c.0;
        rows = c.1;
        whole = rw append_assoc at (f _ _ _ _ _ (move p.whole (same_append (take n ts ++ p.rest) c.0)) c.2);
        from = p.from;
        upto = p.upto;
      }
  right_then e a b i r o f k g starved u = tt

  right_nt : (x : N) (i : ℕ) (r : A.Value) (y : Result A.Value) → Right A rules ts (rules x) i (A.start i) y → Right A rules ts (nt x) i r (bind y (λ j s. at j (A.join r s)))
  right_nt x i r (at j s) d = (rule d.0, d.1)
  right_nt x i r (refused k) p =
      record { rest = p.rest; rows = A.join r p.rows; whole = rule p.whole; from = p.from; upto = p.upto }
  right_nt x i r starved u = tt

  -- what left and right do to a claim
  right_same : (e a : Ebnf N) (i : ℕ) (r : A.Value) →
      ((us : List ℕ) (j : ℕ) (s : A.Value) → Derives A rules us a i r j s → Derives A rules us e i r j s) →
      (x : Result A.Value) → Right A rules ts a i r x → Right A rules ts e i r x
  right_same e a i r f (at j s) d = (f ts j s d.0, d.1)
  right_same e a i r f (refused k) p =
      record { rest = p.rest; rows = p.rows; whole = f _ _ _ p.whole; from = p.from; upto = p.upto }
  right_same e a i r f starved u = tt

  right_label : (m : Mark) (cs ds : List ℕ) (a b : Ebnf N) (i : ℕ) (r : A.Value) → mem (get_or ts i 0) cs ≡ true → mem (get_or ts (suc i) 0) ds ≡ true →
      (x : Result A.Value) → Right A rules ts a (suc (suc i)) (A.stamp m i r) x → Right A rules ts (fork m cs ds a b) i r x
  right_label m cs ds a b i r h g (at j s) d = (label h g d.0, d.1)
  right_label m cs ds a b i r h g (refused k) p =
      let q = p.from in
      record {
        rest = p.rest;
        rows = p.rows;
        whole =
            label (rw (same_take ts p.rest k p.upto i (omega arith)) at h) (rw (same_take ts p.rest k p.upto (suc i) q) at g) p.whole;
        from = omega arith;
        upto = p.upto;
      }
  right_label m cs ds a b i r h g starved u = tt

  -- WHAT THE PARSE COMES TO IS RIGHT
  pub right_at : (n : ℕ) (e : Ebnf N) → Ok T e → (i : ℕ) (r : A.Value) → i ≤ length ts → Right A rules ts e i r (descend A rules T ts n e i r)
  unfolding descend
  right_at zero e o i r l = tt
  right_at (suc n) none o i r l = (nothing, l)
  right_at (suc n) (mark m) o i r l = (marked, l)
  right_at (suc n) (step m cs a) o i r l =
      cond_cases (Right A rules ts (step m cs a) i r) (mem (get_or ts i 0) cs) _ _
      (λ h. let q = inside G ts cs i o.1 h in right_step m cs a i r h q (descend A rules T ts n a (suc i) r) (right_at n a o.0 (suc i) r q))
      (λ h. short (step m cs a) o i r l)
  right_at (suc n) (seq a b) o i r l =
      right_then (seq a b) a b i r o.1 (λ us j k s t d g. both d g) (λ j s. descend A rules T ts n b j s) (λ j s q. right_at n b o.1 j s q)
      (descend A rules T ts n a i r) (right_at n a o.0 i r l)
  right_at (suc n) (alt a b) o i r l =
      cond_cases (Right A rules ts (alt a b) i r) (mem (get_or ts i 0) (first T a)) _ _
      (λ h. right_same (alt a b) a i r (λ us j s d. left d) (descend A rules T ts n a i r) (right_at n a o.0 i r l))
      (λ h. right_same (alt a b) b i r (λ us j s d. right d) (descend A rules T ts n b i r) (right_at n b o.1 i r l))
  right_at (suc n) (star a) o i r l =
      cond_cases (Right A rules ts (star a) i r) (mem (get_or ts i 0) (first T a)) _ _
      (λ h.
      right_then (star a) a (star a) i r o (λ us j k s t d g. more d g) (λ j s. descend A rules T ts n (star a) j s) (λ j s q. right_at n (star a) o j s q)
      (descend A rules T ts n a i r) (right_at n a o.0 i r l))
      (λ h. (stop, l))
  right_at (suc n) (fork m cs ds a b) o i r l =
      cond_cases (Right A rules ts (fork m cs ds a b) i r) (mem (get_or ts i 0) cs && mem (get_or ts (suc i) 0) ds) _ _
      (λ h.
      let p = and_split (mem (get_or ts i 0) cs) _ h in
      right_label m cs ds a b i r p.0 p.1 (descend A rules T ts n a (suc (suc i)) (A.stamp m i r))
      (right_at n a o.0 (suc (suc i)) (A.stamp m i r) (inside G ts ds (suc i) o.3 p.1)))
      (λ h. right_same (fork m cs ds a b) b i r (λ us j s d. other d) (descend A rules T ts n b i r) (right_at n b o.1 i r l))
  right_at (suc n) (nt x) o i r l = right_nt x i r (descend A rules T ts n (rules x) i (A.start i)) (right_at n (rules x) (G.ok x) i (A.start i) l)
