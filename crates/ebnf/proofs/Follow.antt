-- The parse of ts goes the way of each derivation over us, as far as the tokens of the two are the same.
use mathlib.Core.Bool.{Bool, true, false, ◌&&◌, cond, false≢true, and-false}
use mathlib.Core.List.{List}
use mathlib.Core.Logic.{◌⊎◌, inl, inr, ⊎_elim}
use mathlib.Core.Path.{◌≡◌, refl, sym, ap, ◌∙◌}
use Prim.Native.Nat.{ℕ, zero, suc, ◌≤◌, ◌<◌}
use native.Mathlib.Nat.{le_refl}
use native.Mathlib.Omega.{arith}
use lib.ListN.{get_or}
use Rattle.ebnf.specs.Set.{mem}
use Rattle.ebnf.specs.Grammar.{Ebnf, none, mark, step, seq, alt, star, fork, nt, Actions, Derives, nothing, marked, token, both, left, right, stop, more, label, other, rule}
use Rattle.ebnf.specs.Parse.{nullable, Tables, first, after, second, Result, at, refused, starved, bind, descend}
use Rattle.ebnf.proofs.Sets.{and_split, or_split, not_in, in_left, in_right, apart, apart', in_more, out_more, lt_or_le, in_rest, in_cases, in_cond, in_nothing}
use Rattle.ebnf.proofs.Derivations.{Same}
use Rattle.ebnf.proofs.Predictive.{Ok, Predictive}
use Rattle.ebnf.proofs.Lookahead.{starts, eats, seconds}

-- The result lies at i or behind it.
abbrev Past : {W : Type 0} → ℕ → Result W → Type 0
Past i (at j s) = i ≤ j
Past i (refused k) = i ≤ k
Past i starved = Unit {0}

past_more : {W : Type 0} → (i j : ℕ) → i ≤ j → (x : Result W) → Past j x → Past i x
past_more i j l (at k s) p = omega arith
past_more i j l (refused k) p = omega arith
past_more i j l starved p = tt

past_bind : {W : Type 0} → (i : ℕ) (x : Result W) (k : ℕ → W → Result W) → Past i x → ((j : ℕ) (s : W) → Past j (k j s)) → Past i (bind x k)
past_bind i (at j s) k p f = past_more i j p (k j s) (f j s)
past_bind i (refused j) k p f = p
past_bind i starved k p f = tt

past_cond : {W : Type 0} → (i : ℕ) (b : Bool) (x y : Result W) → Past i x → Past i y → Past i (cond b x y)
past_cond i true x y p q = p
past_cond i false x y p q = q

module _ (A : Actions) {N : Type 0} (rules : N → Ebnf N) (T : Tables N) (ts : List ℕ) where
  -- the parse never goes back
  pub onward : (n : ℕ) (e : Ebnf N) (i : ℕ) (r : A.Value) → Past i (descend A rules T ts n e i r)
  unfolding descend
  onward zero e i r = tt
  onward (suc n) none i r = le_refl i
  onward (suc n) (mark m) i r = le_refl i
  onward (suc n) (step m cs a) i r =
      past_cond i (mem (get_or ts i 0) cs) _ _
      (past_bind i (descend A rules T ts n a (suc i) r) _ (past_more i (suc i) (omega arith) (descend A rules T ts n a (suc i) r) (onward n a (suc i) r)) (λ j s. le_refl j))
      (le_refl i)
  onward (suc n) (seq a b) i r = past_bind i (descend A rules T ts n a i r) _ (onward n a i r) (λ j s. onward n b j s)
  onward (suc n) (alt a b) i r = past_cond i (mem (get_or ts i 0) (first T a)) _ _ (onward n a i r) (onward n b i r)
  onward (suc n) (star a) i r =
      past_cond i (mem (get_or ts i 0) (first T a)) _ _
      (past_bind i (descend A rules T ts n a i r) _ (onward n a i r) (λ j s. onward n (star a) j s))
      (le_refl i)
  onward (suc n) (fork m cs ds a b) i r =
      past_cond i (mem (get_or ts i 0) cs && mem (get_or ts (suc i) 0) ds) _ _
      (past_more i (suc (suc i)) (omega arith) (descend A rules T ts n a (suc (suc i)) (A.stamp m i r)) (onward n a (suc (suc i)) (A.stamp m i r)))
      (onward n b i r)
  onward (suc n) (nt x) i r = past_bind i (descend A rules T ts n (rules x) i (A.start i)) _ (onward n (rules x) i (A.start i)) (λ j s. le_refl j)

-- The result takes nothing, and does not refuse.
abbrev Skips : {W : Type 0} → ℕ → Result W → Type 0
Skips i (at j s) = j ≡ i
Skips i (refused k) = ⊥
Skips i starved = Unit {0}

skip_bind : {W : Type 0} → (i : ℕ) (x : Result W) (k : ℕ → W → Result W) (P : Result W → Type 0) → Skips i x → P starved → ((s : W) → P (k i s)) → P (bind x k)
skip_bind i (at j s) k P e p f = rw e (f s)
skip_bind i (refused j) k P e p f = absurd e
skip_bind i starved k P e p f = p

module _ {N : Type 0} {rules : N → Ebnf N} {T : Tables N} (G : Predictive rules T) (A : Actions) (ts : List ℕ) where
  -- what can be empty is empty where no token begins it
  skips : (n : ℕ) (e : Ebnf N) → Ok T e → (i : ℕ) (r : A.Value) → nullable e ≡ true → mem (get_or ts i 0) (first T e) ≡ false → Skips i (descend A rules T ts n e i r)
  unfolding descend
  skips zero e o i r h f = tt
  skips (suc n) none o i r h f = refl
  skips (suc n) (mark m) o i r h f = refl
  skips (suc n) (step m cs a) o i r h f = absurd (false≢true h)
  skips (suc n) (seq a b) o i r h f =
      let p = and_split (nullable a) (nullable b) h in
      let q = not_in _ (first T a) _ f in
      skip_bind i (descend A rules T ts n a i r) (λ j s. descend A rules T ts n b j s) (Skips i) (skips n a o.0 i r p.0 q.0) tt
      (λ s. skips n b o.1 i s p.1 (rw p.0 at q.1))
  skips (suc n) (alt a b) o i r h f =
      let q = not_in _ (first T a) _ f in
      let p : nullable b ≡ true = ⊎_elim (λ (e : nullable a ≡ true). absurd (false≢true (sym o.2 ∙ e))) (λ e. e) (or_split (nullable a) (nullable b) h) in
      rw q.0 (skips n b o.1 i r p q.1)
  skips (suc n) (star a) o i r h f = rw f refl
  skips (suc n) (fork m cs ds a b) o i r h f = absurd (false≢true (sym o.4 ∙ h))
  skips (suc n) (nt x) o i r h f = absurd (false≢true h)

  -- a token that begins the phrase is taken
  bites : (n : ℕ) (e : Ebnf N) → Ok T e → (i : ℕ) (r : A.Value) → mem (get_or ts i 0) (first T e) ≡ true → Past (suc i) (descend A rules T ts n e i r)
  unfolding descend
  bites zero e o i r h = tt
  bites (suc n) none o i r h = absurd (in_nothing _ h)
  bites (suc n) (mark m) o i r h = absurd (in_nothing _ h)
  bites (suc n) (step m cs a) o i r h =
      rw h (past_bind (suc i) (descend A rules T ts n a (suc i) r) _ (onward A rules T ts n a (suc i) r) (λ j s. le_refl j))
  bites (suc n) (seq a b) o i r h = go (mem (get_or ts i 0) (first T a)) refl (bites n a o.0 i r) (λ s. bites n b o.1 i s)
    where
      go : (t : Bool) → mem (get_or ts i 0) (first T a) ≡ t →
          (mem (get_or ts i 0) (first T a) ≡ true → Past (suc i) (descend A rules T ts n a i r)) →
          ((s : A.Value) → mem (get_or ts i 0) (first T b) ≡ true → Past (suc i) (descend A rules T ts n b i s)) →
          Past (suc i) (bind (descend A rules T ts n a i r) (λ j s. descend A rules T ts n b j s))
      go true e f g = past_bind (suc i) (descend A rules T ts n a i r) _ (f e) (λ j s. onward A rules T ts n b j s)
      go false e f g =
          let p = in_cond _ (nullable a) (first T b) (in_rest _ (first T a) _ e h) in
          skip_bind i (descend A rules T ts n a i r) (λ j s. descend A rules T ts n b j s) (Past (suc i)) (skips n a o.0 i r p.0 e) tt (λ s. g s p.1)
  bites (suc n) (alt a b) o i r h = go (mem (get_or ts i 0) (first T a)) refl (bites n a o.0 i r) (bites n b o.1 i r)
    where
      go : (t : Bool) → mem (get_or ts i 0) (first T a) ≡ t →
          (mem (get_or ts i 0) (first T a) ≡ true → Past (suc i) (descend A rules T ts n a i r)) →
          (mem (get_or ts i 0) (first T b) ≡ true → Past (suc i) (descend A rules T ts n b i r)) →
          Past (suc i) (cond t (descend A rules T ts n a i r) (descend A rules T ts n b i r))
      go true e f g = f e
      go false e f g = g (in_rest _ (first T a) _ e h)
  bites (suc n) (star a) o i r h =
      rw h (past_bind (suc i) (descend A rules T ts n a i r) _ (bites n a o.0 i r h) (λ j s. onward A rules T ts n (star a) j s))
  bites (suc n) (fork m cs ds a b) o i r h =
      past_cond (suc i) (mem (get_or ts i 0) cs && mem (get_or ts (suc i) 0) ds) _ _
      (past_more (suc i) (suc (suc i)) (omega arith) (descend A rules T ts n a (suc (suc i)) (A.stamp m i r)) (onward A rules T ts n a (suc (suc i)) (A.stamp m i r)))
      (bites n b o.1 i r (⊎_elim (λ e. in_more _ cs _ o.5 e) (λ e. e) (in_cases _ cs (first T b) h)))
  bites (suc n) (nt x) o i r h =
      past_bind (suc i) (descend A rules T ts n (rules x) i (A.start i)) _ (bites n (rules x) (G.ok x) i (A.start i) (in_more _ _ _ (G.begins_only x) h)) (λ j s. le_refl j)

-- The result is the derivation's, or lies at M or behind it.
abbrev pub Good : {W : Type 0} → ℕ → ℕ → W → Result W → Type 0
Good M j s (at k t) = ((k ≡ j) × (t ≡ s)) ⊎ (M ≤ k)
Good M j s (refused k) = M ≤ k
Good M j s starved = Unit {0}

far : {W : Type 0} → (M i j : ℕ) (s : W) → M ≤ i → (x : Result W) → Past i x → Good M j s x
far M i j s l (at k t) p = inr (omega arith)
far M i j s l (refused k) p = omega arith
far M i j s l starved p = tt

good_map : {W : Type 0} → (M j : ℕ) (s : W) (f : W → W) (x : Result W) → Good M j s x → Good M j (f s) (bind x (λ k t. at k (f t)))
good_map M j s f (at k t) (inl e) = inl (e.0, ap f e.1)
good_map M j s f (at k t) (inr l) = inr l
good_map M j s f (refused k) l = l
good_map M j s f starved u = tt

good_bind : {W : Type 0} → (M j k : ℕ) (s t : W) (f : ℕ → W → Result W) → ((l : ℕ) (u : W) → Past l (f l u)) → Good M k t (f j s) →
    (x : Result W) → Good M j s x → Good M k t (bind x f)
good_bind M j k s t f p g (at l u) (inl e) = rw (e.0, e.1) g
good_bind M j k s t f p g (at l u) (inr h) = far M l k t h (f l u) (p l u)
good_bind M j k s t f p g (refused l) h = h
good_bind M j k s t f p g starved h = tt

module _ {N : Type 0} {rules : N → Ebnf N} {T : Tables N} (G : Predictive rules T) (A : Actions) (ts us : List ℕ) (M : ℕ) (same : Same ts us M) where
  near : (n : ℕ) (e : Ebnf N) (i : ℕ) (r : A.Value) (j : ℕ) (s : A.Value) →
      (i < M → Good M j s (descend A rules T ts n e i r)) → Good M j s (descend A rules T ts n e i r)
  near n e i r j s f = ⊎_elim f (λ l. far M i j s l (descend A rules T ts n e i r) (onward A rules T ts n e i r)) (lt_or_le i M)

  -- where two tokens decide
  near₂ : (n : ℕ) (e : Ebnf N) → Ok T e → (i : ℕ) (r : A.Value) (j : ℕ) (s : A.Value) → mem (get_or us i 0) (first T e) ≡ true →
      (i < M → suc i < M → Good M j s (descend A rules T ts n e i r)) → Good M j s (descend A rules T ts n e i r)
  near₂ n e o i r j s h f =
      near n e i r j s
      (λ l.
      ⊎_elim (λ (k : suc i < M). f l k)
      (λ (k : M ≤ suc i). far M (suc i) j s k (descend A rules T ts n e i r) (bites G A ts n e o i r (rw (same i l) h)))
      (lt_or_le (suc i) M))

  -- a phrase before b is not made longer by what b begins with, nor, where b is empty, by what follows
  seam : (b : Ebnf N) (l : List ℕ) {j k : ℕ} {s t : A.Value} → Derives A rules us b j s k t →
      (mem (get_or us j 0) (first T b) ≡ true → mem (get_or us j 0) l ≡ false) →
      (nullable b ≡ true → mem (get_or us k 0) l ≡ false) → mem (get_or us j 0) l ≡ false
  seam b l d f g = ⊎_elim (λ h. f h.0) (λ h. rw h.1 (g h.0)) (starts G d)

  pub follow : {e : Ebnf N} {i j : ℕ} {r s : A.Value} → Derives A rules us e i r j s → Ok T e → mem (get_or us j 0) (after T e) ≡ false →
      (n : ℕ) → Good M j s (descend A rules T ts n e i r)
  unfolding descend
  follow nothing o c zero = tt
  follow nothing o c (suc n) = inl (refl, refl)
  follow marked o c zero = tt
  follow marked o c (suc n) = inl (refl, refl)
  follow (token h d) o c zero = tt
  follow (token {m = m} {cs = cs} {a = a} {i = i} {j = j} {r = r} {s = s} h d) o c (suc n) =
      near (suc n) (step m cs a) i r j (A.stamp m i s)
      (λ l. rw (same i l, h) (good_map M j s (A.stamp m i) (descend A rules T ts n a (suc i) r) (follow d o.0 c n)))
  follow (both d e) o c zero = tt
  follow (both {a = a} {b = b} {i = i} {j = j} {k = k} {r = r} {s = s} {t = t} d e) o c (suc n) =
      let q = not_in _ (after T b) _ c in
      good_bind M j k s t (λ l u. descend A rules T ts n b l u) (λ l u. onward A rules T ts n b l u) (follow e o.1 q.0 n)
      (descend A rules T ts n a i r)
      (follow d o.0 (seam b (after T a) e (λ h. apart' _ (after T a) _ o.2 h) (λ h. rw h at q.1)) n)
  follow (left d) o c zero = tt
  follow (left {a = a} {b = b} {i = i} {j = j} {r = r} {s = s} d) o c (suc n) =
      near (suc n) (alt a b) i r j s
      (λ l. rw (same i l, (eats G d o.2).0) (follow d o.0 (not_in _ (after T a) _ c).0 n))
  follow (right d) o c zero = tt
  follow (right {a = a} {b = b} {i = i} {j = j} {r = r} {s = s} d) o c (suc n) =
      let q = not_in _ (after T b) _ (not_in _ (after T a) _ c).1 in
      let f : mem (get_or us i 0) (first T a) ≡ false =
      seam b (first T a) d (λ h. apart' _ (first T a) _ o.3 h) (λ h. rw h at q.1) in
      near (suc n) (alt a b) i r j s (λ l. rw (same i l, f) (follow d o.1 q.0 n))
  follow stop o c zero = tt
  follow (stop {a = a} {i = i} {r = r}) o c (suc n) =
      near (suc n) (star a) i r i r (λ l. rw (same i l, (not_in _ (first T a) _ c).0) (inl (refl, refl)))
  follow (more d e) o c zero = tt
  follow (more {a = a} {i = i} {j = j} {k = k} {r = r} {s = s} {t = t} d e) o c (suc n) =
      near (suc n) (star a) i r k t
      (λ l.
      rw (same i l, (eats G d o.1).0)
      (good_bind M j k s t (λ l u. descend A rules T ts n (star a) l u) (λ l u. onward A rules T ts n (star a) l u) (follow e o c n)
      (descend A rules T ts n a i r)
      (follow d o.0 (seam (star a) (after T a) e (λ h. apart' _ (after T a) _ o.2 h) (λ h. (not_in _ (first T a) _ c).1)) n)))
  follow (label h g d) o c zero = tt
  follow (label {m = m} {cs = cs} {ds = ds} {a = a} {b = b} {i = i} {j = j} {r = r} {s = s} h g d) o c (suc n) =
      near₂ (suc n) (fork m cs ds a b) o i r j s (in_left _ cs _ h)
      (λ l k. rw (same i l, same (suc i) k, h, g) (follow d o.0 (not_in _ (after T a) _ c).0 n))
  follow (other d) o c zero = tt
  follow (other {m = m} {cs = cs} {ds = ds} {a = a} {b = b} {i = i} {j = j} {r = r} {s = s} d) o c (suc n) =
      let q = not_in _ (after T b) _ (not_in _ (after T a) _ c).1 in
      let p = eats G d o.4 in
      let f : mem (get_or us (suc i) 0) ds ≡ false =
      ⊎_elim (λ (l : suc i < j). apart _ (second T b) ds o.6 (seconds G d l))
      (λ (l : j ≤ suc i). let t = p.1 in let e : suc i ≡ j = omega arith in rw e q.1) (lt_or_le (suc i) j) in
      near₂ (suc n) (fork m cs ds a b) o i r j s (in_right _ cs _ p.0)
      (λ l k. rw (same (suc i) k, f, and-false (mem (get_or ts i 0) cs)) (follow d o.1 q.0 n))
  follow (rule d) o c zero = tt
  follow (rule {x = x} {i = i} {j = j} {r = r} {s = s} d) o c (suc n) =
      good_map M j s (λ t. A.join r t) (descend A rules T ts n (rules x) i (A.start i)) (follow d (G.ok x) (out_more _ _ _ (G.goes_on_all x) c) n)
