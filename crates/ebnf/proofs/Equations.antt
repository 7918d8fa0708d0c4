-- The parse without fuel: an equation for each construct.
use mathlib.Core.Bool.{Bool, true, false, ◌&&◌, cond}
use mathlib.Core.List.{List}
use mathlib.Core.Logic.{⊎_elim}
use mathlib.Core.Path.{◌≡◌, refl, sym, ap, ◌∙◌}
use Prim.Native.Nat.{ℕ, zero, suc, ◌+◌, ◌≤◌, ◌<◌}
use native.Mathlib.Nat.{le_refl}
use native.Mathlib.Omega.{arith}
use lib.ListN.{length, get_or}
use Rattle.ebnf.specs.Set.{mem}
use Rattle.ebnf.specs.Grammar.{Mark, Ebnf, none, mark, step, seq, alt, star, fork, nt, Actions, Derives}
use Rattle.ebnf.specs.Parse.{Tables, first, depth_of, Result, at, refused, starved, bind, descend, budget}
use Rattle.ebnf.specs.Descent.{parsed as parsed_by}
use Rattle.ebnf.proofs.Sets.{and_split, lt_or_le}
use Rattle.ebnf.proofs.Predictive.{Ok, Predictive}
use Rattle.ebnf.proofs.Lookahead.{eats, inside}
use Rattle.ebnf.proofs.Sound.{Right, right_at}
use Rattle.ebnf.proofs.Fuel.{Fed, budget_less, seq_left, seq_fuel, fed}

bind_grow : {W : Type 0} → (x x' : Result W) (k k' : ℕ → W → Result W) → (Fed x → x' ≡ x) → ((j : ℕ) (s : W) → Fed (k j s) → k' j s ≡ k j s) →
    Fed (bind x k) → bind x' k' ≡ bind x k
bind_grow (at j s) x' k k' f g h = rw (f tt) (g j s h)
bind_grow (refused j) x' k k' f g h = rw (f tt)
bind_grow starved x' k k' f g h = absurd h

cond_grow : {W : Type 0} → (b : Bool) (x x' y y' : Result W) → (Fed x → x' ≡ x) → (Fed y → y' ≡ y) → Fed (cond b x y) → cond b x' y' ≡ cond b x y
cond_grow true x x' y y' f g h = f h
cond_grow false x x' y y' f g h = g h

module _ (A : Actions) {N : Type 0} (rules : N → Ebnf N) (T : Tables N) (ts : List ℕ) where
  -- one more fuel changes no result
  one_more : (n : ℕ) (e : Ebnf N) (i : ℕ) (r : A.Value) → Fed (descend A rules T ts n e i r) → descend A rules T ts (suc n) e i r ≡ descend A rules T ts n e i r
  unfolding descend
  one_more zero e i r h = absurd h
  one_more (suc n) none i r h = refl
  one_more (suc n) (mark m) i r h = refl
  one_more (suc n) (step m cs a) i r h =
      cond_grow (mem (get_or ts i 0) cs) _ _ (refused i) (refused i)
      (bind_grow (descend A rules T ts n a (suc i) r) (descend A rules T ts (suc n) a (suc i) r) (λ j s. at j (A.stamp m i s)) (λ j s. at j (A.stamp m i s))
      (one_more n a (suc i) r) (λ j s h. refl))
      (λ h. refl) h
  one_more (suc n) (seq a b) i r h =
      bind_grow (descend A rules T ts n a i r) (descend A rules T ts (suc n) a i r) (λ j s. descend A rules T ts n b j s) (λ j s. descend A rules T ts (suc n) b j s)
      (one_more n a i r) (λ j s. one_more n b j s) h
  one_more (suc n) (alt a b) i r h =
      cond_grow (mem (get_or ts i 0) (first T a)) _ _ _ _ (one_more n a i r) (one_more n b i r) h
  one_more (suc n) (star a) i r h =
      cond_grow (mem (get_or ts i 0) (first T a)) _ _ (at i r) (at i r)
      (bind_grow (descend A rules T ts n a i r) (descend A rules T ts (suc n) a i r) (λ j s. descend A rules T ts n (star a) j s) (λ j s. descend A rules T ts (suc n) (star a) j s)
      (one_more n a i r) (λ j s. one_more n (star a) j s))
      (λ h. refl) h
  one_more (suc n) (fork m cs ds a b) i r h =
      cond_grow (mem (get_or ts i 0) cs && mem (get_or ts (suc i) 0) ds) _ _ _ _ (one_more n a (suc (suc i)) (A.stamp m i r)) (one_more n b i r) h
  one_more (suc n) (nt x) i r h =
      bind_grow (descend A rules T ts n (rules x) i (A.start i)) (descend A rules T ts (suc n) (rules x) i (A.start i)) (λ j s. at j (A.join r s)) (λ j s. at j (A.join r s))
      (one_more n (rules x) i (A.start i)) (λ j s h. refl) h

  pub more_fuel : (m n : ℕ) (e : Ebnf N) (i : ℕ) (r : A.Value) → n ≤ m → Fed (descend A rules T ts n e i r) → descend A rules T ts m e i r ≡ descend A rules T ts n e i r
  more_fuel zero n e i r l h = let p : n ≡ zero = omega arith in rw p
  more_fuel (suc m) n e i r l h =
      ⊎_elim
      (λ (q : m < n). let p : n ≡ suc m = omega arith in rw p)
      (λ (q : n ≤ m).
      let p = more_fuel m n e i r q h in
      one_more m e i r (rw p h) ∙ p)
      (lt_or_le m n)

module _ {N : Type 0} {rules : N → Ebnf N} {T : Tables N} (G : Predictive rules T) (A : Actions) (ts : List ℕ) where
  -- the result at i, whatever the fuel, if it is enough
  abbrev pub parsed : Ebnf N → ℕ → A.Value → Result A.Value
  parsed = parsed_by A rules T ts

  enough : (n : ℕ) (e : Ebnf N) → Ok T e → (i : ℕ) (r : A.Value) → i ≤ length ts → budget T.bound ts i + depth_of T e ≤ n →
      descend A rules T ts n e i r ≡ parsed e i r
  unfolding parsed_by
  enough n e o i r l f = more_fuel A rules T ts n _ e i r f (fed G A ts _ e o i r l (le_refl _))

  -- with one fuel to spare
  spare : (e : Ebnf N) → Ok T e → (i : ℕ) (r : A.Value) → i ≤ length ts →
      parsed e i r ≡ descend A rules T ts (suc (budget T.bound ts i + depth_of T e)) e i r
  spare e o i r l = sym (enough _ e o i r l (omega arith))

  pub parsed_none : (i : ℕ) (r : A.Value) → i ≤ length ts → parsed none i r ≡ at i r
  unfolding descend
  parsed_none i r l = spare none tt i r l

  pub parsed_mark : (m : Mark) (i : ℕ) (r : A.Value) → i ≤ length ts → parsed (mark m) i r ≡ at i (A.close m r)
  unfolding descend
  parsed_mark m i r l = spare (mark m) tt i r l

  pub parsed_step : (m : Mark) (cs : List ℕ) (a : Ebnf N) → Ok T (step m cs a) → (i : ℕ) (r : A.Value) → i ≤ length ts →
      parsed (step m cs a) i r ≡ cond (mem (get_or ts i 0) cs) (bind (parsed a (suc i) r) (λ j s. at j (A.stamp m i s))) (refused i)
  unfolding descend
  parsed_step m cs a o i r l = spare (step m cs a) o i r l ∙ go (mem (get_or ts i 0) cs) refl
    where
      n : ℕ
      n = budget T.bound ts i + 1

      go : (b : Bool) → mem (get_or ts i 0) cs ≡ b →
          cond b (bind (descend A rules T ts n a (suc i) r) (λ j s. at j (A.stamp m i s))) (refused i) ≡
          cond b (bind (parsed a (suc i) r) (λ j s. at j (A.stamp m i s))) (refused i)
      go true h =
          let q = inside G ts cs i o.1 h in
          let p = budget_less T.bound ts i (suc i) (le_refl (suc i)) q in
          let d = o.3 in
          rw (enough n a o.0 (suc i) r q (omega arith))
      go false h = refl

  pub parsed_nt : (x : N) (i : ℕ) (r : A.Value) → i ≤ length ts → parsed (nt x) i r ≡ bind (parsed (rules x) i (A.start i)) (λ j s. at j (A.join r s))
  unfolding descend
  parsed_nt x i r l =
      let d = G.deeper x in
      spare (nt x) tt i r l ∙ rw (enough (budget T.bound ts i + T.depth x) (rules x) (G.ok x) i (A.start i) l (omega arith))

  pub parsed_alt : (a b : Ebnf N) → Ok T (alt a b) → (i : ℕ) (r : A.Value) → i ≤ length ts →
      parsed (alt a b) i r ≡ cond (mem (get_or ts i 0) (first T a)) (parsed a i r) (parsed b i r)
  unfolding descend
  parsed_alt a b o i r l =
      let n = budget T.bound ts i + depth_of T (alt a b) in
      spare (alt a b) o i r l ∙ rw (enough n a o.0 i r l (omega arith), enough n b o.1 i r l (omega arith))

  -- two phrases: what the first comes to, and then the second
  then_at : (a b : Ebnf N) (n i : ℕ) (r : A.Value) (x : Result A.Value) → Right A rules ts a i r x →
      ((j : ℕ) (s : A.Value) → Derives A rules ts a i r j s → j ≤ length ts → descend A rules T ts n b j s ≡ parsed b j s) →
      bind x (λ j s. descend A rules T ts n b j s) ≡ bind x (λ j s. parsed b j s)
  then_at a b n i r (at j s) d f = f j s d.0 d.1
  then_at a b n i r (refused k) d f = refl
  then_at a b n i r starved d f = refl

  pub parsed_right : (e : Ebnf N) → Ok T e → (i : ℕ) (r : A.Value) → i ≤ length ts → Right A rules ts e i r (parsed e i r)
  unfolding parsed_by
  parsed_right e o i r l = right_at G A ts _ e o i r l

  pub parsed_seq : (a b : Ebnf N) → Ok T (seq a b) → (i : ℕ) (r : A.Value) → i ≤ length ts →
      parsed (seq a b) i r ≡ bind (parsed a i r) (λ j s. parsed b j s)
  unfolding descend
  parsed_seq a b o i r l =
      let n = budget T.bound ts i + depth_of T (seq a b) in
      let p = seq_left G A ts a b in
      spare (seq a b) o i r l
      ∙ (rw (enough n a o.0 i r l (omega arith))
      (then_at a b n i r (parsed a i r) (parsed_right a o.0 i r l) (λ j s d u. enough n b o.1 j s u (seq_fuel G A ts a b n d u o.3 (omega arith)))))

  pub parsed_star : (a : Ebnf N) → Ok T (star a) → (i : ℕ) (r : A.Value) → i ≤ length ts →
      parsed (star a) i r ≡ cond (mem (get_or ts i 0) (first T a)) (bind (parsed a i r) (λ j s. parsed (star a) j s)) (at i r)
  unfolding descend
  parsed_star a o i r l =
      let n = budget T.bound ts i + depth_of T (star a) in
      let d = o.3 in
      spare (star a) o i r l
      ∙ (rw (enough n a o.0 i r l (omega arith))
      (ap (λ (x : Result A.Value). cond (mem (get_or ts i 0) (first T a)) x (at i r))
      (then_at a (star a) n i r (parsed a i r) (parsed_right a o.0 i r l)
      (λ j s g u. let p = budget_less T.bound ts i j (eats G g o.1).1 u in enough n (star a) o j s u (omega arith)))))

  pub parsed_fork : (m : Mark) (cs ds : List ℕ) (a b : Ebnf N) → Ok T (fork m cs ds a b) → (i : ℕ) (r : A.Value) → i ≤ length ts →
      parsed (fork m cs ds a b) i r ≡ cond (mem (get_or ts i 0) cs && mem (get_or ts (suc i) 0) ds) (parsed a (suc (suc i)) (A.stamp m i r)) (parsed b i r)
  unfolding descend
  parsed_fork m cs ds a b o i r l =
      spare (fork m cs ds a b) o i r l ∙ rw (enough n b o.1 i r l (omega arith)) (go (mem (get_or ts i 0) cs && mem (get_or ts (suc i) 0) ds) refl)
    where
      n : ℕ
      n = budget T.bound ts i + suc (depth_of T b)

      go : (t : Bool) → (mem (get_or ts i 0) cs && mem (get_or ts (suc i) 0) ds) ≡ t →
          cond t (descend A rules T ts n a (suc (suc i)) (A.stamp m i r)) (parsed b i r) ≡ cond t (parsed a (suc (suc i)) (A.stamp m i r)) (parsed b i r)
      go true h =
          let p = and_split (mem (get_or ts i 0) cs) _ h in
          let q = inside G ts ds (suc i) o.3 p.1 in
          let b = budget_less T.bound ts i (suc (suc i)) (omega arith) q in
          let d = o.7 in
          enough n a o.0 (suc (suc i)) (A.stamp m i r) q (omega arith)
      go false h = refl

  pub parsed_fed : (e : Ebnf N) → Ok T e → (i : ℕ) (r : A.Value) → i ≤ length ts → Fed (parsed e i r)
  unfolding parsed_by
  parsed_fed e o i r l = fed G A ts _ e o i r l (le_refl _)
