-- With fuel for each token left, and for the depth before the next token, the parse comes to a result.
use mathlib.Core.Bool.{true, ◌&&◌}
use mathlib.Core.List.{List}
use mathlib.Core.Logic.{⊎_elim}
use mathlib.Core.Path.{◌≡◌}
use Prim.Native.Nat.{ℕ, zero, suc, ◌+◌, ◌-◌, ◌≤◌, ◌<◌, ◌*◌}
use native.Mathlib.Nat.{le_refl, mul-le-mul_right}
use native.Mathlib.Omega.{arith}
use lib.ListN.{length, get_or}
use Rattle.ebnf.specs.Set.{mem}
use Rattle.ebnf.specs.Grammar.{Ebnf, none, mark, step, seq, alt, star, fork, nt, Actions, Derives}
use Rattle.ebnf.specs.Parse.{nullable, Tables, first, depth_of, Result, at, refused, starved, bind, descend, budget}
use Rattle.ebnf.proofs.Sets.{and_split}
use Rattle.ebnf.proofs.Derivations.{mono}
use Rattle.ebnf.proofs.Predictive.{Ok, Predictive}
use Rattle.ebnf.proofs.Lookahead.{starts, eats, inside}
use Rattle.ebnf.proofs.Sound.{Right, cond_cases, right_at}

abbrev pub Fed : {W : Type 0} → Result W → Type 0
Fed (at j s) = Unit {0}
Fed (refused k) = Unit {0}
Fed starved = ⊥

pub budget_less : (B : ℕ) (ts : List ℕ) (i j : ℕ) → i < j → j ≤ length ts → budget B ts j + B ≤ budget B ts i
unfolding budget
budget_less B ts i j l u =
    let p : suc (length ts - j) * B ≤ (length ts - i) * B = mul-le-mul_right B (omega arith) in
    omega arith

budget_mono : (B : ℕ) (ts : List ℕ) (i j : ℕ) → i ≤ j → budget B ts j ≤ budget B ts i
unfolding budget
budget_mono B ts i j l = mul-le-mul_right B (omega arith)

module _ {N : Type 0} {rules : N → Ebnf N} {T : Tables N} (G : Predictive rules T) (A : Actions) (ts : List ℕ) where
  fed_bind : (e : Ebnf N) (i : ℕ) (r : A.Value) (k : ℕ → A.Value → Result A.Value) (x : Result A.Value) → Right A rules ts e i r x → Fed x →
      ((j : ℕ) (s : A.Value) → Derives A rules ts e i r j s → j ≤ length ts → Fed (k j s)) → Fed (bind x k)
  fed_bind e i r k (at j s) d f g = g j s d.0 d.1
  fed_bind e i r k (refused j) d f g = tt
  fed_bind e i r k starved d f g = f

  depth_pos : (e : Ebnf N) → 0 < depth_of T e
  depth_pos none = omega arith
  depth_pos (mark m) = omega arith
  depth_pos (step m cs a) = omega arith
  depth_pos (seq a b) = omega arith
  depth_pos (alt a b) = omega arith
  depth_pos (star a) = omega arith
  depth_pos (fork m cs ds a b) = omega arith
  depth_pos (nt x) = let p = G.deeper x in omega arith

  pub seq_left : (a b : Ebnf N) → depth_of T a < depth_of T (seq a b)
  seq_left a b = omega arith

  seq_right : (a b : Ebnf N) → nullable a ≡ true → depth_of T b < depth_of T (seq a b)
  seq_right a b h = rw h (omega arith)

  pub seq_fuel : (a b : Ebnf N) (n : ℕ) {i j : ℕ} {r s : A.Value} → Derives A rules ts a i r j s → j ≤ length ts → depth_of T b ≤ T.bound →
      budget T.bound ts i + depth_of T (seq a b) ≤ suc n → budget T.bound ts j + depth_of T b ≤ n
  seq_fuel a b n {i} {j} g u d f =
      let p = seq_left a b in
      ⊎_elim (λ h. let q = budget_less T.bound ts i j h.1 u in omega arith)
      (λ h. let q = budget_mono T.bound ts i j (mono g) in let k = seq_right a b h.0 in omega arith)
      (starts G g)

  pub fed : (n : ℕ) (e : Ebnf N) → Ok T e → (i : ℕ) (r : A.Value) → i ≤ length ts → budget T.bound ts i + depth_of T e ≤ n →
      Fed (descend A rules T ts n e i r)
  unfolding descend
  fed zero e o i r l f = let p = depth_pos e in absurd (omega arith)
  fed (suc n) none o i r l f = tt
  fed (suc n) (mark m) o i r l f = tt
  fed (suc n) (step m cs a) o i r l f =
      cond_cases Fed (mem (get_or ts i 0) cs) _ _
      (λ h.
      let q = inside G ts cs i o.1 h in
      let b = budget_less T.bound ts i (suc i) (le_refl (suc i)) q in
      let d = o.3 in
      fed_bind a (suc i) r (λ j s. at j (A.stamp m i s)) (descend A rules T ts n a (suc i) r) (right_at G A ts n a o.0 (suc i) r q)
      (fed n a o.0 (suc i) r q (omega arith)) (λ j s d u. tt))
      (λ h. tt)
  fed (suc n) (seq a b) o i r l f =
      let p = seq_left a b in
      let d = o.3 in
      fed_bind a i r (λ j s. descend A rules T ts n b j s) (descend A rules T ts n a i r) (right_at G A ts n a o.0 i r l)
      (fed n a o.0 i r l (omega arith))
      (λ j s g u. fed n b o.1 j s u (seq_fuel a b n g u d f))
  fed (suc n) (alt a b) o i r l f =
      cond_cases Fed (mem (get_or ts i 0) (first T a)) _ _ (λ h. fed n a o.0 i r l (omega arith)) (λ h. fed n b o.1 i r l (omega arith))
  fed (suc n) (star a) o i r l f =
      let d = o.3 in
      cond_cases Fed (mem (get_or ts i 0) (first T a)) _ _
      (λ h.
      fed_bind a i r (λ j s. descend A rules T ts n (star a) j s) (descend A rules T ts n a i r) (right_at G A ts n a o.0 i r l)
      (fed n a o.0 i r l (omega arith))
      (λ j s g u.
      let b = budget_less T.bound ts i j (eats G g o.1).1 u in
      fed n (star a) o j s u (omega arith)))
      (λ h. tt)
  fed (suc n) (fork m cs ds a b) o i r l f =
      cond_cases Fed (mem (get_or ts i 0) cs && mem (get_or ts (suc i) 0) ds) _ _
      (λ h.
      let p = and_split (mem (get_or ts i 0) cs) _ h in
      let q = inside G ts ds (suc i) o.3 p.1 in
      let b = budget_less T.bound ts i (suc (suc i)) (omega arith) q in
      let d = o.7 in
      fed n a o.0 (suc (suc i)) (A.stamp m i r) q (omega arith))
      (λ h. fed n b o.1 i r l (omega arith))
  fed (suc n) (nt x) o i r l f =
      let d = G.deeper x in
      fed_bind (rules x) i (A.start i) (λ j s. at j (A.join r s)) (descend A rules T ts n (rules x) i (A.start i)) (right_at G A ts n (rules x) (G.ok x) i (A.start i) l)
      (fed n (rules x) (G.ok x) i (A.start i) l (omega arith)) (λ j s d u. tt)
