-- What the check comes to: lookahead decides in each rule, and each phrase can be completed.
use mathlib.Core.Bool.{true, false, false≢true, not}
use mathlib.Core.List.{List, [], ◌∷◌, ◌++◌, append_assoc, append-nil}
use mathlib.Core.Logic.{⊎_elim}
use mathlib.Core.Path.{◌≡◌, refl, ap}
use Prim.Native.Nat.{ℕ, zero, suc, ◌≤◌, ◌<◌}
use lib.Dec.{ltb}
use lib.ListN.{length, get_or}
use lib.Seq.{get_or-append_seam, append_snoc}
use borrow.Author.Tests.{leb-true, not-true, ltb-true}
use Rattle.ebnf.specs.Set.{mem, disjoint, subset}
use Rattle.ebnf.specs.Grammar.{Mark, Ebnf, none, mark, step, seq, alt, star, fork, nt, Actions, Derives, nothing, marked, token, both, left, right, stop, other, rule}
use Rattle.ebnf.specs.Parse.{nullable, Tables, first, after, second, depth_of}
use Rattle.ebnf.specs.Check.{ok, productive, passes}
use Rattle.ebnf.proofs.Sets.{and_split, or_split}
use Rattle.ebnf.proofs.Derivations.{move, same_append}

module _ {N : Type 0} (rules : N → Ebnf N) where
  -- Whatever stands before it, some tokens behind it are a phrase of e.
  abbrev pub Completes : Ebnf N → Type 1
  Completes e =
      (A : Actions) (x : List ℕ) (r : A.Value) → (w : List ℕ) × (s : A.Value) × Derives A rules (x ++ w) e (length x) r (length (x ++ w)) s

-- Lookahead decides in e, and e is not deeper than the bound: the test `ok` of Check.antt as facts.
abbrev pub Ok : {N : Type 0} → Tables N → Ebnf N → Type 0
Ok T none = Unit {0}
Ok T (mark m) = Unit {0}
Ok T (step m cs a) = Ok T a × (mem 0 cs ≡ false) × (mem (get_or cs 0 0) cs ≡ true) × (depth_of T a ≤ T.bound)
Ok T (seq a b) = Ok T a × Ok T b × (disjoint (after T a) (first T b) ≡ true) × (depth_of T b ≤ T.bound)
Ok T (alt a b) = Ok T a × Ok T b × (nullable a ≡ false) × (disjoint (first T a) (first T b) ≡ true)
Ok T (star a) = Ok T a × (nullable a ≡ false) × (disjoint (after T a) (first T a) ≡ true) × (suc (depth_of T a) ≤ T.bound)
Ok T (fork m cs ds a b) =
    Ok T a × Ok T b × (mem 0 cs ≡ false) × (mem 0 ds ≡ false) × (nullable b ≡ false) × (subset cs (first T b) ≡ true)
    × (disjoint (second T b) ds ≡ true) × (depth_of T a ≤ T.bound)
Ok T (nt x) = Unit {0}

-- A grammar that passes the check.
pub record Predictive {N : Type 0} (rules : N → Ebnf N) (T : Tables N) : Type 1 where
  pub ok : (x : N) → Ok T (rules x)
  pub full : (x : N) → nullable (rules x) ≡ false
  pub begins_all : (x : N) → subset (first T (rules x)) (T.begins x) ≡ true
  pub begins_only : (x : N) → subset (T.begins x) (first T (rules x)) ≡ true
  pub seconds_all : (x : N) → subset (second T (rules x)) (T.seconds x) ≡ true
  pub goes_on_all : (x : N) → subset (after T (rules x)) (T.goes_on x) ≡ true
  pub ends : (x : N) → mem 0 (T.goes_on x) ≡ false
  pub deeper : (x : N) → depth_of T (rules x) < T.depth x
  pub completes : (x : N) → Completes rules (nt x)

-- ---- each phrase can be completed

length_snoc : (x : List ℕ) (c : ℕ) → length (x ++ (c ∷ [])) ≡ suc (length x)
length_snoc [] c = refl
length_snoc (a ∷ x) c = ap suc (length_snoc x c)

module _ {N : Type 0} (rules : N → Ebnf N) where
  done : (e : Ebnf N) (f : (A : Actions) → A.Value → A.Value) →
      ((A : Actions) (ts : List ℕ) (i : ℕ) (r : A.Value) → Derives A rules ts e i r i (f A r)) → Completes rules e
  done e f d A x r = ([], f A r, rw (append-nil x) (d A x (length x) r))

  by_step : (m : Mark) (cs : List ℕ) (a : Ebnf N) → mem (get_or cs 0 0) cs ≡ true → Completes rules a → Completes rules (step m cs a)
  by_step m cs a h f A x r =
      let c = get_or cs 0 0 in
      let p = f A (x ++ (c ∷ [])) r in
      let d = rw (length_snoc x c, append_snoc x c p.0) at p.2 in
      (c ∷ p.0, A.stamp m (length x) p.1, token {cs = cs} {i = length x} (rw (get_or-append_seam x c p.0 0) h) d)

  by_seq : (a b : Ebnf N) → Completes rules a → Completes rules b → Completes rules (seq a b)
  by_seq a b f g A x r =
      let p = f A x r in
      let q = g A (x ++ p.0) p.1 in
      (p.0 ++ q.0, q.1, rw append_assoc at (both (move p.2 (same_append (x ++ p.0) q.0)) q.2))

  by_left : (a b : Ebnf N) → Completes rules a → Completes rules (alt a b)
  by_left a b f A x r = let p = f A x r in (p.0, p.1, left p.2)

  by_right : (a b : Ebnf N) → Completes rules b → Completes rules (alt a b)
  by_right a b f A x r = let p = f A x r in (p.0, p.1, right p.2)

  by_other : (m : Mark) (cs ds : List ℕ) (a b : Ebnf N) → Completes rules b → Completes rules (fork m cs ds a b)
  by_other m cs ds a b f A x r = let p = f A x r in (p.0, p.1, other p.2)

  by_rule : (x : N) → Completes rules (rules x) → Completes rules (nt x)
  by_rule x f A y r = let p = f A y (A.start (length y)) in (p.0, A.join r p.1, rule p.2)

  -- what is found productive completes
  by_depth : (T : Tables N) → ((x : N) → Ok T (rules x)) → (n : ℕ) (e : Ebnf N) → Ok T e → productive rules n e ≡ true → Completes rules e
  unfolding productive
  by_depth T k zero e o h = absurd (false≢true h)
  by_depth T k (suc n) none o h = done none (λ A r. r) (λ A ts i r. nothing)
  by_depth T k (suc n) (mark m) o h = done (mark m) (λ A r. A.close m r) (λ A ts i r. marked)
  by_depth T k (suc n) (step m cs a) o h = by_step m cs a o.2 (by_depth T k n a o.0 h)
  by_depth T k (suc n) (seq a b) o h =
      let p = and_split (productive rules n a) _ h in by_seq a b (by_depth T k n a o.0 p.0) (by_depth T k n b o.1 p.1)
  by_depth T k (suc n) (alt a b) o h =
      ⊎_elim (λ e. by_right a b (by_depth T k n b o.1 e)) (λ e. by_left a b (by_depth T k n a o.0 e)) (or_split (productive rules n b) _ h)
  by_depth T k (suc n) (star a) o h = done (star a) (λ A r. r) (λ A ts i r. stop)
  by_depth T k (suc n) (fork m cs ds a b) o h = by_other m cs ds a b (by_depth T k n b o.1 h)
  by_depth T k (suc n) (nt x) o h = by_rule x (by_depth T k n (rules x) (k x) h)

-- e can always be completed
pub complete : {N : Type 0} {rules : N → Ebnf N} {T : Tables N} → Predictive rules T → (e : Ebnf N) → Ok T e → Completes rules e
complete G none o = done _ none (λ A r. r) (λ A ts i r. nothing)
complete G (mark m) o = done _ (mark m) (λ A r. A.close m r) (λ A ts i r. marked)
complete G (step m cs a) o = by_step _ m cs a o.2 (complete G a o.0)
complete G (seq a b) o = by_seq _ a b (complete G a o.0) (complete G b o.1)
complete G (alt a b) o = by_right _ a b (complete G b o.1)
complete G (star a) o = done _ (star a) (λ A r. r) (λ A ts i r. stop)
complete G (fork m cs ds a b) o = by_other _ m cs ds a b (complete G b o.1)
complete G (nt x) o = G.completes x

-- ---- from the test

module _ {N : Type 0} (T : Tables N) where
  pub ok_of : (e : Ebnf N) → ok T e ≡ true → Ok T e
  ok_of none h = tt
  ok_of (mark m) h = tt
  ok_of (step m cs a) h =
      let p = and_split (ok T a) _ h in let q = and_split (not (mem 0 cs)) _ p.1 in let r = and_split (mem (get_or cs 0 0) cs) _ q.1 in
      (ok_of a p.0, not-true _ q.0, r.0, leb-true _ _ r.1)
  ok_of (seq a b) h =
      let p = and_split (ok T a) _ h in let q = and_split (ok T b) _ p.1 in let r = and_split (disjoint (after T a) (first T b)) _ q.1 in
      (ok_of a p.0, ok_of b q.0, r.0, leb-true _ _ r.1)
  ok_of (alt a b) h =
      let p = and_split (ok T a) _ h in let q = and_split (ok T b) _ p.1 in let r = and_split (not (nullable a)) _ q.1 in
      (ok_of a p.0, ok_of b q.0, not-true _ r.0, r.1)
  ok_of (star a) h =
      let p = and_split (ok T a) _ h in let q = and_split (not (nullable a)) _ p.1 in
      let r = and_split (disjoint (after T a) (first T a)) _ q.1 in
      (ok_of a p.0, not-true _ q.0, r.0, leb-true _ _ r.1)
  ok_of (fork m cs ds a b) h =
      let p = and_split (ok T a) _ h in let q = and_split (ok T b) _ p.1 in let c = and_split (not (mem 0 cs)) _ q.1 in
      let d = and_split (not (mem 0 ds)) _ c.1 in let e = and_split (not (nullable b)) _ d.1 in
      let f = and_split (subset cs (first T b)) _ e.1 in let g = and_split (disjoint (second T b) ds) _ f.1 in
      (ok_of a p.0, ok_of b q.0, not-true _ c.0, not-true _ d.0, not-true _ e.0, f.0, g.0, leb-true _ _ g.1)
  ok_of (nt x) h = tt

module _ {N : Type 0} (rules : N → Ebnf N) (T : Tables N) (n : ℕ) where
  -- the parts of the test of a rule
  record Passed (x : N) : Type 0 where
    ok : Ok T (rules x)
    full : nullable (rules x) ≡ false
    begins_all : subset (first T (rules x)) (T.begins x) ≡ true
    begins_only : subset (T.begins x) (first T (rules x)) ≡ true
    seconds_all : subset (second T (rules x)) (T.seconds x) ≡ true
    goes_on_all : subset (after T (rules x)) (T.goes_on x) ≡ true
    ends : mem 0 (T.goes_on x) ≡ false
    deeper : depth_of T (rules x) < T.depth x
    makes : productive rules n (rules x) ≡ true

  passed : (x : N) → passes rules T n x ≡ true → Passed x
  unfolding passes
  passed x h =
      let a = and_split (ok T (rules x)) _ h in
      let b = and_split (not (nullable (rules x))) _ a.1 in
      let c = and_split (subset (first T (rules x)) (T.begins x)) _ b.1 in
      let d = and_split (subset (T.begins x) (first T (rules x))) _ c.1 in
      let e = and_split (subset (second T (rules x)) (T.seconds x)) _ d.1 in
      let f = and_split (subset (after T (rules x)) (T.goes_on x)) _ e.1 in
      let g = and_split (not (mem 0 (T.goes_on x))) _ f.1 in
      let k = and_split (ltb (depth_of T (rules x)) (T.depth x)) _ g.1 in
      record {
        ok = ok_of T (rules x) a.0;
        full = not-true _ b.0;
        begins_all = c.0;
        begins_only = d.0;
        seconds_all = e.0;
        goes_on_all = f.0;
        ends = not-true _ g.0;
        deeper = ltb-true _ _ k.0;
        makes = k.1;
      }

  -- THE CHECK SUFFICES
  pub predictive : ((x : N) → passes rules T n x ≡ true) → Predictive rules T
  predictive h =
      record {
        ok = λ x. (passed x (h x)).ok;
        full = λ x. (passed x (h x)).full;
        begins_all = λ x. (passed x (h x)).begins_all;
        begins_only = λ x. (passed x (h x)).begins_only;
        seconds_all = λ x. (passed x (h x)).seconds_all;
        goes_on_all = λ x. (passed x (h x)).goes_on_all;
        ends = λ x. (passed x (h x)).ends;
        deeper = λ x. (passed x (h x)).deeper;
        completes = λ x. by_rule rules x (by_depth rules T (λ y. (passed y (h y)).ok) n (rules x) (passed x (h x)).ok (passed x (h x)).makes);
      }
