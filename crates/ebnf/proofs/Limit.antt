-- The parse with a limit on nesting says, of the whole list, just what holds.
use mathlib.Core.Bool.{Bool, true, false, ◌&&◌, cond, false≢true}
use mathlib.Core.List.{List, [], ◌∷◌}
use mathlib.Core.Logic.{⊎_elim, ◌↔◌}
use mathlib.Core.Option.{Option, some, none as nowhere}
use mathlib.Core.Path.{◌≡◌, refl, sym, ap, ◌∙◌, subst}
use Prim.Native.Nat.{ℕ, zero, suc, ◌≤◌, ◌<◌}
use native.Mathlib.Nat.{le_refl}
use native.Mathlib.Omega.{arith}
use lib.Dec.{leb}
use lib.ListN.{take}
use lib.Seq.{take-take}
use borrow.Author.Tests.{leb-true, leb-false}
use Rattle.ebnf.specs.Set.{mem}
use Rattle.ebnf.specs.Grammar.{Ebnf, Actions, Text, Begins, Stuck}
use Rattle.ebnf.specs.Parse.{Tables, Verdict, accepted, refused_at, parse}
use Rattle.ebnf.specs.Depth.{next, opened, DeepFrom, Deep, first_deep, Outcome, good, unexpected, too_deep, uncut, cut_at, outcome_to, outcome, Says}
use Rattle.ebnf.proofs.Sets.{and_split, lt_or_le}
use Rattle.ebnf.proofs.Predictive.{Predictive}
use Rattle.ebnf.proofs.Exact.{sound, unique, refused_stuck}

-- ---- of refusals, in terms of the grammar alone

module _ (A : Actions) {N : Type 0} (rules : N → Ebnf N) (x : N) where
  begins_less : (ts : List ℕ) (n m : ℕ) → n ≤ m → Begins A rules x ts m → Begins A rules x ts n
  begins_less ts n m l v = (v.0, sym (take-take n m v.0 l) ∙ (ap (take n) v.1 ∙ take-take n m ts l), v.2, v.3)

  begins_whole : (ts : List ℕ) (s : A.Value) (n : ℕ) → Text A rules x ts s → Begins A rules x ts n
  begins_whole ts s n d = (ts, refl, s, d)

  -- up to m, the first m tokens are as good as all of them
  to_take : (ts : List ℕ) (n m : ℕ) → n ≤ m → Begins A rules x ts n → Begins A rules x (take m ts) n
  to_take ts n m l v = (v.0, v.1 ∙ sym (take-take n m ts l), v.2, v.3)

  of_take : (ts : List ℕ) (n m : ℕ) → n ≤ m → Begins A rules x (take m ts) n → Begins A rules x ts n
  of_take ts n m l v = (v.0, v.1 ∙ take-take n m ts l, v.2, v.3)

  stuck_of_take : (ts : List ℕ) (j m : ℕ) → j < m → Stuck A rules x (take m ts) j → Stuck A rules x ts j
  stuck_of_take ts j m l p = (of_take ts j m (omega arith) p.0, λ v. p.1 (to_take ts (suc j) m l v))

  stuck_not_before : (ts : List ℕ) (j k : ℕ) → Stuck A rules x ts j → Begins A rules x ts k → k ≤ j
  stuck_not_before ts j k p v = ⊎_elim (λ (l : j < k). absurd (p.1 (begins_less ts (suc j) k l v))) (λ l. l) (lt_or_le j k)

  -- the place is one
  pub stuck_once : (ts : List ℕ) (j k : ℕ) → Stuck A rules x ts j → Stuck A rules x ts k → j ≡ k
  stuck_once ts j k p q =
      let a = stuck_not_before ts j k p q.0 in
      let b = stuck_not_before ts k j q p.0 in
      omega arith

-- ---- the first token too deep

module _ (opening closing : List ℕ) (limit : ℕ) where
  abbrev Deep' : ℕ → List ℕ → ℕ → Type 0
  Deep' = DeepFrom opening closing limit

  abbrev IsFirst : ℕ → List ℕ → Option ℕ → Type 0
  IsFirst d ts (some k) = Deep' d ts k × ((m : ℕ) → m < k → ¬ (Deep' d ts m))
  IsFirst d ts nowhere = (m : ℕ) → ¬ (Deep' d ts m)

  abbrev then_open : ℕ → ℕ → ℕ
  then_open = opened opening closing

  later : (d c : ℕ) (ts : List ℕ) → ¬ (Deep' d (c ∷ ts) 0) → (o : Option ℕ) → IsFirst (then_open d c) ts o → IsFirst d (c ∷ ts) (next o)
  later d c ts n (some k) p = (p.0, before)
    where
      before : (m : ℕ) → m < suc k → ¬ (Deep' d (c ∷ ts) m)
      before zero l = n
      before (suc m) l = p.1 m (omega arith)
  later d c ts n nowhere p = never
    where
      never : (m : ℕ) → ¬ (Deep' d (c ∷ ts) m)
      never zero = n
      never (suc m) = p m

  first_deep_is : mem 0 opening ≡ false → (d : ℕ) (ts : List ℕ) → IsFirst d ts (first_deep opening closing limit d ts)
  unfolding first_deep
  first_deep_is z d [] = λ m h. false≢true (sym z ∙ h.0)
  first_deep_is z d (c ∷ ts) = go (first_deep_is z (then_open d c) ts) (mem c opening && leb limit d) refl
    where
      go : IsFirst (then_open d c) ts (first_deep opening closing limit (then_open d c) ts) → (b : Bool) → (mem c opening && leb limit d) ≡ b →
          IsFirst d (c ∷ ts) (cond b (some 0) (next (first_deep opening closing limit (then_open d c) ts)))
      go f true e = let p = and_split (mem c opening) _ e in ((p.0, leb-true _ _ p.1), λ m l. absurd (omega arith))
      go f false e =
          later d c ts
          (λ h. let q : leb limit d ≡ false = (rw h.0 at e) in let r = leb-false limit d q in let t = h.1 in omega arith)
          (first_deep opening closing limit (then_open d c) ts) f

-- ---- the outcome

module _ {N : Type 0} {rules : N → Ebnf N} {T : Tables N} (G : Predictive rules T) (A : Actions) (x : N) (opening closing : List ℕ) (limit : ℕ) where
  abbrev Said : List ℕ → Outcome A.Value → Type 0
  Said = Says A rules x opening closing limit

  abbrev Deep'' : List ℕ → ℕ → Type 0
  Deep'' = Deep opening closing limit

  say_uncut : (ts : List ℕ) → ((m : ℕ) → ¬ (Deep'' ts m)) → (v : Verdict A.Value) → parse A rules T x ts ≡ v → Said ts (uncut v)
  say_uncut ts n (accepted s) e = (sound G A x ts s e, n)
  say_uncut ts n (refused_at j) e = (refused_stuck G A x ts j e, λ m l. n m)

  say_cut : (ts : List ℕ) (k : ℕ) → Deep'' ts k → ((m : ℕ) → m < k → ¬ (Deep'' ts m)) → (v : Verdict A.Value) →
      parse A rules T x (take (suc k) ts) ≡ v → Said ts (cut_at k v)
  say_cut ts k h n (accepted s) e =
      ((of_take A rules x ts (suc k) (suc k) (le_refl _) (begins_whole A rules x _ s (suc k) (sound G A x _ s e)), h), n)
  say_cut ts k h n (refused_at j) e = go (leb j k) refl
    where
      go : (b : Bool) → leb j k ≡ b → Said ts (cond b (unexpected j) (too_deep k))
      go true q =
          let l = leb-true j k q in
          (stuck_of_take A rules x ts j (suc k) (omega arith) (refused_stuck G A x _ j e), λ m h. n m (omega arith))
      go false q =
          let l = leb-false j k q in
          let b = begins_less A rules x _ (suc k) j (omega arith) (refused_stuck G A x _ j e).0 in
          ((of_take A rules x ts (suc k) (suc k) (le_refl _) b, h), n)

  -- what the parse says holds
  pub says : mem 0 opening ≡ false → (ts : List ℕ) → Said ts (outcome A rules T x opening closing limit ts)
  says z ts = go (first_deep opening closing limit 0 ts) (first_deep_is opening closing limit z 0 ts)
    where
      go : (o : Option ℕ) → IsFirst opening closing limit 0 ts o → Said ts (outcome_to A rules T x o ts)
      go nowhere p = say_uncut ts p (parse A rules T x ts) refl
      go (some k) p = say_cut ts k p.0 p.1 (parse A rules T x (take (suc k) ts)) refl

  -- a list that is stuck at j, with no token before it too deep, has no token k too deep up to which it begins a text
  apart_places : (ts : List ℕ) (j k : ℕ) → Said ts (unexpected j) → Said ts (too_deep k) → ⊥
  apart_places ts j k a b =
      let l = stuck_not_before A rules x ts j (suc k) a.0 b.0.0 in
      a.1 k (omega arith) b.0.1

  -- only one outcome says what holds
  pub says_once : (ts : List ℕ) (o p : Outcome A.Value) → Said ts o → Said ts p → o ≡ p
  says_once ts (good s) (good t) a b = ap good (unique G A x ts s t a.0 b.0)
  says_once ts (good s) (unexpected j) a b = absurd (b.0.1 (begins_whole A rules x ts s (suc j) a.0))
  says_once ts (good s) (too_deep k) a b = absurd (a.1 k b.0.1)
  says_once ts (unexpected j) (good t) a b = absurd (a.0.1 (begins_whole A rules x ts t (suc j) b.0))
  says_once ts (unexpected j) (unexpected k) a b = ap unexpected (stuck_once A rules x ts j k a.0 b.0)
  says_once ts (unexpected j) (too_deep k) a b = absurd (apart_places ts j k a b)
  says_once ts (too_deep k) (good t) a b = absurd (b.1 k a.0.1)
  says_once ts (too_deep k) (unexpected j) a b = absurd (apart_places ts j k b a)
  says_once ts (too_deep j) (too_deep k) a b =
      ap too_deep
      (⊎_elim (λ (l : j < k). absurd (b.1 j l a.0.1))
      (λ (l : k ≤ j). ⊎_elim (λ (h : k < j). absurd (a.1 k h b.0.1)) (λ (h : j ≤ k). omega arith) (lt_or_le k j)) (lt_or_le j k))

  -- THE OUTCOME IS WHAT HOLDS, and nothing else
  pub outcome_iff : mem 0 opening ≡ false → (ts : List ℕ) (o : Outcome A.Value) → (outcome A rules T x opening closing limit ts ≡ o) ↔ Said ts o
  outcome_iff z ts o = (λ e. subst (Said ts) e (says z ts), λ p. says_once ts _ o (says z ts) p)
