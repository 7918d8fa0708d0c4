-- The parse as recursive descent: what a rule comes to, token by token, in terms of what its nonterminals and repetitions come to. Proofs about
-- readers cite `phrase_walks` and `repeat_walks` (for rows), or `phrase_is` and `repeat_is` (for any value).
use mathlib.Core.Bool.{Bool, true, false, ◌&&◌, cond, false≢true}
use mathlib.Core.List.{List}
use mathlib.Core.Path.{◌≡◌, refl, sym, ap, ◌∙◌, subst}
use Prim.Native.Nat.{ℕ, zero, suc, ◌+◌, ◌≤◌}
use native.Mathlib.Omega.{arith}
use lib.ListN.{length, get_or}
use Rattle.ebnf.specs.Set.{mem}
use Rattle.ebnf.specs.Grammar.{Mark, silent, here, node, leaf, Ebnf, none, mark, step, seq, alt, star, fork, nt, Actions, Derives}
use Rattle.ebnf.specs.Rows.{stamp_name, Rows, in_rows}
use Rattle.ebnf.specs.Parse.{Tables, first, Result, at, refused, starved, bind, descend, verdict, parse}
use Rattle.ebnf.specs.Descent.{parsed as parsed_by, phrase as phrase_of, repeat as repeat_of, run as run_of}
use Rattle.ebnf.proofs.Sets.{and_split}
use Rattle.ebnf.proofs.Derivations.{mono}
use Rattle.ebnf.proofs.Predictive.{Ok, Predictive}
use Rattle.ebnf.proofs.Lookahead.{eats, inside}
use Rattle.ebnf.proofs.Sound.{Right, cond_cases}
use Rattle.ebnf.proofs.Fuel.{Fed}
use Rattle.ebnf.proofs.Equations.{parsed, parsed_none, parsed_mark, parsed_step, parsed_nt, parsed_alt, parsed_right, parsed_seq, parsed_star, parsed_fork, parsed_fed}

bind_at : {W : Type 0} (x : Result W) → bind x (λ j s. at j s) ≡ x
bind_at (at j s) = refl
bind_at (refused k) = refl
bind_at starved = refl

bind_bind : {W : Type 0} (x : Result W) (f k : ℕ → W → Result W) → bind (bind x f) k ≡ bind x (λ j s. bind (f j s) k)
bind_bind (at j s) f k = refl
bind_bind (refused i) f k = refl
bind_bind starved f k = refl

-- the way that a test picks, followed by what comes after
cond_bind : {W : Type 0} (b : Bool) (x y u v : Result W) (k : ℕ → W → Result W) → (b ≡ true → bind x k ≡ u) → (b ≡ false → bind y k ≡ v) →
    bind (cond b x y) k ≡ cond b u v
cond_bind true x y u v k f g = f refl
cond_bind false x y u v k f g = g refl

module _ {N : Type 0} {rules : N → Ebnf N} {T : Tables N} (G : Predictive rules T) (A : Actions) (ts : List ℕ) where
  -- what the rule of x comes to at i; a repetition; and what e comes to at i, with what follows it
  abbrev pub phrase : N → ℕ → Result A.Value
  phrase = phrase_of A rules T ts

  abbrev pub repeat : Ebnf N → ℕ → A.Value → Result A.Value
  repeat = repeat_of A rules T ts

  abbrev pub run : Ebnf N → ℕ → A.Value → (ℕ → A.Value → Result A.Value) → Result A.Value
  run = run_of A rules T ts

  bind_same : (e : Ebnf N) (i : ℕ) (r : A.Value) (x : Result A.Value) → Right A rules ts e i r x → (k l : ℕ → A.Value → Result A.Value) →
      ((j : ℕ) (s : A.Value) → j ≤ length ts → k j s ≡ l j s) → bind x k ≡ bind x l
  bind_same e i r (at j s) d k l h = h j s d.1
  bind_same e i r (refused j) d k l h = refl
  bind_same e i r starved d k l h = refl

  pub runs : (e : Ebnf N) → Ok T e → (i : ℕ) (r : A.Value) → i ≤ length ts → (k : ℕ → A.Value → Result A.Value) → bind (parsed G A ts e i r) k ≡ run e i r k
  unfolding phrase_of repeat_of
  runs none o i r l k = rw (parsed_none G A ts i r l)
  runs (mark m) o i r l k = rw (parsed_mark G A ts m i r l)
  runs (step m cs a) o i r l k =
      ap (λ (x : Result A.Value). bind x k) (parsed_step G A ts m cs a o i r l)
      ∙ cond_bind (mem (get_or ts i 0) cs) _ _ _ _ k
      (λ h. bind_bind (parsed G A ts a (suc i) r) _ k ∙ runs a o.0 (suc i) r (inside G ts cs i o.1 h) (λ j s. k j (A.stamp m i s)))
      (λ h. refl)
  runs (seq a b) o i r l k =
      ap (λ (x : Result A.Value). bind x k) (parsed_seq G A ts a b o i r l)
      ∙ (bind_bind (parsed G A ts a i r) _ k
      ∙ (bind_same a i r (parsed G A ts a i r) (parsed_right G A ts a o.0 i r l) _ (λ j s. run b j s k) (λ j s u. runs b o.1 j s u k)
      ∙ runs a o.0 i r l (λ j s. run b j s k)))
  runs (alt a b) o i r l k =
      ap (λ (x : Result A.Value). bind x k) (parsed_alt G A ts a b o i r l)
      ∙ cond_bind (mem (get_or ts i 0) (first T a)) _ _ _ _ k (λ h. runs a o.0 i r l k) (λ h. runs b o.1 i r l k)
  runs (star a) o i r l k = refl
  runs (fork m cs ds a b) o i r l k =
      ap (λ (x : Result A.Value). bind x k) (parsed_fork G A ts m cs ds a b o i r l)
      ∙ cond_bind (mem (get_or ts i 0) cs && mem (get_or ts (suc i) 0) ds) _ _ _ _ k
      (λ h.
      let p = and_split (mem (get_or ts i 0) cs) _ h in
      runs a o.0 (suc (suc i)) (A.stamp m i r) (inside G ts ds (suc i) o.3 p.1) k)
      (λ h. runs b o.1 i r l k)
  runs (nt x) o i r l k =
      ap (λ (y : Result A.Value). bind y k) (parsed_nt G A ts x i r l) ∙ bind_bind (parsed G A ts (rules x) i (A.start i)) _ k

  -- THE EQUATION OF A NONTERMINAL
  pub phrase_is : (x : N) (i : ℕ) → i ≤ length ts → phrase x i ≡ run (rules x) i (A.start i) (λ j s. at j s)
  unfolding phrase_of
  phrase_is x i l = sym (bind_at (parsed G A ts (rules x) i (A.start i))) ∙ runs (rules x) (G.ok x) i (A.start i) l (λ j s. at j s)

  -- THE EQUATION OF A REPETITION
  pub repeat_is : (a : Ebnf N) → Ok T (star a) → (i : ℕ) (r : A.Value) → i ≤ length ts →
      repeat a i r ≡ cond (mem (get_or ts i 0) (first T a)) (run a i r (λ j s. repeat a j s)) (at i r)
  unfolding repeat_of
  repeat_is a o i r l =
      parsed_star G A ts a o i r l ∙ ap (λ (x : Result A.Value). cond (mem (get_or ts i 0) (first T a)) x (at i r)) (runs a o.0 i r l (λ j s. repeat a j s))

  -- the verdict on a whole list
  pub parse_is : (x : N) → parse A rules T x ts ≡ verdict (length ts) (bind (phrase x 0) (λ j s. at j (A.join (A.start 0) s)))
  unfolding parse phrase_of parsed_by
  parse_is x = ap (verdict (length ts)) (parsed_nt G A ts x 0 (A.start 0) (omega arith))

  -- ---- where a result lies

  -- a result at or after i, within the list; the number is by how much it goes on
  abbrev pub Placed : ℕ → ℕ → Result A.Value → Type 0
  Placed n i (at j s) = (n + i ≤ j) × (j ≤ length ts)
  Placed n i (refused k) = (i ≤ k) × (k ≤ length ts)
  Placed n i starved = ⊥

  placed : (e : Ebnf N) (n i : ℕ) (r : A.Value) (y : Result A.Value) → Right A rules ts e i r y → Fed y →
      ((j : ℕ) (s : A.Value) → Derives A rules ts e i r j s → n + i ≤ j) → Placed n i y
  placed e n i r (at j s) d f g = (g j s d.0, d.1)
  placed e n i r (refused k) d f g = (d.from, d.upto)
  placed e n i r starved d f g = f

  -- a phrase takes at least one token
  pub phrase_placed : (x : N) (i : ℕ) → i ≤ length ts → Placed 1 i (phrase x i)
  unfolding phrase_of
  phrase_placed x i l =
      placed (rules x) 1 i (A.start i) (parsed G A ts (rules x) i (A.start i)) (parsed_right G A ts (rules x) (G.ok x) i (A.start i) l) (parsed_fed G A ts (rules x) (G.ok x) i (A.start i) l)
      (λ j s d. let e = (eats G d (G.full x)).1 in omega (arith, e))

  pub repeat_placed : (a : Ebnf N) → Ok T (star a) → (i : ℕ) (r : A.Value) → i ≤ length ts → Placed 0 i (repeat a i r)
  unfolding repeat_of
  repeat_placed a o i r l =
      placed (star a) 0 i r (parsed G A ts (star a) i r) (parsed_right G A ts (star a) o i r l) (parsed_fed G A ts (star a) o i r l) (λ j s d. let e = mono d in omega (arith, e))

-- ---- the naming token of the rule around

abbrev nameless_mark : Mark → Bool
nameless_mark silent = true
nameless_mark here = false
nameless_mark (node k o) = true
nameless_mark (leaf k o) = true

-- the phrase names no token for the rule's next row
abbrev pub nameless : {N : Type 0} → Ebnf N → Bool
nameless none = true
nameless (mark m) = true
nameless (step m cs a) = nameless_mark m && nameless a
nameless (seq a b) = nameless a && nameless b
nameless (alt a b) = nameless a && nameless b
nameless (star a) = nameless a
nameless (fork m cs ds a b) = nameless_mark m && (nameless a && nameless b)
nameless (nt x) = true

name_stamp : (m : Mark) (i n : ℕ) → nameless_mark m ≡ true → stamp_name m i n ≡ n
name_stamp silent i n h = refl
name_stamp here i n h = absurd (false≢true h)
name_stamp (node k o) i n h = refl
name_stamp (leaf k o) i n h = refl

-- the rows go on under this name, if there are any
abbrev Under : ℕ → Result Rows → Type 0
Under n (at j s) = s.name ≡ n
Under n (refused k) = Unit {0}
Under n starved = Unit {0}

under_bind : (m n : ℕ) (y : Result Rows) (k : ℕ → Rows → Result Rows) → Under m y → ((j : ℕ) (s : Rows) → s.name ≡ m → Under n (k j s)) → Under n (bind y k)
under_bind m n (at j s) k e f = f j s e
under_bind m n (refused i) k e f = tt
under_bind m n starved k e f = tt

under_join : (y : Result Rows) (r : Rows) → Under r.name (bind y (λ j s. at j (in_rows.join r s)))
under_join (at j s) r = refl
under_join (refused i) r = tt
under_join starved r = tt

bind_ext : {W : Type 0} (y : Result W) (k l : ℕ → W → Result W) → ((j : ℕ) (s : W) → k j s ≡ l j s) → bind y k ≡ bind y l
bind_ext (at j s) k l h = h j s
bind_ext (refused i) k l h = refl
bind_ext starved k l h = refl

under_name : (n : ℕ) (y : Result Rows) → Under n y → (k : ℕ → Rows → Result Rows) → bind y k ≡ bind y (λ j s. k j (record { name = n; rows = s.rows }))
under_name n (at j s) e k = ap (λ (m : ℕ). k j (record { name = m; rows = s.rows })) e
under_name n (refused i) e k = refl
under_name n starved e k = refl

module _ {N : Type 0} (rules : N → Ebnf N) (T : Tables N) (ts : List ℕ) where
  name_kept : (n : ℕ) (e : Ebnf N) → nameless e ≡ true → (i : ℕ) (r : Rows) → Under r.name (descend in_rows rules T ts n e i r)
  unfolding descend
  name_kept zero e h i r = tt
  name_kept (suc n) none h i r = refl
  name_kept (suc n) (mark m) h i r = refl
  name_kept (suc n) (step m cs a) h i r =
      let p = and_split (nameless_mark m) _ h in
      cond_cases (Under r.name) (mem (get_or ts i 0) cs) _ _
      (λ c. under_bind r.name r.name (descend in_rows rules T ts n a (suc i) r) _ (name_kept n a p.1 (suc i) r) (λ j s e. name_stamp m i s.name p.0 ∙ e))
      (λ c. tt)
  name_kept (suc n) (seq a b) h i r =
      let p = and_split (nameless a) _ h in
      under_bind r.name r.name (descend in_rows rules T ts n a i r) _ (name_kept n a p.0 i r)
      (λ j s e. subst (λ (m : ℕ). Under m (descend in_rows rules T ts n b j s)) e (name_kept n b p.1 j s))
  name_kept (suc n) (alt a b) h i r =
      let p = and_split (nameless a) _ h in
      cond_cases (Under r.name) (mem (get_or ts i 0) (first T a)) _ _ (λ c. name_kept n a p.0 i r) (λ c. name_kept n b p.1 i r)
  name_kept (suc n) (star a) h i r =
      cond_cases (Under r.name) (mem (get_or ts i 0) (first T a)) _ _
      (λ c.
      under_bind r.name r.name (descend in_rows rules T ts n a i r) _ (name_kept n a h i r)
      (λ j s e. subst (λ (m : ℕ). Under m (descend in_rows rules T ts n (star a) j s)) e (name_kept n (star a) h j s)))
      (λ c. refl)
  name_kept (suc n) (fork m cs ds a b) h i r =
      let p = and_split (nameless_mark m) _ h in
      let q = and_split (nameless a) _ p.1 in
      let z = name_stamp m i r.name p.0 in
      cond_cases (Under r.name) (mem (get_or ts i 0) cs && mem (get_or ts (suc i) 0) ds) _ _
      (λ c.
      subst (λ (l : ℕ). Under l (descend in_rows rules T ts n a (suc (suc i)) (in_rows.stamp m i r))) z (name_kept n a q.0 (suc (suc i)) (in_rows.stamp m i r)))
      (λ c. name_kept n b q.1 i r)
  name_kept (suc n) (nt x) h i r = under_join (descend in_rows rules T ts n (rules x) i (in_rows.start i)) r

module _ {N : Type 0} {rules : N → Ebnf N} {T : Tables N} (G : Predictive rules T) (ts : List ℕ) where
  -- as `run`, for rows: after a repetition that names no token, the rule's next row has the name that it had before
  abbrev pub walk : Ebnf N → ℕ → Rows → (ℕ → Rows → Result Rows) → Result Rows
  walk none i r k = k i r
  walk (mark m) i r k = k i (in_rows.close m r)
  walk (step m cs a) i r k = cond (mem (get_or ts i 0) cs) (walk a (suc i) r (λ j s. k j (in_rows.stamp m i s))) (refused i)
  walk (seq a b) i r k = walk a i r (λ j s. walk b j s k)
  walk (alt a b) i r k = cond (mem (get_or ts i 0) (first T a)) (walk a i r k) (walk b i r k)
  walk (star a) i r k = bind (repeat G in_rows ts a i r) (λ j s. k j (record { name = cond (nameless a) r.name s.name; rows = s.rows }))
  walk (fork m cs ds a b) i r k =
      cond (mem (get_or ts i 0) cs && mem (get_or ts (suc i) 0) ds) (walk a (suc (suc i)) (in_rows.stamp m i r) k) (walk b i r k)
  walk (nt x) i r k = bind (phrase G in_rows ts x i) (λ j s. k j (in_rows.join r s))

  -- what follows may differ in form alone
  walks : (e : Ebnf N) (i : ℕ) (r : Rows) (k l : ℕ → Rows → Result Rows) → ((j : ℕ) (s : Rows) → k j s ≡ l j s) → run G in_rows ts e i r k ≡ walk e i r l
  unfolding repeat_of parsed_by
  walks none i r k l h = h i r
  walks (mark m) i r k l h = h i (in_rows.close m r)
  walks (step m cs a) i r k l h =
      ap (λ (y : Result Rows). cond (mem (get_or ts i 0) cs) y (refused i)) (walks a (suc i) r _ _ (λ j s. h j (in_rows.stamp m i s)))
  walks (seq a b) i r k l h = walks a i r _ _ (λ j s. walks b j s k l h)
  walks (alt a b) i r k l h =
      ap (λ (y : Result Rows). cond (mem (get_or ts i 0) (first T a)) y (run G in_rows ts b i r k)) (walks a i r k l h)
      ∙ ap (λ (y : Result Rows). cond (mem (get_or ts i 0) (first T a)) (walk a i r l) y) (walks b i r k l h)
  walks (star a) i r k l h = bind_ext (repeat G in_rows ts a i r) k l h ∙ go (nameless a) refl
    where
      go : (b : Bool) → nameless a ≡ b →
          bind (repeat G in_rows ts a i r) l ≡ bind (repeat G in_rows ts a i r) (λ j s. l j (record { name = cond b r.name s.name; rows = s.rows }))
      go true e = under_name r.name (repeat G in_rows ts a i r) (name_kept rules T ts _ (star a) e i r) l
      go false e = refl
  walks (fork m cs ds a b) i r k l h =
      ap (λ (y : Result Rows). cond (mem (get_or ts i 0) cs && mem (get_or ts (suc i) 0) ds) y (run G in_rows ts b i r k)) (walks a (suc (suc i)) (in_rows.stamp m i r) k l h)
      ∙ ap (λ (y : Result Rows). cond (mem (get_or ts i 0) cs && mem (get_or ts (suc i) 0) ds) (walk a (suc (suc i)) (in_rows.stamp m i r) l) y) (walks b i r k l h)
  walks (nt x) i r k l h = bind_ext (phrase G in_rows ts x i) _ _ (λ j s. h j (in_rows.join r s))

  -- THE EQUATION OF A NONTERMINAL, for rows
  pub phrase_walks : (x : N) (i : ℕ) → i ≤ length ts → phrase G in_rows ts x i ≡ walk (rules x) i (in_rows.start i) (λ j s. at j s)
  phrase_walks x i l = phrase_is G in_rows ts x i l ∙ walks (rules x) i (in_rows.start i) _ _ (λ j s. refl)

  -- THE EQUATION OF A REPETITION, for rows
  pub repeat_walks : (a : Ebnf N) → Ok T (star a) → (i : ℕ) (r : Rows) → i ≤ length ts →
      repeat G in_rows ts a i r ≡ cond (mem (get_or ts i 0) (first T a)) (walk a i r (λ j s. repeat G in_rows ts a j s)) (at i r)
  repeat_walks a o i r l =
      repeat_is G in_rows ts a o i r l ∙ ap (λ (y : Result Rows). cond (mem (get_or ts i 0) (first T a)) y (at i r)) (walks a i r _ _ (λ j s. refl))
