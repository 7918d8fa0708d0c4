-- The laws of reading: what each step of a reader makes of what has been read so far. Assumes nothing.
use mathlib.Core.Bool.{Bool, true, false, ◌&&◌, cond}
use mathlib.Core.List.{List, [], ◌∷◌, ◌++◌, map, map-append}
use mathlib.Core.Path.{◌≡◌, refl, sym, ap, subst, ◌∙◌}
use Rattle.std.specs.Prelude.{Ok as Success, Err, IsErrAnd}
use Rattle.std.proofs.lemmas.Result.{err_from_is_err_and}
use Rattle.parsing.specs.declared.Unexpected.{Unexpected}
use Prim.Native.Nat.{ℕ, suc, ◌+◌, ◌-◌, ◌≤◌, ◌<◌}
use native.Mathlib.Nat.{add-zero}
use native.Mathlib.Numerals.{add-one}
use native.Mathlib.Omega.{arith}
use lib.ListN.{length, get_or, set, take, length-append}
use lib.Seq.{sets, take-take}
use Rattle.ebnf.specs.Set.{mem}
use Rattle.ebnf.specs.Grammar.{silent, here, node, leaf, Ebnf, none, mark, step, seq, alt, star, fork, nt}
use Rattle.ebnf.specs.Rows.{Row, Rows, in_rows}
use Rattle.ebnf.specs.Parse.{first, Result, at, refused, starved, bind}
use Rattle.ebnf.proofs.Predictive.{Ok}
use Rattle.ebnf.proofs.Descent as descent
use Rattle.express.specs.Syntax.Grammar.{Nonterminal, rules}
use Rattle.express.specs.Syntax.Lookahead.{tables}
use Rattle.express.proofs.Syntax.Syntax.{express}
use Rattle.express.proofs.Syntax.Descent.{phrase, phrase_placed, so}
use Rattle.express.proofs.Syntax.Count.{Counted, phrase_counted}
use Rattle.columns.proofs.Laws.{sets_append, take_sets}
use Rattle.parsing.specs.Reading.{Read, At, Refused, labelled, word, word_of, Fits, All_fit, Ready, Sound, Ahead, Found, Reads, Named, run, Reading, Compares, Leaf}

-- ---- rows

fit_append : (r s : List Row) → All_fit r → All_fit s → All_fit (r ++ s)
fit_append [] s p q = q
fit_append (x ∷ r) s p q = (p.0, fit_append r s p.1 q)

pub map_length : (r : List Row) → length (map word_of r) ≡ length r
map_length [] = refl
map_length (x ∷ r) = ap suc (map_length r)

-- rows behind rows
sets_both : (a : List ℕ) (n : ℕ) (r s : List Row) → sets (sets a n (map word_of r)) (n + length r) (map word_of s) ≡ sets a n (map word_of (r ++ s))
sets_both a n r s =
    sym (ap (λ (l : List ℕ). sets a n l) (map-append word_of r s)
    ∙ (sets_append a n (map word_of r) (map word_of s)
    ∙ ap (λ (k : ℕ). sets (sets a n (map word_of r)) (n + k) (map word_of s)) (map_length r)))

-- the rows before those of a rule are as they were
kept : (n : ℕ) (a : List ℕ) {b : List ℕ} (ws : List ℕ) → b ≡ sets a n ws → take n b ≡ take n a
kept n a ws e = ap (take n) e ∙ take_sets n a n ws (omega arith)

kept_below : (n i : ℕ) (b c : List ℕ) → n ≤ i → take i c ≡ take i b → take n c ≡ take n b
kept_below n i b c l e = sym (take-take n i c l) ∙ (ap (take n) e ∙ take-take n i b l)

-- ---- results

bind_after : (y : Result Rows) (k k' l : ℕ → Rows → Result Rows) → ((j : ℕ) (t : Rows) → bind (k j t) l ≡ k' j t) → bind (bind y k) l ≡ bind y k'
bind_after (at j t) k k' l h = h j t
bind_after (refused j) k k' l h = refl
bind_after starved k k' l h = refl

cond_bind : (b : Bool) (x y u v : Result Rows) (l : ℕ → Rows → Result Rows) → bind x l ≡ u → bind y l ≡ v → bind (cond b x y) l ≡ cond b u v
cond_bind true x y u v l f g = f
cond_bind false x y u v l f g = g

-- ---- places

abbrev next_of : Read → ℕ × ℕ
next_of (Success next) = (next.token, next.row)
next_of (Err e) = (0, 0)

pub same_token : {p n q m : ℕ} → At p n ≡ At q m → p ≡ q
same_token e = ap (λ (r : Read). (next_of r).0) e

pub same_row : {p n q m : ℕ} → At p n ≡ At q m → n ≡ m
same_row e = ap (λ (r : Read). (next_of r).1) e

-- ---- refusals

-- a `?` hands on the refusal that it met
pub handed_on : {r x : Read} {e : Unexpected} → IsErrAnd r (λ y. y ≡ e) → x ≡ Err e → r ≡ x
handed_on {r} h z = let p = err_from_is_err_and r h in p.1 ∙ (ap Err p.2 ∙ sym z)

at_not_refused : {A : Type 0} (j m k : ℕ) → At j m ≡ Refused k → A
at_not_refused j m k e = let z : ◌≡◌ {A = ℕ} 0 1 = cc in absurd (omega arith)

pub refused_not_at : {A : Type 0} (j m k : ℕ) → Refused k ≡ At j m → A
refused_not_at j m k e = let z : ◌≡◌ {A = ℕ} 0 1 = cc in absurd (omega arith)

-- ---- from the start of a rule to its end

module _ (ts : List ℕ) (want : Result Rows) (n : ℕ) (a : List ℕ) (x : Read) (b : List ℕ) where
  finish_at : (d : Result Rows) → Found d n x a b → want ≡ bind d (λ j s. at j s) → Found want n x a b
  finish_at (at j s) f w = rw w f
  finish_at (refused k) f w = rw w f
  finish_at starved f w = absurd f

  dead_at : (e g : Ebnf Nonterminal) (k l : ℕ) → x ≡ Refused k → (d : Result Rows) → Found d n x a b → want ≡ bind d (λ j s. run ts e j s) → Reading ts want n a g l x b
  dead_at e g k l h (at j s) f w = at_not_refused _ _ k (sym f.0 ∙ h)
  dead_at e g k l h (refused j) f w = record { done = refused j; found = f; named = tt; is = w }
  dead_at e g k l h starved f w = absurd f

pub start : {ts : List ℕ} {n : ℕ} {a : List ℕ} (x : Nonterminal) (p : ℕ) → p ≤ length ts → Reading ts (phrase ts x p) n a (rules x) p (At p n) a
start {ts} {n} {a} x p l =
    record {
      done = at p (in_rows.start p);
      found = (ap (λ (m : ℕ). At p m) (sym (add-zero n)), refl, tt);
      named = refl;
      is = descent.phrase_is express in_rows ts x p l;
    }

module _ {ts : List ℕ} {want : Result Rows} {n : ℕ} {a : List ℕ} {m : ℕ} {x : Read} {b : List ℕ} where
  -- nothing is left to read
  pub finish : Reading ts want n a none m x b → Found want n x a b
  finish r = finish_at ts want n a x b r.done r.found r.is

  -- the last part, and then nothing
  pub last : {e : Ebnf Nonterminal} → Reading ts want n a e m x b → Reading ts want n a (seq e none) m x b
  last r = record { done = r.done; found = r.found; named = r.named; is = r.is }

  pub alone : {e : Ebnf Nonterminal} → Reading ts want n a (seq e none) m x b → Reading ts want n a e m x b
  alone r = record { done = r.done; found = r.found; named = r.named; is = r.is }

  pub apart : {e f g : Ebnf Nonterminal} → Reading ts want n a (seq (seq e f) g) m x b → Reading ts want n a (seq e (seq f g)) m x b
  apart r = record { done = r.done; found = r.found; named = r.named; is = r.is }

  pub together : {e f g : Ebnf Nonterminal} → Reading ts want n a (seq e (seq f g)) m x b → Reading ts want n a (seq (seq e f) g) m x b
  together r = record { done = r.done; found = r.found; named = r.named; is = r.is }

  pub nothing : {e : Ebnf Nonterminal} → Reading ts want n a (seq none e) m x b → Reading ts want n a e m x b
  nothing r = record { done = r.done; found = r.found; named = r.named; is = r.is }

  -- after a refusal nothing that is left matters
  pub dead : {e g : Ebnf Nonterminal} {k l : ℕ} → x ≡ Refused k → Reading ts want n a e m x b → Reading ts want n a g l x b
  dead {e} {g} {k} {l} h r = dead_at ts want n a x b e g k l h r.done r.found r.is

  pub refused_found : {e : Ebnf Nonterminal} {k : ℕ} → x ≡ Refused k → Reading ts want n a e m x b → Found want n x a b
  refused_found {e} {k} h r =
      let z = dead_at ts want n a x b e none k 0 h r.done r.found r.is in
      finish_at ts want n a x b z.done z.found z.is

  -- the answer under another name
  pub told : {e : Ebnf Nonterminal} {y : Read} → x ≡ y → Reading ts want n a e m x b → Reading ts want n a e m y b
  told {e} e₁ r = subst (λ (y : Read). Reading ts want n a e m y b) e₁ r

-- ---- tokens

-- a token of a set
abbrev pub expected : List ℕ → List ℕ → ℕ → ℕ → Read
expected ts cs p n = cond (mem (get_or ts p 0) cs) (At (p + 1) n) (Refused p)

module _ (ts : List ℕ) (want : Result Rows) (n : ℕ) (a : List ℕ) (rest : Ebnf Nonterminal) (m : ℕ) (b cs : List ℕ) (q i : ℕ) where
  token_at : (d : Result Rows) → Found d n (At q i) a b → Named d m → want ≡ bind d (λ j s. run ts (seq (step silent cs none) rest) j s) →
      Reading ts want n a rest m (expected ts cs q i) b
  token_at (at j s) f e w =
      let e₁ : q ≡ j = same_token f.0 in
      let e₂ : i ≡ n + length s.rows = same_row f.0 in
      rw (e₁, e₂) (go (mem (get_or ts j 0) cs) refl)
    where
      go : (t : Bool) → mem (get_or ts j 0) cs ≡ t → Reading ts want n a rest m (cond t (At (j + 1) (n + length s.rows)) (Refused j)) b
      go true h =
          record { done = at (suc j) s; found = (ap (λ (q : ℕ). At q (n + length s.rows)) (add-one j), f.1, f.2); named = e; is = w ∙ rw h }
      go false h = record { done = refused j; found = (refl, kept n a (map word_of s.rows) f.1); named = tt; is = w ∙ rw h }
  token_at (refused k) f e w = at_not_refused q i k f.0
  token_at starved f e w = absurd f

  named_at : (d : Result Rows) → Found d n (At q i) a b → want ≡ bind d (λ j s. run ts (seq (step here cs none) rest) j s) →
      Reading ts want n a rest q (expected ts cs q i) b
  named_at (at j s) f w =
      let e₁ : q ≡ j = same_token f.0 in
      let e₂ : i ≡ n + length s.rows = same_row f.0 in
      rw (e₁, e₂) (go (mem (get_or ts j 0) cs) refl)
    where
      go : (t : Bool) → mem (get_or ts j 0) cs ≡ t → Reading ts want n a rest j (cond t (At (j + 1) (n + length s.rows)) (Refused j)) b
      go true h =
          record {
            done = at (suc j) (so j s.rows);
            found = (ap (λ (q : ℕ). At q (n + length s.rows)) (add-one j), f.1, f.2);
            named = refl;
            is = w ∙ rw h;
          }
      go false h = record { done = refused j; found = (refl, kept n a (map word_of s.rows) f.1); named = tt; is = w ∙ rw h }
  named_at (refused k) f w = at_not_refused q i k f.0
  named_at starved f w = absurd f

module _ {ts : List ℕ} {want : Result Rows} {n : ℕ} {a : List ℕ} {rest : Ebnf Nonterminal} {m : ℕ} {b cs : List ℕ} {q i : ℕ} where
  -- a token of the set
  pub token : Reading ts want n a (seq (step silent cs none) rest) m (At q i) b → Reading ts want n a rest m (expected ts cs q i) b
  token r = token_at ts want n a rest m b cs q i r.done r.found r.named r.is

  -- a token of the set, which names the next row
  pub named : Reading ts want n a (seq (step here cs none) rest) m (At q i) b → Reading ts want n a rest q (expected ts cs q i) b
  named r = named_at ts want n a rest m b cs q i r.done r.found r.is

-- ---- rows

-- a row behind those that were found
one_more : (j n i : ℕ) (s : Rows) (a b c : List ℕ) (q name : ℕ) (r : Row) → Found (at j s) n (At j i) a b → Fits r → c ≡ set b i (word_of r) →
    Found (at q (so name (s.rows ++ (r ∷ [])))) n (At q (i + 1)) a c
one_more j n i s a b c q name r f g w =
    let e : i ≡ n + length s.rows = same_row f.0 in
    let l : i + 1 ≡ n + length (s.rows ++ (r ∷ [])) = omega (arith, e, length-append s.rows (r ∷ [])) in (
      ap (λ (k : ℕ). At q k) l,
      w ∙ (ap (λ (k : ℕ). set b k (word_of r)) e ∙ (ap (λ (l : List ℕ). set l (n + length s.rows) (word_of r)) f.1 ∙ sets_both a n s.rows (r ∷ []))),
      fit_append s.rows (r ∷ []) f.2 (g, tt),
    )

module _ (ts : List ℕ) (want : Result Rows) (n : ℕ) (a : List ℕ) (rest : Ebnf Nonterminal) (m : ℕ) (b c : List ℕ) (q i k o : ℕ) (hk : k < 256) (ho : o < 256) where
  leaf_at : (cs : List ℕ) (r : Read) → Ready ts q i → (t : Bool) → mem (get_or ts q 0) cs ≡ t → Leaf t (labelled k o) q i r b c → (d : Result Rows) → Found d n (At q i) a b → Named d m →
      want ≡ bind d (λ j s. run ts (seq (step (leaf k o) cs none) rest) j s) → Reading ts want n a rest m r c
  leaf_at cs r g true z v (at j s) f e w =
      let e₁ : j ≡ q = sym (same_token f.0) in
      let row : Row = record { kind = k; token = q; size = 1; role = o } in
      let g₁ = g.small in
      let g₂ = g.within in
      let fits : Fits row = record { kind = hk; role = ho; token = omega arith; size = omega arith } in
      let e₃ : i ≡ n + length s.rows = same_row f.0 in
      let f₂ : Found (at q s) n (At q i) a b = (ap (λ (z : ℕ). At q z) e₃, f.1, f.2) in
      let size : i + 1 - i ≡ 1 = omega arith in
      rw v.0
      (record {
        done = at (suc q) (so s.name (s.rows ++ (row ∷ [])));
        found = rw (add-one q) (one_more q n i s a b c (suc q) s.name row f₂ fits (v.1 ∙ ap (λ (z : ℕ). set b i (word (labelled k o) q z)) size));
        named = e;
        is = w ∙ (rw e₁ (rw z));
      })
  leaf_at cs r g false z v (at j s) f e w =
      let e₁ : j ≡ q = sym (same_token f.0) in
      record { done = refused q; found = (v.0, ap (take n) v.1 ∙ kept n a (map word_of s.rows) f.1); named = tt; is = w ∙ (rw e₁ (rw z)) }
  leaf_at cs r g t z v (refused k') f e w = at_not_refused q i k' f.0
  leaf_at cs r g t z v starved f e w = absurd f

  row_at : i ≤ 65536 → m < 1048576 → c ≡ set b i (word (labelled k o) m (i + 1 - n)) → (d : Result Rows) → Found d n (At q i) a b → Named d m →
      want ≡ bind d (λ j s. run ts (seq (mark (node k o)) rest) j s) → Reading ts want n a rest m (At q (i + 1)) c
  row_at g l h (at j s) f e w =
      let e₁ : j ≡ q = sym (same_token f.0) in
      let e₂ : i ≡ n + length s.rows = same_row f.0 in
      let size : i + 1 - n ≡ suc (length s.rows) = omega arith in
      let row : Row = record { kind = k; token = m; size = suc (length s.rows); role = o } in
      let fits : Fits row = record { kind = hk; role = ho; token = l; size = omega arith } in
      let f₂ : Found (at q s) n (At q i) a b = (ap (λ (z : ℕ). At q z) e₂, f.1, f.2) in
      record {
        done = at q (so m (s.rows ++ (row ∷ [])));
        found = one_more q n i s a b c q m row f₂ fits (h ∙ ap (λ (z : ℕ). set b i (word (labelled k o) m z)) size);
        named = refl;
        is = w ∙ (rw (e₁, e));
      }
  row_at g l h (refused k') f e w = at_not_refused q i k' f.0
  row_at g l h starved f e w = absurd f

module _ {ts : List ℕ} {want : Result Rows} {n : ℕ} {a : List ℕ} {rest : Ebnf Nonterminal} {m : ℕ} {b : List ℕ} {q i k o : ℕ} where
  -- a token of the set that leaves a row with nothing below it, or is refused
  pub by_leaf : {cs : List ℕ} (t : Bool) (r : Read) (c : List ℕ) → k < 256 → o < 256 → Ready ts q i → mem (get_or ts q 0) cs ≡ t → Leaf t (labelled k o) q i r b c →
      Reading ts want n a (seq (step (leaf k o) cs none) rest) m (At q i) b → Reading ts want n a rest m r c
  by_leaf {cs} t r c hk ho g e h v = leaf_at ts want n a rest m b c q i k o hk ho cs r g t e h v.done v.found v.named v.is

  -- a row over all that the rule has left so far
  pub by_row : (c : List ℕ) → k < 256 → o < 256 → i ≤ 65536 → m < 1048576 → c ≡ set b i (word (labelled k o) m (i + 1 - n)) →
      Reading ts want n a (seq (mark (node k o)) rest) m (At q i) b → Reading ts want n a rest m (At q (i + 1)) c
  by_row c hk ho g l h v = row_at ts want n a rest m b c q i k o hk ho g l h v.done v.found v.named v.is

-- ---- nonterminals

module _ (ts : List ℕ) (want : Result Rows) (n : ℕ) (a : List ℕ) (rest : Ebnf Nonterminal) (m : ℕ) (b c : List ℕ) (r : Read) (p i : ℕ) (y : Nonterminal) where
  both : (s : Rows) → Found (at p s) n (At p i) a b → Named (at p s) m → (d : Result Rows) → Found d i r b c →
      want ≡ bind d (λ j t. run ts rest j (in_rows.join s t)) → Reading ts want n a rest m r c
  both s f e (at k t) g w =
      let e₁ : i ≡ n + length s.rows = same_row f.0 in
      let l : i + length t.rows ≡ n + length (s.rows ++ t.rows) = omega (arith, e₁, length-append s.rows t.rows) in
      record {
        done = at k (in_rows.join s t);
        found = (
          g.0 ∙ ap (λ (z : ℕ). At k z) l,
          g.1 ∙ (ap (λ (z : ℕ). sets b z (map word_of t.rows)) e₁ ∙ (ap (λ (z : List ℕ). sets z (n + length s.rows) (map word_of t.rows)) f.1 ∙ sets_both a n s.rows t.rows)),
          fit_append s.rows t.rows f.2 g.2,
        );
        named = e;
        is = w;
      }
  both s f e (refused k) g w =
      let e₁ : i ≡ n + length s.rows = same_row f.0 in
      record { done = refused k; found = (g.0, kept_below n i b c (omega arith) g.1 ∙ kept n a (map word_of s.rows) f.1); named = tt; is = w }
  both s f e starved g w = absurd g

  phrase_at : Found (phrase ts y p) i r b c → (d : Result Rows) → Found d n (At p i) a b → Named d m → want ≡ bind d (λ j s. run ts (seq (nt y) rest) j s) →
      Reading ts want n a rest m r c
  phrase_at g (at j s) f e w =
      let e₁ : j ≡ p = sym (same_token f.0) in
      let e₃ : i ≡ n + length s.rows = same_row f.0 in
      let f₂ : Found (at p s) n (At p i) a b = (ap (λ (z : ℕ). At p z) e₃, f.1, f.2) in
      both s f₂ e (phrase ts y p) g (w ∙ (rw e₁ refl))
  phrase_at g (refused k) f e w = at_not_refused p i k f.0
  phrase_at g starved f e w = absurd f

module _ {ts : List ℕ} {want : Result Rows} {n : ℕ} {a : List ℕ} {rest : Ebnf Nonterminal} {m : ℕ} {b : List ℕ} where
  -- a phrase of y
  pub phrased : {c : List ℕ} {r : Read} {p i : ℕ} {y : Nonterminal} → Reads y ts p i r b c → Reading ts want n a (seq (nt y) rest) m (At p i) b → Reading ts want n a rest m r c
  phrased {c} {r} {p} {i} {y} g v = phrase_at ts want n a rest m b c r p i y g.found v.done v.found v.named v.is

-- ---- alternatives and repetitions

module _ (ts : List ℕ) where
  -- what follows a phrase may be taken with it
  run_bind : (e : Ebnf Nonterminal) (i : ℕ) (s : Rows) (k k' l : ℕ → Rows → Result Rows) → ((j : ℕ) (t : Rows) → bind (k j t) l ≡ k' j t) →
      bind (descent.run express in_rows ts e i s k) l ≡ descent.run express in_rows ts e i s k'
  run_bind none i s k k' l h = h i s
  run_bind (mark m) i s k k' l h = h i (in_rows.close m s)
  run_bind (step m cs e) i s k k' l h =
      cond_bind (mem (get_or ts i 0) cs) _ _ _ _ l (run_bind e (suc i) s _ _ l (λ j t. h j (in_rows.stamp m i t))) refl
  run_bind (seq e f) i s k k' l h = run_bind e i s _ _ l (λ j t. run_bind f j t k k' l h)
  run_bind (alt e f) i s k k' l h =
      cond_bind (mem (get_or ts i 0) (first tables e)) _ _ _ _ l (run_bind e i s k k' l h) (run_bind f i s k k' l h)
  run_bind (star e) i s k k' l h = bind_after (descent.repeat express in_rows ts e i s) k k' l h
  run_bind (fork m cs ds e f) i s k k' l h =
      cond_bind (mem (get_or ts i 0) cs && mem (get_or ts (suc i) 0) ds) _ _ _ _ l (run_bind e (suc (suc i)) (in_rows.stamp m i s) k k' l h) (run_bind f i s k k' l h)
  run_bind (nt x) i s k k' l h = bind_after (phrase ts x i) _ _ l (λ j t. h j (in_rows.join s t))

module _ (ts : List ℕ) (want : Result Rows) (n : ℕ) (a : List ℕ) (rest : Ebnf Nonterminal) (m : ℕ) (b : List ℕ) (q i : ℕ) where
  -- the rest may be another, where it comes to the same at the place
  instead : (e g : Ebnf Nonterminal) → ((s : Rows) → run ts e q s ≡ run ts g q s) → (d : Result Rows) → Found d n (At q i) a b → Named d m →
      want ≡ bind d (λ j s. run ts e j s) → Reading ts want n a g m (At q i) b
  instead e g h (at j s) f nm w =
      let e₁ : j ≡ q = sym (same_token f.0) in
      record { done = at j s; found = f; named = nm; is = w ∙ rw e₁ (h s) }
  instead e g h (refused k) f nm w = at_not_refused q i k f.0
  instead e g h starved f nm w = absurd f

  forked : (cs ds : List ℕ) (e g : Ebnf Nonterminal) → (mem (get_or ts q 0) cs && mem (get_or ts (suc q) 0) ds) ≡ true → (d : Result Rows) → Found d n (At q i) a b →
      want ≡ bind d (λ j s. run ts (seq (fork here cs ds e g) rest) j s) → Reading ts want n a (seq e rest) q (At (q + 2) i) b
  forked cs ds e g h (at j s) f w =
      let e₁ : j ≡ q = sym (same_token f.0) in
      let e₂ : i ≡ n + length s.rows = same_row f.0 in
      let e₃ : q + 2 ≡ suc (suc q) = omega arith in
      record {
        done = at (suc (suc q)) (so q s.rows);
        found = (rw (e₃, e₂), f.1, f.2);
        named = refl;
        is = w ∙ rw e₁ (rw h);
      }
  forked cs ds e g h (refused k) f w = at_not_refused q i k f.0
  forked cs ds e g h starved f w = absurd f

module _ {ts : List ℕ} {want : Result Rows} {n : ℕ} {a : List ℕ} {rest : Ebnf Nonterminal} {m : ℕ} {b : List ℕ} {q i : ℕ} where
  pub left : {e g : Ebnf Nonterminal} → mem (get_or ts q 0) (first tables e) ≡ true → Reading ts want n a (seq (alt e g) rest) m (At q i) b →
      Reading ts want n a (seq e rest) m (At q i) b
  left {e} {g} h r = instead ts want n a rest m b q i (seq (alt e g) rest) (seq e rest) (λ s. rw h) r.done r.found r.named r.is

  pub right : {e g : Ebnf Nonterminal} → mem (get_or ts q 0) (first tables e) ≡ false → Reading ts want n a (seq (alt e g) rest) m (At q i) b →
      Reading ts want n a (seq g rest) m (At q i) b
  right {e} {g} h r = instead ts want n a rest m b q i (seq (alt e g) rest) (seq g rest) (λ s. rw h) r.done r.found r.named r.is

  -- c d a | b: the second token tells
  pub ahead_left : {cs ds : List ℕ} {e g : Ebnf Nonterminal} → (mem (get_or ts q 0) cs && mem (get_or ts (q + 1) 0) ds) ≡ true →
      Reading ts want n a (seq (fork here cs ds e g) rest) m (At q i) b → Reading ts want n a (seq e rest) q (At (q + 2) i) b
  ahead_left {cs} {ds} {e} {g} h r = forked ts want n a rest m b q i cs ds e g (rw (← (add-one q)) h) r.done r.found r.is

  pub ahead_right : {cs ds : List ℕ} {e g : Ebnf Nonterminal} → (mem (get_or ts q 0) cs && mem (get_or ts (q + 1) 0) ds) ≡ false →
      Reading ts want n a (seq (fork here cs ds e g) rest) m (At q i) b → Reading ts want n a (seq g rest) m (At q i) b
  ahead_right {cs} {ds} {e} {g} h r =
      let h₂ : (mem (get_or ts q 0) cs && mem (get_or ts (suc q) 0) ds) ≡ false = rw (← (add-one q)) h in
      instead ts want n a rest m b q i (seq (fork here cs ds e g) rest) (seq g rest) (λ s. rw h₂) r.done r.found r.named r.is

  -- one turn more
  pub more : {e : Ebnf Nonterminal} → Ok tables (star e) → q ≤ length ts → mem (get_or ts q 0) (first tables e) ≡ true →
      Reading ts want n a (seq (star e) rest) m (At q i) b → Reading ts want n a (seq e (seq (star e) rest)) m (At q i) b
  more {e} o l h r =
      instead ts want n a rest m b q i (seq (star e) rest) (seq e (seq (star e) rest))
      (λ s.
      ap (λ (y : Result Rows). bind y (λ j t. run ts rest j t)) (descent.repeat_is express in_rows ts e o q s l)
      ∙ (rw h (run_bind ts e q s _ _ (λ j t. run ts rest j t) (λ j t. refl))))
      r.done r.found r.named r.is

  pub stop : {e : Ebnf Nonterminal} → Ok tables (star e) → q ≤ length ts → mem (get_or ts q 0) (first tables e) ≡ false →
      Reading ts want n a (seq (star e) rest) m (At q i) b → Reading ts want n a rest m (At q i) b
  stop {e} o l h r =
      instead ts want n a rest m b q i (seq (star e) rest) rest
      (λ s. ap (λ (y : Result Rows). bind y (λ j t. run ts rest j t)) (descent.repeat_is express in_rows ts e o q s l) ∙ rw h)
      r.done r.found r.named r.is

  -- a token that is there
  pub passed : {cs : List ℕ} → mem (get_or ts q 0) cs ≡ true → Reading ts want n a (seq (step silent cs none) rest) m (At q i) b → Reading ts want n a rest m (At (q + 1) i) b
  passed {cs} h r = told (rw h refl) (token r)

  pub operator : {cs : List ℕ} → mem (get_or ts q 0) cs ≡ true → Reading ts want n a (seq (step here cs none) rest) m (At q i) b → Reading ts want n a rest q (At (q + 1) i) b
  operator {cs} h r = told (rw h refl) (named r)

  -- a token that is not
  pub missed : {cs : List ℕ} → mem (get_or ts q 0) cs ≡ false → Reading ts want n a (seq (step silent cs none) rest) m (At q i) b → Reading ts want n a rest m (Refused q) b
  missed {cs} h r = told (rw h refl) (token r)

-- ---- where an answer lies

ahead_of : (ts : List ℕ) (x : Nonterminal) (p n : ℕ) (r : Read) (a b : List ℕ) (d : Result Rows) → descent.Placed express in_rows ts 1 p d → Counted p ts x d → Found d n r a b → Ahead ts p n r
ahead_of ts x p n r a b (at j s) l c f = rw f.0 (omega (arith, l.0), l.1, omega arith, omega (arith, c))
ahead_of ts x p n r a b (refused k) l c f = rw f.0 tt
ahead_of ts x p n r a b starved l c f = absurd f

-- A reader of x: what it finds, and where that lies.
pub reads : {ts : List ℕ} {p n : ℕ} {r : Read} {a b : List ℕ} (x : Nonterminal) → p ≤ length ts → Found (phrase ts x p) n r a b → Reads x ts p n r a b
reads {ts} {p} {n} {r} {a} {b} x l f =
    record { found = f; ahead = ahead_of ts x p n r a b (phrase ts x p) (phrase_placed ts x p l) (phrase_counted ts x p l) f }

ahead_at : (ts : List ℕ) (p n q m : ℕ) (r : Read) → r ≡ At q m → Ahead ts p n r → (p < q) × (q ≤ length ts) × (n ≤ m) × (m + p ≤ q + n)
ahead_at ts p n q m r e h = subst (λ (r : Read). Ahead ts p n r) e h

pub reads_at : {x : Nonterminal} {ts : List ℕ} {p n q m : ℕ} {r : Read} {a b : List ℕ} → Reads x ts p n r a b → r ≡ At q m →
    (p < q) × (q ≤ length ts) × (n ≤ m) × (m + p ≤ q + n)
reads_at {x} {ts} {p} {n} {q} {m} {r} h e = ahead_at ts p n q m r e h.ahead

pub compares_at : {ts : List ℕ} {p n q m : ℕ} {r : Read} {a b : List ℕ} → Compares ts p n r a b → r ≡ At q m →
    (p < q) × (q ≤ length ts) × (n ≤ m) × (m + p ≤ q + n)
compares_at {ts} {p} {n} {q} {m} {r} h e = ahead_at ts p n q m r e h.ahead

-- a place that a reader came to is one that a reader may be given
pub sound_of : {ts : List ℕ} {p n : ℕ} (r : Read) → Ready ts p n → Ahead ts p n r → Sound ts r
sound_of (Success next) g h = let w = g.behind in record { small = g.small; within = h.1; behind = omega arith }
sound_of (Err e) g h = tt

pub ready_of : {ts : List ℕ} {p n q m : ℕ} {r : Read} → Ready ts p n → Ahead ts p n r → r ≡ At q m → Ready ts q m
ready_of {ts} {q = q} {m = m} {r = r} g h e = subst (λ (r : Read). Sound ts r) e (sound_of r g h)

-- a place is not too far
pub rows_few : {ts : List ℕ} {p n : ℕ} → Ready ts p n → n ≤ 65536
rows_few g = let a = g.small in let b = g.within in let c = g.behind in omega arith

pub token_small : {ts : List ℕ} {p n : ℕ} → Ready ts p n → p ≤ 65536
token_small g = let a = g.small in let b = g.within in omega arith
