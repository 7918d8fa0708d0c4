-- A whole list: the first token too deep, and what an answer on the tokens up to it says of all. Assumes nothing.
use mathlib.Core.Bool.{Bool, true, false, ◌&&◌, cond}
use mathlib.Core.List.{List, [], ◌∷◌}
use mathlib.Core.Logic.{⊎_elim}
use mathlib.Core.Option.{Option, some, none as nowhere}
use mathlib.Core.Path.{◌≡◌, refl, sym, ap, subst, ◌∙◌}
use Rattle.std.specs.Prelude.{Ok, Err}
use Prim.Native.Nat.{ℕ, zero, suc, ◌+◌, ◌-◌, ◌≤◌, ◌<◌}
use native.Mathlib.Omega.{arith}
use native.Mathlib.Numerals.{add-one}
use lib.Dec.{eqb, ltb, leb}
use lib.ListN.{length, get_or, take, drop}
use lib.Seq.{drop-cons, take_all, length-take-le}
use borrow.Author.Tests.{lt-ltb, le-ltb, leb-true, leb-false, le-leb, lt-leb, eqb-false, ltb-true}
use Rattle.ebnf.specs.Set.{mem}
use Rattle.ebnf.specs.Rows.{Rows}
use Rattle.ebnf.specs.Parse.{Result, at, refused, starved, bind, accepted, refused_at, verdict}
use Rattle.columns.proofs.Laws.{tabulated_at}
use Rattle.ebnf.specs.Depth.{next, opened, first_deep, unexpected, too_deep, uncut, cut_at, outcome_to}
use Rattle.ebnf.specs.Rows.{in_rows}
use Rattle.ebnf.proofs.Sets.{lt_or_le}
use Rattle.ebnf.proofs.Descent as descent
use Rattle.express.specs.Syntax.Grammar.{Nonterminal, rules}
use Rattle.express.specs.Syntax.Lookahead.{tables}
use Rattle.express.specs.Syntax.Syntax.{opening, closing, nesting, parsed}
use Rattle.express.proofs.Syntax.Syntax.{express}
use Rattle.express.proofs.Syntax.Descent.{phrase, phrase_placed, parse_is, so}
use Rattle.parsing.specs.declared.Refusal.TheVariants.{Unexpected, TooDeep}
use Rattle.parsing.specs.Reading.{Read, Ready, Found, Reads}
use Rattle.parsing.specs.Outcome.{Judgement, steps, or_end, deep_or_end, end_of, judged, Judges}

-- ---- how many brackets are open

-- the table's entry tells what a token does, however many are open
pub opened_by : (d : ℕ) {table : List ℕ} {c k s r : ℕ} → table ≡ steps → k ≡ c → k ≤ 255 → s ≡ get_or table k 0 → r ≡ d + s - 1 → r ≡ opened opening closing d c
opened_by d {table} {c} {k} {s} {r} t e l h g = let z : 0 + k ≡ c = omega arith in rw (g, h, t, tabulated_at (opened opening closing 1) 0 256 k (omega arith), z) (go (mem c opening) (mem c closing))
  where
    go : (b t : Bool) → d + cond b 2 (cond t (1 - 1) 1) - 1 ≡ cond b (suc d) (cond t (d - 1) d)
    go true t = omega arith
    go false true = omega arith
    go false false = omega arith

-- ---- the first token too deep

drop_none : (ts : List ℕ) (i : ℕ) → length ts ≤ i → drop i ts ≡ []
drop_none [] zero h = refl
drop_none [] (suc i) h = refl
drop_none (c ∷ ts) zero h = absurd (omega arith)
drop_none (c ∷ ts) (suc i) h = drop_none ts i (omega arith)

next_end : (o : Option ℕ) (l : ℕ) → or_end (next o) (suc l) ≡ suc (or_end o l)
next_end (some k) l = refl
next_end nowhere l = refl

module _ (c : ℕ) where
  not_opened : (d : ℕ) → mem c opening ≡ false → opened opening closing d c ≤ d
  not_opened d h = rw h (go (mem c closing))
    where
      go : (b : Bool) → cond b (d - 1) d ≤ d
      go true = omega arith
      go false = omega arith

  -- a token that is too deep opens one, with all open
  deep_test : (d : ℕ) → d ≤ 64 → 64 < opened opening closing d c → (mem c opening && leb nesting d) ≡ true
  deep_test d l h = go (mem c opening) refl
    where
      go : (b : Bool) → mem c opening ≡ b → (b && leb nesting d) ≡ true
      go true e = let h₂ : 64 < suc d = rw e at h in le-leb nesting d (omega arith)
      go false e = let n = not_opened d e in absurd (omega arith)

  not_deep : (d : ℕ) → opened opening closing d c ≤ 64 → (mem c opening && leb nesting d) ≡ false
  not_deep d h = go (mem c opening) refl
    where
      go : (b : Bool) → mem c opening ≡ b → (b && leb nesting d) ≡ false
      go true e = let h₂ : suc d ≤ 64 = rw e at h in lt-leb nesting d (omega arith)
      go false e = refl

-- what is found from the token at i on, where d brackets are open before it
abbrev pub deep_from : List ℕ → ℕ → ℕ → ℕ
deep_from ts i d = i + or_end (first_deep opening closing nesting d (drop i ts)) (length ts - i)

module _ (ts : List ℕ) (i d c : ℕ) (l : i < length ts) (e : c ≡ get_or ts i 0) where
  rest_is : drop i ts ≡ c ∷ drop (suc i) ts
  rest_is = drop-cons ts i 0 l ∙ ap (λ (x : ℕ). x ∷ drop (suc i) ts) (sym e)

  pub deep_here : (z : ℕ) → z ≡ opened opening closing d c → d ≤ 64 → 64 < z → i ≡ deep_from ts i d
  unfolding first_deep
  deep_here z f k h =
      let t = deep_test c d k (subst (λ (x : ℕ). 64 < x) f h) in
      rw (rest_is, t) (omega arith)

  pub deep_on : (z : ℕ) → z ≡ opened opening closing d c → (64 < z → ⊥) → deep_from ts i d ≡ deep_from ts (i + 1) z
  unfolding first_deep
  deep_on z f h =
      let k : opened opening closing d c ≤ 64 = subst (λ (x : ℕ). x ≤ 64) f (omega arith) in
      let t = not_deep c d k in
      let n : length ts - i ≡ suc (length ts - suc i) = omega arith in
      rw (rest_is, t, n, next_end, add-one, f) (omega arith)

pub deep_end : (ts : List ℕ) (i d : ℕ) → length ts ≤ i → i ≤ length ts → i ≡ deep_from ts i d
unfolding first_deep
deep_end ts i d l k =
    let n : length ts - i ≡ 0 = omega arith in
    let e : drop i ts ≡ [] = drop_none ts i l in
    rw (e, n) (omega arith)

-- it is within the list
deep_inside : (d : ℕ) (ts : List ℕ) (k : ℕ) → first_deep opening closing nesting d ts ≡ some k → k < length ts
unfolding first_deep
deep_inside d [] k h = let z : ◌≡◌ {A = ℕ} 0 1 = cc in absurd (omega arith)
deep_inside d (c ∷ ts) k h = go (mem c opening && leb nesting d) (first_deep opening closing nesting (opened opening closing d c) ts) (λ j. deep_inside (opened opening closing d c) ts j) h
  where
    go : (b : Bool) (o : Option ℕ) → ((j : ℕ) → o ≡ some j → j < length ts) → cond b (some 0) (next o) ≡ some k → k < suc (length ts)
    go true o f e = let y : 0 ≡ k = cc in omega arith
    go false (some j) f e = let y : suc j ≡ k = cc in let z = f j refl in omega arith
    go false nowhere f e = let z : ◌≡◌ {A = ℕ} 0 1 = cc in absurd (omega arith)

-- ---- what the answer says of all

module _ (ts : List ℕ) (x : Nonterminal) (read : Read) (a b : List ℕ) where
  abbrev shut : ℕ → Rows → Result Rows
  shut j s = at j (so 0 s.rows)

  judge_uncut : (l : ℕ) (d : Result Rows) → descent.Placed express in_rows ts 1 0 d → length ts ≡ l → Found d 0 read a b → Judges (uncut (verdict l (bind d shut))) (judged read l l) a b
  judge_uncut l (at j s) g e f = rw f.0 (go (eqb j l) refl)
    where
      go : (t : Bool) → eqb j l ≡ t → Judges (uncut (cond t (accepted (so 0 s.rows)) (refused_at j))) (cond t (cond (ltb l l) (Err (TooDeep l)) (Ok (0 + length s.rows))) (Err (Unexpected j))) a b
      go true h = rw (le-ltb l l (omega arith)) (ap Ok (omega arith), f.1, f.2)
      go false h = refl
  judge_uncut l (refused k) g e f = let u = g.1 in rw (f.0, le-ltb l k (omega arith)) refl
  judge_uncut l starved g e f = absurd f

  judge_cut : (us : List ℕ) (k : ℕ) (d : Result Rows) → descent.Placed express in_rows us 1 0 d → length us ≡ suc k → Found d 0 read a b → Judges (cut_at k (verdict (suc k)
      (bind d shut))) (judged read k (suc k)) a b
  judge_cut us k (at j s) g e f = rw f.0 (go (eqb j (suc k)) refl)
    where
      go : (t : Bool) → eqb j (suc k) ≡ t → Judges (cut_at k (cond t (accepted (so 0 s.rows)) (refused_at j))) (cond t (cond (ltb k (suc k)) (Err (TooDeep k)) (Ok (0 + length
          s.rows))) (Err (Unexpected j))) a b
      go true h = rw (lt-ltb k (suc k) (omega arith)) refl
      go false h =
          let u = g.1 in
          let n : j ≤ k = ⊎_elim (λ (z : j < suc k). omega arith) (λ (z : suc k ≤ j). absurd (eqb-false j (suc k) h (omega arith))) (lt_or_le j (suc k)) in
          rw (le-leb j k n) refl
  judge_cut us k (refused j) g e f = rw f.0 (go (leb j k) refl)
    where
      go : (t : Bool) → leb j k ≡ t → Judges (cond t (unexpected j) (too_deep k)) (cond (ltb k j) (Err (TooDeep k)) (Err (Unexpected j))) a b
      go true h = rw (le-ltb k j (leb-true j k h)) refl
      go false h = rw (lt-ltb k j (leb-false j k h)) refl
  judge_cut us k starved g e f = absurd f

  judge : (o : Option ℕ) → first_deep opening closing nesting 0 ts ≡ o → (end : ℕ) → end ≡ end_of (or_end o (length ts)) (length ts) → Found (phrase (take end ts) x 0) 0 read a b →
      Judges (outcome_to in_rows rules tables x o ts) (judged read (or_end o (length ts)) end) a b
  judge nowhere h end e f =
      let e₁ : end ≡ length ts = e ∙ rw (le-ltb (length ts) (length ts) (omega arith)) refl in
      let e₂ : take end ts ≡ ts = take_all end ts (omega arith) in
      let f₂ : Found (phrase ts x 0) 0 read a b = rw e₂ at f in
      rw (e₁, parse_is ts x) (judge_uncut (length ts) (phrase ts x 0) (phrase_placed ts x 0 (omega arith)) refl f₂)
  judge (some k) h end e f =
      let i = deep_inside 0 ts k h in
      let e₁ : end ≡ suc k = e ∙ (rw (lt-ltb k (length ts) i) (add-one k)) in
      let f₂ : Found (phrase (take (suc k) ts) x 0) 0 read a b = rw e₁ at f in
      let l : length (take (suc k) ts) ≡ suc k = length-take-le (suc k) ts (omega arith) in
      rw (e₁, parse_is (take (suc k) ts) x, l) (judge_cut (take (suc k) ts) k (phrase (take (suc k) ts) x 0) (phrase_placed (take (suc k) ts) x 0 (omega arith)) l f₂)

  -- WHAT A READER OF x FINDS in the tokens up to and including one too deep, judged, is what the grammar says of all
  pub judges : (deep end : ℕ) (r : Judgement) → deep ≡ deep_or_end ts → end ≡ end_of deep (length ts) → Reads x (take end ts) 0 0 read a b → r ≡ judged read deep end → Judges (parsed x ts) r a b
  unfolding parsed
  judges deep end r h e f g =
      rw (g, h)
      (judge (first_deep opening closing nesting 0 ts) refl end (e ∙ ap (λ (z : ℕ). end_of z (length ts)) h) f.found)

-- what is read is no more than all
pub end_within : (ts : List ℕ) (deep end : ℕ) → end ≡ end_of deep (length ts) → end ≤ length ts
end_within ts deep end e = rw e (go (ltb deep (length ts)) refl)
  where
    go : (b : Bool) → ltb deep (length ts) ≡ b → cond b (deep + 1) (length ts) ≤ length ts
    go true h = let l = ltb-true deep (length ts) h in omega arith
    go false h = omega arith

pub deep_start : (ts : List ℕ) → deep_from ts 0 0 ≡ deep_or_end ts
deep_start ts = let n : length ts - 0 ≡ length ts = omega arith in rw n (omega arith)

pub whole_ready : (ts : List ℕ) (end : ℕ) → end ≤ length ts → length ts ≤ 65536 → Ready (take end ts) 0 0
whole_ready ts end h l = let n = length-take-le end ts h in record { small = omega arith; within = omega arith; behind = omega arith }
